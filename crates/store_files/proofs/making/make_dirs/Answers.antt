use Rattle.std.proofs.Common.{codes, subst, rules}
use Rattle.tree_api.specs.Tree.{new_dir}
use Rattle.tree_api.specs.Disk.{Leaves}
use Rattle.store_files.specs.Steps.{Beside, Stands}
use Rattle.store_files.proofs.Dirs.{two_leaves, two_parent, three_leaves, three_parent, four_leaves, all_stand}
use Rattle.store_files.proofs.making.make_dirs.Goals as goal

pub returns-in_err-add_dir-2-clause-leaves : goal.returns-in_err-add_dir-2-clause-leaves
returns-in_err-add_dir-2-clause-leaves g c = λ t.
    let disk = g.T.FileTree.disk in
    let sound = g.met.T.FileTree.sound in
    let b1 = subst (λ p. Leaves (Beside p) (disk c.args.tree.now) (disk c.add_dir.new.tree)) c.in_ok-current.ensures (c.add_dir.ensures.beside (search rules)) in
    let st1 = subst (λ p. Stands p new_dir (disk c.add_dir.new.tree)) c.in_ok-current.ensures (c.in_ok-add_dir.ensures.stands (search rules)) in
    let b2 = subst (λ p. Leaves (Beside p) (disk c.add_dir.new.tree) (disk c.add_dir-2.new.tree)) c.in_ok-omap.ensures (c.add_dir-2.ensures.beside (search rules)) in
    two_leaves (disk c.args.tree.now) (disk c.add_dir.new.tree) (sound c.args.tree.now (search rules)) (sound c.add_dir.new.tree (search rules)) b1 st1 (disk c.add_dir-2.new.tree) b2

pub add_dir-requires-3-clause-parent : goal.add_dir-requires-3-clause-parent
add_dir-requires-3-clause-parent g c = λ t.
    let disk = g.T.FileTree.disk in
    let sound = g.met.T.FileTree.sound in
    let b1 = subst (λ p. Leaves (Beside p) (disk c.args.tree.now) (disk c.add_dir.new.tree)) c.in_ok-current.ensures (c.add_dir.ensures.beside (search rules)) in
    let st1 = subst (λ p. Stands p new_dir (disk c.add_dir.new.tree)) c.in_ok-current.ensures (c.in_ok-add_dir.ensures.stands (search rules)) in
    let b2 = subst (λ p. Leaves (Beside p) (disk c.add_dir.new.tree) (disk c.add_dir-2.new.tree)) c.in_ok-omap.ensures (c.add_dir-2.ensures.beside (search rules)) in
    let st2 = subst (λ p. Stands p new_dir (disk c.add_dir-2.new.tree)) c.in_ok-omap.ensures (c.in_ok-add_dir-2.ensures.stands (search rules)) in
    two_parent (disk c.args.tree.now) (disk c.add_dir.new.tree) (sound c.args.tree.now (search rules)) (sound c.add_dir.new.tree (search rules)) b1 st1 (disk c.add_dir-2.new.tree) b2 (sound c.add_dir-2.new.tree (search rules)) st2 c.in_ok-aside.aside (codes "aside") c.in_ok-aside.ensures

pub returns-in_err-add_dir-3-clause-leaves : goal.returns-in_err-add_dir-3-clause-leaves
returns-in_err-add_dir-3-clause-leaves g c = λ t.
    let disk = g.T.FileTree.disk in
    let sound = g.met.T.FileTree.sound in
    let b1 = subst (λ p. Leaves (Beside p) (disk c.args.tree.now) (disk c.add_dir.new.tree)) c.in_ok-current.ensures (c.add_dir.ensures.beside (search rules)) in
    let st1 = subst (λ p. Stands p new_dir (disk c.add_dir.new.tree)) c.in_ok-current.ensures (c.in_ok-add_dir.ensures.stands (search rules)) in
    let b2 = subst (λ p. Leaves (Beside p) (disk c.add_dir.new.tree) (disk c.add_dir-2.new.tree)) c.in_ok-omap.ensures (c.add_dir-2.ensures.beside (search rules)) in
    let st2 = subst (λ p. Stands p new_dir (disk c.add_dir-2.new.tree)) c.in_ok-omap.ensures (c.in_ok-add_dir-2.ensures.stands (search rules)) in
    let b3 = subst (λ p. Leaves (Beside p) (disk c.add_dir-2.new.tree) (disk c.add_dir-3.new.tree)) c.in_ok-aside.ensures (c.add_dir-3.ensures.beside (search rules)) in
    three_leaves (disk c.args.tree.now) (disk c.add_dir.new.tree) (sound c.args.tree.now (search rules)) (sound c.add_dir.new.tree (search rules)) b1 st1 (disk c.add_dir-2.new.tree) b2 (sound c.add_dir-2.new.tree (search rules)) st2 (disk c.add_dir-3.new.tree) b3

pub add_dir-requires-4-clause-parent : goal.add_dir-requires-4-clause-parent
add_dir-requires-4-clause-parent g c = λ t.
    let disk = g.T.FileTree.disk in
    let sound = g.met.T.FileTree.sound in
    let b1 = subst (λ p. Leaves (Beside p) (disk c.args.tree.now) (disk c.add_dir.new.tree)) c.in_ok-current.ensures (c.add_dir.ensures.beside (search rules)) in
    let st1 = subst (λ p. Stands p new_dir (disk c.add_dir.new.tree)) c.in_ok-current.ensures (c.in_ok-add_dir.ensures.stands (search rules)) in
    let b2 = subst (λ p. Leaves (Beside p) (disk c.add_dir.new.tree) (disk c.add_dir-2.new.tree)) c.in_ok-omap.ensures (c.add_dir-2.ensures.beside (search rules)) in
    let st2 = subst (λ p. Stands p new_dir (disk c.add_dir-2.new.tree)) c.in_ok-omap.ensures (c.in_ok-add_dir-2.ensures.stands (search rules)) in
    let b3 = subst (λ p. Leaves (Beside p) (disk c.add_dir-2.new.tree) (disk c.add_dir-3.new.tree)) c.in_ok-aside.ensures (c.add_dir-3.ensures.beside (search rules)) in
    let st3 = subst (λ p. Stands p new_dir (disk c.add_dir-3.new.tree)) c.in_ok-aside.ensures (c.in_ok-add_dir-3.ensures.stands (search rules)) in
    three_parent (disk c.args.tree.now) (disk c.add_dir.new.tree) (sound c.args.tree.now (search rules)) (sound c.add_dir.new.tree (search rules)) b1 st1 (disk c.add_dir-2.new.tree) b2 (sound c.add_dir-2.new.tree (search rules)) st2 (disk c.add_dir-3.new.tree) b3 (sound c.add_dir-3.new.tree (search rules)) st3 c.in_ok-trash.trash (codes "trash") c.in_ok-trash.ensures

pub returns-in_err-add_dir-4-clause-leaves : goal.returns-in_err-add_dir-4-clause-leaves
returns-in_err-add_dir-4-clause-leaves g c = λ t.
    let disk = g.T.FileTree.disk in
    let sound = g.met.T.FileTree.sound in
    let b1 = subst (λ p. Leaves (Beside p) (disk c.args.tree.now) (disk c.add_dir.new.tree)) c.in_ok-current.ensures (c.add_dir.ensures.beside (search rules)) in
    let st1 = subst (λ p. Stands p new_dir (disk c.add_dir.new.tree)) c.in_ok-current.ensures (c.in_ok-add_dir.ensures.stands (search rules)) in
    let b2 = subst (λ p. Leaves (Beside p) (disk c.add_dir.new.tree) (disk c.add_dir-2.new.tree)) c.in_ok-omap.ensures (c.add_dir-2.ensures.beside (search rules)) in
    let st2 = subst (λ p. Stands p new_dir (disk c.add_dir-2.new.tree)) c.in_ok-omap.ensures (c.in_ok-add_dir-2.ensures.stands (search rules)) in
    let b3 = subst (λ p. Leaves (Beside p) (disk c.add_dir-2.new.tree) (disk c.add_dir-3.new.tree)) c.in_ok-aside.ensures (c.add_dir-3.ensures.beside (search rules)) in
    let st3 = subst (λ p. Stands p new_dir (disk c.add_dir-3.new.tree)) c.in_ok-aside.ensures (c.in_ok-add_dir-3.ensures.stands (search rules)) in
    let b4 = subst (λ p. Leaves (Beside p) (disk c.add_dir-3.new.tree) (disk c.add_dir-4.new.tree)) c.in_ok-trash.ensures (c.add_dir-4.ensures.beside (search rules)) in
    four_leaves (disk c.args.tree.now) (disk c.add_dir.new.tree) (sound c.args.tree.now (search rules)) (sound c.add_dir.new.tree (search rules)) b1 st1 (disk c.add_dir-2.new.tree) b2 (sound c.add_dir-2.new.tree (search rules)) st2 (disk c.add_dir-3.new.tree) b3 (sound c.add_dir-3.new.tree (search rules)) st3 (disk c.add_dir-4.new.tree) b4

pub returns-clause-leaves : goal.returns-clause-leaves
returns-clause-leaves g c = λ t.
    let disk = g.T.FileTree.disk in
    let sound = g.met.T.FileTree.sound in
    let b1 = subst (λ p. Leaves (Beside p) (disk c.args.tree.now) (disk c.add_dir.new.tree)) c.in_ok-current.ensures (c.add_dir.ensures.beside (search rules)) in
    let st1 = subst (λ p. Stands p new_dir (disk c.add_dir.new.tree)) c.in_ok-current.ensures (c.in_ok-add_dir.ensures.stands (search rules)) in
    let b2 = subst (λ p. Leaves (Beside p) (disk c.add_dir.new.tree) (disk c.add_dir-2.new.tree)) c.in_ok-omap.ensures (c.add_dir-2.ensures.beside (search rules)) in
    let st2 = subst (λ p. Stands p new_dir (disk c.add_dir-2.new.tree)) c.in_ok-omap.ensures (c.in_ok-add_dir-2.ensures.stands (search rules)) in
    let b3 = subst (λ p. Leaves (Beside p) (disk c.add_dir-2.new.tree) (disk c.add_dir-3.new.tree)) c.in_ok-aside.ensures (c.add_dir-3.ensures.beside (search rules)) in
    let st3 = subst (λ p. Stands p new_dir (disk c.add_dir-3.new.tree)) c.in_ok-aside.ensures (c.in_ok-add_dir-3.ensures.stands (search rules)) in
    let b4 = subst (λ p. Leaves (Beside p) (disk c.add_dir-3.new.tree) (disk c.add_dir-4.new.tree)) c.in_ok-trash.ensures (c.add_dir-4.ensures.beside (search rules)) in
    four_leaves (disk c.args.tree.now) (disk c.add_dir.new.tree) (sound c.args.tree.now (search rules)) (sound c.add_dir.new.tree (search rules)) b1 st1 (disk c.add_dir-2.new.tree) b2 (sound c.add_dir-2.new.tree (search rules)) st2 (disk c.add_dir-3.new.tree) b3 (sound c.add_dir-3.new.tree (search rules)) st3 (disk c.add_dir-4.new.tree) b4

pub returns-clause-stand : goal.returns-clause-stand
returns-clause-stand g c = λ t.
    let disk = g.T.FileTree.disk in
    let sound = g.met.T.FileTree.sound in
    let b1 = subst (λ p. Leaves (Beside p) (disk c.args.tree.now) (disk c.add_dir.new.tree)) c.in_ok-current.ensures (c.add_dir.ensures.beside (search rules)) in
    let st1 = subst (λ p. Stands p new_dir (disk c.add_dir.new.tree)) c.in_ok-current.ensures (c.in_ok-add_dir.ensures.stands (search rules)) in
    let b2 = subst (λ p. Leaves (Beside p) (disk c.add_dir.new.tree) (disk c.add_dir-2.new.tree)) c.in_ok-omap.ensures (c.add_dir-2.ensures.beside (search rules)) in
    let st2 = subst (λ p. Stands p new_dir (disk c.add_dir-2.new.tree)) c.in_ok-omap.ensures (c.in_ok-add_dir-2.ensures.stands (search rules)) in
    let b3 = subst (λ p. Leaves (Beside p) (disk c.add_dir-2.new.tree) (disk c.add_dir-3.new.tree)) c.in_ok-aside.ensures (c.add_dir-3.ensures.beside (search rules)) in
    let st3 = subst (λ p. Stands p new_dir (disk c.add_dir-3.new.tree)) c.in_ok-aside.ensures (c.in_ok-add_dir-3.ensures.stands (search rules)) in
    let b4 = subst (λ p. Leaves (Beside p) (disk c.add_dir-3.new.tree) (disk c.add_dir-4.new.tree)) c.in_ok-trash.ensures (c.add_dir-4.ensures.beside (search rules)) in
    let st4 = subst (λ p. Stands p new_dir (disk c.add_dir-4.new.tree)) c.in_ok-trash.ensures (c.in_ok-add_dir-4.ensures.stands (search rules)) in
    all_stand (disk c.args.tree.now) (disk c.add_dir.new.tree) (sound c.args.tree.now (search rules)) (sound c.add_dir.new.tree (search rules)) b1 st1 (disk c.add_dir-2.new.tree) b2 (sound c.add_dir-2.new.tree (search rules)) st2 (disk c.add_dir-3.new.tree) b3 (sound c.add_dir-3.new.tree (search rules)) st3 (disk c.add_dir-4.new.tree) b4 (sound c.add_dir-4.new.tree (search rules)) st4
