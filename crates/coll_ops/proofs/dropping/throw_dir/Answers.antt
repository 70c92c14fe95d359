use Rattle.std.proofs.Common.{rules, Ok, ap, sym, ◌∙◌}
use Rattle.tree_api.specs.Tree.{Tree}
use Rattle.coll_ops.proofs.Paths.{not_above, not_root}
use Rattle.coll_ops.proofs.Clearing.{sweeps_throws, dir_off, from_off, dir_there, parent_off, renamed_throws, renamed_gone, renamed_there}
use Rattle.coll_ops.proofs.Trees.{place_after}
use Rattle.coll_ops.proofs.dropping.throw_dir.Goals as goal

pub sweep-requires : goal.sweep-requires
sweep-requires g c = record { named = not_root c.args.from.now c.args.to.now c.requires.apart }

pub returns-in_err-stood-clause-throws : goal.returns-in_err-stood-clause-throws
returns-in_err-stood-clause-throws g c = λ t.
    let disk = g.T.FileTree.disk in
    sweeps_throws c.args.from.now c.args.to.now c.requires.apart (disk c.args.tree.now) (disk c.sweep.new.tree) (c.sweep.ensures.leaves (search rules))

pub rename-requires-clause-there : goal.rename-requires-clause-there
rename-requires-clause-there g c = λ t.
    let disk = g.T.FileTree.disk in
    let sweeps = c.sweep.ensures.leaves (search rules) in
    let off = from_off c.args.from.now c.args.to.now c.requires.apart (disk c.args.tree.now) (disk c.sweep.new.tree) sweeps in
    dir_there (disk c.sweep.new.tree).tree c.args.from.now
    (dir_off c.args.from.now c.args.to.now c.requires.apart (disk c.args.tree.now) (disk c.sweep.new.tree) sweeps c.args.from.now off (c.requires.dir (search rules)))

pub rename-requires-clause-off_the_way : goal.rename-requires-clause-off_the_way
rename-requires-clause-off_the_way g c = λ t. not_above c.args.from.now c.args.to.now c.requires.apart

pub rename-requires-clause-parent : goal.rename-requires-clause-parent
rename-requires-clause-parent g c = λ t.
    let disk = g.T.FileTree.disk in
    parent_off c.args.from.now c.args.to.now c.requires.apart (disk c.args.tree.now) (disk c.sweep.new.tree) (c.sweep.ensures.leaves (search rules)) (c.requires.parent (search rules))

pub returns-in_err-rename-clause-throws : goal.returns-in_err-rename-clause-throws
returns-in_err-rename-clause-throws g c = λ t.
    let disk = g.T.FileTree.disk in
    let sweeps = c.sweep.ensures.leaves (search rules) in
    let off = from_off c.args.from.now c.args.to.now c.requires.apart (disk c.args.tree.now) (disk c.sweep.new.tree) sweeps in
    renamed_throws c.args.from.now c.args.to.now c.requires.apart (disk c.args.tree.now) (disk c.sweep.new.tree) sweeps (disk c.rename.new.self) (g.met.T.FileTree.sound c.sweep.new.tree (search rules)) c.rename.result
    (c.rename.ensures.dir (search rules)
    (dir_off c.args.from.now c.args.to.now c.requires.apart (disk c.args.tree.now) (disk c.sweep.new.tree) sweeps c.args.from.now off (c.requires.dir (search rules))))

pub returns-clause-throws : goal.returns-clause-throws
returns-clause-throws g c = λ t.
    let disk = g.T.FileTree.disk in
    let sweeps = c.sweep.ensures.leaves (search rules) in
    let off = from_off c.args.from.now c.args.to.now c.requires.apart (disk c.args.tree.now) (disk c.sweep.new.tree) sweeps in
    renamed_throws c.args.from.now c.args.to.now c.requires.apart (disk c.args.tree.now) (disk c.sweep.new.tree) sweeps (disk c.rename.new.self) (g.met.T.FileTree.sound c.sweep.new.tree (search rules)) c.rename.result
    (c.rename.ensures.dir (search rules)
    (dir_off c.args.from.now c.args.to.now c.requires.apart (disk c.args.tree.now) (disk c.sweep.new.tree) sweeps c.args.from.now off (c.requires.dir (search rules))))

pub returns-clause-gone : goal.returns-clause-gone
returns-clause-gone g c = λ t.
    let disk = g.T.FileTree.disk in
    let sweeps = c.sweep.ensures.leaves (search rules) in
    let off = from_off c.args.from.now c.args.to.now c.requires.apart (disk c.args.tree.now) (disk c.sweep.new.tree) sweeps in
    let dir = dir_off c.args.from.now c.args.to.now c.requires.apart (disk c.args.tree.now) (disk c.sweep.new.tree) sweeps c.args.from.now off (c.requires.dir (search rules)) in
    let change = c.in_ok-rename.ensures.dir (search rules) dir in
    ap (λ (x : Tree). x.at c.args.from.now) change.ok ∙ renamed_gone c.args.from.now c.args.to.now c.requires.apart (disk c.args.tree.now) (disk c.sweep.new.tree) sweeps (disk c.rename.new.self)
    (g.met.T.FileTree.sound c.sweep.new.tree (search rules)) (Ok c.in_ok-rename.field-0) change

pub returns-clause-place : goal.returns-clause-place
returns-clause-place g c = λ t.
    let disk = g.T.FileTree.disk in
    let sweeps = c.sweep.ensures.leaves (search rules) in
    let off = from_off c.args.from.now c.args.to.now c.requires.apart (disk c.args.tree.now) (disk c.sweep.new.tree) sweeps in
    let dir = dir_off c.args.from.now c.args.to.now c.requires.apart (disk c.args.tree.now) (disk c.sweep.new.tree) sweeps c.args.from.now off (c.requires.dir (search rules)) in
    let change = c.in_ok-rename.ensures.dir (search rules) dir in
    place_after c.in_ok-stood.stood ((disk c.args.tree.now).tree.at c.args.to.now) ((disk c.rename.new.self).tree.at c.args.to.now) (c.in_ok-stood.ensures.stood (search rules))
    (λ none.
    renamed_there c.args.from.now c.args.to.now c.requires.apart (disk c.args.tree.now) (disk c.sweep.new.tree) sweeps (disk c.rename.new.self) (g.met.T.FileTree.sound c.sweep.new.tree (search rules)) (Ok c.in_ok-rename.field-0) change dir
    (sym (ap (λ (x : Tree). x.at c.args.to.now) change.ok) ∙ none))
