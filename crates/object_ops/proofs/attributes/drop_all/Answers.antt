use Rattle.std.proofs.Common.{rules, ◌≡◌, refl, subst, sym}
use Rattle.tree_api.specs.declared.path.AttrName.{AttrName}
use Rattle.std.proofs.Common.{List, ap}
use Rattle.tree_api.specs.Tree.{Tree}
use Rattle.tree_api.specs.Answer.{AreAttrs}
use Rattle.tree_api.proofs.Passing.{still_within}
use Rattle.object_file.proofs.Copies.{has_attrs}
use Rattle.object_file.proofs.Passing.{goes, way_then, way_stays, not_ok}
use Rattle.tree_stands.specs.Files.{without_ours}
use Rattle.object_ops.proofs.Pairs.{drop_starts, drop_ends, dropping_stays}
use Rattle.object_ops.proofs.attributes.drop_all.Goals as goal

pub returns-in_err-names-clause-goes : goal.returns-in_err-names-clause-goes
returns-in_err-names-clause-goes g c = λ t.
    let disk = g.T.FileTree.disk in
    let file = c.requires.file (search rules) in
    let v = (disk c.args.tree.now).tree.node file.0 in
    goes c.args.path.now (λ x y. y ≡ without_ours x) (disk c.args.tree.now) (disk c.attrs.new.self) _ file.0 (without_ours v) file.1 refl
    (way_stays file.0 v (without_ours v) (disk c.args.tree.now) (disk c.attrs.new.self) (g.met.T.FileTree.sound c.args.tree.now (search rules)) (c.attrs.ensures.still (search rules)).stays)
    (λ ok. absurd (not_ok c.from_residual.result c.from_residual.ensures.0 ok))

pub returns-in_err-drop_each-clause-goes : goal.returns-in_err-drop_each-clause-goes
returns-in_err-drop_each-clause-goes g c = λ t.
    let disk = g.T.FileTree.disk in
    let file = c.requires.file (search rules) in
    let v = (disk c.args.tree.now).tree.node file.0 in
    let b = without_ours v in
    let stays = (c.attrs.ensures.still (search rules)).stays in
    let mid = dropping_stays c.args.path.now file.0 v b (disk c.args.tree.now) (disk c.attrs.new.self) stays (drop_starts c.args.path.now file.0 (disk c.args.tree.now).tree file.1) in
    let more = c.drop_each.ensures.way (search rules) file.0 v b mid in
    goes c.args.path.now (λ x y. y ≡ without_ours x) (disk c.args.tree.now) (disk c.drop_each.new.tree) _ file.0 b file.1 refl
    (way_then file.0 v b (disk c.args.tree.now) (disk c.attrs.new.self) (disk c.drop_each.new.tree) (g.met.T.FileTree.sound c.attrs.new.self (search rules))
    (way_stays file.0 v b (disk c.args.tree.now) (disk c.attrs.new.self) (g.met.T.FileTree.sound c.args.tree.now (search rules)) stays) more.0)
    (λ ok. absurd (not_ok c.from_residual-in_err-drop_each.result c.from_residual-in_err-drop_each.ensures.0 ok))

pub returns-clause-goes : goal.returns-clause-goes
returns-clause-goes g c = λ t.
    let disk = g.T.FileTree.disk in
    let file = c.requires.file (search rules) in
    let v = (disk c.args.tree.now).tree.node file.0 in
    let b = without_ours v in
    let stays = (c.attrs.ensures.still (search rules)).stays in
    let mid = dropping_stays c.args.path.now file.0 v b (disk c.args.tree.now) (disk c.attrs.new.self) stays (drop_starts c.args.path.now file.0 (disk c.args.tree.now).tree file.1) in
    let more = c.in_ok-drop_each.ensures.way (search rules) file.0 v b mid in
    let w = (disk c.drop_each.new.tree).tree.node file.0 in
    let same = ap (λ (x : Tree). x.node file.0) (sym stays.tree) in
    goes c.args.path.now (λ x y. y ≡ without_ours x) (disk c.args.tree.now) (disk c.drop_each.new.tree) _ file.0 b file.1 refl
    (way_then file.0 v b (disk c.args.tree.now) (disk c.attrs.new.self) (disk c.drop_each.new.tree) (g.met.T.FileTree.sound c.attrs.new.self (search rules))
    (way_stays file.0 v b (disk c.args.tree.now) (disk c.attrs.new.self) (g.met.T.FileTree.sound c.args.tree.now (search rules)) stays) more.0)
    (λ ok. drop_ends v ((disk c.attrs.new.self).tree.node file.0) w c.deref.result.now same
    (subst (λ (t : Tree). AreAttrs (t.node file.0) c.deref.result.now) (sym stays.tree)
    (subst (λ (l : List AttrName). AreAttrs v l) (sym c.deref.ensures.value) (has_attrs (disk c.args.tree.now).tree c.args.path.now file.0 c.in_ok-names.names.items file.1 (c.in_ok-names.ensures.names (search rules)))))
    (still_within file.0 v b (disk c.attrs.new.self).tree (disk c.drop_each.new.tree).tree mid.within more.0.now) more.1)
