use Rattle.std.proofs.Common.{inl, rules, ◌≡◌, refl}
use Rattle.std.specs.List.{fold}
use Rattle.tree_api.proofs.Counting.{counts_then, counts_same}
use Rattle.object_file.proofs.Passing.{goes, way_then, way_same, not_ok}
use Rattle.tree_stands.specs.Files.{set_pair}
use Rattle.object_ops.proofs.Pairs.{set_starts, set_along, set_ends, none_left}
use Rattle.object_ops.proofs.attributes.set_all.Goals as goal

pub loop-pair-init : goal.loop-pair-init
loop-pair-init g c =
    let d0 = g.T.FileTree.disk c.args.tree.now in
    record {
      file = c.requires.file;
      told = λ t. t;
      counts = counts_same ⊥ (λ no. no) d0;
      way = λ t n a b setting. (way_same n a b d0 (g.met.T.FileTree.sound c.args.tree.now (search rules)), setting);
    }

pub loop-pair-preserved : goal.loop-pair-preserved
loop-pair-preserved g c =
    let disk = g.T.FileTree.disk in
    record {
      file = c.set_one.ensures.file;
      told = λ t. c.loop-pair.invariant.told (c.set_one.ensures.told t);
      counts = counts_then ⊥ _ ⊥ 0 0 0 0 (disk c.args.tree.now) (disk c.loop-pair.tree) (disk c.set_one.new.tree) (λ no. inl no) c.loop-pair.invariant.counts c.in_ok-set_one.ensures.counts;
      way = λ t n a b setting.
          let so_far = c.loop-pair.invariant.way (search rules) n a b setting in
          let mid = set_along c.args.path.now n a b c.loop-pair.rest.now _ (disk c.loop-pair.tree).tree c.in-Some.ensures.cases.0 so_far.1 in
          let more = c.in_ok-set_one.ensures.way (search rules) n a b mid in
          (way_then n a b (disk c.args.tree.now) (disk c.loop-pair.tree) (disk c.set_one.new.tree) (g.met.T.FileTree.sound c.loop-pair.tree (search rules)) so_far.0 more.0, more.1);
    }

pub returns-in_err-set_one-clause-goes : goal.returns-in_err-set_one-clause-goes
returns-in_err-set_one-clause-goes g c = λ t.
    let disk = g.T.FileTree.disk in
    let file = c.requires.file (search rules) in
    let v = (disk c.args.tree.now).tree.node file.0 in
    let b = fold set_pair v c.args.pairs.now in
    let so_far = c.loop-pair.invariant.way (search rules) file.0 v b (set_starts c.args.path.now file.0 c.args.pairs.now (disk c.args.tree.now).tree file.1) in
    let mid = set_along c.args.path.now file.0 v b c.loop-pair.rest.now _ (disk c.loop-pair.tree).tree c.in-Some.ensures.cases.0 so_far.1 in
    let more = c.set_one.ensures.way (search rules) file.0 v b mid in
    goes c.args.path.now (λ x y. y ≡ fold set_pair x c.args.pairs.now) (disk c.args.tree.now) (disk c.set_one.new.tree) _ file.0 b file.1 refl
    (way_then file.0 v b (disk c.args.tree.now) (disk c.loop-pair.tree) (disk c.set_one.new.tree) (g.met.T.FileTree.sound c.loop-pair.tree (search rules)) so_far.0 more.0)
    (λ ok. absurd (not_ok c.from_residual.result c.from_residual.ensures.0 ok))

pub returns-clause-goes : goal.returns-clause-goes
returns-clause-goes g c = λ t.
    let disk = g.T.FileTree.disk in
    let file = c.requires.file (search rules) in
    let v = (disk c.args.tree.now).tree.node file.0 in
    let b = fold set_pair v c.args.pairs.now in
    let so_far = c.loop-pair.invariant.way (search rules) file.0 v b (set_starts c.args.path.now file.0 c.args.pairs.now (disk c.args.tree.now).tree file.1) in
    goes c.args.path.now (λ x y. y ≡ fold set_pair x c.args.pairs.now) (disk c.args.tree.now) (disk c.loop-pair.tree) _ file.0 b file.1 refl so_far.0
    (λ ok. set_ends c.args.path.now file.0 v b c.loop-pair.rest.now (disk c.loop-pair.tree).tree (none_left c.loop-pair.rest.now c.in_default.ensures.cases) so_far.1)
