use Rattle.std.proofs.Common.{inl, rules, ◌≡◌, subst}
use Rattle.tree_api.proofs.Counting.{counts_then, counts_same}
use Rattle.object_file.specs.Attrs.{IsOurs}
use Rattle.object_file.proofs.Passing.{way_then, way_same, on_err}
use Rattle.object_file.proofs.Copies.{settles_same, settles_then, named_none, named_more, named_all}
use Rattle.object_ops.proofs.Pairs.{dropping_on}
use Rattle.object_ops.proofs.attributes.drop_each.Goals as goal

pub loop-name-init : goal.loop-name-init
loop-name-init g c =
    let disk = g.T.FileTree.disk in
    record {
      file = c.requires.file;
      told = λ t. t;
      counts = counts_same ⊥ (λ no. no) (disk c.args.tree.now);
      way = λ t n a b dropping. (
        way_same n a b (disk c.args.tree.now) (g.met.T.FileTree.sound c.args.tree.now (search rules)),
        settles_same b ((disk c.args.tree.now).tree.node n),
        named_none c.args.names.now b ((disk c.args.tree.now).tree.node n),
      );
    }

pub returns-in_err-drop_one-clause-way : goal.returns-in_err-drop_one-clause-way
returns-in_err-drop_one-clause-way g c = λ t n a b dropping.
    let disk = g.T.FileTree.disk in
    let so_far = c.loop-name.invariant.way (search rules) n a b dropping in
    let mid = dropping_on c.args.path.now n a b (disk c.args.tree.now).tree (disk c.loop-name.tree).tree dropping so_far.0.now in
    let more = c.drop_one.ensures.way (search rules) n a b mid in
    (way_then n a b (disk c.args.tree.now) (disk c.loop-name.tree) (disk c.drop_one.new.tree) (g.met.T.FileTree.sound c.loop-name.tree (search rules)) so_far.0 more.0, on_err _ c.from_residual.result c.from_residual.ensures.0)

pub loop-name-preserved : goal.loop-name-preserved
loop-name-preserved g c =
    let disk = g.T.FileTree.disk in
    record {
      file = c.drop_one.ensures.file;
      told = λ t. c.loop-name.invariant.told (c.drop_one.ensures.told t);
      counts = counts_then ⊥ _ ⊥ 0 0 0 0 (disk c.args.tree.now) (disk c.loop-name.tree) (disk c.drop_one.new.tree) (λ no. inl no) c.loop-name.invariant.counts c.in_ok-drop_one.ensures.counts;
      way = λ t n a b dropping.
          let so_far = c.loop-name.invariant.way (search rules) n a b dropping in
          let mid = dropping_on c.args.path.now n a b (disk c.args.tree.now).tree (disk c.loop-name.tree).tree dropping so_far.0.now in
          let more = c.in_ok-drop_one.ensures.way (search rules) n a b mid in
          let w = (disk c.drop_one.new.tree).tree.node n in (
            way_then n a b (disk c.args.tree.now) (disk c.loop-name.tree) (disk c.drop_one.new.tree) (g.met.T.FileTree.sound c.loop-name.tree (search rules)) so_far.0 more.0,
            settles_then b ((disk c.args.tree.now).tree.node n) ((disk c.loop-name.tree).tree.node n) w so_far.1 more.1.0,
            named_more c.args.names.now c.loop-name.name-index c.name-item.result b ((disk c.loop-name.tree).tree.node n) w c.loop-name-test.true c.name-item.is so_far.2 more.1.0
                (subst (λ k. IsOurs k → w.attr k ≡ b.attr k) c.slice.ensures more.1.1),
          );
    }

pub returns-clause-way : goal.returns-clause-way
returns-clause-way g c = λ t n a b dropping.
    let so_far = c.loop-name.invariant.way (search rules) n a b dropping in
    (so_far.0, (so_far.1, named_all c.args.names.now c.loop-name.name-index b ((g.T.FileTree.disk c.loop-name.tree).tree.node n) c.loop-name-test.false so_far.2))
