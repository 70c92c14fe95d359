-- What a crash leaves since entry, and how far the tree that reads has gone, round by round.
use Rattle.std.proofs.Common.{ℕ, subst, refl, ◌∙◌, arith}
use Rattle.tree_places.specs.Underway.{Underway}
use Rattle.tree_places.proofs.Underway.{begins, ends}
use Rattle.apply_ops.proofs.Stores.{none_done, then_stays}
use Rattle.apply_ops.proofs.Steps.{item_at, spot, is_next, since_entry, goes_on}
use Rattle.apply_ops.proofs.transaction.apply_all.Goals as goal

pub loop-i-init : goal.loop-i-init
loop-i-init g c = record {
  told = λ t. t;
  faults = omega arith;
  syncs = refl;
  ready = c.requires.ready;
  stores = λ tells. none_done (g.T.FileTree.disk c.args.tree.now) (g.met.T.FileTree.sound c.args.tree.now tells);
  under = λ tells how h n lo hi turn images past. begins c.args.set.now how h n lo hi c.args.seq c.args.ops.now turn (g.T.FileTree.disk c.args.tree.now) (g.met.T.FileTree.sound c.args.tree.now tells) images past;
}

pub apply-requires-clause-fit : goal.apply-requires-clause-fit
apply-requires-clause-fit g c = (c.requires.fit c.loop-i.i c.index-ops-i.result (item_at c.args.ops.now c.loop-i.i c.index-ops-i.result c.loop-i-test.true c.index-ops-i.is)).0

pub apply-requires-clause-built : goal.apply-requires-clause-built
apply-requires-clause-built g c = (c.requires.fit c.loop-i.i c.index-ops-i.result (item_at c.args.ops.now c.loop-i.i c.index-ops-i.result c.loop-i-test.true c.index-ops-i.is)).1

pub returns-in_err-apply-clause-keeps : goal.returns-in_err-apply-clause-keeps
returns-in_err-apply-clause-keeps g c = λ tells how h n lo hi turn images past.
    let mid = c.apply.ensures.told tells in
    let now = c.loop-i.invariant.under mid how h n lo hi turn images past in
    let d0 = g.T.FileTree.disk c.args.tree.now in
    let d1 = g.T.FileTree.disk c.loop-i.tree in
    let sound = g.met.T.FileTree.sound c.loop-i.tree mid in
    since_entry c.args.set.now how h n lo hi c.args.seq c.args.ops.now turn c.loop-i.i c.index-ops-i.result (item_at c.args.ops.now c.loop-i.i c.index-ops-i.result c.loop-i-test.true c.index-ops-i.is) d0 d1 sound now (g.T.FileTree.disk c.apply.new.tree)
    (c.apply.ensures.keeps tells (spot c.args.set.now how h n lo hi c.args.seq c.args.ops.now turn c.loop-i.i c.index-ops-i.result (item_at c.args.ops.now c.loop-i.i c.index-ops-i.result c.loop-i-test.true c.index-ops-i.is) d0 d1 sound now) (is_next c.args.set.now how h n lo hi c.args.seq c.args.ops.now turn c.loop-i.i c.index-ops-i.result (item_at c.args.ops.now c.loop-i.i c.index-ops-i.result c.loop-i-test.true c.index-ops-i.is) d0 d1 sound now))

pub returns-in_err-apply-clause-stores : goal.returns-in_err-apply-clause-stores
returns-in_err-apply-clause-stores g c = λ tells.
    let mid = c.apply.ensures.told tells in
    then_stays (g.T.FileTree.disk c.args.tree.now) (g.T.FileTree.disk c.loop-i.tree) (g.T.FileTree.disk c.apply.new.tree) (g.met.T.FileTree.sound c.loop-i.tree mid) (c.loop-i.invariant.stores mid) (c.apply.ensures.stores tells)

pub returns-clause-keeps : goal.returns-clause-keeps
returns-clause-keeps g c = λ tells how h n lo hi turn images past. (c.loop-i.invariant.under tells how h n lo hi turn images past).keeps

pub returns-clause-done : goal.returns-clause-done
returns-clause-done g c = λ tells how h n lo hi turn images past.
    let d0 = g.T.FileTree.disk c.args.tree.now in
    let d1 = g.T.FileTree.disk c.loop-i.tree in
    let first = images d0.tree (g.met.T.FileTree.sound c.args.tree.now (c.loop-i.invariant.told tells)).now in
    ends c.args.set.now how h n lo hi c.args.seq c.args.ops.now turn d0 d1 (omega (arith, first.base, turn.low))
    (subst (λ (i : ℕ). Underway c.args.set.now how h n lo hi c.args.seq i d0 d1) (omega (arith, c.loop-i.auto.i-end, c.loop-i-test.false)) (c.loop-i.invariant.under tells how h n lo hi turn images past))

pub loop-i-preserved : goal.loop-i-preserved
loop-i-preserved g c = record {
  told = λ t. c.loop-i.invariant.told (c.apply.ensures.told t);
  faults = omega (arith, c.loop-i.invariant.faults, c.apply.ensures.faults);
  syncs = c.apply.ensures.syncs ∙ c.loop-i.invariant.syncs;
  ready = λ tells. c.in_ok-apply.ensures.ready tells;
  stores = λ tells.
      let mid = c.apply.ensures.told tells in
      then_stays (g.T.FileTree.disk c.args.tree.now) (g.T.FileTree.disk c.loop-i.tree) (g.T.FileTree.disk c.apply.new.tree) (g.met.T.FileTree.sound c.loop-i.tree mid) (c.loop-i.invariant.stores mid) (c.apply.ensures.stores tells);
  under = λ tells how h n lo hi turn images past.
      let mid = c.apply.ensures.told tells in
      let now = c.loop-i.invariant.under mid how h n lo hi turn images past in
      let d0 = g.T.FileTree.disk c.args.tree.now in
      let d1 = g.T.FileTree.disk c.loop-i.tree in
      let sound = g.met.T.FileTree.sound c.loop-i.tree mid in
      goes_on c.args.set.now how h n lo hi c.args.seq c.args.ops.now turn c.loop-i.i c.index-ops-i.result (item_at c.args.ops.now c.loop-i.i c.index-ops-i.result c.loop-i-test.true c.index-ops-i.is) d0 d1 sound now (g.T.FileTree.disk c.apply.new.tree)
      (c.in_ok-apply.ensures.done tells (spot c.args.set.now how h n lo hi c.args.seq c.args.ops.now turn c.loop-i.i c.index-ops-i.result (item_at c.args.ops.now c.loop-i.i c.index-ops-i.result c.loop-i-test.true c.index-ops-i.is) d0 d1 sound now) (is_next c.args.set.now how h n lo hi c.args.seq c.args.ops.now turn c.loop-i.i c.index-ops-i.result (item_at c.args.ops.now c.loop-i.i c.index-ops-i.result c.loop-i-test.true c.index-ops-i.is) d0 d1 sound now));
}
