use Rattle.std.proofs.Common.{◌++◌}
use Rattle.index_fault.specs.declared.IndexFault.TheVariants.{Damaged}
use Rattle.lfn_index.proofs.Known.{handed_on}
use Rattle.coll_ops.proofs.Clearing.{cleared_more, cleared_all, faults_then, sweeps_then}
use Rattle.coll_ops.proofs.Depth.{deeper}
use Rattle.coll_ops.proofs.Paths.{within_below}
use Rattle.store_walk.proofs.Looked.{item_entry}
use Rattle.store_walk.proofs.Swept.{rest_then}
use Rattle.store_walk.proofs.emptying.sweep_each.Goals as goal

pub sweep_at-requires : goal.sweep_at-requires
sweep_at-requires g c = record {
  entry = λ told.
      (item_entry (g.T.FileTree.disk c.args.tree.now).tree c.args.dir.now c.deref-entry-items.result.now (c.loop-entry.invariant.listing told) c.loop-entry.entry-index c.loop-entry-test.true c.entry-item.result
      c.entry-item.is).1;
}

pub returns-in_err-sweep_at-clause-sweeps : goal.returns-in_err-sweep_at-clause-sweeps
returns-in_err-sweep_at-clause-sweeps g c = λ now.
    let disk = g.T.FileTree.disk in
    let told = c.sweep_at.ensures.told now in
    sweeps_then c.args.dir.now (c.args.dir.now ++ c.entry-item.result.step) (disk c.args.tree.now) (disk c.loop-entry.tree) (disk c.sweep_at.new.tree) (g.met.T.FileTree.sound c.loop-entry.tree told)
    (λ q w. within_below c.args.dir.now c.entry-item.result.step q w) (c.loop-entry.invariant.sweeps told) (c.sweep_at.ensures.sweeps now)

pub returns-in_err-sweep_at-clause-elsewhere : goal.returns-in_err-sweep_at-clause-elsewhere
returns-in_err-sweep_at-clause-elsewhere g c = λ now.
    let disk = g.T.FileTree.disk in
    let loop = c.loop-entry.invariant in
    let told = c.sweep_at.ensures.told now in
    let e = c.entry-item.result in
    let was = item_entry (disk c.args.tree.now).tree c.args.dir.now c.deref-entry-items.result.now (loop.listing told) c.loop-entry.entry-index c.loop-entry-test.true e c.entry-item.is in
    rest_then c.args.dir.now e.step (disk c.args.tree.now) (disk c.loop-entry.tree) (disk c.sweep_at.new.tree) (g.met.T.FileTree.sound c.loop-entry.tree told) was.1
    (loop.elsewhere told) (c.sweep_at.ensures.sweeps now)

pub returns-in_err-sweep_at-clause-damaged : goal.returns-in_err-sweep_at-clause-damaged
returns-in_err-sweep_at-clause-damaged g c = λ now q is.
    let disk = g.T.FileTree.disk in
    let loop = c.loop-entry.invariant in
    let told = c.sweep_at.ensures.told now in
    let e = c.entry-item.result in
    let entry = item_entry (disk c.args.tree.now).tree c.args.dir.now c.deref-entry-items.result.now (loop.listing told) c.loop-entry.entry-index c.loop-entry-test.true e c.entry-item.is in
    deeper (disk c.args.tree.now) (disk c.loop-entry.tree) c.args.dir.now e.step 9 q entry.1 (loop.sweeps told) (c.sweep_at.ensures.damaged now q
    (handed_on c.sweep_at.result c.from_residual-in_err-sweep_at.result c.in_err-sweep_at.field-0.0 (Damaged q) c.in_err-sweep_at.was c.from_residual-in_err-sweep_at.ensures.1 is))

pub loop-entry-preserved : goal.loop-entry-preserved
loop-entry-preserved g c =
    let disk = g.T.FileTree.disk in
    let loop = c.loop-entry.invariant in
    record {
      told = λ now. loop.told (c.sweep_at.ensures.told now);
      counts = faults_then ⊥ _ (disk c.args.tree.now) (disk c.loop-entry.tree) (disk c.sweep_at.new.tree) loop.counts c.sweep_at.ensures.counts;
      sweeps = λ now.
          let told = c.sweep_at.ensures.told now in
          sweeps_then c.args.dir.now (c.args.dir.now ++ c.entry-item.result.step) (disk c.args.tree.now) (disk c.loop-entry.tree) (disk c.sweep_at.new.tree) (g.met.T.FileTree.sound c.loop-entry.tree told)
          (λ q w. within_below c.args.dir.now c.entry-item.result.step q w) (loop.sweeps told) (c.sweep_at.ensures.sweeps now);
      elsewhere = λ now.
          let told = c.sweep_at.ensures.told now in
          let e = c.entry-item.result in
          let was = item_entry (disk c.args.tree.now).tree c.args.dir.now c.deref-entry-items.result.now (loop.listing told) c.loop-entry.entry-index c.loop-entry-test.true e c.entry-item.is in
          rest_then c.args.dir.now e.step (disk c.args.tree.now) (disk c.loop-entry.tree) (disk c.sweep_at.new.tree) (g.met.T.FileTree.sound c.loop-entry.tree told) was.1
          (loop.elsewhere told) (c.sweep_at.ensures.sweeps now);
      cleared = λ now.
          let told = c.sweep_at.ensures.told now in
          cleared_more (disk c.args.tree.now) (disk c.loop-entry.tree) c.args.dir.now c.deref-entry-items.result.now (loop.listing told) c.loop-entry.entry-index c.loop-entry-test.true c.entry-item.result c.entry-item.is
          (loop.sweeps told) (loop.cleared told) (disk c.sweep_at.new.tree) (c.sweep_at.ensures.sweeps now) (c.in_ok-sweep_at.ensures.gone now);
      listing = λ now. loop.listing (c.sweep_at.ensures.told now);
    }

pub returns-clause-empty : goal.returns-clause-empty
returns-clause-empty g c = λ told.
    let disk = g.T.FileTree.disk in
    let loop = c.loop-entry.invariant in
    (cleared_all (disk c.args.tree.now) (disk c.loop-entry.tree) c.args.dir.now c.deref-entry-items.result.now c.loop-entry.entry-index (loop.listing told) (c.requires.dir (loop.told told)) (loop.sweeps told)
    (loop.cleared told) c.loop-entry-test.false).1
