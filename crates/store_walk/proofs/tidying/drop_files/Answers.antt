use Rattle.std.proofs.Common.{◌++◌}
use Rattle.coll_ops.proofs.Clearing.{cleared_more, cleared_all, faults_then}
use Rattle.store_walk.proofs.Looked.{item_entry}
use Rattle.store_walk.proofs.Thinning.{thins_more, thins_sweeps, removes_sweeps, next_file, next_in}
use Rattle.store_walk.proofs.tidying.drop_files.Goals as goal

pub drop_file-requires : goal.drop_file-requires
drop_file-requires g c = record {
  file = λ told.
      let disk = g.T.FileTree.disk in
      let loop = c.loop-entry.invariant in
      let es = c.deref-entry-items.result.now in
      let was = item_entry (disk c.args.tree.now).tree c.args.dir.now es (loop.listing told) c.loop-entry.entry-index c.loop-entry-test.true c.entry-item.result c.entry-item.is in
      next_file (disk c.args.tree.now) (disk c.loop-entry.tree) c.args.dir.now es (loop.listing told) c.loop-entry.entry-index c.loop-entry-test.true c.entry-item.result c.entry-item.is was
      (loop.thins told) (loop.cleared told) (c.requires.files (loop.told told));
}

pub returns-in_err-drop_file-clause-thins : goal.returns-in_err-drop_file-clause-thins
returns-in_err-drop_file-clause-thins g c = λ now.
    let disk = g.T.FileTree.disk in
    let loop = c.loop-entry.invariant in
    let told = c.drop_file.ensures.told now in
    let es = c.deref-entry-items.result.now in
    let was = item_entry (disk c.args.tree.now).tree c.args.dir.now es (loop.listing told) c.loop-entry.entry-index c.loop-entry-test.true c.entry-item.result c.entry-item.is in
    thins_more c.args.dir.now (c.args.dir.now ++ c.entry-item.result.step) (disk c.args.tree.now) (disk c.loop-entry.tree) (disk c.drop_file.new.tree) (g.met.T.FileTree.sound c.loop-entry.tree told)
    (next_in (disk c.args.tree.now) (disk c.loop-entry.tree) c.args.dir.now es (loop.listing told) c.loop-entry.entry-index c.loop-entry-test.true c.entry-item.result c.entry-item.is was (loop.thins told) (loop.cleared told))
    (loop.thins told) (c.drop_file.ensures.leaves now)

pub loop-entry-preserved : goal.loop-entry-preserved
loop-entry-preserved g c =
    let disk = g.T.FileTree.disk in
    let loop = c.loop-entry.invariant in
    let es = c.deref-entry-items.result.now in
    record {
      told = λ now. loop.told (c.drop_file.ensures.told now);
      counts = faults_then ⊥ _ (disk c.args.tree.now) (disk c.loop-entry.tree) (disk c.drop_file.new.tree) loop.counts c.drop_file.ensures.counts;
      thins = λ now.
          let told = c.drop_file.ensures.told now in
          let was = item_entry (disk c.args.tree.now).tree c.args.dir.now es (loop.listing told) c.loop-entry.entry-index c.loop-entry-test.true c.entry-item.result c.entry-item.is in
          thins_more c.args.dir.now (c.args.dir.now ++ c.entry-item.result.step) (disk c.args.tree.now) (disk c.loop-entry.tree) (disk c.drop_file.new.tree) (g.met.T.FileTree.sound c.loop-entry.tree told)
          (next_in (disk c.args.tree.now) (disk c.loop-entry.tree) c.args.dir.now es (loop.listing told) c.loop-entry.entry-index c.loop-entry-test.true c.entry-item.result c.entry-item.is was (loop.thins told) (loop.cleared told))
          (loop.thins told) (c.drop_file.ensures.leaves now);
      cleared = λ now.
          let told = c.drop_file.ensures.told now in
          cleared_more (disk c.args.tree.now) (disk c.loop-entry.tree) c.args.dir.now es (loop.listing told) c.loop-entry.entry-index c.loop-entry-test.true c.entry-item.result c.entry-item.is
          (thins_sweeps c.args.dir.now (disk c.args.tree.now) (disk c.loop-entry.tree) (loop.thins told)) (loop.cleared told) (disk c.drop_file.new.tree)
          (removes_sweeps (c.args.dir.now ++ c.entry-item.result.step) (disk c.loop-entry.tree) (disk c.drop_file.new.tree) (c.drop_file.ensures.leaves now)) (c.in_ok-drop_file.ensures.gone now);
      listing = λ now. loop.listing (c.drop_file.ensures.told now);
    }

pub returns-clause-empty : goal.returns-clause-empty
returns-clause-empty g c = λ told.
    let disk = g.T.FileTree.disk in
    let loop = c.loop-entry.invariant in
    (cleared_all (disk c.args.tree.now) (disk c.loop-entry.tree) c.args.dir.now c.deref-entry-items.result.now c.loop-entry.entry-index (loop.listing told) (c.requires.dir (loop.told told))
    (thins_sweeps c.args.dir.now (disk c.args.tree.now) (disk c.loop-entry.tree) (loop.thins told)) (loop.cleared told) c.loop-entry-test.false).1
