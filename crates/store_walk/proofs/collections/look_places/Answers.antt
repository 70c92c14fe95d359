use Rattle.std.proofs.Common.{sym, subst}
use Rattle.index_fault.specs.declared.IndexFault.TheVariants.{Damaged}
use Rattle.tree_api.specs.Tree.{Tree}
use Rattle.tree_api.proofs.Moments.{still_joins}
use Rattle.lfn_index.specs.Entries.{IsEntry}
use Rattle.lfn_index.proofs.Known.{handed_on}
use Rattle.coll_ops.proofs.Clearing.{faults_then}
use Rattle.store_walk.specs.Walked.{IsPlaced, EntryPlaced}
use Rattle.store_walk.proofs.Looked.{item_entry, item_there, looked_more, looked_all}
use Rattle.store_walk.proofs.collections.look_places.Goals as goal

pub look_place-requires : goal.look_place-requires
look_place-requires g c = record {
  entry = λ told.
      let loop = c.loop-entry.invariant in
      subst (λ (x : Tree). IsEntry x c.args.dir.now c.entry-item.result) (sym (loop.still told).stays.tree)
      (item_entry (g.T.FileTree.disk c.args.tree.now).tree c.args.dir.now c.deref-entry-items.result.now (loop.listing told) c.loop-entry.entry-index c.loop-entry-test.true c.entry-item.result c.entry-item.is);
}

pub returns-in_err-look_place-clause-damaged : goal.returns-in_err-look_place-clause-damaged
returns-in_err-look_place-clause-damaged g c = λ now p is all.
    let loop = c.loop-entry.invariant in
    let told = c.look_place.ensures.told now in
    let tree = (g.T.FileTree.disk c.args.tree.now).tree in
    c.look_place.ensures.damaged now p
    (handed_on c.look_place.result c.from_residual-in_err-look_place.result c.in_err-look_place.field-0.0 (Damaged p) c.in_err-look_place.was c.from_residual-in_err-look_place.ensures.1 is)
    (subst (λ (x : Tree). EntryPlaced c.args.set.now c.args.dir.now x c.entry-item.result) (sym (loop.still told).stays.tree)
    (λ step at. all step
    (item_there tree c.args.dir.now c.deref-entry-items.result.now (loop.listing told) c.loop-entry.entry-index c.loop-entry-test.true c.entry-item.result c.entry-item.is step at)))

pub loop-entry-preserved : goal.loop-entry-preserved
loop-entry-preserved g c =
    let disk = g.T.FileTree.disk in
    let loop = c.loop-entry.invariant in
    let tree = (disk c.args.tree.now).tree in
    record {
      told = λ now. loop.told (c.look_place.ensures.told now);
      counts = faults_then ⊥ _ (disk c.args.tree.now) (disk c.loop-entry.tree) (disk c.look_place.new.tree) loop.counts c.look_place.ensures.counts;
      still = λ now.
          let told = c.look_place.ensures.told now in
          still_joins (disk c.args.tree.now) (disk c.loop-entry.tree) (disk c.look_place.new.tree) (g.met.T.FileTree.sound c.args.tree.now (loop.told told)) (loop.still told) (c.look_place.ensures.still now);
      listing = λ now. loop.listing (c.look_place.ensures.told now);
      looked = λ now.
          let told = c.look_place.ensures.told now in
          looked_more tree c.args.dir.now c.deref-entry-items.result.now (loop.listing told) c.loop-entry.entry-index c.loop-entry-test.true c.entry-item.result c.entry-item.is
          (IsPlaced c.args.set.now c.args.dir.now tree) (loop.looked told)
          (subst (λ (x : Tree). EntryPlaced c.args.set.now c.args.dir.now x c.entry-item.result) (loop.still told).stays.tree (c.in_ok-look_place.ensures.laid now));
    }

pub returns-clause-laid : goal.returns-clause-laid
returns-clause-laid g c = λ told.
    let loop = c.loop-entry.invariant in
    let tree = (g.T.FileTree.disk c.args.tree.now).tree in
    looked_all tree c.args.dir.now c.deref-entry-items.result.now (loop.listing told) (IsPlaced c.args.set.now c.args.dir.now tree) c.loop-entry.entry-index c.loop-entry-test.false (loop.looked told)
