use Rattle.std.proofs.Common.{◌≡◌, ◌++◌, ◌+◌, ◌-◌, ◌∙◌, inr, ℕ, sym, ap, refl, subst, length, OnOk, arith}
use Rattle.index_fault.specs.declared.IndexFault.TheVariants.{Damaged}
use Rattle.tree_api.specs.Tree.{Path, Tree, IsDir}
use Rattle.tree_api.proofs.Moments.{still_joins}
use Rattle.lfn_index.specs.Directory.{entry}
use Rattle.lfn_index.specs.Entries.{IsEntry}
use Rattle.lfn_index.proofs.Known.{handed_on}
use Rattle.op_effects.specs.Clear.{DirBelow}
use Rattle.coll_ops.proofs.Clearing.{entry_path, entry_file, entry_dir, faults_then}
use Rattle.coll_ops.proofs.Depth.{below_itself, below_along}
use Rattle.store_walk.specs.Deep.{IsBounded}
use Rattle.store_walk.proofs.Depths.{deeper_in, free_bounded, all_bounded}
use Rattle.store_walk.proofs.Looked.{item_entry, looked_more, looked_all}
use Rattle.store_walk.proofs.depth.+levels.Goals as goal

pub look_below-look_at_entry-requires : goal.look_below-look_at_entry-requires
look_below-look_at_entry-requires g t c κs within =
    let loop = c.loop-entry.invariant in
    let tree = (g.T.FileTree.disk c.args.tree.now).tree in (
      omega arith,
      (
        within,
        λ told. subst (λ (x : Tree). IsEntry x c.args.path.now c.entry-item.result) (sym (loop.still told).stays.tree)
            (item_entry tree c.args.path.now c.deref-entry-items.result.now (loop.listing told) c.loop-entry.entry-index c.loop-entry-test.true c.entry-item.result c.entry-item.is),
      ),
    )

pub look_below-returns-in_err-look_at_entry-clause-damaged : goal.look_below-returns-in_err-look_at_entry-clause-damaged
look_below-returns-in_err-look_at_entry-clause-damaged g t c = λ now q is.
    let loop = c.loop-entry.invariant in
    let told = c.look_at_entry.ensures.told now in
    let tree = (g.T.FileTree.disk c.args.tree.now).tree in
    let e = c.entry-item.result in
    let entry = item_entry tree c.args.path.now c.deref-entry-items.result.now (loop.listing told) c.loop-entry.entry-index c.loop-entry-test.true e c.entry-item.is in
    deeper_in tree c.args.path.now e.step c.args.levels q entry.1
    (subst (λ (x : Tree). DirBelow c.args.levels (c.args.path.now ++ e.step) x q) (loop.still told).stays.tree (c.look_at_entry.ensures.damaged now q
    (handed_on c.look_at_entry.result c.from_residual-in_err-look_at_entry.result c.in_err-look_at_entry.field-0.0 (Damaged q) c.in_err-look_at_entry.was c.from_residual-in_err-look_at_entry.ensures.1 is)))

pub look_below-loop-entry-preserved : goal.look_below-loop-entry-preserved
look_below-loop-entry-preserved g t c =
    let disk = g.T.FileTree.disk in
    let loop = c.loop-entry.invariant in
    let tree = (disk c.args.tree.now).tree in
    let path = c.args.path.now in
    let e = c.entry-item.result in
    record {
      told = λ now. loop.told (c.look_at_entry.ensures.told now);
      counts = faults_then ⊥ _ (disk c.args.tree.now) (disk c.loop-entry.tree) (disk c.look_at_entry.new.tree) loop.counts c.look_at_entry.ensures.counts;
      still = λ now.
          let told = c.look_at_entry.ensures.told now in
          still_joins (disk c.args.tree.now) (disk c.loop-entry.tree) (disk c.look_at_entry.new.tree) (g.met.T.FileTree.sound c.args.tree.now (loop.told told)) (loop.still told) (c.look_at_entry.ensures.still now);
      listing = λ now. loop.listing (c.look_at_entry.ensures.told now);
      looked = λ now.
          let told = c.look_at_entry.ensures.told now in
          looked_more tree path c.deref-entry-items.result.now (loop.listing told) c.loop-entry.entry-index c.loop-entry-test.true e c.entry-item.is
          (λ step. IsBounded c.args.levels (entry path step) tree) (loop.looked told)
          (λ step is.
          subst (λ (p : Path). IsBounded c.args.levels p tree) (ap (λ (x : Path). path ++ x) is)
          (subst (λ (x : Tree). IsBounded c.args.levels (path ++ e.step) x) (loop.still told).stays.tree (c.in_ok-look_at_entry.ensures.laid now)));
    }

pub look_below-returns-clause-laid : goal.look_below-returns-clause-laid
look_below-returns-clause-laid g t c = λ told.
    let disk = g.T.FileTree.disk in
    let loop = c.loop-entry.invariant in
    let tree = (disk c.args.tree.now).tree in
    all_bounded (disk c.args.tree.now) (g.met.T.FileTree.sound c.args.tree.now (loop.told told)) c.args.levels c.args.path.now
    (looked_all tree c.args.path.now c.deref-entry-items.result.now (loop.listing told) (λ step. IsBounded c.args.levels (entry c.args.path.now step) tree) c.loop-entry.entry-index c.loop-entry-test.false (loop.looked told))

pub look_at_entry-returns-in-File-clause-laid : goal.look_at_entry-returns-in-File-clause-laid
look_at_entry-returns-in-File-clause-laid g t c = λ told.
    let disk = g.T.FileTree.disk in
    let dir = c.args.dir.now in
    let e = c.args.entry.now in
    free_bounded (disk c.args.tree.now) (g.met.T.FileTree.sound c.args.tree.now told) c.args.levels (dir ++ e.step)
    (inr (entry_file (disk c.args.tree.now).tree dir (dir ++ e.step) e (c.requires.entry told) refl c.in-File.is))

pub look_at_entry-look_below-requires : goal.look_at_entry-look_below-requires
look_at_entry-look_below-requires g t c κs within =
    let one : length c.args.entry.now.step ≡ 1 = omega arith in
    let path = entry_path c.args.dir.now c.in_ok-path.path c.args.entry.now.step c.step.result.now one c.step.ensures.bytes c.in_ok-path.ensures in (
      omega arith,
      (
        within,
        λ told. entry_dir (g.T.FileTree.disk c.args.tree.now).tree c.args.dir.now c.in_ok-path.path c.args.entry.now (c.requires.entry told) path c.in-Dir-2.is,
      ),
    )

pub look_at_entry-returns-in-Dir-2-clause-laid : goal.look_at_entry-returns-in-Dir-2-clause-laid
look_at_entry-returns-in-Dir-2-clause-laid g t c = λ now.
    let tree = (g.T.FileTree.disk c.args.tree.now).tree in
    let one : length c.args.entry.now.step ≡ 1 = omega arith in
    let path = entry_path c.args.dir.now c.in_ok-path.path c.args.entry.now.step c.step.result.now one c.step.ensures.bytes c.in_ok-path.ensures in
    let count : c.args.levels - 1 + 1 ≡ c.args.levels = omega arith in
    subst (λ (n : ℕ). OnOk c.look_below.result (IsBounded n (c.args.dir.now ++ c.args.entry.now.step) tree)) count
    (subst (λ (p : Path). OnOk c.look_below.result (IsBounded (c.args.levels - 1 + 1) p tree)) path (c.look_below.ensures.laid now))

pub look_at_entry-returns-in-Dir-clause-damaged : goal.look_at_entry-returns-in-Dir-clause-damaged
look_at_entry-returns-in-Dir-clause-damaged g t c = λ told q is.
    let one : length c.args.entry.now.step ≡ 1 = omega arith in
    let path = entry_path c.args.dir.now c.in_ok-path.path c.args.entry.now.step c.step.result.now one c.step.ensures.bytes c.in_ok-path.ensures in
    let same : q ≡ c.in_ok-path.path = cc in
    let tree = (g.T.FileTree.disk c.args.tree.now).tree in
    below_itself tree (c.args.dir.now ++ c.args.entry.now.step) q c.args.levels (omega arith) (same ∙ path)
    (subst (IsDir tree) (sym same) (entry_dir tree c.args.dir.now c.in_ok-path.path c.args.entry.now (c.requires.entry told) path c.in-Dir.is))

pub look_at_entry-returns-in-Dir-2-clause-damaged : goal.look_at_entry-returns-in-Dir-2-clause-damaged
look_at_entry-returns-in-Dir-2-clause-damaged g t c = λ now q is.
    let one : length c.args.entry.now.step ≡ 1 = omega arith in
    let path = entry_path c.args.dir.now c.in_ok-path.path c.args.entry.now.step c.step.result.now one c.step.ensures.bytes c.in_ok-path.ensures in
    below_along (g.T.FileTree.disk c.args.tree.now).tree c.in_ok-path.path (c.args.dir.now ++ c.args.entry.now.step) q (c.args.levels - 1 + 1) c.args.levels path (omega arith) (c.look_below.ensures.damaged now q is)
