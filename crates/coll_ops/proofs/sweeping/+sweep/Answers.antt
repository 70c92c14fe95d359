use Rattle.std.proofs.Common.{◌≡◌, ◌++◌, ◌+◌, ◌-◌, ◌∙◌, sym, subst, length, OnOk, None, arith}
use Rattle.tree_api.specs.Tree.{Path, IsDir}
use Rattle.coll_ops.specs.Changes.{Sweeps}
use Rattle.coll_ops.proofs.Paths.{within_below}
use Rattle.coll_ops.proofs.Clearing.{gone_sweeps, name_gone, sweeps_then, entry_now, cleared_more, cleared_all, entry_path, entry_file, entry_dir, never_root, faults_then}
use Rattle.coll_ops.proofs.Depth.{deeper, below_itself, below_along}
use Rattle.index_fault.specs.declared.IndexFault.TheVariants.{Damaged}
use Rattle.lfn_index.proofs.Known.{handed_on}
use Rattle.coll_ops.proofs.sweeping.+sweep.Goals as goal

pub sweep_dir-sweep_entry-requires : goal.sweep_dir-sweep_entry-requires
sweep_dir-sweep_entry-requires g t c κs within =
    let disk = g.T.FileTree.disk in
    let loop = c.loop-entry.invariant in (
      omega arith,
      (
        within,
        λ told. entry_now (disk c.args.tree.now) (disk c.loop-entry.tree) c.args.path.now c.deref-entry-items.result.now (loop.listing told) c.loop-entry.entry-index c.loop-entry-test.true c.entry-item.result c.entry-item.is
            (loop.sweeps told) (loop.cleared told),
      ),
    )

pub sweep_dir-returns-in_err-sweep_entry-clause-leaves : goal.sweep_dir-returns-in_err-sweep_entry-clause-leaves
sweep_dir-returns-in_err-sweep_entry-clause-leaves g t c = λ now.
    let disk = g.T.FileTree.disk in
    let told = c.sweep_entry.ensures.told now in
    sweeps_then c.args.path.now (c.args.path.now ++ c.entry-item.result.step) (disk c.args.tree.now) (disk c.loop-entry.tree) (disk c.sweep_entry.new.tree) (g.met.T.FileTree.sound c.loop-entry.tree told)
    (λ q w. within_below c.args.path.now c.entry-item.result.step q w) (c.loop-entry.invariant.sweeps told) (c.sweep_entry.ensures.leaves now)

pub sweep_dir-returns-in_err-sweep_entry-clause-damaged : goal.sweep_dir-returns-in_err-sweep_entry-clause-damaged
sweep_dir-returns-in_err-sweep_entry-clause-damaged g t c = λ now q is.
    let disk = g.T.FileTree.disk in
    let loop = c.loop-entry.invariant in
    let told = c.sweep_entry.ensures.told now in
    let e = entry_now (disk c.args.tree.now) (disk c.loop-entry.tree) c.args.path.now c.deref-entry-items.result.now (loop.listing told) c.loop-entry.entry-index c.loop-entry-test.true c.entry-item.result c.entry-item.is
    (loop.sweeps told) (loop.cleared told) in
    deeper (disk c.args.tree.now) (disk c.loop-entry.tree) c.args.path.now c.entry-item.result.step c.args.levels q e.1 (loop.sweeps told) (c.sweep_entry.ensures.damaged now q
    (handed_on c.sweep_entry.result c.from_residual-in_err-sweep_entry.result c.in_err-sweep_entry.field-0.0 (Damaged q) c.in_err-sweep_entry.was c.from_residual-in_err-sweep_entry.ensures.1 is))

pub sweep_dir-loop-entry-preserved : goal.sweep_dir-loop-entry-preserved
sweep_dir-loop-entry-preserved g t c =
    let disk = g.T.FileTree.disk in
    let loop = c.loop-entry.invariant in
    record {
      told = λ now. loop.told (c.sweep_entry.ensures.told now);
      counts = faults_then ⊥ _ (disk c.args.tree.now) (disk c.loop-entry.tree) (disk c.sweep_entry.new.tree) loop.counts c.sweep_entry.ensures.counts;
      sweeps = λ now.
          let told = c.sweep_entry.ensures.told now in
          sweeps_then c.args.path.now (c.args.path.now ++ c.entry-item.result.step) (disk c.args.tree.now) (disk c.loop-entry.tree) (disk c.sweep_entry.new.tree) (g.met.T.FileTree.sound c.loop-entry.tree told)
          (λ q w. within_below c.args.path.now c.entry-item.result.step q w) (loop.sweeps told) (c.sweep_entry.ensures.leaves now);
      cleared = λ now.
          let told = c.sweep_entry.ensures.told now in
          cleared_more (disk c.args.tree.now) (disk c.loop-entry.tree) c.args.path.now c.deref-entry-items.result.now (loop.listing told) c.loop-entry.entry-index c.loop-entry-test.true c.entry-item.result c.entry-item.is
          (loop.sweeps told) (loop.cleared told) (disk c.sweep_entry.new.tree) (c.sweep_entry.ensures.leaves now) (c.in_ok-sweep_entry.ensures.gone now);
      listing = λ now. loop.listing (c.sweep_entry.ensures.told now);
    }

pub sweep_dir-remove_dir-requires-clause-empty : goal.sweep_dir-remove_dir-requires-clause-empty
sweep_dir-remove_dir-requires-clause-empty g t c = λ told.
    let disk = g.T.FileTree.disk in
    let loop = c.loop-entry.invariant in
    cleared_all (disk c.args.tree.now) (disk c.loop-entry.tree) c.args.path.now c.deref-entry-items.result.now c.loop-entry.entry-index (loop.listing told) (c.requires.dir (loop.told told)) (loop.sweeps told) (loop.cleared told)
    c.loop-entry-test.false

pub sweep_dir-returns-in_err-remove_dir-clause-leaves : goal.sweep_dir-returns-in_err-remove_dir-clause-leaves
sweep_dir-returns-in_err-remove_dir-clause-leaves g t c = λ now.
    let disk = g.T.FileTree.disk in
    let told = c.remove_dir.ensures.told now in
    let sound = g.met.T.FileTree.sound c.loop-entry.tree told in
    sweeps_then c.args.path.now c.args.path.now (disk c.args.tree.now) (disk c.loop-entry.tree) (disk c.remove_dir.new.self) sound (λ q w. w) (c.loop-entry.invariant.sweeps told)
    (gone_sweeps c.args.path.now (disk c.loop-entry.tree) (disk c.remove_dir.new.self) c.remove_dir.result sound (c.remove_dir.ensures.change now))

pub sweep_dir-returns-clause-leaves : goal.sweep_dir-returns-clause-leaves
sweep_dir-returns-clause-leaves g t c = λ now.
    let disk = g.T.FileTree.disk in
    let told = c.remove_dir.ensures.told now in
    let sound = g.met.T.FileTree.sound c.loop-entry.tree told in
    sweeps_then c.args.path.now c.args.path.now (disk c.args.tree.now) (disk c.loop-entry.tree) (disk c.remove_dir.new.self) sound (λ q w. w) (c.loop-entry.invariant.sweeps told)
    (gone_sweeps c.args.path.now (disk c.loop-entry.tree) (disk c.remove_dir.new.self) c.remove_dir.result sound (c.remove_dir.ensures.change now))

pub sweep_entry-remove_file-requires : goal.sweep_entry-remove_file-requires
sweep_entry-remove_file-requires g t c =
    let one : length c.args.entry.now.step ≡ 1 = omega arith in
    let path = entry_path c.args.dir.now c.in_ok-path.path c.args.entry.now.step c.step.result.now one c.step.ensures.bytes c.in_ok-path.ensures in
    record { file = λ told. entry_file (g.T.FileTree.disk c.args.tree.now).tree c.args.dir.now c.in_ok-path.path c.args.entry.now (c.requires.entry told) path c.in-File.is }

pub sweep_entry-returns-in_err-remove_file-in-File-clause-leaves : goal.sweep_entry-returns-in_err-remove_file-in-File-clause-leaves
sweep_entry-returns-in_err-remove_file-in-File-clause-leaves g t c = λ now.
    let disk = g.T.FileTree.disk in
    let one : length c.args.entry.now.step ≡ 1 = omega arith in
    let path = entry_path c.args.dir.now c.in_ok-path.path c.args.entry.now.step c.step.result.now one c.step.ensures.bytes c.in_ok-path.ensures in
    subst (λ (p : Path). Sweeps p (disk c.args.tree.now) (disk c.remove_file.new.self)) path
    (gone_sweeps c.in_ok-path.path (disk c.args.tree.now) (disk c.remove_file.new.self) c.remove_file.result (g.met.T.FileTree.sound c.args.tree.now (c.remove_file.ensures.told now)) (c.remove_file.ensures.change now))

pub sweep_entry-sweep_dir-requires : goal.sweep_entry-sweep_dir-requires
sweep_entry-sweep_dir-requires g t c κs within =
    let one : length c.args.entry.now.step ≡ 1 = omega arith in
    let path = entry_path c.args.dir.now c.in_ok-path.path c.args.entry.now.step c.step.result.now one c.step.ensures.bytes c.in_ok-path.ensures in (
      omega arith,
      (
        within,
        (
          never_root c.args.dir.now c.in_ok-path.path c.step.result.now c.in_ok-path.ensures,
          λ told. entry_dir (g.T.FileTree.disk c.args.tree.now).tree c.args.dir.now c.in_ok-path.path c.args.entry.now (c.requires.entry told) path c.in-Dir-2.is,
        ),
      ),
    )

pub sweep_entry-returns-in_ok-remove_file-in-File-clause-leaves : goal.sweep_entry-returns-in_ok-remove_file-in-File-clause-leaves
sweep_entry-returns-in_ok-remove_file-in-File-clause-leaves g t c = λ now.
    let disk = g.T.FileTree.disk in
    let one : length c.args.entry.now.step ≡ 1 = omega arith in
    let path = entry_path c.args.dir.now c.in_ok-path.path c.args.entry.now.step c.step.result.now one c.step.ensures.bytes c.in_ok-path.ensures in
    subst (λ (p : Path). Sweeps p (disk c.args.tree.now) (disk c.remove_file.new.self)) path
    (gone_sweeps c.in_ok-path.path (disk c.args.tree.now) (disk c.remove_file.new.self) c.remove_file.result (g.met.T.FileTree.sound c.args.tree.now (c.remove_file.ensures.told now)) (c.remove_file.ensures.change now))

pub sweep_entry-returns-in_ok-remove_file-in-File-clause-gone : goal.sweep_entry-returns-in_ok-remove_file-in-File-clause-gone
sweep_entry-returns-in_ok-remove_file-in-File-clause-gone g t c = λ now.
    let one : length c.args.entry.now.step ≡ 1 = omega arith in
    let path = entry_path c.args.dir.now c.in_ok-path.path c.args.entry.now.step c.step.result.now one c.step.ensures.bytes c.in_ok-path.ensures in
    let disk = g.T.FileTree.disk in
    name_gone c.in_ok-path.path (c.args.dir.now ++ c.args.entry.now.step) (disk c.args.tree.now) (disk c.remove_file.new.self) c.in_ok-remove_file-in-File.field-0 (c.in_ok-remove_file-in-File.ensures.change now) path

pub sweep_entry-returns-in-Dir-2-clause-leaves : goal.sweep_entry-returns-in-Dir-2-clause-leaves
sweep_entry-returns-in-Dir-2-clause-leaves g t c = λ now.
    let disk = g.T.FileTree.disk in
    let one : length c.args.entry.now.step ≡ 1 = omega arith in
    let path = entry_path c.args.dir.now c.in_ok-path.path c.args.entry.now.step c.step.result.now one c.step.ensures.bytes c.in_ok-path.ensures in
    subst (λ (p : Path). Sweeps p (disk c.args.tree.now) (disk c.sweep_dir.new.tree)) path (c.sweep_dir.ensures.leaves now)

pub sweep_entry-returns-in-Dir-2-clause-gone : goal.sweep_entry-returns-in-Dir-2-clause-gone
sweep_entry-returns-in-Dir-2-clause-gone g t c = λ now.
    let one : length c.args.entry.now.step ≡ 1 = omega arith in
    let path = entry_path c.args.dir.now c.in_ok-path.path c.args.entry.now.step c.step.result.now one c.step.ensures.bytes c.in_ok-path.ensures in
    subst (λ (p : Path). OnOk c.sweep_dir.result ((g.T.FileTree.disk c.sweep_dir.new.tree).tree.at p ≡ None)) path (c.sweep_dir.ensures.gone now)

pub sweep_entry-returns-in-Dir-clause-damaged : goal.sweep_entry-returns-in-Dir-clause-damaged
sweep_entry-returns-in-Dir-clause-damaged g t c = λ told q is.
    let one : length c.args.entry.now.step ≡ 1 = omega arith in
    let path = entry_path c.args.dir.now c.in_ok-path.path c.args.entry.now.step c.step.result.now one c.step.ensures.bytes c.in_ok-path.ensures in
    let same : q ≡ c.in_ok-path.path = cc in
    let tree = (g.T.FileTree.disk c.args.tree.now).tree in
    below_itself tree (c.args.dir.now ++ c.args.entry.now.step) q c.args.levels (omega arith) (same ∙ path)
    (subst (IsDir tree) (sym same) (entry_dir tree c.args.dir.now c.in_ok-path.path c.args.entry.now (c.requires.entry told) path c.in-Dir.is))

pub sweep_entry-returns-in-Dir-2-clause-damaged : goal.sweep_entry-returns-in-Dir-2-clause-damaged
sweep_entry-returns-in-Dir-2-clause-damaged g t c = λ now q is.
    let one : length c.args.entry.now.step ≡ 1 = omega arith in
    let path = entry_path c.args.dir.now c.in_ok-path.path c.args.entry.now.step c.step.result.now one c.step.ensures.bytes c.in_ok-path.ensures in
    below_along (g.T.FileTree.disk c.args.tree.now).tree c.in_ok-path.path (c.args.dir.now ++ c.args.entry.now.step) q (c.args.levels - 1 + 1) c.args.levels path (omega arith) (c.sweep_dir.ensures.damaged now q is)
