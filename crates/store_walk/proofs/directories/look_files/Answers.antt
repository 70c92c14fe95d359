use Rattle.std.proofs.Common.{rules, sym, subst}
use Rattle.index_fault.specs.declared.IndexFault.TheVariants.{Damaged}
use Rattle.tree_api.specs.Answer.{IsListing}
use Rattle.lfn_index.proofs.Known.{handed_on}
use Rattle.store_walk.proofs.Looked.{item_dir, files_looked, files_hold}
use Rattle.store_walk.proofs.directories.look_files.Goals as goal

pub returns-in_err-look_file-clause-damaged : goal.returns-in_err-look_file-clause-damaged
returns-in_err-look_file-clause-damaged g c = λ t p is files.
    let tree = (g.T.FileTree.disk c.args.tree.now).tree in
    let listing = subst (IsListing tree c.args.dir.now) (sym c.deref-entry-items.ensures.value) (c.in_ok-entries.ensures.entries (search rules)) in
    item_dir tree c.args.dir.now c.deref-entry-items.result.now listing c.loop-entry.entry-index c.loop-entry-test.true c.entry-item.result c.entry-item.is
    (c.look_file.ensures.damaged p
    (handed_on c.look_file.result c.from_residual-in_err-look_file.result c.in_err-look_file.field-0.0 (Damaged p) c.in_err-look_file.was c.from_residual-in_err-look_file.ensures.1 is))
    files

pub returns-clause-laid : goal.returns-clause-laid
returns-clause-laid g c = λ t.
    let tree = (g.T.FileTree.disk c.args.tree.now).tree in
    let es = c.deref-entry-items.result.now in
    let listing = subst (IsListing tree c.args.dir.now) (sym c.deref-entry-items.ensures.value) (c.in_ok-entries.ensures.entries (search rules)) in
    files_hold tree c.args.dir.now es listing c.loop-entry.entry-index c.loop-entry-test.false (files_looked tree c.args.dir.now es listing c.loop-entry.entry-index c.loop-entry.invariant.files)
