use Rattle.store_files.proofs.Spelled.{no_split, no_lfn, no_mode, no_end, some_left}
use Rattle.store_files.proofs.settings.values.Goals as goal

pub returns-in_err-split : goal.returns-in_err-split
returns-in_err-split c = rw c.from_residual-in_err-split.ensures (no_split c.args.text.now c.in_ok-merge.merge.now c.in_ok-merge.rest.now c.in_ok-merge.ensures c.in_err-split.ensures)

pub returns-in_err-lfn : goal.returns-in_err-lfn
returns-in_err-lfn c =
    rw c.from_residual-in_err-lfn.ensures
    (no_lfn c.args.text.now c.in_ok-merge.merge.now c.in_ok-merge.rest.now c.in_ok-merge.ensures c.in_ok-split.split.now c.in_ok-split.rest.now c.in_ok-split.ensures c.in_err-lfn.ensures)

pub returns-in_err-mode : goal.returns-in_err-mode
returns-in_err-mode c =
    rw c.from_residual-in_err-mode.ensures
    (no_mode c.args.text.now c.in_ok-merge.merge.now c.in_ok-merge.rest.now c.in_ok-merge.ensures c.in_ok-split.split.now c.in_ok-split.rest.now c.in_ok-split.ensures
    c.in_ok-lfn.lfn.now c.in_ok-lfn.rest.now c.in_ok-lfn.ensures c.in_err-mode.ensures)

pub returns-else-is_empty : goal.returns-else-is_empty
returns-else-is_empty c =
    no_end c.args.text.now c.in_ok-merge.merge.now c.in_ok-merge.rest.now c.in_ok-merge.ensures c.in_ok-split.split.now c.in_ok-split.rest.now c.in_ok-split.ensures
    c.in_ok-lfn.lfn.now c.in_ok-lfn.rest.now c.in_ok-lfn.ensures c.in_ok-mode.mode.now c.in_ok-mode.rest.now c.in_ok-mode.ensures
    (some_left c.in_ok-mode.rest.now c.is_empty.result c.is_empty.ensures c.if-is_empty.false)
