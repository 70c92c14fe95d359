use Rattle.store_files.proofs.Decimals.{no_dashed}
use Rattle.store_files.proofs.values.merge.Goals as goal

pub returns-in_err-within-in-Some : goal.returns-in_err-within-in-Some
returns-in_err-within-in-Some c = rw c.from_residual.ensures (no_dashed c.args.text.now c.in-Some.digits.now c.in-Some.ensures c.in_err-within-in-Some.ensures)
