use Rattle.store_files.proofs.Decimals.{number_read}
use Rattle.store_files.proofs.values.number.Goals as goal

pub returns : goal.returns
returns c = number_read c.args.text.now c.decimal.result c.decimal.ensures
