use Rattle.std.proofs.Common.{arith}
use Rattle.fs_names.proofs.Digits.{digits_spell}
use Rattle.fs_names.proofs.number.number_law.Goals as goal

pub returns-clause-decimal : goal.returns-clause-decimal
returns-clause-decimal c = digits_spell 10 (omega arith) (omega arith)

pub returns-clause-hexadecimal : goal.returns-clause-hexadecimal
returns-clause-hexadecimal c = digits_spell 16 (omega arith) (omega arith)
