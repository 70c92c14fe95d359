use Rattle.fs_model.proofs.ByteCells.{byte-before, byte-within, byte-after, length-overwrite}
use Rattle.fs_model.proofs.laws.overwrite_law.Goals as goal

pub returns-clause-before : goal.returns-clause-before
returns-clause-before c = byte-before

pub returns-clause-within : goal.returns-clause-within
returns-clause-within c = byte-within

pub returns-clause-after : goal.returns-clause-after
returns-clause-after c = byte-after

pub returns-clause-length : goal.returns-clause-length
returns-clause-length c = length-overwrite
