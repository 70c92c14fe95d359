use Rattle.std.proofs.Common.{◌∙◌, ap}
use Rattle.txn_codec.specs.Reading.{decoded}
use Rattle.store_mount.proofs.replaying.redo_entry.Goals as goal

pub returns-in-Ok-clause-keeps : goal.returns-in-Ok-clause-keeps
returns-in-Ok-clause-keeps g c = λ tells lt h hi ops le all dec is here reads. c.redo.ensures.keeps tells lt h hi ops le all (ap decoded c.slice.ensures ∙ dec) is here reads

pub returns-in-Err-clause-keeps : goal.returns-in-Err-clause-keeps
returns-in-Err-clause-keeps g c = λ tells lt h hi ops le all dec is here reads. c.redo.ensures.keeps tells lt h hi ops le all (ap decoded c.slice.ensures ∙ dec) is here reads

pub returns-in-Ok-clause-done : goal.returns-in-Ok-clause-done
returns-in-Ok-clause-done g c = λ tells lt h hi ops le all dec is here reads. c.in-Ok.ensures.done tells lt h hi ops le all (ap decoded c.slice.ensures ∙ dec) is here reads
