use Rattle.fs_names.proofs.Loops.{DigitsTo}
use Rattle.fs_names.proofs.short_text.ShortText.hexadecimal.Given as goal

abbrev pub invariant-loop-rest : goal.invariant-loop-rest
invariant-loop-rest l = DigitsTo l.fn.number l.bytes l.from l.rest

abbrev pub decreases-loop-rest : goal.decreases-loop-rest
decreases-loop-rest l = l.rest
