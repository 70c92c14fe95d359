use Rattle.fs_script.proofs.Cuts.{left_of}
use Rattle.fs_script.proofs.Lines.{SoFar}
use Rattle.fs_script.proofs.parse.lines.Given as goal

abbrev pub invariant-loop-rest : goal.invariant-loop-rest
invariant-loop-rest l = SoFar l.fn.text l.script l.number l.begin l.rest

abbrev pub decreases-loop-rest : goal.decreases-loop-rest
decreases-loop-rest l = left_of l.rest
