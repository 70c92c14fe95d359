use Rattle.std.proofs.Common.{◌==◌, sym}
use Rattle.fs_script.proofs.Cuts.{split-none, split-at}
use Rattle.fs_script.proofs.cut.cut.Goals as goal

pub returns-in-None-clause-pieces : goal.returns-in-None-clause-pieces
returns-in-None-clause-pieces c = split-none (λ b. b == c.args.byte) c.args.text.now (sym c.in-None.ensures)

pub returns-in-Some-clause-pieces : goal.returns-in-Some-clause-pieces
returns-in-Some-clause-pieces c = split-at (λ b. b == c.args.byte) c.args.text.now c.in-Some.end (sym c.in-Some.ensures)
