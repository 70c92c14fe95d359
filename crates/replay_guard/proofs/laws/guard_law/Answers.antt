use Rattle.replay_guard.proofs.Spelling.{guard_law}
use Rattle.replay_guard.proofs.laws.guard_law.Goals as goal

pub returns : goal.returns
returns c = guard_law
