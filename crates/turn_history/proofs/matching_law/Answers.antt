use Rattle.turn_history.proofs.Matching.{slot_matches}
use Rattle.turn_history.proofs.matching_law.Goals as goal

pub returns : goal.returns
returns c = slot_matches
