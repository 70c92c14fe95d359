use Rattle.tree_shows.proofs.Showing.{done, as_before}
use Rattle.tree_shows.proofs.shows_law.Goals as goal

pub returns-clause-done : goal.returns-clause-done
returns-clause-done c = λ set O ops t plain past. done set O ops t plain past

pub returns-clause-stays : goal.returns-clause-stays
returns-clause-stays c = λ set O e f stays shows. as_before set O e f stays shows
