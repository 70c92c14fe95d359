use Rattle.tree_places.proofs.Example.{no_colls, number, own}
use Rattle.tree_places.proofs.Operations.{history_law, begins}
use Rattle.tree_places.proofs.history_law.Goals as goal

pub returns-clause-history : goal.returns-clause-history
returns-clause-history c = history_law

pub returns-clause-example : goal.returns-clause-example
returns-clause-example c set n small = begins set n _ (number set n small) (own set n) (no_colls set n)
