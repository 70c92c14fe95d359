use Rattle.tree_places.specs.Images.{StoreImage}
use Rattle.history_tails.proofs.Tails.{tail_self, tail_begun, tail_more, at_tail, stands_tail}
use Rattle.history_tails.proofs.tail_law.Goals as goal

pub returns-clause-itself : goal.returns-clause-itself
returns-clause-itself c = tail_self

pub returns-clause-begun : goal.returns-clause-begun
returns-clause-begun c = tail_begun

pub returns-clause-more : goal.returns-clause-more
returns-clause-more c = tail_more

pub returns-clause-objects : goal.returns-clause-objects
returns-clause-objects c = at_tail

pub returns-clause-stands : goal.returns-clause-stands
returns-clause-stands c = λ id. stands_tail (StoreImage id)
