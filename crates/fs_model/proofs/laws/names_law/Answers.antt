use Rattle.fs_names.specs.Order.{oid_cmp_total, oid_cmp-IsAntisymmetric}
use Rattle.fs_model.proofs.Listings.{keys-rise, keys-are}
use Rattle.fs_model.proofs.laws.names_law.Goals as goal

pub returns-clause-rise : goal.returns-clause-rise
returns-clause-rise c = λ s. keys-rise s

pub returns-clause-only : goal.returns-clause-only
returns-clause-only c = λ s l rises all. keys-are oid_cmp_total oid_cmp-IsAntisymmetric s l rises all
