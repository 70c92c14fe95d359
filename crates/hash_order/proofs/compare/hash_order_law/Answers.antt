use Rattle.std.proofs.Common.{◌∙◌}
use Rattle.fs_names.specs.Order.{oid_cmp_total, oid_cmp-IsAntisymmetric}
use Rattle.hash_order.proofs.compare.hash_order_law.Goals as goal

pub returns-clause-total : goal.returns-clause-total
returns-clause-total c = oid_cmp_total

pub returns-clause-ties : goal.returns-clause-ties
returns-clause-ties c = λ a b f g e. oid_cmp-IsAntisymmetric a b (c.oid_order_law.ensures a b f g ∙ e)
