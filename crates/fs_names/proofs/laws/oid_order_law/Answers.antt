use Rattle.fs_names.proofs.OidLaw.{oid_order_by_texts}
use Rattle.fs_names.proofs.laws.oid_order_law.Goals as goal

pub returns : goal.returns
returns c = oid_order_by_texts
