use Rattle.std.proofs.Common.{sym, ◌∙◌}
use Rattle.store_walk.proofs.Objects.{coll_read, coll_named}
use Rattle.store_walk.proofs.collections.is_coll.Goals as goal

pub returns : goal.returns
returns c = (
  λ ok. coll_read c.args.step.now c.decode_coll.result c.decode_coll.ensures (sym c.is_ok.ensures.value ∙ ok),
  λ coll. c.is_ok.ensures.value ∙ coll_named c.args.step.now c.decode_coll.result c.decode_coll.ensures coll,
)
