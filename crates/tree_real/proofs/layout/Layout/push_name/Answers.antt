use Rattle.std.proofs.Common.{string_bytes}
use Rattle.tree_real.proofs.Placing.{pieced}
use Rattle.tree_real.proofs.layout.Layout.push_name.Goals as goal

pub loop-k-preserved : goal.loop-k-preserved
loop-k-preserved c = record {
  file = pieced c.args.name.now (string_bytes c.args.file.now) (string_bytes c.loop-k.file) _ c.loop-k.k c.loop-k.invariant.file c.in_ok-push_digits.ensures;
}
