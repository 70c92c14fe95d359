use Rattle.std.proofs.Common.{◌∙◌}
use Rattle.hex.specs.Hex.{encode_lower}
use Rattle.filestore_cli.proofs.Lines.{fsids_shape}
use Rattle.filestore_cli.proofs.stop.print_fsids.Goals as goal

pub returns : goal.returns
returns c = c.blob.ensures ∙ c.in_ok-line.ensures.ok ∙ fsids_shape _ _ (encode_lower c.args.tree.now) (encode_lower c.args.ring.now) c.in_ok-tree.ensures c.in_ok-ring.ensures
