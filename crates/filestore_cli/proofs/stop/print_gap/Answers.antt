use Rattle.std.proofs.Common.{◌∙◌, append_assoc}
use Rattle.filestore_cli.proofs.stop.print_gap.Goals as goal

pub returns : goal.returns
returns c = c.blob.ensures ∙ c.in_ok-line.ensures.ok ∙ simp append_assoc
