use Rattle.std.proofs.Common.{◌∙◌, append_assoc}
use Rattle.fs_script.specs.Printed.{answer_text}
use Rattle.fs_script.proofs.print.print_too_large.Goals as goal

pub returns : goal.returns
unfolding answer_text
returns c = c.blob.ensures ∙ c.in_ok-text.ensures.ok ∙ simp append_assoc
