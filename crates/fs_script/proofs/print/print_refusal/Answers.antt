use Rattle.std.proofs.Common.{◌∙◌, append_assoc}
use Rattle.fs_script.specs.Printed.{refusal_text}
use Rattle.fs_script.proofs.print.print_refusal.Goals as goal

pub returns : goal.returns
unfolding refusal_text
returns c = c.blob.ensures ∙ c.in_ok-text.ensures.ok ∙ simp (c.script_why_str-why.ensures, append_assoc)
