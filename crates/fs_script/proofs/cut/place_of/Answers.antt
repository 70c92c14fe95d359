use Rattle.std.proofs.Common.{◌==◌}
use Rattle.fs_script.proofs.Cuts.{first-position}
use Rattle.fs_script.proofs.cut.place_of.Goals as goal

pub returns : goal.returns
returns c = first-position (λ b. b == c.args.byte) c.args.text.now _ c.memchr.ensures
