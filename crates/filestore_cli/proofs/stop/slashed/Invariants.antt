use Rattle.std.proofs.Common.{◌≡◌, take}
use Rattle.filestore_cli.specs.Stop.{slashed as text_of}
use Rattle.filestore_cli.proofs.stop.slashed.Given as goal

abbrev pub invariant-loop-i : goal.invariant-loop-i
invariant-loop-i l = record {
  text : l.text.items ≡ text_of (take l.i l.path);
}
