use Rattle.std.proofs.Common.{ℕ, All, Contains, take}
use Rattle.tree_api.specs.declared.tree.Entry.{Entry}
use Rattle.lfn_index.specs.Subdirs.{HasDigit}
use Rattle.lfn_index.proofs.subdirs.subdir_digits.Given as goal

abbrev pub invariant-loop-entry : goal.invariant-loop-entry
invariant-loop-entry l = record {
  each : (digit : ℕ) → Contains l.digits.items digit → (e : Entry) × Contains l.entries e × HasDigit e digit;
  whole : All (λ e. (digit : ℕ) → HasDigit e digit → Contains l.digits.items digit) (take l.entry-index l.entries);
}
