use Rattle.std.proofs.Common.{◌≡◌, ◌⊎◌, ℕ, true, slice_index}
use Rattle.tree_memory.proofs.mix.mix_slice.Given as goal

abbrev pub invariant-loop-i : goal.invariant-loop-i
invariant-loop-i l = record {
  byte : (k : ℕ) → (slice_index l.bytes k ≡ slice_index l.initial.bytes k) ⊎ (slice_index l.bytes k ≡ slice_index l.now k);
  oldest : l.chooser.oldest ≡ l.initial.chooser.oldest;
  kept : l.initial.chooser.oldest ≡ true → l.bytes ≡ l.initial.bytes;
}
