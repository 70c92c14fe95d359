-- The same under the weakest premise on the free space: where a reader may look, nothing goes on.
use Rattle.std.specs.Prelude.{◌≡◌, ℕ, ◌+◌, List, [], ◌∷◌, drop, Some, None}
use Rattle.ring_frame.specs.Frame.{Entry, size_of}
use Rattle.ring_images.specs.Readable.{Ring, next}

-- before the writes no entry goes on at the places of these, nor behind them
abbrev pub Silent : Ring → ℕ → ℕ → ℕ → List ℕ → List Entry → Type 0
Silent ring offset seq low before [] = next ring offset seq low before ≡ None
Silent ring offset seq low before (e ∷ es) =
    (next ring offset seq low before ≡ None) × Silent ring (offset + size_of e) (seq + 1) e.epoch (drop (size_of e) before) es

-- before the writes these stand, and behind them all is silent at the places of those
abbrev pub SilentAfter : Ring → ℕ → ℕ → ℕ → List ℕ → List Entry → List Entry → Type 0
SilentAfter ring offset seq low before [] es = Silent ring offset seq low before es
SilentAfter ring offset seq low before (f ∷ fs) es =
    (next ring offset seq low before ≡ Some f) × SilentAfter ring (offset + size_of f) (seq + 1) f.epoch (drop (size_of f) before) fs es
