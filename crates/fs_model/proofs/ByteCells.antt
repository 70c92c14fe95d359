-- What a write does to each byte, where a byte past the end is 0.
use Rattle.std.proofs.Common.{◌≡◌, ◌+◌, ◌-◌, ◌<◌, ◌≤◌, ℕ, max, List, [], ◌∷◌, ◌++◌, length, get_or, take, drop, replicate, arith, refl}
use Rattle.std.proofs.lemmas.Grind.{common_steps}
use Rattle.fs_model.specs.Rows.{overwrite}

padded : List ℕ → ℕ → List ℕ
padded old at = take at old ++ replicate (at - length old) 0

length-padded : (old : List ℕ) (at : ℕ) → length (padded old at) ≡ at
unfolding padded
length-padded old at = grind (arith, common_steps)

byte-padded : (old : List ℕ) (at i : ℕ) → i < at → get_or (padded old at) i 0 ≡ get_or old i 0
unfolding padded
byte-padded old at i h = grind (arith, common_steps)

-- outside of what is written
pub byte-before : (old : List ℕ) (at : ℕ) (bytes : List ℕ) (i : ℕ) → i < at → get_or (overwrite old at bytes) i 0 ≡ get_or old i 0
byte-before old at [] i h = refl
byte-before old at (b ∷ bs) i h = grind (arith, common_steps)

in_middle : (p b d : List ℕ) (at i : ℕ) → length p ≡ at → at ≤ i → i < at + length b → get_or ((p ++ b) ++ d) i 0 ≡ get_or b (i - at) 0
in_middle p b d at i e h k = grind (arith, common_steps)

pub byte-within : (old : List ℕ) (at : ℕ) (bytes : List ℕ) (i : ℕ) → at ≤ i → i < at + length bytes → get_or (overwrite old at bytes) i 0 ≡ get_or bytes (i - at) 0
unfolding padded
byte-within old at [] i h k = absurd (omega arith)
byte-within old at (b ∷ bs) i h k = in_middle (padded old at) (b ∷ bs) (drop (at + length (b ∷ bs)) old) at i (length-padded old at) h k

pub byte-after : (old : List ℕ) (at : ℕ) (bytes : List ℕ) (i : ℕ) → at + length bytes ≤ i → get_or (overwrite old at bytes) i 0 ≡ get_or old i 0
byte-after old at [] i h = refl
byte-after old at (b ∷ bs) i h = grind (arith, common_steps)

length-some : (old : List ℕ) (at b : ℕ) (bs : List ℕ) → length (overwrite old at (b ∷ bs)) ≡ max (length old) (at + length (b ∷ bs))
length-some old at b bs = grind (arith, common_steps)

pub length-overwrite : (old : List ℕ) (at : ℕ) (bytes : List ℕ) → (bytes ≡ [] → ⊥) → length (overwrite old at bytes) ≡ max (length old) (at + length bytes)
length-overwrite old at [] some = absurd (some refl)
length-overwrite old at (b ∷ bs) some = length-some old at b bs
