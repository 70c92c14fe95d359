-- The entries of a ring, read from its start on. A ring that begins at its start place has no wrap: `bytes` is what
-- is left of it, the first byte at the next place.
use Rattle.std.specs.Prelude.{◌≡◌, ◌≢◌, ◌⊎◌, ℕ, zero, suc, ◌+◌, ◌*◌, ◌^◌, Bool, ◌&&◌, leb, ltb, ◌==◌, List, [], ◌∷◌, ◌++◌, take, drop, Option, Some, None, if◌then◌else◌}
use Rattle.ring_frame.specs.Frame.{Entry, entry, entry_magic, size_of, block_size}

-- what a ring's header tells its reader
pub record Ring : Type 0 where
  pub fsid : List ℕ
  -- the highest epoch of an entry
  pub top : ℕ
  -- the place on the device of the byte at this offset from the start
  pub place : ℕ → ℕ

-- the entry has this number, and an epoch from low up to the header's
abbrev pub goes_on : Ring → ℕ → ℕ → Entry → Bool
goes_on ring seq low e = e.seq == seq && (leb low e.epoch && (leb e.epoch ring.top && ltb seq (2 ^ 63)))

abbrev pub if_goes_on : Ring → ℕ → ℕ → Option Entry → Option Entry
if_goes_on ring seq low None = None
if_goes_on ring seq low (Some e) = if goes_on ring seq low e then Some e else None

-- the entry that is read next
abbrev pub next : Ring → ℕ → ℕ → ℕ → List ℕ → Option Entry
next ring offset seq low bytes = if_goes_on ring seq low (entry ring.fsid (ring.place offset) bytes)

-- These are the entries that are read from the bytes on, and no more follows.
abbrev pub IsRead : Ring → ℕ → ℕ → ℕ → List ℕ → List Entry → Type 0
IsRead ring offset seq low bytes [] = next ring offset seq low bytes ≡ None
IsRead ring offset seq low bytes (e ∷ es) =
    (next ring offset seq low bytes ≡ Some e)
    × IsRead ring (offset + size_of e) (seq + 1) e.epoch (drop (size_of e) bytes) es

-- there is at most one such list
abbrev pub AtMostOne : (List Entry → Type 0) → Type 0
AtMostOne P = (es fs : List Entry) → P es → P fs → es ≡ fs

-- they stand there, whatever follows
abbrev pub Stand : Ring → ℕ → ℕ → ℕ → List ℕ → List Entry → Type 0
Stand ring offset seq low bytes [] = Unit {0}
Stand ring offset seq low bytes (e ∷ es) =
    (next ring offset seq low bytes ≡ Some e)
    × Stand ring (offset + size_of e) (seq + 1) e.epoch (drop (size_of e) bytes) es

-- the entries that are read, at most n
unfoldable pub read_from : ℕ → Ring → ℕ → ℕ → ℕ → List ℕ → List Entry
read_from zero ring offset seq low bytes = []
read_from (suc n) ring offset seq low bytes = elim (next ring offset seq low bytes) as (λ _. List Entry) [
  | None ↦ []
  | Some e ↦ e ∷ read_from n ring (offset + size_of e) (seq + 1) e.epoch (drop (size_of e) bytes)
]

-- no block begins as an entry does
abbrev pub IsClean : List ℕ → Type 0
IsClean bytes = (k : ℕ) → take 8 (drop (block_size * k) bytes) ≢ entry_magic

-- nor does the first
abbrev pub EndsAt : List ℕ → Type 0
EndsAt bytes = take 8 bytes ≢ entry_magic

-- an entry of the image at this place is one of before the writes since the last sync or of after them
abbrev pub EntryOf : Ring → ℕ → List ℕ → List ℕ → List ℕ → Type 0
EntryOf ring offset before after image = (e : Entry) → entry ring.fsid (ring.place offset) image ≡ Some e
    → (entry ring.fsid (ring.place offset) before ≡ Some e) ⊎ (entry ring.fsid (ring.place offset) after ≡ Some e)

-- No seal matches by chance: an entry that the image has at a place where its reader looks is one that stands there
-- before the writes since the last sync or after them. `es` are the entries that are read of the image.
abbrev pub NoChance : Ring → ℕ → List ℕ → List ℕ → List ℕ → List Entry → Type 0
NoChance ring offset before after image [] = EntryOf ring offset before after image
NoChance ring offset before after image (e ∷ es) =
    EntryOf ring offset before after image
    × NoChance ring (offset + size_of e) (drop (size_of e) before) (drop (size_of e) after) (drop (size_of e) image) es

-- the bytes that they take together
abbrev pub sizes : List Entry → ℕ
sizes [] = 0
sizes (e ∷ es) = size_of e + sizes es

-- the first list begins the second
abbrev pub Begins : List Entry → List Entry → Type 0
Begins es all = (rest : List Entry) × (all ≡ es ++ rest)
