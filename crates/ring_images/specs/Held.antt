-- What a ring on a device holds, and what a crash may make of it.
use Rattle.std.specs.Prelude.{◌≡◌, ◌⊎◌, ℕ, ◌-◌, ◌<◌, ◌≤◌, List, [], ◌++◌, length, take, drop, Option, Some, None}
use Rattle.dev_api.specs.Disk.{Disk, IsImage, HasSize, Outside}
use Rattle.ring_frame.specs.Frame.{Entry, block_size, heads_size}
use Rattle.ring_frame.specs.Heads.{Head, head_in, head_of}
use Rattle.ring_images.specs.Readable.{Ring, Stand, IsClean, EndsAt, NoChance, read_from, sizes, Begins}
use Rattle.ring_images.specs.Turned.{turned, place_of}

-- how a header of a device of this size is read
abbrev pub ring_of : Head → ℕ → Ring
ring_of h size = record { fsid = h.fsid; top = h.epoch; place = place_of size h.start }

abbrev pub read_under : Option Head → List ℕ → List Entry
read_under None bytes = []
read_under (Some h) bytes = read_from (length bytes) (ring_of h (length bytes)) 0 h.seq 0 (turned h.start bytes)

-- the entries that are read of a device's bytes
unfoldable pub readable : List ℕ → List Entry
readable bytes = read_under (head_of bytes) bytes

-- a header of an image's block is one of before the writes since the last sync or of after them
abbrev pub HeadOf : ℕ → ℕ → Disk → List ℕ → Type 0
HeadOf size at d c = (h : Head) → head_in size (take block_size (drop at c)) ≡ Some h
    → (head_in size (take block_size (drop at d.stable)) ≡ Some h) ⊎ (head_in size (take block_size (drop at d.asked)) ≡ Some h)

-- a seal of the image matches by chance nowhere where a reader looks
pub record IsSound (d : Disk) (c : List ℕ) : Type 0 where
  pub first : HeadOf (length c) 0 d c
  pub second : HeadOf (length c) block_size d c
  pub entries : (h : Head) → head_of c ≡ Some h
      → NoChance (ring_of h (length c)) 0 (turned h.start d.stable) (turned h.start d.asked) (turned h.start c) (readable c)

-- what the device reads is sound
abbrev pub ReadsSound : Disk → Type 0
ReadsSound d = IsSound d d.reads

-- the entries that are synced, and all that were asked
abbrev pub synced : Disk → List Entry
synced d = readable d.stable

abbrev pub held : Disk → List Entry
held d = readable d.asked

-- these entries stand in the ring of this header
abbrev pub StandUnder : Head → List ℕ → List Entry → Type 0
StandUnder h bytes es = Stand (ring_of h h.size) 0 h.seq 0 (turned h.start bytes) es

-- The device holds the entries fs, which are synced, and then es, under the header h.
pub record OnDisk (h : Head) (size : ℕ) (fs es : List Entry) (d : Disk) : Type 0 where
  pub sized : HasSize size d
  pub low : heads_size ≤ h.start
  pub high : h.start ≤ size
  pub header : head_of d.stable ≡ Some h
  pub header_now : head_of d.asked ≡ Some h
  -- nothing was written since the last sync in the headers' blocks or over what is synced
  pub aside : (i : ℕ) → i < heads_size → Outside d.written i
  pub apart : (i : ℕ) → i < sizes fs → Outside d.written (place_of size h.start i)
  pub room : sizes (fs ++ es) ≤ size - heads_size
  pub synced : Stand (ring_of h size) 0 h.seq 0 (turned h.start d.stable) fs
  pub stand : Stand (ring_of h size) 0 h.seq 0 (turned h.start d.asked) (fs ++ es)
  -- no block behind the synced entries began with an entry at the last sync
  pub clean : IsClean (drop (sizes fs) (turned h.start d.stable))
  -- nor does the first free block now
  pub ends : EndsAt (drop (sizes (fs ++ es)) (turned h.start d.asked))

-- And it may take more: no free block begins with an entry, and the device reads as was asked.
pub record Ready (h : Head) (size : ℕ) (fs es : List Entry) (d : Disk) : Type 0 where
  pub on : OnDisk h size fs es d
  pub free : IsClean (drop (sizes (fs ++ es)) (turned h.start d.asked))
  pub same : d.reads ≡ d.asked

-- What a reader finds in these bytes: this header, all of the first entries, and then a front of the others.
pub record Left (h : Head) (fs all : List Entry) (c : List ℕ) : Type 0 where
  pub header : head_of c ≡ Some h
  pub has : Begins fs (readable c)
  pub within : Begins (readable c) all

-- each sound image of the content has this
abbrev pub EachSound : (List ℕ → Type 0) → Disk → Type 0
EachSound P d = (c : List ℕ) → IsImage d c → IsSound d c → P c

-- Each sound image has the header, all the synced entries, and then a front of the others.
abbrev pub Leaves : Head → List Entry → List Entry → Disk → Type 0
Leaves h fs all d = EachSound (Left h fs all) d

-- Each has that, or another header with just its entries.
abbrev pub LeavesEither : Head → List Entry → List Entry → Head → List Entry → Disk → Type 0
LeavesEither h fs all g es d = EachSound (λ c. Left h fs all c ⊎ Left g es es c) d

-- each sound image of the second content is one of the first
pub record Within (before now : Disk) : Type 0 where
  pub images : (c : List ℕ) → IsImage now c → IsSound now c → IsImage before c × IsSound before c
