-- A ring whose entries are synced, while its free blocks are cleared.
use Rattle.std.specs.Prelude.{◌≡◌, ℕ, ◌-◌, ◌<◌, ◌≤◌, List, [], take, drop, ◌≢◌, ◌+◌, ◌*◌, Some}
use Rattle.dev_api.specs.Disk.{Disk, HasSize, Outside}
use Rattle.ring_frame.specs.Frame.{Entry, entry_magic, block_size, heads_size}
use Rattle.ring_frame.specs.Heads.{Head, head_of}
use Rattle.ring_images.specs.Readable.{IsRead, Stand, sizes}
use Rattle.ring_images.specs.Turned.{turned, place_of}
use Rattle.ring_images.specs.Silent.{SilentAfter}
use Rattle.ring_images.specs.Held.{ring_of}

-- All entries are synced, and nothing goes on behind them; whatever else the free space has.
pub record Quiet (h : Head) (size : ℕ) (fs : List Entry) (d : Disk) : Type 0 where
  pub sized : HasSize size d
  pub low : heads_size ≤ h.start
  pub high : h.start ≤ size
  pub header : head_of d.stable ≡ Some h
  pub header_now : head_of d.asked ≡ Some h
  pub aside : (i : ℕ) → i < heads_size → Outside d.written i
  pub apart : (i : ℕ) → i < sizes fs → Outside d.written (place_of size h.start i)
  pub room : sizes fs ≤ size - heads_size
  pub before : SilentAfter (ring_of h size) 0 h.seq 0 (turned h.start d.stable) fs []
  pub stand : Stand (ring_of h size) 0 h.seq 0 (turned h.start d.asked) fs
  pub now : IsRead (ring_of h size) 0 h.seq 0 (turned h.start d.asked) fs

-- no block from one place up to another begins as an entry does
abbrev pub CleanTo : ℕ → ℕ → List ℕ → Type 0
CleanTo from to bytes = (k : ℕ) → from + block_size * k < to → take 8 (drop (from + block_size * k) bytes) ≢ entry_magic

-- All entries are synced and are just what is read, and the free blocks up to here begin no entry.
pub record Cleared (h : Head) (size : ℕ) (front : List ℕ) (fs : List Entry) (to : ℕ) (d : Disk) : Type 0 where
  -- the headers' blocks stay
  pub heads : take heads_size d.asked ≡ front
  pub quiet : Quiet h size fs d
  pub same : d.reads ≡ d.asked
  pub clean : CleanTo (sizes fs) to (turned h.start d.asked)
