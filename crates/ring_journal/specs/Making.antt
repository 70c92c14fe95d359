-- What stands on a device while a ring is made.
use Rattle.std.specs.Prelude.{◌≡◌, ◌≢◌, ◌⊎◌, ℕ, ◌*◌, ◌<◌, ◌≤◌, List, [], length, replicate, take, drop, None}
use Rattle.dev_api.specs.Disk.{Disk, IsImage, Outside, put, wrote, settled}
use Rattle.dev_api.specs.DeviceState.{DeviceState}
use Rattle.dev_api.specs.Run.{Since, KeepsSince}
use Rattle.ring_frame.specs.Frame.{Entry, block_size, heads_size}
use Rattle.ring_frame.specs.Heads.{Head, head_of, head_block}
use Rattle.ring_images.specs.Held.{EachSound, HeadOf, Left, LeavesEither}
use Rattle.ring_journal.specs.State.{first_head}

-- what was written since lies between these places
pub record WrittenIn (from to : ℕ) (old d : Disk) : Type 0 where
  pub stable : d.stable ≡ old.stable
  pub aside : (i : ℕ) → (i < from) ⊎ (to ≤ i) → Outside old.written i → Outside d.written i

-- the ring's bytes are those of an image of before, and so is each header
pub record Remains (old : Disk) (c : List ℕ) : Type 0 where
  pub ring : (b : List ℕ) × IsImage old b × (drop heads_size c ≡ drop heads_size b)
  pub first : HeadOf (length c) 0 old c
  pub second : HeadOf (length c) block_size old c

-- each sound image has no header, or is the new ring, or has what was there before
abbrev pub LeavesMaking : Disk → Head → Disk → Type 0
LeavesMaking old h d = EachSound (λ c. (head_of c ≡ None) ⊎ (Left h [] [] c ⊎ Remains old c)) d

-- both headers' blocks are zeros, and all is synced
abbrev pub without_heads : Disk → Disk
without_heads d = settled (put d.reads 0 (replicate heads_size 0))

-- no content since was one with these bytes, which have something in the headers' blocks
abbrev pub NeverCame : DeviceState → DeviceState → List ℕ → Type 0
NeverCame before now bytes = take heads_size bytes ≢ replicate heads_size 0 → Since (λ d. d ≢ settled bytes) before.past now.past

-- a header was written into a block, and synced
abbrev pub with_head : Disk → ℕ → Head → Disk
with_head d slot h = settled (put d.reads (slot * block_size) (head_block h))

-- what holds before that, behind the write and behind the sync has held throughout
abbrev pub KeepsWriting : (Disk → Type 0) → ℕ → Head → DeviceState → DeviceState → Type 0
KeepsWriting P slot h before now =
    P before.disk → P (wrote before.disk (slot * block_size) (head_block h)) → P (with_head before.disk slot h) → KeepsSince P before now

abbrev pub KeepsEither : Head → List Entry → List Entry → Head → List Entry → ℕ → Head → DeviceState → DeviceState → Type 0
KeepsEither h fs all g es slot head before now = KeepsWriting (LeavesEither h fs all g es) slot head before now

-- each sound image has no header, or is the ring of this fsid without an entry, or has what was there before
abbrev pub LeavesMade : List ℕ → DeviceState → Disk → Type 0
LeavesMade fsid before d = LeavesMaking before.disk (first_head fsid before.size) d
