-- What a file holds by the calls on it, and which answers are those of an honest file.
use Rattle.std.specs.Prelude.{◌≡◌, ℕ, ◌+◌, ◌≤◌, Bool, true, false, if◌then◌else◌, List, [], ◌∷◌, length, take, drop}
use Rattle.dev_api.specs.Disk.{Disk, put, wrote_in_part, settled, reading}
use Rattle.dev_file.specs.Calls.{Call, Asked, Wrote, Gave, Failed, Synced, NotSynced}

-- its content, and all contents that it has had, the newest first
pub record Contents : Type 0 where
  pub disk : Disk
  pub past : List Disk

abbrev pub goes_to : Disk → Contents → Contents
goes_to next c = record { disk = next; past = next ∷ c.past }

-- The newest content reads otherwise. What a crash may leave of it is the same.
abbrev pub reads_as : List ℕ → Contents → Contents
reads_as bytes c = record { disk = reading c.disk bytes; past = reading c.disk bytes ∷ drop 1 c.past }

-- A write counts as asked from its start on, and reads as it goes. A sync settles what reads, unless one failed before:
-- what was written then may be lost, whatever a later one answers. Other calls change nothing.
abbrev pub after : Bool → Call → Contents → Contents
after failed (Asked at bytes) c = goes_to (wrote_in_part c.disk at bytes c.disk.reads) c
after failed (Wrote at bytes) c = reads_as (put c.disk.reads at bytes) c
after failed (Gave at bytes) c = c
after failed Failed c = c
after failed Synced c = if failed then c else goes_to (settled c.disk.reads) c
after failed NotSynced c = c

-- a sync has failed
abbrev pub has_failed : List Call → Bool
has_failed [] = false
has_failed (NotSynced ∷ earlier) = true
has_failed (call ∷ earlier) = has_failed earlier

-- what a file that held `first` holds after these calls, of which the newest comes first
abbrev pub replay : List ℕ → List Call → Contents
replay first [] = record { disk = settled first; past = settled first ∷ [] }
replay first (call ∷ earlier) = after (has_failed earlier) call (replay first earlier)

-- these places lie in the write that was asked last
abbrev pub InLast : List (ℕ × ℕ) → ℕ → ℕ → Type 0
InLast [] at n = ⊥
InLast (span ∷ spans) at n = (span.0 ≤ at) × (at + n ≤ span.0 + span.1)

-- A write is asked within the file, and its pieces lie within it. A read gives what the file holds there.
abbrev pub Agrees : Call → Contents → Type 0
Agrees (Asked at bytes) c = at + length bytes ≤ length c.disk.reads
Agrees (Wrote at bytes) c = InLast c.disk.written at (length bytes)
Agrees (Gave at bytes) c = (at + length bytes ≤ length c.disk.reads) × (bytes ≡ take (length bytes) (drop at c.disk.reads))
Agrees Failed c = Unit {0}
Agrees Synced c = Unit {0}
Agrees NotSynced c = Unit {0}

-- the answers are those of an honest file that held `first`
abbrev pub IsHonest : List ℕ → List Call → Type 0
IsHonest first [] = Unit {0}
IsHonest first (call ∷ earlier) = IsHonest first earlier × Agrees call (replay first earlier)
