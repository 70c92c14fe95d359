-- Guards, how they are spelled, and what replay does where one stands.
use Rattle.std.specs.Prelude.{◌≡◌, ℕ, ◌<◌, ◌^◌, Bool, true, false, ◌&&◌, ◌==◌, nat_le, if◌then◌else◌, List, [], ◌∷◌, ◌++◌, length, drop, slice_index, codes, Option, Some, None, All}
use Rattle.std.specs.declared.cmp.Ordering.{Ordering}
use Rattle.std.specs.declared.cmp.Ordering.TheVariants.{Less, Equal, Greater}
use Rattle.std.specs.Ordering.{nat_cmp, ordering_then}
use Rattle.std.specs.Option.{option_map}
use Rattle.byteorder.specs.Endian.{big_bytes, big_number}
use Rattle.fs_names.specs.declared.settings.Pos.{Pos}
use Rattle.replay_guard.specs.declared.guard.Guard.{Guard}
use Rattle.replay_guard.specs.declared.guard.Verdict.{Verdict}
use Rattle.replay_guard.specs.declared.guard.Verdict.TheVariants.{Apply, Continue, Skip}

-- the order of positions: by transaction, by its place in a list, by the operation's place in it
abbrev pub pos_cmp : Pos → Pos → Ordering
pos_cmp p q = ordering_then (nat_cmp p.seq q.seq) (ordering_then (nat_cmp p.txn q.txn) (nat_cmp p.op q.op))

-- an operation at a guard's own position goes on where it is in progress, and else is done
abbrev pub same_place : Bool → Verdict
same_place true = Continue
same_place false = Skip

-- a guard at an older, the same or a newer position
abbrev pub by_age : Ordering → Bool → Verdict
by_age Less in_progress = Apply
by_age Equal in_progress = same_place in_progress
by_age Greater in_progress = Skip

abbrev pub verdict : Option Guard → Pos → Verdict
verdict None pos = Apply
verdict (Some guard) pos = by_age (pos_cmp guard.pos pos) guard.in_progress

-- the attribute that has the guard
abbrev pub guard_name : List ℕ
guard_name = codes "guard"

abbrev pub flag : Bool → ℕ
flag false = 0
flag true = 1

-- 17 bytes: the transaction's number in 8, its place in 4, the operation's in 4, and 1 where it is in progress, else 0
abbrev pub spelled : Guard → List ℕ
spelled guard = big_bytes 8 guard.pos.seq ++ big_bytes 4 guard.pos.txn ++ big_bytes 4 guard.pos.op ++ (flag guard.in_progress ∷ [])

-- the guard that these bytes would spell
abbrev pub guard_told : List ℕ → Guard
guard_told bytes = record {
  pos = record { seq = big_number 8 bytes; txn = big_number 4 (drop 8 bytes); op = big_number 4 (drop 12 bytes) };
  in_progress = slice_index bytes 16 == 1;
}

-- the guard that these bytes spell
abbrev pub guard_in : List ℕ → Option Guard
guard_in bytes = if length bytes == 17 && nat_le (slice_index bytes 16) 1 then Some (guard_told bytes) else None

-- the numbers fit their fields
pub record GuardFits (guard : Guard) : Type 0 where
  pub seq : guard.pos.seq < 2 ^ 64
  pub txn : guard.pos.txn < 2 ^ 32
  pub op : guard.pos.op < 2 ^ 32

pub record GuardLaw : Type 0 where
  pub reads_back : (guard : Guard) → GuardFits guard → guard_in (spelled guard) ≡ Some guard
  pub spells : (bytes : List ℕ) (guard : Guard) → All (λ b. b < 256) bytes → guard_in bytes ≡ Some guard → bytes ≡ spelled guard
