-- What a queue answers to a transaction.
use Rattle.std.specs.Prelude.{◌≡◌, ℕ, ◌+◌, ◌-◌, ◌^◌, ◌||◌, nat_le, nat_lt, if◌then◌else◌, length, Option, None, Some, Result, Ok, Err}
use Rattle.fs_model.specs.declared.op.Txn.{Txn}
use Rattle.fs_model.specs.declared.op.Why.{Why}
use Rattle.fs_model.specs.Colls.{CollSet}
use Rattle.fs_model.specs.Check.{txn_refusal}
use Rattle.built_ops.specs.Built.{unbuilt_in}
use Rattle.txn_codec.specs.Spelling.{payload}
use Rattle.ring_frame.specs.Frame.{need}
use Rattle.queue_rules.specs.declared.fault.QueueFault.{QueueFault}
use Rattle.queue_rules.specs.declared.fault.QueueFault.TheVariants.{Txn as Refused, NotBuilt, TooLarge, QueueFull, NumbersSpent, Memory}

abbrev pub queue_limit : ℕ
queue_limit = 1024

abbrev pub last_number : ℕ
last_number = 2 ^ 63 - 1

-- its number, or why it gets none
abbrev pub Outcome : Type 0
Outcome = Result ℕ QueueFault

-- By the bytes of a transaction's payload, those of the journal's ring, how many transactions wait, and the last number. The journal is
-- trimmed, so each entry that an empty ring takes has room.
abbrev pub room_for : ℕ → ℕ → ℕ → ℕ → Outcome
room_for size waiting last len =
    if nat_lt size (need len) || nat_le (2 ^ 32) len then Err (TooLarge (need len) size)
    else if nat_le queue_limit waiting then Err QueueFull
    else if nat_le last_number last then Err NumbersSpent
    else Ok (last + 1)

-- the bytes of a transaction's payload
unfoldable pub payload_len : Txn → ℕ
payload_len txn = length (payload txn.ops)

abbrev pub built_or : Option ℕ → Outcome → Outcome
built_or None outcome = outcome
built_or (Some op) outcome = Err (NotBuilt op)

abbrev pub refused_or : Option (ℕ × Why) → Outcome → Outcome
refused_or None outcome = outcome
refused_or (Some (op, why)) outcome = Err (Refused op why)

-- Behind these collections: the check's refusal comes first, then an operation that isn't built, and then no room.
abbrev pub outcome : CollSet → ℕ → ℕ → ℕ → Txn → Outcome
outcome colls size waiting last txn =
    refused_or (txn_refusal colls txn.ops) (built_or (unbuilt_in txn.ops) (room_for size waiting last (payload_len txn)))

-- that is answered, but that want of memory tells nothing
abbrev pub Answers : Outcome → Outcome → Type 0
Answers (Ok seq) o = o ≡ Ok seq
Answers (Err (Refused op why)) o = o ≡ Err (Refused op why)
Answers (Err (NotBuilt op)) o = o ≡ Err (NotBuilt op)
Answers (Err (TooLarge need size)) o = o ≡ Err (TooLarge need size)
Answers (Err QueueFull) o = o ≡ Err QueueFull
Answers (Err NumbersSpent) o = o ≡ Err NumbersSpent
Answers (Err Memory) o = Unit {0}
