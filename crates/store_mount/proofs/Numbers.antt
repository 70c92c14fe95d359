-- The numbers of a store that was mounted.
use Rattle.std.proofs.Common.{◌≡◌, ⊎_elim, ℕ, ◌+◌, ◌-◌, ◌≤◌, ◌<◌, List, length, sym, arith, length-drop}
use Rattle.std.proofs.lemmas.Bool.{cases_lt}
use Rattle.fs_model.specs.declared.op.Op.{Op}
use Rattle.ring_frame.specs.Frame.{Entry}
use Rattle.ring_journal.specs.State.{State, GoesOn, IsUnspent}
use Rattle.store_history.specs.Journal.{Spells, above}
use Rattle.store_history.proofs.Entries.{spells_length}
use Rattle.store_turns.specs.State.{Fits}

-- the last number is the last one that the journal has, or the committed one
pub last_number : (s new : State) (epoch m : ℕ) (es : List Entry) (txns : List (List Op)) → GoesOn s epoch (m + 1) new → s.head.seq ≤ m + 1 → length es ≡ s.count
    → Spells (above m s.head.seq es) txns → new.head.seq + new.count ≡ m + length txns + 1
last_number s new epoch m es txns on gap all spells =
    let start = on.start gap in
    let a = spells_length (above m s.head.seq es) txns spells in
    let b = length-drop (m + 1 - s.head.seq) es in
    ⊎_elim
    (λ (lt : s.head.seq + s.count < m + 1). omega (arith, start, a, b, all, lt, on.none (omega (arith, lt))))
    (λ (le : m + 1 ≤ s.head.seq + s.count). omega (arith, start, a, b, all, le, gap, on.kept gap le))
    (cases_lt (s.head.seq + s.count) (m + 1))

pub new_fits : (s new : State) (epoch m j : ℕ) → GoesOn s epoch (m + 1) new → s.head.seq ≤ m + 1 → IsUnspent s.head → j + 1 ≡ new.head.seq + new.count
    → Fits (record { journalled = j; committed = m }) new
new_fits s new epoch m j on gap unspent j_is =
    let start = on.start gap in
    record {
      counts = record {
        chain = omega (arith, start, j_is);
        small = omega (arith, j_is, on.last);
        start = start;
        count = sym j_is;
        rises = omega (arith, on.generation, unspent.generation);
      };
      emptied = on.emptied;
    }
