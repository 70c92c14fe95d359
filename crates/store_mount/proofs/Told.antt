-- The entries that were told spell transactions.
use Rattle.std.proofs.Common.{◌≡◌, ⊎_elim, ℕ, ◌+◌, ◌≤◌, ◌<◌, get_or, List, [], ◌∷◌, ◌++◌, take, drop, map, length, sym, ◌∙◌, ap, arith, Ok, Some, length-drop, length-append}
use Rattle.std.proofs.Math.ListN.{drop_of_length-le}
use Rattle.std.proofs.Math.Seq.{drop-nil}
use Rattle.std.proofs.lemmas.Bool.{cases_lt}
use Rattle.std.proofs.lemmas.List.{drop_more, take_more, drop-append-le, length-take-le, take_all}
use Rattle.fs_model.specs.declared.op.Op.{Op}
use Rattle.txn_codec.specs.Reading.{decoded}
use Rattle.dev_api.specs.Disk.{Disk}
use Rattle.ring_frame.specs.Frame.{Entry}
use Rattle.ring_images.specs.Held.{readable}
use Rattle.ring_journal.specs.declared.blob.Stored.{Stored}
use Rattle.ring_journal.specs.State.{State, Ended, told_first}
use Rattle.store_history.specs.Journal.{txn_of, Spells}
use Rattle.store_mount.specs.Causes.{AreFit}
use Rattle.store_mount.proofs.Fit.{fit_more}
use Rattle.store_history.proofs.Entries.{spells_more, spells_as}

some_stored : (a b : Stored) → Some a ≡ Some b → a ≡ b
some_stored a b e = cc

told_some : (es : List Entry) (x : Stored) → told_first es ≡ Some x → 0 < length es
told_some [] x h = absurd (cc)
told_some (e ∷ es) x h = omega arith

told_payload : (e : Entry) (es : List Entry) (x : Stored) → told_first (e ∷ es) ≡ Some x → decoded e.payload ≡ decoded x.payload
told_payload e es x h = ap (λ (v : Stored). decoded v.payload) (some_stored (record { seq = e.seq; payload = e.payload }) x h)

-- a ring whose entries were all told has told as many as there are
pub ended_length : (s : State) (d : Disk) → Ended s d → length (readable d.stable) ≡ s.count
ended_length s d ended = ap length ended.1.list ∙ length-append ended.0 [] ∙ omega (arith, ended.1.count_is)

no_entry : Entry
no_entry = record { seq = 0; epoch = 0; payload = [] }

-- what was told of these entries spells transactions that can be done, from place k on
abbrev pub Spelled : (List Op → Type 0) → ℕ → List Entry → ℕ → Type 0
Spelled fits k es i = (txns : List (List Op)) × Spells (drop k (take i es)) txns × AreFit fits txns

pub spelled_none : (fits : List Op → Type 0) (k : ℕ) (es : List Entry) (i : ℕ) → i ≡ 0 → Spelled fits k es i
spelled_none fits k es i z = ([], ap (λ (j : ℕ). map txn_of (drop k (take j es))) z ∙ ap (map txn_of) (drop-nil k), tt)

pub spelled_all : (fits : List Op → Type 0) (k : ℕ) (es : List Entry) (i : ℕ) → length es ≡ i → Spelled fits k es i → (txns : List (List Op)) × Spells (drop k es) txns × AreFit fits txns
spelled_all fits k es i l so_far = (so_far.0, sym (ap (λ (xs : List Entry). map txn_of (drop k xs)) (take_all i es (omega (arith, l)))) ∙ so_far.1, so_far.2)

pub spelled_more : (fits : List Op → Type 0) (k : ℕ) (es : List Entry) (i : ℕ) (x : Stored) → told_first (drop i es) ≡ Some x
    → (k ≤ i → (ops : List Op) × (decoded x.payload ≡ Ok ops) × fits ops) → Spelled fits k es i → Spelled fits k es (i + 1)
spelled_more fits k es i x told spells so_far =
    let here : i < length es = omega (arith, told_some (drop i es) x told, length-drop i es) in
    let e : Entry = get_or es i no_entry in
    let one : told_first (e ∷ drop (i + 1) es) ≡ Some x = sym (ap told_first (drop_more es i no_entry here)) ∙ told in
    ⊎_elim
    (λ (lt : i < k). ([], ap (map txn_of) (drop_of_length-le (take (i + 1) es) {i = k} (omega (arith, lt, length-take-le (i + 1) es (omega (arith, here))))), tt))
    (λ (le : k ≤ i).
    let ops = spells le in
    let longer : drop k (take (i + 1) es) ≡ drop k (take i es) ++ e ∷ [] =
    ap (drop k) (take_more es i no_entry here) ∙ drop-append-le k (take i es) (e ∷ []) (omega (arith, le, length-take-le i es (omega (arith, here)))) in (
      so_far.0 ++ ops.0 ∷ [],
      spells_as (drop k (take i es) ++ e ∷ []) (drop k (take (i + 1) es)) (so_far.0 ++ ops.0 ∷ []) (sym longer)
          (spells_more (drop k (take i es)) so_far.0 e ops.0 so_far.1 (told_payload e (drop (i + 1) es) x one ∙ ops.1)),
      fit_more fits so_far.0 ops.0 so_far.2 ops.2,
    ))
    (cases_lt i k)
