-- Transactions that wait behind a history.
use Rattle.std.proofs.Common.{◌≡◌, ◌==◌, if◌then◌else◌, ℕ, ◌+◌, Bool, true, false, not, ◌&&◌, ◌||◌, List, [], ◌∷◌, ◌++◌, take, slice_get, Option, Some, None, refl, sym, ◌∙◌, ap, subst, append-nil, zero-add}
use Rattle.std.specs.List.{list_all, list_any}
use Rattle.std.specs.Option.{option_or, option_map, option_and_then}
use Rattle.std.specs.FinMap as fin
use Rattle.std.specs.FinSet as set
use Rattle.std.proofs.lemmas.List.Sums.{fold-append}
use Rattle.fs_names.specs.declared.coll.Coll.{Coll}
use Rattle.fs_model.specs.declared.op.Op.{Op}
use Rattle.fs_model.specs.declared.op.Why.{Why}
use Rattle.fs_model.specs.declared.op.Why.TheVariants.{NoCollection, CollectionExists, SameObject, TooBig, TooMany}
use Rattle.fs_model.specs.Limits.{ops_limit}
use Rattle.fs_model.specs.Named.{needed}
use Rattle.fs_model.specs.Objects.{Objects}
use Rattle.fs_model.specs.Colls.{CollSet, colls_of}
use Rattle.fs_model.specs.Rows.{row, fold_ops, fold_txns}
use Rattle.fs_model.specs.Check.{op_colls, colls_after, lacks, remakes, same_object, too_big, refusal_at, refusal_from, fault_at, IsAccepted}
use Rattle.fs_model.proofs.Colls.{contains-colls_of, row-colls, fold-colls}
use Rattle.fs_model.proofs.Refusals.{no_refusal, faults_from}
use Rattle.fs_cells.specs.Laws.{IsAllowed, AreAllowed}
use Rattle.fs_cells.specs.Standing.{AllAllowed}
use Rattle.store_history.specs.History.{History, end_of, at}
use Rattle.tree_places.specs.Line.{ops_of}
use Rattle.tree_places.proofs.Flat.{ops_append, fold_flat}
use Rattle.history_tails.specs.Tails.{begun, with_more, WaitBehind}
use Rattle.history_tails.proofs.Tails.{at_end, at_more}

both : (a b : Bool) → not a || b ≡ false → (a ≡ true) × (b ≡ false)
both true b e = (refl, e)
both false b e = absurd (cc)

-- an operation that isn't refused finds each collection that it needs
none_missing : (f g : Coll → Bool) → ((c : Coll) → f c ≡ g c) → (cs : List Coll) → list_any (λ c. not (f c)) cs ≡ false → list_all g cs ≡ true
none_missing f g same [] none = refl
none_missing f g same (c ∷ cs) none =
    let two = both (f c) (list_any (λ d. not (f d)) cs) none in
    ap (λ (x : Bool). x && list_all g cs) (sym (same c) ∙ two.0) ∙ none_missing f g same cs two.1

not_lacking : (S : CollSet) (k : ℕ) (op : Op) → refusal_at S k op ≡ None → lacks S op ≡ false
not_lacking S k op none = at (lacks S op) none
  where
    at : (b : Bool) → option_or (if b then Some NoCollection else (if remakes S op then Some CollectionExists else (if same_object op then Some SameObject else (if too_big op then Some TooBig else None)))) (if k == ops_limit then Some TooMany else None) ≡ None → b ≡ false
    at false is = refl
    at true is = absurd (cc)

first_none : (r : Option Why) (k : ℕ) (later : Option (ℕ × Why)) → option_or (option_map (λ why. (k, why)) r) later ≡ None → (r ≡ None) × (later ≡ None)
first_none None k later e = (refl, e)
first_none (Some why) k later e = absurd (cc)

allowed_from : (O : Objects) (k : ℕ) (ops : List Op) → refusal_from (colls_of O) k ops ≡ None → AreAllowed O ops
allowed_from O k [] none = tt
allowed_from O k (op ∷ ops) none =
    let two = first_none (refusal_at (colls_of O) k op) k (refusal_from (op_colls (colls_of O) op) (k + 1) ops) none in
    let here : IsAllowed O op =
    none_missing (λ c. set.contains (colls_of O) c) (λ c. fin.contains_key O c) (contains-colls_of O) (needed op) (not_lacking (colls_of O) k op two.0) in
    let rest : refusal_from (colls_of (row O op)) (k + 1) ops ≡ None = ap (λ (S : CollSet). refusal_from S (k + 1) ops) (row-colls O op) ∙ two.1 in
    (here, allowed_from (row O op) (k + 1) ops rest)

pub allowed_of : (O : Objects) (ops : List Op) → IsAccepted (colls_of O) ops → AreAllowed O ops
allowed_of O ops accepted =
    let none : (j : ℕ) → faults_from (colls_of O) 0 ops j ≡ None = λ j. at j (accepted.1 j) in
    allowed_from O 0 ops (no_refusal (colls_of O) 0 ops none)
  where
    at : (j : ℕ) → fault_at (colls_of O) ops j ≡ None → faults_from (colls_of O) 0 ops j ≡ None
    at j none = ap (λ (n : ℕ). option_and_then (refusal_at (colls_after (colls_of O) (take j ops)) n) (slice_get ops j)) (zero-add j) ∙ none

all_more : (O : Objects) (txns : List (List Op)) (ops : List Op) → AllAllowed O txns → AreAllowed (fold_txns O txns) ops → AllAllowed O (txns ++ ops ∷ [])
all_more O [] ops all one = (one, tt)
all_more O (first ∷ txns) ops (here, all) one = (here, all_more (fold_ops O first) txns ops all one)

-- the collections after transactions are those of the objects after them
colls_folded : (O : Objects) (txns : List (List Op)) → colls_after (colls_of O) (ops_of txns) ≡ colls_of (fold_txns O txns)
colls_folded O txns = sym (fold-colls O (ops_of txns)) ∙ ap colls_of (fold_flat O txns)

pub waits_more : (h : History) (txns : List (List Op)) (colls : CollSet) (ops : List Op) → WaitBehind h txns colls → IsAccepted colls ops
    → WaitBehind h (txns ++ ops ∷ []) (colls_after colls ops)
waits_more h txns colls ops waits accepted =
    let O = at h (end_of h) in
    let here : colls ≡ colls_of (fold_txns O txns) = waits.colls_are ∙ colls_folded O txns in
    let all : ops_of (txns ++ ops ∷ []) ≡ ops_of txns ++ ops = ops_append txns (ops ∷ []) ∙ ap (λ (l : List Op). ops_of txns ++ l) (append-nil ops) in
    record {
      allowed = all_more O txns ops waits.allowed (allowed_of (fold_txns O txns) ops (subst (λ (S : CollSet). IsAccepted S ops) here accepted));
      colls_are =
          ap (λ (S : CollSet). colls_after S ops) waits.colls_are
          ∙ sym (fold-append op_colls (colls_of O) (ops_of txns) ops)
          ∙ ap (colls_after (colls_of O)) (sym all);
    }

pub waits_done : (h : History) (txns : List (List Op)) (colls : CollSet) → WaitBehind h txns colls → WaitBehind (with_more h txns) [] colls
waits_done h txns colls waits = record {
  allowed = tt;
  colls_are = waits.colls_are ∙ colls_folded (at h (end_of h)) txns ∙ ap colls_of (sym (at_more h txns));
}

pub waits_begun : (n : ℕ) (O : Objects) → WaitBehind (begun n O) [] (colls_of O)
waits_begun n O = record { allowed = tt; colls_are = ap colls_of (sym (at_end (begun n O))) }
