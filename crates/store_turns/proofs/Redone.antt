-- The transaction of the entry that is told next.
use Rattle.std.proofs.Common.{◌≡◌, ℕ, ◌+◌, ◌-◌, ◌≤◌, ◌<◌, get_or, List, [], ◌∷◌, drop, map, length, refl, sym, ◌∙◌, ap, arith, Ok, Some, length-drop}
use Rattle.std.specs.Prelude.{Result}
use Rattle.std.proofs.lemmas.List.{drop-drop, get_or-drop}
use Rattle.fs_model.specs.declared.op.Op.{Op}
use Rattle.fs_model.specs.Objects.{Objects}
use Rattle.txn_codec.specs.Reading.{decoded}
use Rattle.txn_codec.specs.declared.fault.CodecFault.{CodecFault}
use Rattle.ring_frame.specs.Frame.{Entry}
use Rattle.ring_journal.specs.declared.blob.Stored.{Stored}
use Rattle.ring_journal.specs.State.{told_first}
use Rattle.store_history.specs.History.{IsTxn, replay_of}
use Rattle.store_history.specs.Journal.{txn_of, Spells}
use Rattle.store_history.proofs.Entries.{spells_drop}

pub same_ops : (a b : List Op) (r : Result (List Op) CodecFault) → r ≡ Ok a → r ≡ Ok b → a ≡ b
same_ops a b r e k = cc

-- it spells the first of what is left
pub record First (ys : List Entry) (zs : List (List Op)) (x : Stored) : Type 0 where
  pub ops : List Op
  pub rest : List (List Op)
  pub is : zs ≡ ops ∷ rest
  pub spells : decoded x.payload ≡ Ok ops

some_stored : (a b : Stored) → Some a ≡ Some b → a ≡ b
some_stored a b e = cc

head_is : (a b : Result (List Op) CodecFault) (xs ys : List (Result (List Op) CodecFault)) → a ∷ xs ≡ b ∷ ys → a ≡ b
head_is a b xs ys e = cc

first_told : (ys : List Entry) (zs : List (List Op)) (x : Stored) → Spells ys zs → told_first ys ≡ Some x → First ys zs x
first_told [] zs x h e = absurd (cc)
first_told (y ∷ ys) [] x h e = absurd (cc)
first_told (y ∷ ys) (z ∷ zs) x h e =
    let s : record { seq = y.seq; payload = y.payload } ≡ x = some_stored _ x e in
    record { ops = z; rest = zs; is = refl; spells = ap (λ (v : Stored). decoded v.payload) (sym s) ∙ head_is (txn_of y) (Ok z) (map txn_of ys) (map Ok zs) h }

first_of_drop : (zs : List (List Op)) (j : ℕ) (o : List Op) (rest : List (List Op)) → drop j zs ≡ o ∷ rest → (get_or zs j [] ≡ o) × (j < length zs)
first_of_drop zs j o rest e =
    let z : j + 0 ≡ j = omega arith in (
      ap (λ (i : ℕ). get_or zs i []) (sym z) ∙ sym (get_or-drop j zs 0 []) ∙ ap (λ (l : List (List Op)). get_or l 0 []) e,
      omega (arith, length-drop j zs, ap length e),
    )

pub told_txn : (n s i : ℕ) (before : Objects) (es : List Entry) (txns : List (List Op)) (x : Stored) → s ≤ n + 1 → n < s + i → Spells (drop (n + 1 - s) es) txns → told_first (drop i es) ≡ Some x
    → (ops : List Op) × (decoded x.payload ≡ Ok ops) × IsTxn (replay_of n before txns) (s + i) ops × (s + i ≤ n + length txns)
told_txn n s i before es txns x gap above h e =
    let k = n + 1 - s in
    let j = s + i - (n + 1) in
    let sum : k + j ≡ i = omega (arith, gap, above) in
    let left : drop j (drop k es) ≡ drop i es = drop-drop j k es ∙ ap (λ (m : ℕ). drop m es) sum in
    let f = first_told (drop j (drop k es)) (drop j txns) x (spells_drop j (drop k es) txns h) (ap told_first left ∙ e) in
    let g = first_of_drop txns j f.ops f.rest f.is in
    (f.ops, f.spells, g.0, omega (arith, g.1, above))
