-- The first refused operation: from a place on, and place by place.
use Rattle.std.proofs.Common.{◌≡◌, ◌+◌, ◌-◌, ◌<◌, ◌≤◌, ℕ, zero, suc, Bool, true, false, cond, not, ◌&&◌, ◌||◌, eqb, Option, None, Some, List, [], ◌∷◌, ◌++◌, length, take, drop, slice_get, get_or, refl, sym, ap, subst, ◌∙◌, arith, add-zero, zero-add, length-take, take-append-drop}
use Rattle.std.specs.Option.{option_or, option_map, option_and_then}
use Rattle.std.proofs.lemmas.Option.{slice_get-get_or, some_pair_parts}
use Rattle.std.proofs.lemmas.List.{take_more, drop_more}
use Rattle.std.proofs.lemmas.Bool.Decides.{nat_tests}
use Rattle.std.specs.List.{AllByRecursion}
use Rattle.std.proofs.lemmas.List.Sums.{fold_push}
use Rattle.fs_model.specs.declared.op.Op.{Op}
use Rattle.fs_model.specs.declared.op.Why.{Why}
use Rattle.fs_model.specs.declared.op.Why.TheVariants.{Empty, NoCollection, CollectionExists, SameObject, TooBig, TooMany}
use Rattle.fs_model.specs.Colls.{CollSet}
use Rattle.fs_model.specs.Check.{op_colls, colls_after, lacks, remakes, same_object, too_big, refusal, refusal_at, refusal_from, txn_refusal, fault_at, IsFirstFault, IsFirstRefused, IsAccepted, IsWithinLimits}

abbrev Refused : Type 0
Refused = Option (ℕ × Why)

option_or-assoc : (a b c : Refused) → option_or a (option_or b c) ≡ option_or (option_or a b) c
option_or-assoc None b c = refl
option_or-assoc (Some x) b c = refl

-- an operation with its place
abbrev at : ℕ → Option Why → Refused
at k r = option_map (λ why. (k, why)) r

pub refusal_from-append : (S : CollSet) (k : ℕ) (xs ys : List Op)
    → refusal_from S k (xs ++ ys) ≡ option_or (refusal_from S k xs) (refusal_from (colls_after S xs) (k + length xs) ys)
refusal_from-append S k [] ys = ap (λ n. refusal_from S n ys) (sym (add-zero k))
refusal_from-append S k (x ∷ xs) ys =
    let places : (k + 1) + length xs ≡ k + length (x ∷ xs) = omega arith in
    ap (option_or (at k (refusal_at S k x)))
    (refusal_from-append (op_colls S x) (k + 1) xs ys ∙ ap (λ n. option_or (refusal_from (op_colls S x) (k + 1) xs) (refusal_from (colls_after (op_colls S x) xs) n ys)) places)
    ∙ option_or-assoc (at k (refusal_at S k x)) _ _

-- the reason against each place of operations that begin at place k
abbrev pub faults_from : CollSet → ℕ → List Op → ℕ → Option Why
faults_from S k ops j = option_and_then (refusal_at (colls_after S (take j ops)) (k + j)) (slice_get ops j)

faults-head : (S : CollSet) (k : ℕ) (op : Op) (ops : List Op) → faults_from S k (op ∷ ops) 0 ≡ refusal_at S k op
faults-head S k op ops = ap (λ n. refusal_at S n op) (add-zero k)

faults-tail : (S : CollSet) (k : ℕ) (op : Op) (ops : List Op) (j : ℕ) → faults_from S k (op ∷ ops) (suc j) ≡ faults_from (op_colls S op) (k + 1) ops j
faults-tail S k op ops j =
    let places : k + suc j ≡ (k + 1) + j = omega arith in
    ap (λ n. option_and_then (refusal_at (colls_after (op_colls S op) (take j ops)) n) (slice_get ops j)) places

-- none is refused where no place has a reason
none_at : (r : Option Why) (k : ℕ) (later : Refused) → option_or (at k r) later ≡ None → (r ≡ None) × (later ≡ None)
none_at None k later e = (refl, e)
none_at (Some why) k later e = absurd (cc)

at_none : (r : Option Why) (k : ℕ) (later : Refused) → r ≡ None → option_or (at k r) later ≡ later
at_none r k later e = ap (λ o. option_or (at k o) later) e

pub no_fault : (S : CollSet) (k : ℕ) (ops : List Op) → refusal_from S k ops ≡ None → (j : ℕ) → faults_from S k ops j ≡ None
no_fault S k [] e j = refl
no_fault S k (op ∷ ops) e zero = faults-head S k op ops ∙ (none_at (refusal_at S k op) k _ e).0
no_fault S k (op ∷ ops) e (suc j) = faults-tail S k op ops j ∙ no_fault (op_colls S op) (k + 1) ops (none_at (refusal_at S k op) k _ e).1 j

pub no_refusal : (S : CollSet) (k : ℕ) (ops : List Op) → ((j : ℕ) → faults_from S k ops j ≡ None) → refusal_from S k ops ≡ None
no_refusal S k [] none = refl
no_refusal S k (op ∷ ops) none =
    at_none (refusal_at S k op) k _ (sym (faults-head S k op ops) ∙ none 0)
    ∙ no_refusal (op_colls S op) (k + 1) ops (λ j. sym (faults-tail S k op ops j) ∙ none (suc j))

-- place n, which is k + j, is the first with a reason
pub record IsFirst (S : CollSet) (k : ℕ) (ops : List Op) (n j : ℕ) (why : Why) : Type 0 where
  pub place : n ≡ k + j
  pub here : faults_from S k ops j ≡ Some why
  pub none_below : (i : ℕ) → i < j → faults_from S k ops i ≡ None

below_next : (S : CollSet) (k : ℕ) (op : Op) (ops : List Op) (j : ℕ) → refusal_at S k op ≡ None
    → ((i : ℕ) → i < j → faults_from (op_colls S op) (k + 1) ops i ≡ None) → (i : ℕ) → i < suc j → faults_from S k (op ∷ ops) i ≡ None
below_next S k op ops j here below zero h = faults-head S k op ops ∙ here
below_next S k op ops j here below (suc i) h = faults-tail S k op ops i ∙ below i (omega arith)

next_first : (S : CollSet) (k : ℕ) (op : Op) (ops : List Op) (n : ℕ) (why : Why) → refusal_at S k op ≡ None
    → (j : ℕ) × IsFirst (op_colls S op) (k + 1) ops n j why → (j : ℕ) × IsFirst S k (op ∷ ops) n j why
next_first S k op ops n why here later =
    let f = later.1 in (
      suc later.0,
      record {
        place = (let places : n ≡ k + suc later.0 = omega (arith, f.place) in places);
        here = faults-tail S k op ops later.0 ∙ f.here;
        none_below = below_next S k op ops later.0 here f.none_below;
      },
    )

this_first : (S : CollSet) (k : ℕ) (op : Op) (ops : List Op) (n : ℕ) (why : Why) → n ≡ k → refusal_at S k op ≡ Some why → (j : ℕ) × IsFirst S k (op ∷ ops) n j why
this_first S k op ops n why place here =
    (0, record { place = place ∙ sym (add-zero k); here = faults-head S k op ops ∙ here; none_below = λ i h. absurd (omega arith) })

pub first_fault : (S : CollSet) (k : ℕ) (ops : List Op) (n : ℕ) (why : Why) → refusal_from S k ops ≡ Some (n, why) → (j : ℕ) × IsFirst S k ops n j why
first_fault S k [] n why e = absurd (cc)
first_fault S k (op ∷ ops) n why e =
    elim (refusal_at S k op) as (λ r. refusal_at S k op ≡ r → option_or (at k r) (refusal_from (op_colls S op) (k + 1) ops) ≡ Some (n, why) → (j : ℕ) × IsFirst S k (op ∷ ops) n j why) [
      | None ↦ λ is e. next_first S k op ops n why is (first_fault (op_colls S op) (k + 1) ops n why e)
      | Some w ↦ λ is e. let parts = some_pair_parts k n w why e in this_first S k op ops n why (sym parts.0) (is ∙ ap Some parts.1)
    ] refl e

pub first_refusal : (S : CollSet) (k : ℕ) (ops : List Op) (j : ℕ) (why : Why) → faults_from S k ops j ≡ Some why
    → ((i : ℕ) → i < j → faults_from S k ops i ≡ None) → refusal_from S k ops ≡ Some (k + j, why)
first_refusal S k [] j why here below = absurd (cc)
first_refusal S k (op ∷ ops) zero why here below =
    ap (λ r. option_or (at k r) (refusal_from (op_colls S op) (k + 1) ops)) (sym (faults-head S k op ops) ∙ here)
    ∙ ap (λ (n : ℕ). Some (n, why)) (sym (add-zero k))
first_refusal S k (op ∷ ops) (suc j) why here below =
    let places : (k + 1) + j ≡ k + suc j = omega arith in
    at_none (refusal_at S k op) k _ (sym (faults-head S k op ops) ∙ below 0 (omega arith))
    ∙ first_refusal (op_colls S op) (k + 1) ops j why (sym (faults-tail S k op ops j) ∙ here) (λ i h. sym (faults-tail S k op ops i) ∙ below (suc i) (omega arith))
    ∙ ap (λ (n : ℕ). Some (n, why)) places

-- the places of a whole transaction
fault_at-from : (S : CollSet) (ops : List Op) (j : ℕ) → fault_at S ops j ≡ faults_from S 0 ops j
fault_at-from S ops j = ap (λ n. option_and_then (refusal_at (colls_after S (take j ops)) n) (slice_get ops j)) (sym (zero-add j))

pub refused_first : (S : CollSet) (ops : List Op) (k : ℕ) (why : Why) → txn_refusal S ops ≡ Some (k, why) → IsFirstRefused S ops k why
refused_first S [] k why e = let parts = some_pair_parts 0 k Empty why e in (sym parts.0, sym parts.1)
refused_first S (op ∷ ops) k why e =
    let found = first_fault S 0 (op ∷ ops) k why e in
    let f = found.1 in
    let place : found.0 ≡ k = omega (arith, f.place) in
    subst (λ j. IsFirstFault S (op ∷ ops) j why) place
    (record { here = fault_at-from S (op ∷ ops) found.0 ∙ f.here; none_below = λ i h. fault_at-from S (op ∷ ops) i ∙ f.none_below i h })

pub first_refused : (S : CollSet) (ops : List Op) (k : ℕ) (why : Why) → IsFirstRefused S ops k why → txn_refusal S ops ≡ Some (k, why)
first_refused S [] k why first = let e = first.0 in let f = first.1 in cc
first_refused S (op ∷ ops) k why first =
    first_refusal S 0 (op ∷ ops) k why (sym (fault_at-from S (op ∷ ops) k) ∙ first.here) (λ i h. sym (fault_at-from S (op ∷ ops) i) ∙ first.none_below i h)
    ∙ ap (λ (n : ℕ). Some (n, why)) (zero-add k)

pub taken_accepted : (S : CollSet) (ops : List Op) → txn_refusal S ops ≡ None → IsAccepted S ops
taken_accepted S [] e = absurd (cc)
taken_accepted S (op ∷ ops) e = (λ h. cc, λ k. fault_at-from S (op ∷ ops) k ∙ no_fault S 0 (op ∷ ops) e k)

pub accepted_taken : (S : CollSet) (ops : List Op) → IsAccepted S ops → txn_refusal S ops ≡ None
accepted_taken S [] accepted = absurd (accepted.0 refl)
accepted_taken S (op ∷ ops) accepted = no_refusal S 0 (op ∷ ops) (λ j. sym (fault_at-from S (op ∷ ops) j) ∙ accepted.1 j)

-- one operation more
front_more : (ops : List Op) (k : ℕ) (op : Op) → op ≡ get_or ops k op → k < length ops → take (k + 1) ops ≡ take k ops ++ op ∷ []
front_more ops k op is within = take_more ops k op within ∙ ap (λ o. take k ops ++ o ∷ []) (sym is)

front_whole : (ops : List Op) (k : ℕ) (op : Op) → op ≡ get_or ops k op → k < length ops → ops ≡ take k ops ++ op ∷ drop (k + 1) ops
front_whole ops k op is within =
    sym (take-append-drop k ops) ∙ ap (λ r. take k ops ++ r) (drop_more ops k op within ∙ ap (λ o. o ∷ drop (k + 1) ops) (sym is))

front_length : (ops : List Op) (k : ℕ) → k < length ops → 0 + length (take k ops) ≡ k
front_length ops k within = omega (arith, length-take k ops)

pub after_more : (S : CollSet) (ops : List Op) (k : ℕ) (op : Op) → op ≡ get_or ops k op → k < length ops
    → colls_after S (take (k + 1) ops) ≡ op_colls (colls_after S (take k ops)) op
after_more S ops k op is within = ap (colls_after S) (front_more ops k op is within) ∙ fold_push op_colls S (take k ops) op

-- with the operations before place k accepted, what follows decides
accepted_front : (S : CollSet) (ops : List Op) (k : ℕ) (rest : List Op) → k < length ops → refusal_from S 0 (take k ops) ≡ None
    → refusal_from S 0 (take k ops ++ rest) ≡ refusal_from (colls_after S (take k ops)) k rest
accepted_front S ops k rest within e =
    refusal_from-append S 0 (take k ops) rest
    ∙ ap (λ r. option_or r (refusal_from (colls_after S (take k ops)) (0 + length (take k ops)) rest)) e
    ∙ ap (λ n. refusal_from (colls_after S (take k ops)) n rest) (front_length ops k within)

pub accepted_more : (S now : CollSet) (ops : List Op) (k : ℕ) (op : Op) → op ≡ get_or ops k op → k < length ops → now ≡ colls_after S (take k ops)
    → refusal_from S 0 (take k ops) ≡ None → refusal_at now k op ≡ None → refusal_from S 0 (take (k + 1) ops) ≡ None
accepted_more S now ops k op is within so front e =
    ap (refusal_from S 0) (front_more ops k op is within) ∙ accepted_front S ops k (op ∷ []) within front
    ∙ at_none (refusal_at (colls_after S (take k ops)) k op) k None (ap (λ X. refusal_at X k op) (sym so) ∙ e)

whole_refusal : (S : CollSet) (ops : List Op) (k : ℕ) → k < length ops → txn_refusal S ops ≡ refusal_from S 0 ops
whole_refusal S [] k within = absurd (omega arith)
whole_refusal S (op ∷ ops) k within = refl

pub refused_here : (S now : CollSet) (ops : List Op) (k : ℕ) (op : Op) (why : Why) → op ≡ get_or ops k op → k < length ops → now ≡ colls_after S (take k ops)
    → refusal_from S 0 (take k ops) ≡ None → refusal_at now k op ≡ Some why → txn_refusal S ops ≡ Some (k, why)
refused_here S now ops k op why is within so front e =
    whole_refusal S ops k within
    ∙ ap (refusal_from S 0) (front_whole ops k op is within) ∙ accepted_front S ops k (op ∷ drop (k + 1) ops) within front
    ∙ ap (λ r. option_or (at k r) (refusal_from (op_colls (colls_after S (take k ops)) op) (k + 1) (drop (k + 1) ops))) (ap (λ X. refusal_at X k op) (sym so) ∙ e)

-- an operation at the limit is refused
limit_by : (r : Option Why) (k : ℕ) → k ≤ 4096 → option_or r (cond (eqb k 4096) (Some TooMany) None) ≡ None → k + 1 ≤ 4096
limit_by (Some why) k few e = absurd (cc)
limit_by None k few e = grind (arith, nat_tests)

pub below_limit : (S : CollSet) (k : ℕ) (op : Op) → k ≤ 4096 → refusal_at S k op ≡ None → k + 1 ≤ 4096
below_limit S k op few e = limit_by (refusal S op) k few e

-- an accepted operation is within its limits
fit_by : (lacking remaking same big : Bool) (r : Option Why)
    → option_or (cond lacking (Some NoCollection) (cond remaking (Some CollectionExists) (cond same (Some SameObject) (cond big (Some TooBig) None)))) r ≡ None
    → (same || big) ≡ false
fit_by true remaking same big r e = absurd (cc)
fit_by false true same big r e = absurd (cc)
fit_by false false true big r e = absurd (cc)
fit_by false false false true r e = absurd (cc)
fit_by false false false false r e = refl

within_from : (S : CollSet) (k : ℕ) (ops : List Op) → refusal_from S k ops ≡ None → AllByRecursion IsWithinLimits ops
within_from S k [] e = tt
within_from S k (op ∷ ops) e =
    let parts = none_at (refusal_at S k op) k (refusal_from (op_colls S op) (k + 1) ops) e in
    (fit_by (lacks S op) (remakes S op) (same_object op) (too_big op) _ parts.0, within_from (op_colls S op) (k + 1) ops parts.1)

pub within_limits : (S : CollSet) (ops : List Op) → txn_refusal S ops ≡ None → AllByRecursion IsWithinLimits ops
within_limits S [] e = tt
within_limits S (op ∷ ops) e = within_from S 0 (op ∷ ops) e

-- and the operations are no more than their limit
few_from : (S : CollSet) (k : ℕ) (ops : List Op) → k ≤ 4096 → refusal_from S k ops ≡ None → k + length ops ≤ 4096
few_from S k [] few e = omega arith
few_from S k (op ∷ ops) few e =
    let parts = none_at (refusal_at S k op) k (refusal_from (op_colls S op) (k + 1) ops) e in
    let rest : (k + 1) + length ops ≤ 4096 = few_from (op_colls S op) (k + 1) ops (below_limit S k op few parts.0) parts.1 in
    omega arith

pub few_operations : (S : CollSet) (ops : List Op) → txn_refusal S ops ≡ None → length ops ≤ 4096
few_operations S [] e = omega arith
few_operations S (op ∷ ops) e = omega (arith, few_from S 0 (op ∷ ops) (omega arith) e)
