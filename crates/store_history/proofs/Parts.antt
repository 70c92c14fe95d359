-- Parts of a history.
use Rattle.std.proofs.Common.{◌≡◌, ℕ, ◌+◌, ◌-◌, ◌≤◌, ◌<◌, get_or, List, [], ◌∷◌, ◌++◌, take, drop, length, refl, sym, ◌∙◌, ap, arith, length-take, length-drop}
use Rattle.std.proofs.Math.Seq.{take-length}
use Rattle.std.proofs.lemmas.List.{take-take, drop-take, drop-drop, take-append-drop, take_more, get_or-drop}
use Rattle.fs_model.specs.declared.op.Op.{Op}
use Rattle.fs_model.specs.Objects.{Objects}
use Rattle.fs_model.specs.Rows.{fold_ops, fold_txns}
use Rattle.store_history.specs.History.{History, end_of, part, at, IsTxn, replay_of}

pub length-part : (h : History) (lo hi : ℕ) → h.base ≤ lo → lo ≤ hi → hi ≤ end_of h → length (part h lo hi) ≡ hi - lo
length-part h lo hi low le fits = omega (arith, length-take (hi - lo) (drop (lo - h.base) h.txns), length-drop (lo - h.base) h.txns)

pub drop-part : (h : History) (lo mid hi : ℕ) → h.base ≤ lo → lo ≤ mid → mid ≤ hi → drop (mid - lo) (part h lo hi) ≡ part h mid hi
drop-part h lo mid hi low a b =
    let n : hi - lo ≡ (mid - lo) + (hi - mid) = omega arith in
    let m : (lo - h.base) + (mid - lo) ≡ mid - h.base = omega arith in
    ap (λ (k : ℕ). drop (mid - lo) (take k (drop (lo - h.base) h.txns))) n ∙ drop-take (mid - lo) (hi - mid) (drop (lo - h.base) h.txns)
    ∙ ap (take (hi - mid)) (drop-drop (mid - lo) (lo - h.base) h.txns ∙ ap (λ (k : ℕ). drop k h.txns) m)

pub take-part : (h : History) (lo mid hi : ℕ) → mid ≤ hi → take (mid - lo) (part h lo hi) ≡ part h lo mid
take-part h lo mid hi le = take-take (mid - lo) (hi - lo) (drop (lo - h.base) h.txns) (omega arith)

take_split : (xs : List (List Op)) (m n : ℕ) → take (m + n) xs ≡ take m xs ++ take n (drop m xs)
take_split xs m n =
    let le : m ≤ m + n = omega arith in
    sym (take-append-drop m (take (m + n) xs)) ∙ ap (λ (l : List (List Op)). l ++ drop m (take (m + n) xs)) (take-take m (m + n) xs le) ∙ ap (λ (l : List (List Op)). take m xs ++ l) (drop-take m n xs)

pub fold_append : (xs ys : List (List Op)) (o : Objects) → fold_txns o (xs ++ ys) ≡ fold_txns (fold_txns o xs) ys
fold_append [] ys o = refl
fold_append (x ∷ xs) ys o = fold_append xs ys (fold_ops o x)

-- from one state to a later one
pub at_part : (h : History) (lo hi : ℕ) → h.base ≤ lo → lo ≤ hi → fold_txns (at h lo) (part h lo hi) ≡ at h hi
at_part h lo hi low le =
    let n : (lo - h.base) + (hi - lo) ≡ hi - h.base = omega arith in
    sym (fold_append (take (lo - h.base) h.txns) (part h lo hi) h.origin) ∙ ap (fold_txns h.origin) (sym (take_split h.txns (lo - h.base) (hi - lo)) ∙ ap (λ (k : ℕ). take k h.txns) n)

-- one transaction more
pub part_more : (h : History) (lo hi : ℕ) (ops : List Op) → h.base ≤ lo → lo ≤ hi → hi < end_of h → IsTxn h (hi + 1) ops → part h lo (hi + 1) ≡ part h lo hi ++ ops ∷ []
part_more h lo hi ops low le lt is =
    let n : hi + 1 - lo ≡ (hi - lo) + 1 = omega arith in
    let k : hi - lo < length (drop (lo - h.base) h.txns) = omega (arith, length-drop (lo - h.base) h.txns) in
    let m : (lo - h.base) + (hi - lo) ≡ hi + 1 - (h.base + 1) = omega arith in
    ap (λ (j : ℕ). take j (drop (lo - h.base) h.txns)) n ∙ take_more (drop (lo - h.base) h.txns) (hi - lo) [] k
    ∙ ap (λ (q : List Op). part h lo hi ++ q ∷ []) (get_or-drop (lo - h.base) h.txns (hi - lo) [] ∙ ap (λ (j : ℕ). get_or h.txns j []) m ∙ is)

-- there is none between a number and itself
pub nothing : (h : History) (n : ℕ) → part h n n ≡ []
nothing h n = let z : n - n ≡ 0 = omega arith in ap (λ (k : ℕ). take k (drop (n - h.base) h.txns)) z

-- a replay's own transactions are all of its history
pub part_all : (n : ℕ) (before : Objects) (txns : List (List Op)) → part (replay_of n before txns) n (n + length txns) ≡ txns
part_all n before txns =
    let z : n - n ≡ 0 = omega arith in
    let k : n + length txns - n ≡ length txns = omega arith in
    ap (λ (i : ℕ). take i (drop (n - n) txns)) k ∙ ap (λ (i : ℕ). take (length txns) (drop i txns)) z ∙ take-length txns

-- a history that begins at a later number has the same objects from there on
pub at_rebased : (h : History) (n a end : ℕ) → h.base ≤ n → n ≤ a → a ≤ end → at (replay_of n (at h n) (part h n end)) a ≡ at h a
at_rebased h n a end low from to = ap (fold_txns (at h n)) (take-part h n a end to) ∙ at_part h n a low from
