-- A tree in its history.
use Rattle.std.proofs.Common.{◌≡◌, ℕ, ◌+◌, ◌-◌, ◌≤◌, List, [], ◌∷◌, ◌++◌, length, take, drop, refl, sym, ◌∙◌, ap, subst, arith, append-nil, length-append, take_all, take_at, drop_at}
use Rattle.std.proofs.lemmas.List.{take-append-le}
use Rattle.fs_names.specs.declared.settings.Settings.{Settings}
use Rattle.fs_model.specs.declared.op.Op.{Op}
use Rattle.fs_model.specs.Objects.{Objects}
use Rattle.fs_model.specs.Rows.{fold_ops, fold_txns}
use Rattle.tree_api.specs.Tree.{Tree}
use Rattle.store_history.specs.History.{History, end_of, part, at, replay_of}
use Rattle.store_history.proofs.Parts.{take-part}
use Rattle.op_places.specs.Line.{after_ops, NoneCopies, IsPlain}
use Rattle.op_places.specs.Places.{PastOps}
use Rattle.op_places.proofs.Line.{plain_first, plain_rest, allowed_both, built_both}
use Rattle.op_places.proofs.Moving.{past_more, past_back, past_rebase}
use Rattle.fs_cells.specs.Laws.{AreAllowed}
use Rattle.tree_places.specs.Line.{ops_of, ops_to, count_to, At, Past, with_txn}
use Rattle.tree_places.proofs.Flat.{ops_append, ops_split, ops_rest, fold_flat}

pub plain_to : (h : History) (number : ℕ) → IsPlain h.origin (ops_of h.txns) → IsPlain h.origin (ops_to h number)
plain_to h number plain =
    plain_first h.origin (ops_to h number) (ops_of (drop (number - h.base) h.txns)) (subst (IsPlain h.origin) (ops_rest h.txns (number - h.base)) plain)

-- the operations of the transactions above n, up to m
pub later_ops : (h : History) (n m : ℕ) → n ≤ m → ops_to h m ≡ ops_to h n ++ ops_of (take ((m - h.base) - (n - h.base)) (drop (n - h.base) h.txns))
later_ops h n m le = ops_split h.txns (n - h.base) (m - h.base) (omega (arith, le))

pub count_grows : (h : History) (n m : ℕ) → n ≤ m → count_to h n ≤ count_to h m
count_grows h n m le =
    let sum : count_to h m ≡ count_to h n + length (ops_of (take ((m - h.base) - (n - h.base)) (drop (n - h.base) h.txns))) =
    ap length (later_ops h n m le) ∙ length-append (ops_to h n) (ops_of (take ((m - h.base) - (n - h.base)) (drop (n - h.base) h.txns))) in
    omega (arith, sum)

pub wider : (set : Settings) (h : History) (k hi hi2 : ℕ) (t : Tree) → hi ≤ hi2 → At set h k hi t → At set h k hi2 t
wider set h k hi hi2 t le is = record {
  plain = is.plain;
  past =
      let rest : List Op = ops_of (take ((hi2 - h.base) - (hi - h.base)) (drop (hi - h.base) h.txns)) in
      let split : ops_to h hi2 ≡ ops_to h hi ++ rest = later_ops h hi hi2 le in
      subst (λ (l : List Op). PastOps set h.origin l k t) (sym split)
      (past_more set h.origin (ops_to h hi) rest k t (subst (IsPlain h.origin) split (plain_to h hi2 is.plain)) is.past);
}

pub back : (set : Settings) (h : History) (k l hi : ℕ) (t : Tree) → l ≤ k → At set h k hi t → At set h l hi t
back set h k l hi t le is = record { plain = is.plain; past = past_back set h.origin (ops_to h hi) k l t le is.past }

-- the transactions up to n are forgotten
module _ (set : Settings) (h : History) (n lo hi end : ℕ) (t : Tree) (base : h.base ≤ n) (within : n ≤ lo) (order : lo ≤ hi) (to : hi ≤ end) (is : Past set h lo hi t) where
  abbrev first : List Op
  first = ops_to h n

  abbrev rest : List Op
  rest = ops_of (part h n end)

  split : ops_to h end ≡ ops_to h n ++ ops_of (part h n end)
  split =
      let span : (end - h.base) - (n - h.base) ≡ end - n = omega (arith, base, within, order, to) in
      later_ops h n end (omega (arith, within, order, to)) ∙ ap (λ (k : ℕ). ops_to h n ++ ops_of (take k (drop (n - h.base) h.txns))) span

  plain_both : IsPlain h.origin (ops_to h n ++ ops_of (part h n end))
  plain_both = subst (IsPlain h.origin) split (plain_to h end is.plain)

  before : fold_ops h.origin (ops_to h n) ≡ at h n
  before = fold_flat h.origin (take (n - h.base) h.txns)

  at_n : PastOps set h.origin (ops_to h n ++ ops_of (part h n end)) (count_to h n) t
  at_n = subst (λ (l : List Op). PastOps set h.origin l (count_to h n) t) split
      (back set h (count_to h lo) (count_to h n) end t (count_grows h n lo within) (wider set h (count_to h lo) hi end t to is)).past

  based : PastOps set (after_ops h.origin (ops_to h n ++ ops_of (part h n end)) (count_to h n)) (drop (count_to h n) (ops_to h n ++ ops_of (part h n end))) 0 t
  based = past_rebase set h.origin (ops_to h n ++ ops_of (part h n end)) (count_to h n) t plain_both
      (omega (arith, length-append (ops_to h n) (ops_of (part h n end)))) at_n

  began : after_ops h.origin (ops_to h n ++ ops_of (part h n end)) (count_to h n) ≡ at h n
  began = ap (fold_ops h.origin) (take_at (ops_to h n) (ops_of (part h n end)) (count_to h n) refl) ∙ before

  there : PastOps set (at h n) (ops_of (part h n end)) 0 t
  there = subst (λ (l : List Op). PastOps set (at h n) l 0 t) (drop_at (ops_to h n) (ops_of (part h n end)) (count_to h n) refl)
      (subst (λ (O : Objects). PastOps set O (drop (count_to h n) (ops_to h n ++ ops_of (part h n end))) 0 t) began based)

  none_yet : 0 ≡ count_to (replay_of n (at h n) (part h n end)) n
  none_yet =
      let zero_more : 0 ≡ n - n = omega arith in
      ap (λ (k : ℕ). length (ops_of (take k (part h n end)))) zero_more

  pub rebased : Past set (replay_of n (at h n) (part h n end)) n end t
  rebased = record {
    plain = subst (λ (O : Objects). IsPlain O (ops_of (part h n end))) before (plain_rest h.origin (ops_to h n) (ops_of (part h n end)) plain_both);
    past = subst (λ (k : ℕ). PastOps set (at h n) (ops_to (replay_of n (at h n) (part h n end)) end) k t) none_yet
        (subst (λ (l : List (List Op)). PastOps set (at h n) (ops_of l) 0 t) (sym (take-part h n end end (omega arith))) there);
  }

-- a history with one transaction more
module _ (set : Settings) (h : History) (ops : List Op) (lo hi : ℕ) (t : Tree) (allowed : AreAllowed (at h (end_of h)) ops) (built : NoneCopies ops) (order : lo ≤ hi) (known : hi ≤ end_of h) (is : Past set h lo hi t) where
  all_at : fold_ops h.origin (ops_of h.txns) ≡ at h (end_of h)
  all_at = fold_flat h.origin h.txns ∙ ap (fold_txns h.origin) (sym (take_all (end_of h - h.base) h.txns (omega arith)))

  one_more : ops_of (with_txn h ops).txns ≡ ops_of h.txns ++ ops
  one_more = ops_append h.txns (ops ∷ []) ∙ ap (λ (l : List Op). ops_of h.txns ++ l) (append-nil ops)

  same_to : (number : ℕ) → number ≤ end_of h → ops_to (with_txn h ops) number ≡ ops_to h number
  same_to number le = ap ops_of (take-append-le (number - h.base) h.txns (ops ∷ []) (omega (arith, le)))

  pub longer : Past set (with_txn h ops) lo hi t
  longer = record {
    plain = subst (IsPlain h.origin) (sym one_more) (record {
      allowed = allowed_both h.origin (ops_of h.txns) ops is.plain.allowed (subst (λ (O : Objects). AreAllowed O ops) (sym all_at) allowed);
      built = built_both (ops_of h.txns) ops is.plain.built built;
    });
    past = subst (λ (l : List Op). PastOps set h.origin l (count_to (with_txn h ops) lo) t) (sym (same_to hi known))
        (subst (λ (l : List Op). PastOps set h.origin (ops_to h hi) (length l) t) (sym (same_to lo (omega (arith, order, known)))) is.past);
  }
