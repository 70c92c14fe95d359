-- The end of a history.
use Rattle.std.proofs.Common.{◌≡◌, ℕ, ◌-◌, ◌≤◌, List, ◌++◌, length, take, drop, refl, sym, ◌∙◌, ap, subst, arith, take_all, length-append}
use Rattle.std.proofs.lemmas.List.{take-append-le, drop-append-le, drop_all}
use Rattle.fs_model.specs.declared.op.Op.{Op}
use Rattle.fs_model.specs.Objects.{Objects}
use Rattle.fs_model.specs.Rows.{fold_txns}
use Rattle.store_history.specs.History.{History, end_of, part, at}
use Rattle.store_history.specs.Images.{Images}
use Rattle.store_history.specs.Pair.{StandsAt, StandsFor}
use Rattle.store_history.proofs.Parts.{at_part, fold_append}
use Rattle.history_tails.specs.Tails.{begun, with_more, IsTailOf}

pub at_end : (h : History) → at h (end_of h) ≡ fold_txns h.origin h.txns
at_end h = ap (fold_txns h.origin) (take_all (end_of h - h.base) h.txns (omega arith))

pub at_more : (h : History) (txns : List (List Op)) → at (with_more h txns) (end_of (with_more h txns)) ≡ fold_txns (at h (end_of h)) txns
at_more h txns =
    at_end (with_more h txns) ∙ fold_append h.txns txns h.origin ∙ ap (λ (O : Objects). fold_txns O txns) (sym (at_end h))

pub tail_self : (h : History) → IsTailOf h h
tail_self h =
    let none : h.base - h.base ≡ 0 = omega arith in
    record {
      base = omega arith;
      origin = ap (λ (k : ℕ). fold_txns h.origin (take k h.txns)) none;
      txns = ap (λ (k : ℕ). drop k h.txns) none;
      end = refl;
    }

-- what was mounted is a history's end
pub tail_begun : (long : History) (last : ℕ) (O : Objects) → end_of long ≡ last → at long last ≡ O → IsTailOf (begun last O) long
tail_begun long last O end objects = record {
  base = omega (arith, end);
  origin = objects;
  txns = drop_all (last - long.base) long.txns (omega (arith, end));
  end = end ∙ omega arith;
}

pub tail_more : (h long : History) (txns : List (List Op)) → IsTailOf h long → IsTailOf (with_more h txns) (with_more long txns)
tail_more h long txns tail =
    let within : h.base - long.base ≤ length long.txns = omega (arith, tail.base, tail.end) in
    record {
      base = tail.base;
      origin = ap (fold_txns long.origin) (take-append-le (h.base - long.base) long.txns txns within) ∙ tail.origin;
      txns = drop-append-le (h.base - long.base) long.txns txns within ∙ ap (λ (l : List (List Op)). l ++ txns) tail.txns;
      end = omega (arith, tail.end, length-append long.txns txns, length-append h.txns txns);
    }

-- from where it begins on it has the same objects
pub at_tail : (h long : History) (n : ℕ) → IsTailOf h long → h.base ≤ n → at long n ≡ at h n
at_tail h long n tail le =
    sym (at_part long h.base n tail.base le)
    ∙ ap (λ (O : Objects). fold_txns O (part long h.base n)) tail.origin
    ∙ ap (λ (l : List (List Op)). fold_txns h.origin (take (n - h.base) l)) tail.txns

pub stands_tail : {Tree : Type 0} (image : Images Tree) (fsid : List ℕ) (h long : History) (acked : ℕ) (t : Tree) (c : List ℕ) → IsTailOf h long → h.base ≤ acked
    → StandsFor image fsid long acked t c → StandsFor image fsid h acked t c
stands_tail image fsid h long acked t c tail low s = record {
  n = s.n;
  last = s.last;
  stands = subst (λ (O : Objects). StandsAt image fsid t c O s.n s.last) (at_tail h long s.last tail (omega (arith, low, s.acked_is))) s.stands;
  acked_is = s.acked_is;
  known = omega (arith, s.known, tail.end);
}
