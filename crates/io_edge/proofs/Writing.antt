-- Writes, one after another.
use Rattle.std.proofs.Common.{◌≡◌, ℕ, ◌+◌, ◌≤◌, List, [], ◌++◌, take, drop, sym, ◌∙◌, ap, subst, arith, append_assoc}
use Rattle.std.proofs.lemmas.List.{append-nil}
use Rattle.std.proofs.Math.Seq.{take-add}
use Rattle.fault_count.specs.Counted.{Counted}
use Rattle.io_edge.specs.Flow.{Outflow}
use Rattle.io_edge.specs.Pieces.{Writes}

pub writes_none : (now : Outflow) → Writes now now []
writes_none now = record { more = sym (append-nil now.written) }

pub writes_same : (before now : Outflow) → now.written ≡ before.written → Writes before now []
writes_same before now e = record { more = e ∙ sym (append-nil before.written) }

pub writes_then : (before mid now : Outflow) (xs ys : List ℕ) → Writes before mid xs → Writes mid now ys → Writes before now (xs ++ ys)
writes_then before mid now xs ys h k = record { more = k.more ∙ ap (λ (b : List ℕ). b ++ ys) h.more ∙ append_assoc before.written xs ys }

-- the front of a piece, and then the front of the rest
pub writes_front : (before mid now : Outflow) (m n : ℕ) (piece : List ℕ) → Writes before mid (take m piece) → Writes mid now (take n (drop m piece)) → Writes before now (take (m + n) piece)
writes_front before mid now m n piece h k =
    subst (Writes before now) (sym (take-add m n piece)) (writes_then before mid now (take m piece) (take n (drop m piece)) h k)

-- a fault that was counted later was counted
pub counted_since : (a b c : ℕ) → a ≤ b → Counted b c → Counted a c
counted_since a b c le counted = omega (arith, le, counted)
