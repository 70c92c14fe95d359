-- Transactions that can be done.
use Rattle.std.proofs.Common.{ℕ, zero, suc, ◌<◌, get_or, List, [], ◌∷◌, ◌++◌, length, arith}
use Rattle.fs_model.specs.declared.op.Op.{Op}
use Rattle.store_mount.specs.Causes.{AreFit}

pub fit_more : (fits : List Op → Type 0) (txns : List (List Op)) (ops : List Op) → AreFit fits txns → fits ops → AreFit fits (txns ++ ops ∷ [])
fit_more fits [] ops all one = (one, tt)
fit_more fits (t ∷ txns) ops all one = (all.0, fit_more fits txns ops all.1 one)

pub fit_at : (fits : List Op → Type 0) (txns : List (List Op)) (i : ℕ) → i < length txns → AreFit fits txns → fits (get_or txns i [])
fit_at fits [] i lt all = absurd (omega (arith, lt))
fit_at fits (t ∷ txns) zero lt all = all.0
fit_at fits (t ∷ txns) (suc i) lt all = fit_at fits txns i (omega (arith, lt)) all.1
