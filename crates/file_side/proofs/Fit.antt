-- Transactions that can all be done.
use Rattle.std.proofs.Common.{◌≡◌, ℕ, suc, List, [], ◌∷◌, refl, Some}
use Rattle.std.specs.Prelude.{slice_get}
use Rattle.fs_model.specs.declared.op.Op.{Op}
use Rattle.built_ops.specs.Built.{CanDo}
use Rattle.store_mount.specs.Causes.{AreFit}
use Rattle.file_side.specs.Laws.{FitLaw}

are_fit : (txns : List (List Op)) → ((i : ℕ) (ops : List Op) → slice_get txns i ≡ Some ops → CanDo ops) → AreFit CanDo txns
are_fit [] can = tt
are_fit (ops ∷ txns) can = (can 0 ops refl, are_fit txns (λ i more is. can (suc i) more is))

pub fit_law : FitLaw
fit_law set fsid t c o n last s = are_fit s.txns s.good.image.fit
