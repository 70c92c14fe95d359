-- Guarded replay of operations ends in the objects that they mean.
use Rattle.std.proofs.Common.{◌≡◌, ℕ, refl, sym, ◌∙◌, ap, subst, arith}
use Rattle.std.proofs.lemmas.List.{length-map}
use Rattle.fs_model.specs.Rows.{fold_ops}
use Rattle.replay_laws.specs.Replay.{Raises, Replayed}
use Rattle.replay_laws.proofs.Walk.{replay_ends}
use Rattle.replay_laws.proofs.Unique.{unique_law}
use Rattle.fs_cells.specs.Values.{Value, flag, number, content, raise, cells_of}
use Rattle.fs_cells.specs.Actions.{act_of}
use Rattle.fs_cells.specs.Laws.{replay_of, ReplayOfOps, UniqueEnd}
use Rattle.fs_cells.proofs.Determined.{determined}
use Rattle.fs_cells.proofs.Rows.{fold_law}

pub raise_laws : Raises raise
raise_laws = record { once = once; either_way = either_way }
  where
    once : (n : ℕ) (v : Value) → raise n (raise n v) ≡ raise n v
    once n (flag b) = refl
    once n (number m) = ap number (omega arith)
    once n (content t) = refl

    either_way : (m n : ℕ) (v : Value) → raise m (raise n v) ≡ raise n (raise m v)
    either_way m n (flag b) = refl
    either_way m n (number l) = ap number (omega arith)
    either_way m n (content t) = refl

pub replay_of_ops : ReplayOfOps
replay_of_ops O ops allowed start skips good end replayed x =
    replay_ends (replay_of O ops start skips) raise_laws good end (subst (λ n. Replayed (replay_of O ops start skips) n end) (sym (length-map ops act_of)) replayed) x ∙ sym (fold_law O ops allowed x)

pub unique_end : UniqueEnd
unique_end O P ops allowed_O allowed_P start skips good_O good_P there =
    determined (fold_ops O ops) (fold_ops P ops) there (λ x. fold_law O ops allowed_O x ∙ unique_law (replay_of O ops start skips) (cells_of P) raise_laws good_O good_P x ∙ sym (fold_law P ops allowed_P x))
