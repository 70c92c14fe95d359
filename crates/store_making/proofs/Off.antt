-- Paths where making a store puts nothing.
use Rattle.std.proofs.Common.{◌≡◌, ◌≢◌, ℕ, ◌<◌, ◌≤◌, List, [], ◌∷◌, length, codes, refl, ap, arith}
use Rattle.tree_api.specs.Tree.{Path, current}
use Rattle.commit_point.specs.Number.{aside, number_path}
use Rattle.store_files.specs.Stores.{version_path, fsid_path, settings_path, omap, trash}
use Rattle.store_files.specs.Steps.{Off, key_path, store_paths}

shorter : (q p : Path) (m : ℕ) → length p ≡ m → m < length q → q ≢ p
shorter q p m is lt same = absurd (omega (arith, ap length same, is, lt))

longer : (q p : Path) (m : ℕ) → length p ≡ m → length q < m → q ≢ p
longer q p m is lt same = absurd (omega (arith, ap length same, is, lt))

abbrev second : Path → List ℕ
second [] = []
second (a ∷ []) = []
second (a ∷ b ∷ rest) = b

-- three steps or more, but not those of the key's file
pub off_long : (q : Path) → 3 ≤ length q → q ≢ key_path → Off store_paths q
off_long q long not_key = (
  shorter q version_path 1 refl (omega (arith, long)),
  (
    shorter q current 1 refl (omega (arith, long)),
    (
      shorter q omap 2 refl (omega (arith, long)),
      (
        shorter q aside 2 refl (omega (arith, long)),
        (
          shorter q trash 2 refl (omega (arith, long)),
          (
            shorter q number_path 2 refl (omega (arith, long)),
            (
              not_key,
              (
                shorter q fsid_path 1 refl (omega (arith, long)),
                (
                  shorter q settings_path 1 refl (omega (arith, long)),
                  tt,
                ),
              ),
            ),
          ),
        ),
      ),
    ),
  ),
)

pub off_deep : (q : Path) → 4 ≤ length q → Off store_paths q
off_deep q long = off_long q (omega (arith, long)) (shorter q key_path 3 refl long)

-- a step of a directory in `current` that isn't the key's
pub off_step : (b step : List ℕ) → b ≢ codes "omap" → Off store_paths (codes "current" ∷ b ∷ step ∷ [])
off_step b step other = off_long (codes "current" ∷ b ∷ step ∷ []) three (λ same. other (ap second same))
  where
    three : 3 ≤ length (codes "current" ∷ b ∷ step ∷ [])
    three = omega arith

-- a name in `current` that is none of the store's
pub record IsOther (b : List ℕ) : Type 0 where
  pub maps : b ≢ codes "omap"
  pub building : b ≢ codes "aside"
  pub removed : b ≢ codes "trash"
  pub number : b ≢ codes "commit_op_seq"

pub off_name : (b : List ℕ) → IsOther b → Off store_paths (codes "current" ∷ b ∷ [])
off_name b other = (
  shorter (codes "current" ∷ b ∷ []) version_path 1 refl two,
  (
    shorter (codes "current" ∷ b ∷ []) current 1 refl two,
    (
      (λ same. other.maps (ap second same)),
      (
        (λ same. other.building (ap second same)),
        (
          (λ same. other.removed (ap second same)),
          (
            (λ same. other.number (ap second same)),
            (
              longer (codes "current" ∷ b ∷ []) key_path 3 refl under,
              (
                shorter (codes "current" ∷ b ∷ []) fsid_path 1 refl two,
                (
                  shorter (codes "current" ∷ b ∷ []) settings_path 1 refl two,
                  tt,
                ),
              ),
            ),
          ),
        ),
      ),
    ),
  ),
)
  where
    two : 1 < length (codes "current" ∷ b ∷ [])
    two = omega arith

    under : length (codes "current" ∷ b ∷ []) < 3
    under = omega arith

pub not_root : (a : List ℕ) (rest : Path) → ◌≢◌ {A = Path} (a ∷ rest) []
not_root a rest same = absurd (cc)
