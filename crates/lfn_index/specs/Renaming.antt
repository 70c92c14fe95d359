-- The names with a new file, and on the way to it.
use Rattle.std.specs.Prelude.{◌≡◌, ◌≢◌, ◌⊎◌, ℕ, false, Some, None}
use Rattle.tree_api.specs.Tree.{Path, Version, Names, Tree}
use Rattle.tree_api.specs.Renaming.{Renamed}

-- the names that read, with node n there; of a file built aside none stands there any more
pub record Added (Long : Type 0) (place to : Path) (n : ℕ) (old new : Names) : Type 0 where
  pub here : new to ≡ Some n
  pub others : (q : Path) → q ≢ to → (Long → q ≢ place) → new q ≡ old q
  pub aside : Long → new place ≡ None

-- the names that read, but at the place aside, where nothing stands or node n
pub record BuiltAside (place : Path) (n : ℕ) (t c : Tree) : Type 0 where
  pub here : (c.at place ≡ None) ⊎ ((c.at place ≡ Some n) × ((c.node n).dir ≡ false))
  pub others : (q : Path) → q ≢ place → c.at q ≡ t.at q

-- a file is built aside as node n
abbrev pub Builds : Path → ℕ → Tree → Tree → Tree → Type 0
Builds place n t = Renamed (BuiltAside place n t) (λ m. m ≡ n)

-- node n has come there with this, or is being built
abbrev pub Come : Type 0 → Path → Path → ℕ → Version → Tree → Tree → Type 0
Come Long place to n v t c = (Added Long place to n t.at c.at × (c.node n ≡ v)) ⊎ (Long × BuiltAside place n t c)

abbrev pub Makes : Type 0 → Path → Path → ℕ → Version → Tree → Tree → Tree → Type 0
Makes Long place to n v t = Renamed (Come Long place to n v t) (λ m. m ≡ n)
