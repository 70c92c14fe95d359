-- What the calls leave.
use Rattle.std.specs.Prelude.{◌≡◌, ◌≢◌, ◌⊎◌, ◌≤◌, ◌++◌, ℕ, Some, None}
use Rattle.fault_count.specs.Counted.{Counted}
use Rattle.fs_names.specs.declared.coll.Coll.{Coll}
use Rattle.fs_names.specs.declared.settings.Settings.{Settings}
use Rattle.fs_names.specs.Reading.{CollFits}
use Rattle.tree_api.specs.Tree.{Path, Names, Tree, look, new_dir}
use Rattle.tree_api.specs.Disk.{Disk, Everywhere, Leaves}
use Rattle.tree_api.specs.Renaming.{Renamed, NoNode}
use Rattle.lfn_index.specs.Moving.{Same}
use Rattle.op_effects.specs.Collections.{CollStays}
use Rattle.coll_ops.specs.Places.{Within}

-- what stands at none of these paths is as it was
abbrev pub Elsewhere : (Path → Type 0) → Tree → Tree → Type 0
Elsewhere These e f = (q : Path) → (These q → ⊥) → look f q ≡ look e q

-- each collection stays
abbrev pub AllStay : Settings → Tree → Tree → Type 0
AllStay set e f = (c : Coll) → CollFits c → CollStays set c e f

-- of the names that read in t all stand, and a new directory at p, node n
pub record DirAt (p : Path) (n : ℕ) (t c : Tree) : Type 0 where
  pub here : c.at p ≡ Some n
  pub holds : c.node n ≡ new_dir
  pub others : (q : Path) → q ≢ p → c.at q ≡ t.at q

-- a new directory comes to a free path
pub record NewDir (p : Path) (old new : Disk) : Type 0 where
  pub n : ℕ
  pub free : old.tree.at p ≡ None
  pub fresh : (c : Tree) → old.may c → (q : Path) → c.at q ≢ Some n
  pub leaves : Leaves (Renamed (DirAt p n old.tree) (λ m. m ≡ n)) old new

abbrev pub AddsDir : Path → Disk → Disk → Type 0
AddsDir p old new = Leaves Same old new ⊎ NewDir p old new

abbrev pub NamesStable : Disk → Type 0
NamesStable d = Everywhere d (λ c. c.at ≡ d.tree.at)

-- of the names at p and below it some are gone, and all others stay
abbrev pub Swept : Path → Names → Names → Type 0
Swept p old new = (q : Path) → (new q ≡ old q) ⊎ ((new q ≡ None) × Within p q)

abbrev pub Sweeps : Path → Disk → Disk → Type 0
Sweeps p old new = Leaves (Renamed (λ c. Swept p old.tree.at c.at) NoNode) old new

-- All names at `from` and below it stay, or all are gone. So do all others but those at `to` and below it, each of which is
-- gone, as it was, or that of the same place below `from`.
pub record Thrown (from to : Path) (old new : Names) : Type 0 where
  pub off : (q : Path) → (Within from q → ⊥) → (Within to q → ⊥) → new q ≡ old q
  pub here : ((q : Path) → Within from q → new q ≡ old q) ⊎ ((q : Path) → Within from q → new q ≡ None)
  pub place : (rest : Path) → (new (to ++ rest) ≡ None) ⊎ ((new (to ++ rest) ≡ old (to ++ rest)) ⊎ (new (to ++ rest) ≡ old (from ++ rest)))

abbrev pub Throws : Path → Path → Disk → Disk → Type 0
Throws from to old new = Leaves (Renamed (λ c. Thrown from to old.tree.at c.at) NoNode) old new

-- what stands there goes where nothing stood
abbrev pub IsThrown : Path → Path → Tree → Type 0
IsThrown from to t = (t.at from ≢ None) × (t.at to ≡ None)

-- what a call counts that makes any number of looks
pub record Faults (refused : Type 0) (old new : Disk) : Type 0 where
  pub faults : old.faults ≤ new.faults
  pub cause : refused → Counted old.faults new.faults
  pub looks : old.looks ≤ new.looks
  pub syncs : new.syncs ≡ old.syncs
  pub checkpoints : new.checkpoints ≡ old.checkpoints
