-- Guards that stand on files and directories, and how they come there.
use Rattle.std.specs.Prelude.{◌≡◌, ◌≢◌, ◌⊎◌, ℕ, List, Option, Some, None, Result, IfErr}
use Rattle.std.specs.Option.{option_map}
use Rattle.index_fault.specs.declared.IndexFault.{IndexFault}
use Rattle.index_fault.specs.declared.IndexFault.TheVariants.{Memory, Tree as TreeFault, Damaged}
use Rattle.tree_api.specs.Tree.{Path, Version, Tree}
use Rattle.tree_api.specs.Disk.{Disk, Leaves, Everywhere}
use Rattle.tree_api.specs.Passing.{with_attr}
use Rattle.replay_guard.specs.declared.guard.Guard.{Guard}
use Rattle.replay_guard.specs.Guards.{guard_name, guard_in, spelled}

-- what a node's attribute tells: no guard, a guard, or none where it is damaged
abbrev pub told : Option (List ℕ) → Option (Option Guard)
told None = Some None
told (Some bytes) = option_map Some (guard_in bytes)

-- what stands has this guard
abbrev pub TellsGuard : Option Version → Option Guard → Type 0
TellsGuard None guard = ⊥
TellsGuard (Some v) guard = told (v.attr guard_name) ≡ Some guard

-- what stands has an attribute that is no guard
abbrev pub IsNoGuard : Option Version → Type 0
IsNoGuard None = ⊥
IsNoGuard (Some v) = told (v.attr guard_name) ≡ None

-- damage is answered of this path alone, and only where its attribute is no guard
abbrev pub Blames : Path → Option Version → IndexFault → Type 0
Blames p v Memory = Unit {0}
Blames p v TreeFault = Unit {0}
Blames p v (Damaged path) = (path ≡ p) × IsNoGuard v

abbrev pub IsNoDamage : {T : Type 0} → Result T IndexFault → Type 0
IsNoDamage result = IfErr result (λ fault. (fault ≡ Memory) ⊎ (fault ≡ TreeFault))

-- w is v but for the guard, which is v's or this
pub record IsGuarded (bytes : List ℕ) (v w : Version) : Type 0 where
  pub dir : w.dir ≡ v.dir
  pub content : w.bytes ≡ v.bytes
  pub attrs : (k : List ℕ) → k ≢ guard_name → w.attr k ≡ v.attr k
  pub guard : (w.attr guard_name ≡ v.attr guard_name) ⊎ (w.attr guard_name ≡ Some bytes)

-- The names are those of t, and node n is as it reads in t but for the guard, which is the old one or this; all else is as before.
pub record OnWay (bytes : List ℕ) (n : ℕ) (t before now : Tree) : Type 0 where
  pub names : now.at ≡ t.at
  pub snaps : now.snap ≡ before.snap
  pub others : (m : ℕ) → m ≢ n → now.node m ≡ before.node m
  pub node : IsGuarded bytes (t.node n) (now.node n)

-- nothing has changed, or the guard is on its way
abbrev pub Guarded : List ℕ → ℕ → Tree → Tree → Tree → Type 0
Guarded bytes n t before now = (now ≡ before) ⊎ OnWay bytes n t before now

-- The node at p gets this guard once all that it holds is stable. When that is done, each image has the names and the node
-- as they read at entry, with this guard.
pub record SetsGuard (p : Path) (guard : Guard) (old new : Disk) (done : Type 0) : Type 0 where
  pub n : ℕ
  pub here : old.tree.at p ≡ Some n
  pub leaves : Leaves (Guarded (spelled guard) n old.tree) old new
  pub names : done → Everywhere new (λ c. c.at ≡ old.tree.at)
  pub node : done → Everywhere new (λ c. c.node n ≡ with_attr guard_name (Some (spelled guard)) (old.tree.node n))
