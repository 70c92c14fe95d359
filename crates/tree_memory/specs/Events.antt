-- What the events of calls are.
use Rattle.std.specs.Prelude.{◌≡◌, ◌≢◌, ◌⊎◌, ℕ, List, [], ◌++◌, true, false, Some, map, Vec}
use Rattle.std.specs.declared.alloc.Global.{Global}
use Rattle.tree_memory.specs.declared.event.Edit.{Edit}
use Rattle.tree_memory.specs.declared.node.Node.{Node}
use Rattle.tree_api.specs.Tree.{Path, Version, Tree, current}
use Rattle.tree_memory.specs.Names.{names_at, IsBelow, unlinks, links, numbered}
use Rattle.tree_memory.specs.Nodes.{version, changed, fits}
use Rattle.tree_memory.specs.Kept.{content_of, rests_of, IsEach}
use Rattle.tree_memory.specs.Told.{tree_of, count_of}
use Rattle.tree_memory.specs.declared.node.Change.{Change}
use Rattle.tree_memory.specs.declared.names.Name.{Name}
use Rattle.tree_memory.specs.declared.event.Event.{Event}
use Rattle.tree_memory.specs.declared.event.Event.TheVariants.{Move, MoveAll, Change as Changed, Rollback}
use Rattle.tree_memory.specs.declared.snap.Kept.{Kept}
use Rattle.tree_memory.specs.declared.store.Store.{Store}

-- the node at p changes by f
pub record IsChange (t : Tree) (p : Path) (f : Version → Version) (e : Event) : Type 0 where
  pub node : ℕ
  pub change : Change
  pub is : e ≡ Changed node change
  pub here : t.at p ≡ Some node
  pub does : (v : Version) → changed change v ≡ f v
  pub fit : fits change ≡ true

-- a file moves
pub record IsMove (t : Tree) (from to : Path) (e : Event) : Type 0 where
  pub node : ℕ
  pub is : e ≡ Move from to node
  pub here : t.at from ≡ Some node
  pub file : (t.node node).dir ≡ false
  pub apart : from ≢ to

-- a file stays where it is
pub record IsStay (t : Tree) (from to : Path) (e : Event) : Type 0 where
  pub node : ℕ
  pub edits : Vec Edit Global
  pub is : e ≡ MoveAll edits
  pub none : edits.items ≡ []
  pub here : t.at from ≡ Some node
  pub file : (t.node node).dir ≡ false
  pub same : from ≡ to

-- a directory moves
pub record IsMoveAll (t : Tree) (from to : Path) (e : Event) : Type 0 where
  pub node : ℕ
  pub names : List Name
  pub edits : Vec Edit Global
  pub is : e ≡ MoveAll edits
  pub moves : edits.items ≡ unlinks from names ++ links to names
  pub here : t.at from ≡ Some node
  pub dir : (t.node node).dir ≡ true
  pub below : IsBelow t.at from names

abbrev pub IsMoving : Tree → Path → Path → Event → Type 0
IsMoving t from to e = IsMove t from to e ⊎ (IsStay t from to e ⊎ IsMoveAll t from to e)

-- `current` becomes what a snapshot has
pub record IsRestoring (s : Store) (seq : ℕ) (e : Event) : Type 0 where
  pub kept : List Kept
  pub there : (tree_of s).snap seq ≡ Some (content_of kept)
  pub each : IsEach (rests_of kept)
  pub nodes : Vec Node Global
  pub edits : Vec Edit Global
  pub names : List Name
  pub is : e ≡ Rollback (count_of s) nodes edits
  pub held : map version nodes.items ≡ map (λ k. version k.node) kept
  pub below : IsBelow (names_at s.names) current names
  pub moves : edits.items ≡ unlinks current names ++ links current (numbered (count_of s) (rests_of kept))
