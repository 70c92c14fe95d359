-- What the steps of an operation on one object tell each other.
use Rattle.std.specs.Prelude.{◌≡◌, Option}
use Rattle.fs_names.specs.declared.settings.Settings.{Settings}
use Rattle.tree_api.specs.Tree.{Version, Tree}
use Rattle.tree_api.specs.Disk.{Disk, Leaves}
use Rattle.lfn_index.specs.Maps.{Map, IsMap, content}
use Rattle.lfn_index.specs.OneObject.{OnlyOne}
use Rattle.tree_stands.specs.Names.{Name}
use Rattle.tree_stands.specs.Shown.{Paired}
use Rattle.tree_stands.specs.Trees.{dir_of}

-- what the object's file holds, by any map of its directory
abbrev pub Holds : Settings → Name → Tree → Option Version → Type 0
Holds set n t x = (m : Map) → IsMap set t (dir_of n.coll) m → content m t n.oid ≡ x

-- each cell of the object, with the guard beside it, is as it was, a's or b's; all else stays
abbrev pub Among : Settings → Name → Option Version → Option Version → Tree → Tree → Type 0
Among set n a b = OnlyOne set (dir_of n.coll) n.oid (Paired a b)

-- a crash leaves cells as they were, as they read, or as F makes them; and so they read
abbrev pub GoesBy : Settings → Name → (Option Version → Option Version) → Disk → Disk → Type 0
GoesBy set n F old new = (x : Option Version) → Holds set n old.tree x → Leaves (Among set n x (F x)) old new

-- the object's file is what F makes of it, and all else stays
abbrev pub ReadsBy : Settings → Name → (Option Version → Option Version) → Tree → Tree → Type 0
ReadsBy set n F old new = OnlyOne set (dir_of n.coll) n.oid (λ x y. y ≡ F x) old new
