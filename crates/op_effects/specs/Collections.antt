-- What making a collection, and taking one away, does to what a tree shows.
use Rattle.std.specs.Prelude.{◌≡◌, ◌≢◌, ◌⊎◌, Some, None}
use Rattle.fs_names.specs.declared.coll.Coll.{Coll}
use Rattle.fs_names.specs.declared.oid.Oid.{Oid}
use Rattle.fs_names.specs.declared.settings.Settings.{Settings}
use Rattle.fs_names.specs.Reading.{OidFits, CollFits}
use Rattle.tree_api.specs.Tree.{Tree}
use Rattle.lfn_index.specs.Maps.{Map, IsMap, Whole}
use Rattle.tree_stands.specs.Trees.{dir_of, dir_guard, InColl}

-- its guard stays, and each object in it holds what it held
abbrev pub CollStays : Settings → Coll → Tree → Tree → Type 0
CollStays set c = InColl set c (λ o x y. y ≡ x)

-- no file of an object stands in it, and no damage
pub record IsEmpty (set : Settings) (c : Coll) (t : Tree) : Type 0 where
  pub whole : Whole set (dir_of c) t
  pub none : (m : Map) → IsMap set t (dir_of c) m → (o : Oid) → OidFits o → m o ≡ None

-- it wasn't there; now it is, empty and without a guard
pub record Comes (set : Settings) (c : Coll) (e f : Tree) : Type 0 where
  pub was : dir_guard e c ≡ None
  pub here : dir_guard f c ≡ Some None
  pub empty : IsEmpty set c f

-- it isn't there, and nothing in it
pub record IsGone (set : Settings) (c : Coll) (t : Tree) : Type 0 where
  pub none : dir_guard t c ≡ None
  pub empty : IsEmpty set c t

-- the collection stays or comes, and all others stay
pub record Makes (set : Settings) (c : Coll) (e f : Tree) : Type 0 where
  pub here : CollStays set c e f ⊎ Comes set c e f
  pub others : (d : Coll) → CollFits d → d ≢ c → CollStays set d e f

-- the collection stays or goes, and all others stay
pub record Drops (set : Settings) (c : Coll) (e f : Tree) : Type 0 where
  pub here : CollStays set c e f ⊎ IsGone set c f
  pub others : (d : Coll) → CollFits d → d ≢ c → CollStays set d e f
