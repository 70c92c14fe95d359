-- That the files of a tree are these objects.
use Rattle.std.specs.Prelude.{◌≡◌, ◌≢◌, ℕ, List, [], Option, Some, None}
use Rattle.std.specs.FinMap as map
use Rattle.fs_names.specs.declared.coll.Coll.{Coll}
use Rattle.fs_names.specs.declared.oid.Oid.{Oid}
use Rattle.fs_names.specs.declared.settings.Settings.{Settings}
use Rattle.fs_names.specs.Reading.{OidFits, CollFits}
use Rattle.fs_model.specs.Objects.{Object, Objects, look}
use Rattle.tree_api.specs.Tree.{Version, Tree}
use Rattle.lfn_index.specs.Maps.{Map, IsMap, content}
use Rattle.object_file.specs.Attrs.{attr_name}
use Rattle.tree_stands.specs.Trees.{dir_of, AllWhole}
use Rattle.op_places.specs.Places.{is_there}

-- The file has the object's bytes and attributes. The object has no omap, since no operation that makes one is built.
pub record IsFileOf (v : Version) (x : Object) : Type 0 where
  pub bytes : v.bytes ≡ x.bytes
  pub attrs : (key : List ℕ) → v.attr (attr_name key) ≡ map.get x.attrs key
  pub header : x.header ≡ []
  pub omap : x.omap ≡ map.empty

-- a file is there just where the object is
abbrev pub Matches : Option Version → Option Object → Type 0
Matches None None = Unit {0}
Matches (Some v) (Some x) = IsFileOf v x
Matches None (Some x) = ⊥
Matches (Some v) None = ⊥

-- The directories are the collections, and the files in each are its objects. There is no damage.
pub record Shows (set : Settings) (O : Objects) (t : Tree) : Type 0 where
  pub whole : AllWhole set t
  pub colls : (c : Coll) → is_there t c ≡ map.contains_key O c
  pub files : (c : Coll) (m : Map) → CollFits c → IsMap set t (dir_of c) m → (o : Oid) → OidFits o → Matches (content m t o) (look O c o)
  pub named : (c : Coll) (o : Oid) → look O c o ≢ None → OidFits o
