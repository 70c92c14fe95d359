-- What listings name.
use Rattle.std.specs.Prelude.{◌≡◌, List, [], ◌∷◌, ◌++◌, Contains, option_to_list, map, Option, None, Some}
use Rattle.fs_names.specs.declared.coll.Coll.{Coll}
use Rattle.fs_names.specs.declared.oid.Oid.{Oid}
use Rattle.fs_names.specs.Reading.{coll_of}
use Rattle.tree_api.specs.Tree.{Path}
use Rattle.tree_api.specs.declared.tree.Entry.{Entry}
use Rattle.tree_api.specs.declared.tree.Kind.TheVariants.{File}
use Rattle.lfn_index.specs.declared.listing.Found.{Found}

-- the objects of files
abbrev pub oids_of : List Found → List Oid
oids_of = map (λ file. file.oid)

-- the collection whose text is the one step
abbrev pub coll_at : Path → Option Coll
coll_at (step ∷ []) = coll_of step
coll_at _ = None

-- the collections among entries
abbrev pub colls_in : List Entry → List Coll
colls_in [] = []
colls_in (e ∷ es) = option_to_list (coll_at e.step) ++ colls_in es

-- a file in a collection's place
abbrev pub IsCollFile : Entry → Type 0
IsCollFile e = (c : Coll) × (coll_at e.step ≡ Some c) × (e.kind ≡ File)

abbrev pub HasCollFile : List Entry → Type 0
HasCollFile es = (e : Entry) × Contains es e × IsCollFile e
