-- The collections of each operation. An operation more is a line of `colls_named`, and one of `made` or `gone` where it makes a
-- collection or takes one away.
use Rattle.std.specs.Prelude.{List, [], ◌∷◌, map, Option, None, Some}
use Rattle.std.specs.List.{flat_map, Contains}
use Rattle.fs_names.specs.declared.coll.Coll.{Coll}
use Rattle.fs_names.specs.declared.coll.GroupId.{GroupId}
use Rattle.fs_names.specs.Groups.{group_of}
use Rattle.fs_model.specs.declared.op.Op.{Op}
use Rattle.fs_model.specs.declared.op.Op.TheVariants.{Touch, Write, Zero, Truncate, Remove, SetAttrs, RmAttr, RmAttrs, Clone, CloneRange, MoveRename, MkColl, RmColl, OmapClear, OmapSet, OmapRemove, OmapRange}

abbrev pub colls_named : Op → List Coll
colls_named (Touch c o) = c ∷ []
colls_named (Write c o at bytes) = c ∷ []
colls_named (Zero c o at len) = c ∷ []
colls_named (Truncate c o len) = c ∷ []
colls_named (Remove c o) = c ∷ []
colls_named (SetAttrs c o pairs) = c ∷ []
colls_named (RmAttr c o name) = c ∷ []
colls_named (RmAttrs c o) = c ∷ []
colls_named (Clone c o c2 o2) = c ∷ c2 ∷ []
colls_named (CloneRange c o c2 o2 from len to) = c ∷ c2 ∷ []
colls_named (MoveRename c o c2 o2) = c ∷ c2 ∷ []
colls_named (MkColl c) = c ∷ []
colls_named (RmColl c) = c ∷ []
colls_named (OmapClear c o) = c ∷ []
colls_named (OmapSet c o header pairs) = c ∷ []
colls_named (OmapRemove c o keys) = c ∷ []
colls_named (OmapRange c o from to) = c ∷ []

-- the collections that it makes, and those that it takes away
abbrev pub made : Op → List Coll
made (MkColl c) = c ∷ []
made _ = []

abbrev pub gone : Op → List Coll
gone (RmColl c) = c ∷ []
gone _ = []

-- the collections that must be there before it: one that makes a collection needs none
abbrev pub needed_by : List Coll → List Coll → List Coll
needed_by [] named = named
needed_by (c ∷ cs) named = []

abbrev pub needed : Op → List Coll
needed op = needed_by (made op) (colls_named op)

-- one or none, and one or two, as a list
abbrev pub few : Option Coll → List Coll
few None = []
few (Some c) = c ∷ []

abbrev pub first_and_second : Coll × Option Coll → List Coll
first_and_second p = p.0 ∷ few p.1

-- the groups of a transaction, and whether two transactions conflict
abbrev pub groups_of : List Op → List GroupId
groups_of ops = map group_of (flat_map colls_named ops)

abbrev pub Conflict : List Op → List Op → Type 0
Conflict a b = (g : GroupId) × Contains (groups_of a) g × Contains (groups_of b) g
