-- The groups that transactions name.
use Rattle.std.specs.Prelude.{Bool, true, false, ◌&&◌, ◌==◌, List}
use Rattle.std.specs.List.{list_any}
use Rattle.fs_names.specs.declared.coll.GroupId.{GroupId}
use Rattle.fs_names.specs.declared.coll.GroupId.TheVariants.{Meta, Pg}

abbrev pub same : GroupId → GroupId → Bool
same Meta Meta = true
same (Pg pool seed) (Pg pool2 seed2) = (pool == pool2) && (seed == seed2)
same Meta (Pg pool seed) = false
same (Pg pool seed) Meta = false

-- the group stands among these
abbrev pub among : List GroupId → GroupId → Bool
among groups group = list_any (same group) groups

-- some group stands in both
abbrev pub meet : List GroupId → List GroupId → Bool
meet front groups = list_any (among groups) front
