-- The groups of collections.
use Rattle.fs_names.specs.declared.coll.Coll.{Coll}
use Rattle.fs_names.specs.declared.coll.Coll.TheVariants.{Meta as MetaColl, Pg as PgColl}
use Rattle.fs_names.specs.declared.coll.GroupId.{GroupId}
use Rattle.fs_names.specs.declared.coll.GroupId.TheVariants.{Meta, Pg}

-- the pool and the seed, without whether the collection is a temporary one
abbrev pub group_of : Coll → GroupId
group_of MetaColl = Meta
group_of (PgColl pool seed temp) = Pg pool seed
