-- The names of objects over all collections.
use Rattle.std.specs.Prelude.{Bool, false, ◌&&◌, Option, Some, None, Result, Ok, Err}
use Rattle.std.specs.Ordering.{eq_by_cmp}
use Rattle.fs_names.specs.declared.coll.Coll.{Coll}
use Rattle.fs_names.specs.declared.oid.Oid.{Oid}
use Rattle.fs_names.specs.declared.fault.NameFault.{NameFault}
use Rattle.fs_names.specs.Order.{oid_cmp, coll_cmp}
use Rattle.fs_names.specs.Reading.{OidFits, CollFits, oid_of, coll_of}
use Rattle.fs_names.specs.Text.{oid_text, coll_text}
use Rattle.fs_cells.specs.declared.cell.Cell.{Cell}
use Rattle.fs_cells.specs.declared.cell.Part.{Part}

pub record Name : Type 0 where
  pub coll : Coll
  pub oid : Oid

abbrev pub name_of : Cell → Name
name_of x = record { coll = x.c; oid = x.o }

abbrev pub cell_at : Name → Part → Cell
cell_at n part = record { c = n.coll; o = n.oid; part = part }

abbrev pub same_name : Name → Name → Bool
same_name a b = eq_by_cmp coll_cmp a.coll b.coll && eq_by_cmp oid_cmp a.oid b.oid

-- values of the types can have it
pub record NameFits (n : Name) : Type 0 where
  pub coll : CollFits n.coll
  pub oid : OidFits n.oid

abbrev pub oid_reads_as : Oid → Result Oid NameFault → Bool
oid_reads_as o (Ok p) = eq_by_cmp oid_cmp p o
oid_reads_as o (Err e) = false

abbrev pub coll_reads_as : Coll → Option Coll → Bool
coll_reads_as c (Some d) = eq_by_cmp coll_cmp d c
coll_reads_as c None = false

-- the same, as a test: its text is read as itself
abbrev pub oid_fits : Oid → Bool
oid_fits o = oid_reads_as o (oid_of (oid_text o))

abbrev pub coll_fits : Coll → Bool
coll_fits c = coll_reads_as c (coll_of (coll_text c))

abbrev pub name_fits : Name → Bool
name_fits n = coll_fits n.coll && oid_fits n.oid
