-- What each operation does to each cell.
use Rattle.std.specs.Prelude.{Bool, if◌then◌else◌, ◌&&◌, length, slice_index_or}
use Rattle.std.specs.Ordering.{eq_by_cmp}
use Rattle.fs_names.specs.declared.coll.Coll.{Coll}
use Rattle.fs_names.specs.declared.oid.Oid.{Oid}
use Rattle.fs_names.specs.Order.{oid_cmp, coll_cmp}
use Rattle.fs_model.specs.declared.op.Op.{Op}
use Rattle.fs_model.specs.declared.op.Op.TheVariants.{Touch, Write, Zero, Truncate, Remove, SetAttrs, RmAttr, RmAttrs, Clone, CloneRange, MoveRename, MkColl, RmColl, OmapClear, OmapSet, OmapRemove, OmapRange}
use Rattle.replay_laws.specs.Replay.{leaves, sets, raises, copies}
use Rattle.fs_cells.specs.declared.cell.Cell.{Cell}
use Rattle.fs_cells.specs.declared.cell.Part.{Part}
use Rattle.fs_cells.specs.declared.cell.Act.{Act}
use Rattle.fs_cells.specs.declared.cell.Act.TheVariants.{Leaves, Sets, Raises, Copies}
use Rattle.fs_cells.specs.Parts.{CellAct, touched, overwritten, resized, removed, attrs_set, attr_removed, attrs_removed, omap_cleared, omap_set, omap_removed, omap_range_removed, copied, range_copied}

abbrev pub in_coll : Coll → Cell → Bool
in_coll c x = eq_by_cmp coll_cmp x.c c

abbrev pub is_of : Coll → Oid → Cell → Bool
is_of c o x = in_coll c x && eq_by_cmp oid_cmp x.o o

-- the parts of one object change, and no other cell
abbrev pub on_object : Coll → Oid → (Part → CellAct) → Cell → CellAct
on_object c o does x = if is_of c o x then does x.part else leaves

abbrev pub act_of : Op → Cell → CellAct
act_of (Touch c o) x = on_object c o touched x
act_of (Write c o at bytes) x = on_object c o (overwritten at (length bytes) (λ i. slice_index_or bytes i 0)) x
act_of (Zero c o at len) x = on_object c o (overwritten at len (λ i. 0)) x
act_of (Truncate c o len) x = on_object c o (resized len) x
act_of (Remove c o) x = on_object c o removed x
act_of (SetAttrs c o pairs) x = on_object c o (attrs_set pairs) x
act_of (RmAttr c o name) x = on_object c o (attr_removed name) x
act_of (RmAttrs c o) x = on_object c o attrs_removed x
act_of (Clone c o c2 o2) x = on_object c2 o2 (copied c o) x
act_of (CloneRange c o c2 o2 from len to) x = on_object c2 o2 (range_copied c o from len to) x
act_of (MoveRename c o c2 o2) x = if is_of c2 o2 x then copied c o x.part else on_object c o removed x
act_of (MkColl c) x = leaves
act_of (RmColl c) x = if in_coll c x then removed x.part else leaves
act_of (OmapClear c o) x = on_object c o omap_cleared x
act_of (OmapSet c o header pairs) x = on_object c o (omap_set header pairs) x
act_of (OmapRemove c o keys) x = on_object c o (omap_removed keys) x
act_of (OmapRange c o from to) x = on_object c o (omap_range_removed from to) x

-- which of the four it is
abbrev pub kind : CellAct → Act
kind leaves = Leaves
kind (sets v) = Sets
kind (raises n) = Raises
kind (copies source f) = Copies
