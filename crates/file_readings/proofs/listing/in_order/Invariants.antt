use Rattle.std.proofs.Common.{length}
use Rattle.std.specs.List.Sorted.{IsStrictlySortedBy}
use Rattle.fs_names.specs.Order.{oid_cmp}
use Rattle.file_readings.proofs.Gathered.{AreGathered}
use Rattle.file_readings.proofs.listing.in_order.Given as goal

abbrev pub invariant-loop-file : goal.invariant-loop-file
invariant-loop-file l = record {
  ordered : IsStrictlySortedBy oid_cmp l.oids.keys;
  gathered : AreGathered l.fn.files.items l.left.items l.oids.keys;
}

abbrev pub decreases-loop-file : goal.decreases-loop-file
decreases-loop-file l = length l.left.items
