use Rattle.std.proofs.Common.{◌≡◌, ◌≤◌, ◌++◌, length}
use Rattle.std.specs.List.{filter}
use Rattle.std.specs.Option.{option_copied}
use Rattle.std.specs.BTreeSet.{btree_set_len}
use Rattle.fs_model.specs.Listing.{at_or_after}
use Rattle.file_readings.proofs.listing.page_from.Given as goal

abbrev pub invariant-loop-oid : goal.invariant-loop-oid
invariant-loop-oid l = record {
  are : filter (at_or_after (option_copied l.from)) l.fn.oids.keys ≡ l.page.items ++ filter (at_or_after (option_copied l.from)) l.left.keys;
  few : length l.page.items ≤ l.max;
}

abbrev pub decreases-loop-oid : goal.decreases-loop-oid
decreases-loop-oid l = btree_set_len l.left
