use Rattle.std.proofs.Common.{◌≡◌}
use Rattle.dev_edge.specs.Told.{disk_of, size_of}
use Rattle.ring_journal.specs.State.{Loaded, IsUnspent}
use Rattle.store_journal.proofs.tests.told.Given as goal

abbrev pub invariant-loop : goal.invariant-loop
invariant-loop l = record {
  extent : size_of l.device ≡ l.ring.head.size;
  unspent : IsUnspent l.ring.head;
  loaded : Loaded l.ring (disk_of l.device);
}
