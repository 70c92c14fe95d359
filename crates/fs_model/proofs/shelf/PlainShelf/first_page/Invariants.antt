use Rattle.std.proofs.Common.{◌≡◌, ◌≤◌, length, map}
use Rattle.std.specs.Map.Iter.{deref_pair}
use Rattle.fs_model.proofs.ListedPages.{oids_of}
use Rattle.fs_model.proofs.shelf.PlainShelf.first_page.Given as goal

abbrev pub invariant-loop-oid : goal.invariant-loop-oid
invariant-loop-oid l = (l.oids.items ≡ oids_of (map deref_pair l.yielded)) × (length l.oids.items ≤ l.max)
