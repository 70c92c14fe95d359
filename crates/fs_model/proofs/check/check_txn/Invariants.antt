use Rattle.std.proofs.Common.{◌≡◌, ◌≤◌, take, None}
use Rattle.fs_model.specs.Changes.{changed}
use Rattle.fs_model.specs.Check.{colls_after, refusal_from}
use Rattle.fs_model.proofs.check.check_txn.Given as goal

abbrev pub invariant-loop-i : goal.invariant-loop-i
invariant-loop-i l = record {
  after : changed l.colls l.change ≡ colls_after l.colls (take l.i l.ops);
  accepted : refusal_from l.colls 0 (take l.i l.ops) ≡ None;
  few : l.i ≤ 4096;
}
