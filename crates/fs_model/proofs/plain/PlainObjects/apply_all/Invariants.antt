use Rattle.std.proofs.Common.{◌≡◌, take}
use Rattle.fs_model.specs.Rows.{fold_ops}
use Rattle.fs_model.proofs.plain.PlainObjects.apply_all.Given as goal

abbrev pub invariant-loop-op : goal.invariant-loop-op
invariant-loop-op l = l.self ≡ fold_ops l.initial.self (take l.op-index l.ops)
