use Rattle.std.proofs.Common.{◌≡◌, replicate, None}
use Rattle.turn_core.proofs.slots.Slots.free.Given as goal

abbrev pub invariant-loop : goal.invariant-loop
invariant-loop l = l.places.items ≡ replicate l.counter None
