use Rattle.std.proofs.Common.{◌∙◌}
use Rattle.turn_core.proofs.Places.{set_twice, advance_row}
use Rattle.turn_core.proofs.slots.Slots.advance.Goals as goal

pub returns : goal.returns
returns c = set_twice c.self.inside.places.items c.args.place c.take-slot.new.self c.advance.result
    ∙ advance_row c.self.inside.places.items c.args.self.now c.args.place c.advance.result c.take-slot.result c.index_mut.result.now c.self.view_is c.requires.inside c.advance.ensures c.take-slot.ensures.value c.index_mut.ensures.value
