use Rattle.std.proofs.Common.{rules, ◌≡◌, List, ℕ, ◌+◌, ◌-◌, sym, ap, ◌∙◌, take, drop, arith}
use Rattle.std.specs.Prelude.{Some}
use Rattle.ring_frame.specs.Frame.{Entry, told_length}
use Rattle.ring_frame.proofs.Facts.{need-room, made_same}
use Rattle.ring_frame.proofs.Seals.{unsealed, read_room, read_sealed}
use Rattle.ring_frame.proofs.reading.read_entry.Goals as goal

pub returns-in-Some-clause-unsealed : goal.returns-in-Some-clause-unsealed
returns-in-Some-clause-unsealed c =
    unsealed c.args.fsid.now c.args.place c.args.bytes.now c.in-Some.fault (omega (arith, c.told-fsid)) (sym c.first_fault.ensures ∙ c.in-Some.is)

pub read-head-requires : goal.read-head-requires
read-head-requires c =
    let room = read_room c.args.fsid.now c.args.place c.args.bytes.now (omega (arith, c.told-fsid)) (search rules) (sym c.first_fault.ensures ∙ c.in_default.is) in
    omega (arith, room, need-room (told_length c.args.bytes.now))

pub slice_bounds-payload-end : goal.slice_bounds-payload-end
slice_bounds-payload-end c =
    let room = read_room c.args.fsid.now c.args.place c.args.bytes.now (omega (arith, c.told-fsid)) (search rules) (sym c.first_fault.ensures ∙ c.in_default.is) in
    omega (arith, room, need-room (told_length c.args.bytes.now), c.read-head.ensures.len)

pub returns-clause-sealed : goal.returns-clause-sealed
returns-clause-sealed c =
    let bytes : List ℕ = c.args.bytes.now in
    let same : 64 + c.read-head.result.len - 64 ≡ told_length bytes = omega (arith, c.read-head.ensures.len) in
    read_sealed c.args.fsid.now c.args.place bytes (omega (arith, c.told-fsid)) (search rules) (sym c.first_fault.ensures ∙ c.in_default.is)
    ∙ ap (λ (x : Entry). Some x) (sym (made_same _ _ _ _ _ _ c.read-head.ensures.seq c.read-head.ensures.epoch (ap (λ (n : ℕ). take n (drop 64 bytes)) same)))
