use Rattle.std.proofs.Common.{◌≡◌, List, ℕ, ◌+◌, ◌-◌, ◌≤◌, ◌++◌, length, replicate, refl, ap, ◌∙◌, arith}
use Rattle.std.proofs.lemmas.List.{length-replicate}
use Rattle.ring_frame.specs.Frame.{need, front, spelled, Entry}
use Rattle.ring_frame.proofs.Facts.{length-front, need-room}
use Rattle.ring_frame.proofs.Put.{four_puts}
use Rattle.ring_frame.proofs.spelling.seal.Goals as goal

pub overflow_sub-foot : goal.overflow_sub-foot
overflow_sub-foot c = omega (arith, need-room (length c.args.payload.now))

pub put_at-requires : goal.put_at-requires
put_at-requires c =
    let e : Entry = record { seq = c.args.seq; epoch = c.args.epoch; payload = c.args.payload.now } in
    let f : length c.spell_front-first.result ≡ 64 = ap length c.spell_front-first.ensures ∙ length-front c.args.fsid.now c.args.pos e (omega (arith, c.told-fsid)) in
    omega (arith, f, need-room (length c.args.payload.now))

pub put_at-requires-2 : goal.put_at-requires-2
put_at-requires-2 c = omega (arith, need-room (length c.args.payload.now))

pub clear-requires-clause-order : goal.clear-requires-clause-order
clear-requires-clause-order c = omega (arith, need-room (length c.args.payload.now))

pub returns : goal.returns
unfolding spelled
returns c =
    let e : Entry = record { seq = c.args.seq; epoch = c.args.epoch; payload = c.args.payload.now } in
    let n : ℕ = length c.args.into.now in
    let F : List ℕ = c.spell_front-first.result in
    let P : List ℕ = c.args.payload.now in
    let is : F ≡ front c.args.fsid.now c.args.pos e = c.spell_front-first.ensures in
    let f : length F ≡ 64 = ap length is ∙ length-front c.args.fsid.now c.args.pos e (omega (arith, c.told-fsid)) in
    let big : length P + 128 ≤ need (length P) = need-room (length P) in
    let room : n ≡ need (length P) = c.requires.room in
    let m : ℕ = (n - 64) - (64 + length P) in
    let same : m ≡ need (length P) - (length P + 128) = omega (arith, room, big) in
    let Z : List ℕ = replicate m 0 in
    let zeros : length Z ≡ m = length-replicate {A = ℕ} m 0 in
    four_puts c.args.into.now c.put_at.new.into c.put_at-2.new.into c.clear.new.into c.put_at-3.new.into F P Z F n 64 (64 + length P) (n - 64)
    refl (omega (arith, f)) refl (omega (arith, zeros, big, room)) (omega (arith, f, big, room)) c.put_at.ensures c.put_at-2.ensures c.clear.ensures c.put_at-3.ensures
    ∙ ap (λ (k : ℕ). F ++ (P ++ (replicate k 0 ++ F))) same
    ∙ ap (λ (g : List ℕ). g ++ (P ++ (replicate (need (length P) - (length P + 128)) 0 ++ g))) is
