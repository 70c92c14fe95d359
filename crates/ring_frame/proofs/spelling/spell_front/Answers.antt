use Rattle.std.proofs.Common.{◌≡◌, List, ℕ, ◌++◌, length, refl, ap, ◌∙◌, arith}
use Rattle.sha1.specs.Sha1.{sha1}
use Rattle.ring_frame.specs.Frame.{Entry, head, front}
use Rattle.ring_frame.proofs.Facts.{length-sha1, length-head}
use Rattle.ring_frame.specs.Put.{put}
use Rattle.ring_frame.proofs.Put.{two_puts}
use Rattle.ring_frame.proofs.spelling.spell_front.Goals as goal

pub returns : goal.returns
unfolding front
returns c =
    let e : Entry = record { seq = c.args.seq; epoch = c.args.epoch; payload = c.args.payload.now } in
    let H : List ℕ = head c.args.fsid.now c.args.pos e in
    let f : c.spell_head-first.result ≡ H = c.spell_head-first.ensures in
    let digest : c.digest_of.result ≡ sha1 (H ++ c.args.payload.now) = c.digest_of.ensures ∙ ap (λ (x : List ℕ). sha1 (x ++ c.args.payload.now)) f in
    let long : length H ≡ 44 = length-head c.args.fsid.now c.args.pos e (omega (arith, c.told-fsid)) in
    two_puts _ c.put_at.new.into c.put_at-2.new.into H (sha1 (H ++ c.args.payload.now)) refl long (length-sha1 (H ++ c.args.payload.now))
    (c.put_at.ensures ∙ ap (put _ 0) f) (c.put_at-2.ensures ∙ ap (put c.put_at.new.into 44) digest)
