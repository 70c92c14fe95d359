use Rattle.std.proofs.Common.{◌≡◌, List, ℕ, length, replicate, refl, ap, ◌∙◌, arith}
use Rattle.sha1.specs.Sha1.{sha1}
use Rattle.ring_frame.specs.Heads.{head_bytes, head_block}
use Rattle.ring_frame.proofs.Facts.{length-sha1}
use Rattle.ring_frame.specs.Put.{put}
use Rattle.ring_frame.proofs.Put.{three_puts}
use Rattle.ring_frame.proofs.head.write_head.Goals as goal

pub returns : goal.returns
unfolding head_block
returns c =
    let B : List ℕ = head_bytes c.args.head.now in
    let is : c.spell_fields-fields.result ≡ B = c.spell_fields-fields.ensures in
    let long : length B ≡ 64 = omega (arith, ap length is) in
    three_puts c.args.into.now c.put_at.new.into c.put_at-2.new.into c.clear.new.into B (sha1 B) (replicate 4012 0) 4096 64 84
    (omega (arith, c.told-into)) (omega (arith, long)) (omega (arith, length-sha1 B)) refl
    (c.put_at.ensures ∙ ap (put c.args.into.now 0) is) (c.put_at-2.ensures ∙ ap (put c.put_at.new.into 64) (c.digest.ensures ∙ ap sha1 is)) c.clear.ensures
