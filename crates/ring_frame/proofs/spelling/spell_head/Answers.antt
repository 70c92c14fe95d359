use Rattle.std.proofs.Common.{take, length, replicate, refl, ap, ◌∙◌, length-take-le, arith}
use Rattle.byteorder.specs.Numbers.{length-bytes_high_first}
use Rattle.byteorder.specs.Endian.{big_bytes}
use Rattle.ring_frame.specs.Frame.{head, entry_magic}
use Rattle.ring_frame.specs.Put.{put}
use Rattle.ring_frame.proofs.Put.{six_puts}
use Rattle.ring_frame.proofs.spelling.spell_head.Goals as goal

pub returns : goal.returns
unfolding head
returns c =
    six_puts (replicate 44 0) c.put_at.new.into c.put_at-2.new.into c.put_at-3.new.into c.put_at-4.new.into c.put_at-5.new.into c.put_at-6.new.into
    entry_magic (take 8 c.args.fsid.now) (big_bytes 8 c.args.pos) (big_bytes 8 c.args.seq) (big_bytes 8 c.args.epoch) (big_bytes 4 (length c.args.payload.now))
    refl refl (length-take-le 8 c.args.fsid.now (omega arith)) (length-bytes_high_first 8 c.args.pos) (length-bytes_high_first 8 c.args.seq) (length-bytes_high_first 8 c.args.epoch) (length-bytes_high_first 4 (length c.args.payload.now))
    c.put_at.ensures c.put_at-2.ensures (c.put_at-3.ensures ∙ ap (put c.put_at-2.new.into 16) c.to_be_bytes.ensures) (c.put_at-4.ensures ∙ ap (put c.put_at-3.new.into 24) c.to_be_bytes-2.ensures)
    (c.put_at-5.ensures ∙ ap (put c.put_at-4.new.into 32) c.to_be_bytes-3.ensures) (c.put_at-6.ensures ∙ ap (put c.put_at-5.new.into 40) c.to_be_bytes-4.ensures)
