use Rattle.std.proofs.Common.{replicate, refl, ap, ◌∙◌, arith}
use Rattle.byteorder.specs.Numbers.{length-bytes_high_first}
use Rattle.byteorder.specs.Endian.{big_bytes}
use Rattle.ring_frame.specs.Heads.{head_bytes, ring_magic}
use Rattle.ring_frame.specs.Put.{put}
use Rattle.ring_frame.proofs.Put.{seven_puts}
use Rattle.ring_frame.proofs.head.spell_fields.Goals as goal

pub returns : goal.returns
unfolding head_bytes
returns c =
    let h = c.args.head.now in
    seven_puts (replicate 64 0) c.put_at.new.into c.put_at-2.new.into c.put_at-3.new.into c.put_at-4.new.into c.put_at-5.new.into c.put_at-6.new.into c.put_at-7.new.into
    ring_magic h.fsid (big_bytes 8 h.generation) (big_bytes 8 h.epoch) (big_bytes 8 h.start) (big_bytes 8 h.seq) (big_bytes 8 h.size)
    refl refl (omega arith) (length-bytes_high_first 8 h.generation) (length-bytes_high_first 8 h.epoch) (length-bytes_high_first 8 h.start) (length-bytes_high_first 8 h.seq) (length-bytes_high_first 8 h.size)
    c.put_at.ensures c.put_at-2.ensures (c.put_at-3.ensures ∙ ap (put c.put_at-2.new.into 24) c.to_be_bytes.ensures)
    (c.put_at-4.ensures ∙ ap (put c.put_at-3.new.into 32) c.to_be_bytes-2.ensures) (c.put_at-5.ensures ∙ ap (put c.put_at-4.new.into 40) c.to_be_bytes-3.ensures)
    (c.put_at-6.ensures ∙ ap (put c.put_at-5.new.into 48) c.to_be_bytes-4.ensures) (c.put_at-7.ensures ∙ ap (put c.put_at-6.new.into 56) c.to_be_bytes-5.ensures)
