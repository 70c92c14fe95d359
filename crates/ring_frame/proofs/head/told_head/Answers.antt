use Rattle.std.proofs.Common.{◌≡◌, List, ℕ, take, drop}
use Rattle.byteorder.specs.Endian.{big_number}
use Rattle.ring_frame.proofs.HeadFacts.{head_made}
use Rattle.ring_frame.proofs.head.told_head.Goals as goal

pub returns : goal.returns
returns c =
    let b : List ℕ = c.args.bytes.now in
    let f : c.copy_from_slice.new.self ≡ take 16 (drop 8 b) = c.copy_from_slice.ensures.after in
    head_made c.copy_from_slice.new.self (take 16 (drop 8 b)) c.number_at.result (big_number 8 (drop 24 b)) c.number_at-2.result (big_number 8 (drop 32 b))
    c.number_at-3.result (big_number 8 (drop 40 b)) c.number_at-4.result (big_number 8 (drop 48 b)) c.number_at-5.result (big_number 8 (drop 56 b)) f c.number_at.ensures c.number_at-2.ensures c.number_at-3.ensures c.number_at-4.ensures c.number_at-5.ensures
