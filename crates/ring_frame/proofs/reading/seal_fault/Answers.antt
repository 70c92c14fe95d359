use Rattle.std.proofs.Common.{◌≡◌, List, ℕ, ◌+◌, ◌-◌, refl, sym, ap, ◌∙◌, length, length-take, take, drop, ◌++◌, arith}
use Rattle.sha1.specs.Sha1.{sha1}
use Rattle.ring_frame.specs.Frame.{need, told_length}
use Rattle.ring_frame.proofs.Facts.{need-room, length-sha1}
use Rattle.ring_frame.proofs.Seals.{seal_short, seal_digest, seal_footer, seal_whole}
use Rattle.ring_frame.proofs.reading.seal_fault.Goals as goal

-- the size and the digest that were computed, in the definition's words
size_is : (bytes : List ℕ) (len from size : ℕ) → len ≡ told_length bytes → from ≡ len → size ≡ need from → size ≡ need (told_length bytes)
size_is bytes len from size a b c = c ∙ ap need (b ∙ a)

digest_is : (bytes digest : List ℕ) (len : ℕ) → len ≡ told_length bytes → digest ≡ sha1 (take 44 bytes ++ take (64 + len - 64) (drop 64 bytes)) → digest ≡ sha1 (take 44 bytes ++ take (told_length bytes) (drop 64 bytes))
digest_is bytes digest len a h =
    h ∙ ap (λ (n : ℕ). sha1 (take 44 bytes ++ take n (drop 64 bytes))) (let e : 64 + len - 64 ≡ told_length bytes = omega (arith, a) in e)

pub slice_bounds-payload-end : goal.slice_bounds-payload-end
slice_bounds-payload-end c = omega (arith, need-room c.from.result)

pub slice_bounds-told-end : goal.slice_bounds-told-end
slice_bounds-told-end c = omega (arith, length-take 44 c.args.bytes.now)

pub overflow_sub-size : goal.overflow_sub-size
overflow_sub-size c = omega (arith, need-room c.from.result)

pub stands_at-requires : goal.stands_at-requires
stands_at-requires c = omega (arith, need-room c.from.result, ap length c.digest_of-digest.ensures, length-sha1 (take 44 c.args.bytes.now ++ take (64 + c.read-head.result.len - 64) (drop 64 c.args.bytes.now)))

pub stands_at-requires-2 : goal.stands_at-requires-2
stands_at-requires-2 c = omega (arith, need-room c.from.result, length-take 64 c.args.bytes.now)

pub returns-then-bytes-size : goal.returns-then-bytes-size
returns-then-bytes-size c =
    sym (seal_short c.args.bytes.now _ c.need-size.result (size_is c.args.bytes.now c.read-head.result.len c.from.result c.need-size.result c.read-head.ensures.len c.from.ensures c.need-size.ensures) refl c.if-bytes-size.true)

pub returns-then-not-stands_at : goal.returns-then-not-stands_at
returns-then-not-stands_at c =
    sym (seal_digest c.args.bytes.now c.digest_of-digest.result c.need-size.result
    (size_is c.args.bytes.now c.read-head.result.len c.from.result c.need-size.result c.read-head.ensures.len c.from.ensures c.need-size.ensures)
    (digest_is c.args.bytes.now c.digest_of-digest.result c.read-head.result.len c.read-head.ensures.len c.digest_of-digest.ensures)
    c.if-bytes-size.false (sym c.stands_at.ensures ∙ c.if-not-stands_at.true))

pub returns-then-not-stands_at-2 : goal.returns-then-not-stands_at-2
returns-then-not-stands_at-2 c =
    sym (seal_footer c.args.bytes.now c.digest_of-digest.result c.need-size.result
    (size_is c.args.bytes.now c.read-head.result.len c.from.result c.need-size.result c.read-head.ensures.len c.from.ensures c.need-size.ensures)
    (digest_is c.args.bytes.now c.digest_of-digest.result c.read-head.result.len c.read-head.ensures.len c.digest_of-digest.ensures)
    c.if-bytes-size.false (sym c.stands_at.ensures ∙ c.if-not-stands_at.false) (sym c.stands_at-2.ensures ∙ c.if-not-stands_at-2.true))

pub returns : goal.returns
returns c =
    sym (seal_whole c.args.bytes.now c.digest_of-digest.result c.need-size.result
    (size_is c.args.bytes.now c.read-head.result.len c.from.result c.need-size.result c.read-head.ensures.len c.from.ensures c.need-size.ensures)
    (digest_is c.args.bytes.now c.digest_of-digest.result c.read-head.result.len c.read-head.ensures.len c.digest_of-digest.ensures)
    c.if-bytes-size.false (sym c.stands_at.ensures ∙ c.if-not-stands_at.false) (sym c.stands_at-2.ensures ∙ c.if-not-stands_at-2.false))
