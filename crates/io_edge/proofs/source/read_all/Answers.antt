use Rattle.std.proofs.Common.{rules, ◌<◌, ◌≤◌, ◌++◌, take, length, ◌∙◌, ap, arith}
use Rattle.std.proofs.lemmas.List.{length-take}
use Rattle.io_edge.proofs.Reading.{HasRead-more, HasRead-whole, HasRead-end, HasRead-past, HasRead-later, lent}
use Rattle.io_edge.proofs.source.read_all.Goals as goal

pub returns-then-count-eq0-clause-whole : goal.returns-then-count-eq0-clause-whole
returns-then-count-eq0-clause-whole g c = λ told.
    let some : 0 < length c.deref_mut.result.now = omega (arith, c.deref_mut.ensures.len, c.loop-bytes.invariant.piece) in
    rw c.from_vec.ensures (HasRead-whole _ _ _ (c.loop-bytes.invariant.read (search rules)) (c.in_ok-count.ensures.end (search rules) (cc c.if-count-eq0.true) some))

pub returns-then-count-eq0-clause-end : goal.returns-then-count-eq0-clause-end
returns-then-count-eq0-clause-end g c = λ told.
    let some : 0 < length c.deref_mut.result.now = omega (arith, c.deref_mut.ensures.len, c.loop-bytes.invariant.piece) in
    HasRead-end _ _ _ _ _ _ _ (c.loop-bytes.invariant.read (search rules)) (c.in_ok-count.ensures.gives (search rules)) (c.in_ok-count.ensures.end (search rules) (cc c.if-count-eq0.true) some)

pub returns-then-limit-len-clause-too_long : goal.returns-then-limit-len-clause-too_long
returns-then-limit-len-clause-too_long g c = λ told is.
    HasRead-past _ _ _ _ _ _ _ (c.loop-bytes.invariant.read (search rules)) (c.in_ok-count.ensures.gives (search rules)) _
    (omega (arith, c.if-limit-len.true, c.len.ensures, c.loop-bytes.bytes.ok.0))

pub returns-then-limit-len-clause-rest : goal.returns-then-limit-len-clause-rest
returns-then-limit-len-clause-rest g c = λ told.
    HasRead-later _ _ _ _ _ _ _ (c.loop-bytes.invariant.read (search rules)) (c.in_ok-count.ensures.gives (search rules))

pub loop-bytes-preserved : goal.loop-bytes-preserved
loop-bytes-preserved g c =
    let n = c.in_ok-count.count in
    let after = c.read.new.into in
    let size : n ≤ length after = omega (arith, c.in_ok-count.ensures.within, c.read.auto.into) in
    let front = lent c.loop-bytes.piece.items after n c.loop-bytes.piece.len (omega (arith, c.in_ok-count.ensures.within, c.deref_mut.ensures.len)) size in
    let items = c.in_ok-extend_from_slice.ensures.items ∙ ap (λ bytes. c.loop-bytes.bytes.items ++ bytes) (ap (take n) c.deref.ensures.value ∙ front) in
    record {
      piece = c.loop-bytes.invariant.piece;
      within = omega (arith, c.in_ok-extend_from_slice.ensures.len, length-take n c.deref.result.now, c.if-limit-len.false, c.len.ensures, c.loop-bytes.invariant.within);
      read = λ told. HasRead-more _ _ _ _ _ _ _ (c.loop-bytes.invariant.read (search rules)) (c.in_ok-count.ensures.gives (search rules)) _ items;
      honest = search rules;
      later = omega (arith, c.loop-bytes.invariant.later, c.read.ensures.later);
    }

pub returns-in_err-extend_from_slice-clause-rest :
    goal.returns-in_err-extend_from_slice-clause-rest
returns-in_err-extend_from_slice-clause-rest g c = λ told.
    HasRead-later _ _ _ _ _ _ _ (c.loop-bytes.invariant.read (search rules)) (c.in_ok-count.ensures.gives (search rules))
