use Rattle.std.proofs.Common.{rules, ◌∙◌, ap, take, drop, arith}
use Rattle.std.proofs.lemmas.List.{length-drop, take_rest}
use Rattle.io_edge.proofs.Writing.{writes_front}
use Rattle.io_edge.proofs.sink.write_all.Goals as goal

pub loop-done-preserved : goal.loop-done-preserved
loop-done-preserved g c =
    let bytes = c.args.bytes.now in
    let done = c.loop-done.done in
    let n = c.in_ok-done.field-0 in
    let within = rw (take_rest bytes done) at c.in_ok-done.ensures.within in
    let takes = rw (take_rest bytes done) at c.in_ok-done.ensures.takes in
    record {
      within = omega (arith, within, length-drop done bytes, c.loop-done-test.true);
      written = λ told. writes_front _ _ _ done n bytes (c.loop-done.invariant.written (search rules)) (takes (search rules));
      honest = search rules;
      later = omega (arith, c.loop-done.invariant.later, c.write.ensures.later);
    }
