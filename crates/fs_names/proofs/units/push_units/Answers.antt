use Rattle.std.proofs.Common.{sym, ◌∙◌}
use Rattle.fs_names.proofs.Loops.{extended, pushed_first, pushed_more, pushed_end}
use Rattle.fs_names.proofs.Plain.{plain_read}
use Rattle.fs_names.proofs.units.push_units.Goals as goal

pub returns-then-are_plain : goal.returns-then-are_plain
returns-then-are_plain c = λ at bytes e.
    let same = plain_read at c.args.text.now bytes (sym c.are_plain.ensures ∙ c.if-are_plain.true) e in
    extended c.extend_from_slice.result c.extend_from_slice.new.self.items c.args.out.now.items c.args.text.now bytes c.extend_from_slice.ensures.items same

pub loop-byte-init : goal.loop-byte-init
loop-byte-init c = pushed_first c.args.out.now.items c.args.text.now

pub loop-byte-preserved : goal.loop-byte-preserved
loop-byte-preserved c =
    pushed_more c.in-Some.byte c.args.out.now.items c.loop-byte.out.items c.push.new.self.items c.args.text.now c.loop-byte.rest.now c.in-Some.following.now
    c.in-Some.ensures.byte c.in-Some.ensures.rest c.in_ok-push.ensures.items c.loop-byte.invariant

pub returns : goal.returns
returns c = λ at bytes e.
    pushed_end at c.args.out.now.items c.loop-byte.out.items c.args.text.now c.loop-byte.rest.now bytes c.loop-byte.invariant c.in_default.ensures.none e
