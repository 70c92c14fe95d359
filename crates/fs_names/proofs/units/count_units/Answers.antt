use Rattle.std.proofs.Common.{ap, sym, length, ◌∙◌}
use Rattle.std.proofs.lemmas.Bool.{eqb-true}
use Rattle.fs_names.specs.Units.{counted}
use Rattle.fs_names.proofs.Loops.{counted_more, counted_end, counted_stop, some_left}
use Rattle.fs_names.proofs.Plain.{plain_field}
use Rattle.fs_names.proofs.units.count_units.Goals as goal

pub returns-then-are_plain-clause-value : goal.returns-then-are_plain-clause-value
returns-then-are_plain-clause-value c =
    ap counted (sym (plain_field c.args.at c.args.text.now (sym c.are_plain.ensures ∙ c.if-are_plain.true)))

pub loop-following-preserved : goal.loop-following-preserved
loop-following-preserved c =
    counted_more c.args.at c.in-Some.field-0-0 c.loop-following.count c.loop-following.place c.args.text.now c.loop-following.rest.now c.in-Some.following.now
    c.in-Some.ensures.byte c.in-Some.ensures.rest c.loop-following.invariant

pub returns-then-is_empty-clause-value : goal.returns-then-is_empty-clause-value
returns-then-is_empty-clause-value c =
    sym (counted_end c.args.at c.loop-following.count c.loop-following.place c.args.text.now c.loop-following.rest.now c.loop-following.invariant
    (eqb-true (length c.loop-following.rest.now) 0 (sym c.is_empty.ensures ∙ c.if-is_empty.true)))

pub returns-clause-value : goal.returns-clause-value
returns-clause-value c =
    sym (counted_stop c.args.at c.loop-following.count c.loop-following.place c.args.text.now c.loop-following.rest.now c.loop-following.invariant
    c.in_default.ensures.none (some_left (length c.loop-following.rest.now) c.is_empty.result c.is_empty.ensures c.if-is_empty.false))
