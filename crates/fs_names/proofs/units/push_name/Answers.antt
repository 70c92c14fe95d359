use Rattle.std.proofs.Common.{◌++◌, codes, sym, ap, ◌∙◌, append_assoc}
use Rattle.fs_names.specs.Units.{field_of}
use Rattle.fs_names.proofs.Loops.{on_ok, take_rest}
use Rattle.fs_names.proofs.ReadLaws.{dir_read, dot_read}
use Rattle.fs_names.proofs.units.push_name.Goals as goal

pub returns-then-starts_with : goal.returns-then-starts_with
returns-then-starts_with c = λ bytes e.
    let old = c.args.out.now.items in
    let read = dir_read c.args.text.now bytes (sym c.starts_with.ensures.value ∙ c.if-starts_with.true) e in
    on_ok c.push_units.result _ _ (c.push_units.ensures 2 read.ys (ap (field_of 2) (take_rest 2 c.args.text.now) ∙ read.read))
    (λ f. f ∙ ap (λ l. l ++ read.ys) c.in_ok-extend_from_slice.ensures.items ∙ append_assoc old (codes "DIR_") read.ys ∙ ap (λ l. old ++ l) (sym read.whole))

pub returns-then-starts_with-2 : goal.returns-then-starts_with-2
returns-then-starts_with-2 c = λ bytes e.
    let old = c.args.out.now.items in
    let last = c.push_units-then-starts_with-2 in
    let read = dot_read c.args.text.now bytes (sym c.starts_with.ensures.value ∙ c.if-starts_with.false) (sym c.starts_with-2.ensures.value ∙ c.if-starts_with-2.true) e in
    on_ok last.result _ _ (last.ensures 2 read.ys (ap (field_of 2) (take_rest 2 c.args.text.now) ∙ read.read))
    (λ f. f ∙ ap (λ l. l ++ read.ys) c.in_ok-push.ensures.items ∙ append_assoc old (codes ".") read.ys ∙ ap (λ l. old ++ l) (sym read.whole))
