use Rattle.std.proofs.Common.{Some, sym, ap, ◌∙◌}
use Rattle.std.proofs.lemmas.Result.{on_ok_weaker, on_err_weaker}
use Rattle.std.specs.Option.{unwrap_or}
use Rattle.std.specs.FinMap as map
use Rattle.fs_model.specs.Objects.{Object, empty_object}
use Rattle.fs_model.specs.Plain.{edited}
use Rattle.fs_model.proofs.Maps.{oids_suit, get-view, view-insert, view-unchanged, lent}
use Rattle.fs_model.proofs.shelf.PlainShelf.edit.Goals as goal

pub returns-in-Some-clause-ok : goal.returns-in-Some-clause-ok
returns-in-Some-clause-ok c =
    let es = c.self.inside.objects.entries in
    let o = c.args.o.now in
    rw (← c.self.view_is)
    (on_ok_weaker c.edit.result
    (λ new. view-insert oids_suit es _ o c.edit.new.self (lent oids_suit es _ o c.in-Some.kept.now c.edit.new.self c.in-Some.ensures.value (λ some. ((c.get_mut.follows.holds c.edit.new.self).3 some).0))
    ∙ ap (map.insert (map.from_entries es) o)
    (new ∙ ap (λ m. edited (unwrap_or m empty_object) c.args.edit.now) (c.in-Some.ensures.value ∙ sym (get-view oids_suit es o))))
    c.edit.ensures.ok)

pub returns-in-Some-clause-err : goal.returns-in-Some-clause-err
returns-in-Some-clause-err c =
    let es = c.self.inside.objects.entries in
    let o = c.args.o.now in
    rw (← c.self.view_is)
    (on_err_weaker c.edit.result
    (λ same. view-unchanged oids_suit es _ o c.edit.new.self (ap Some same ∙ c.in-Some.ensures.value)
    (lent oids_suit es _ o c.in-Some.kept.now c.edit.new.self c.in-Some.ensures.value (λ some. ((c.get_mut.follows.holds c.edit.new.self).3 some).0)))
    c.edit.ensures.err)

pub returns-in_ok-copy-in-None-clause-ok : goal.returns-in_ok-copy-in-None-clause-ok
returns-in_ok-copy-in-None-clause-ok c =
    let es = c.self.inside.objects.entries in
    let o = c.args.o.now in
    let f : Object → Object = λ x. edited x c.args.edit.now in
    let kept : Object = c.edit-in-None.new.self in
    rw (← c.self.view_is)
    (on_ok_weaker c.insert.result
    (λ new. new
    ∙ ap (λ objects. map.insert (map.from_entries objects.entries) c.in_ok-copy-in-None.field-0 kept) c.get_mut.follows.holds-at-none
    ∙ ap (λ k. map.insert (map.from_entries es) k kept) c.in_ok-copy-in-None.ensures
    ∙ ap (map.insert (map.from_entries es) o)
    (c.in_ok-edit-in-None.ensures.ok ∙ ap f (c.new-kept.ensures ∙ ap (λ m. unwrap_or m empty_object) (c.in-None.ensures.value ∙ sym (get-view oids_suit es o)))))
    c.insert.ensures.ok)
