use Rattle.std.proofs.Common.{Some, None, ◌≡◌, sym, ap, ◌∙◌}
use Rattle.std.proofs.lemmas.Result.{on_ok_weaker, on_err_weaker}
use Rattle.std.specs.FinMap as map
use Rattle.fs_model.proofs.Maps.{colls_suit, get-view, view-insert, view-unchanged, lent}
use Rattle.fs_model.specs.Objects.{empty_object, read_object}
use Rattle.std.specs.Option.{unwrap_or}
use Rattle.fs_model.specs.Plain.{edited}
use Rattle.fs_model.proofs.Moves.{with_missing, with_there, read_there}
use Rattle.fs_model.proofs.plain.PlainObjects.edit.Goals as goal
use Rattle.fs_model.proofs.plain.PlainObjects.edit.Goals.{in-None, in-Some}

pub returns-clause-ok : goal.returns-clause-ok
returns-clause-ok c =
    let es = c.self.inside.shelves.entries in
    let name = c.args.c.now in
    let o = c.args.o.now in
    let O = map.from_entries es in
    elim c.match-get_mut.branch [
      | in-None w ↦
          rw (w.result-is, w.self-inside-is, c.get_mut.follows.holds-at-none, ← c.self.view_is)
          (with_missing O name o (edited (read_object O name o) c.args.edit.now) (w.in-None.ensures.value ∙ sym (get-view colls_suit es name)))
      | in-Some w ↦
          let s = w.in-Some.shelf.now in
          let there : Some s ≡ map.get O name = w.in-Some.ensures.value ∙ sym (get-view colls_suit es name) in
          rw (w.result-is, w.self-inside-is, ← c.self.view_is)
          (on_ok_weaker w.edit.result
          (λ new. view-insert colls_suit es _ name w.edit.new.self
          (lent colls_suit es _ name s w.edit.new.self w.in-Some.ensures.value (λ some. ((c.get_mut.follows.holds w.edit.new.self).3 some).0))
          ∙ ap (map.insert O name) new
          ∙ ap (λ x. map.insert O name (map.insert s o (edited x c.args.edit.now))) (read_there O name o s there)
          ∙ with_there O name o (edited (read_object O name o) c.args.edit.now) s there)
          w.edit.ensures.ok)
    ]

pub returns-clause-err : goal.returns-clause-err
returns-clause-err c =
    let es = c.self.inside.shelves.entries in
    let name = c.args.c.now in
    elim c.match-get_mut.branch [
      | in-None w ↦ rw w.result-is tt
      | in-Some w ↦
          rw (w.result-is, w.self-inside-is, ← c.self.view_is)
          (on_err_weaker w.edit.result
          (λ same. view-unchanged colls_suit es _ name w.edit.new.self (ap Some same ∙ w.in-Some.ensures.value)
          (lent colls_suit es _ name w.in-Some.shelf.now w.edit.new.self w.in-Some.ensures.value (λ some. ((c.get_mut.follows.holds w.edit.new.self).3 some).0)))
          w.edit.ensures.err)
    ]
