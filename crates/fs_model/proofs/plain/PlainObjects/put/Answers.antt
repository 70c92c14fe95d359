use Rattle.std.proofs.Common.{Some, None, ◌≡◌, sym, ap, ◌∙◌}
use Rattle.std.proofs.lemmas.Result.{on_ok_weaker, on_err_weaker}
use Rattle.std.specs.FinMap as map
use Rattle.fs_model.proofs.Maps.{colls_suit, get-view, view-insert, view-unchanged, lent}
use Rattle.fs_model.proofs.Moves.{with_missing, with_there}
use Rattle.fs_model.proofs.plain.PlainObjects.put.Goals as goal
use Rattle.fs_model.proofs.plain.PlainObjects.put.Goals.{in-None, in-Some}

pub returns-clause-ok : goal.returns-clause-ok
returns-clause-ok c =
    let es = c.self.inside.shelves.entries in
    let name = c.args.c.now in
    let o = c.args.o.now in
    let O = map.from_entries es in
    elim c.match-get_mut.branch [
      | in-None w ↦
          rw (w.result-is, w.self-inside-is, c.get_mut.follows.holds-at-none, ← c.self.view_is)
          (with_missing O name o c.args.kept (w.in-None.ensures.value ∙ sym (get-view colls_suit es name)))
      | in-Some w ↦
          let s = w.in-Some.shelf.now in
          let there : Some s ≡ map.get O name = w.in-Some.ensures.value ∙ sym (get-view colls_suit es name) in
          rw (w.result-is, w.self-inside-is, ← c.self.view_is)
          (on_ok_weaker w.insert.result
          (λ new. view-insert colls_suit es _ name w.insert.new.self
          (lent colls_suit es _ name s w.insert.new.self w.in-Some.ensures.value (λ some. ((c.get_mut.follows.holds w.insert.new.self).3 some).0))
          ∙ ap (map.insert O name) (new ∙ ap (λ k. map.insert s k c.args.kept) c.in_ok-o.ensures)
          ∙ with_there O name o c.args.kept s there)
          w.insert.ensures.ok)
    ]

pub returns-clause-err : goal.returns-clause-err
returns-clause-err c =
    let es = c.self.inside.shelves.entries in
    let name = c.args.c.now in
    elim c.match-get_mut.branch [
      | in-None w ↦ rw w.result-is tt
      | in-Some w ↦
          rw (w.result-is, w.self-inside-is, ← c.self.view_is)
          (on_err_weaker w.insert.result
          (λ same. view-unchanged colls_suit es _ name w.insert.new.self (ap Some same ∙ w.in-Some.ensures.value)
          (lent colls_suit es _ name w.in-Some.shelf.now w.insert.new.self w.in-Some.ensures.value (λ some. ((c.get_mut.follows.holds w.insert.new.self).3 some).0)))
          w.insert.ensures.err)
    ]
