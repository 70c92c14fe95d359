use Rattle.std.proofs.Common.{Some, None, ◌≡◌, sym, ap, ◌∙◌}
use Rattle.std.proofs.lemmas.Result.{on_ok_weaker, on_err_weaker}
use Rattle.std.specs.FinMap as map
use Rattle.fs_model.proofs.Maps.{colls_suit, get-view, view-insert, view-unchanged, lent}
use Rattle.fs_model.proofs.Moves.{without_missing, without_there, read_missing, read_there}
use Rattle.fs_model.proofs.plain.PlainObjects.take.Goals as goal
use Rattle.fs_model.proofs.plain.PlainObjects.take.Goals.{in-None, in-Some}

pub returns-clause-taken : goal.returns-clause-taken
returns-clause-taken c =
    let es = c.self.inside.shelves.entries in
    let name = c.args.c.now in
    let O = map.from_entries es in
    elim c.match-get_mut.branch [
      | in-None w ↦
          rw (w.result-is, ← c.self.view_is)
          (w.new.ensures ∙ read_missing O name c.args.o.now (w.in-None.ensures.value ∙ sym (get-view colls_suit es name)))
      | in-Some w ↦
          rw (w.result-is, ← c.self.view_is)
          (w.take.ensures.taken ∙ read_there O name c.args.o.now w.in-Some.shelf.now (w.in-Some.ensures.value ∙ sym (get-view colls_suit es name)))
    ]

pub returns-clause-left : goal.returns-clause-left
returns-clause-left c =
    let es = c.self.inside.shelves.entries in
    let name = c.args.c.now in
    let o = c.args.o.now in
    let O = map.from_entries es in
    elim c.match-get_mut.branch [
      | in-None w ↦
          rw (w.self-inside-is, c.get_mut.follows.holds-at-none, ← c.self.view_is)
          (without_missing O name o (w.in-None.ensures.value ∙ sym (get-view colls_suit es name)))
      | in-Some w ↦
          let s = w.in-Some.shelf.now in
          let there : Some s ≡ map.get O name = w.in-Some.ensures.value ∙ sym (get-view colls_suit es name) in
          rw (w.self-inside-is, ← c.self.view_is)
          (view-insert colls_suit es _ name w.take.new.self
          (lent colls_suit es _ name s w.take.new.self w.in-Some.ensures.value (λ some. ((c.get_mut.follows.holds w.take.new.self).3 some).0))
          ∙ ap (map.insert O name) w.take.ensures.left
          ∙ without_there O name o s there)
    ]
