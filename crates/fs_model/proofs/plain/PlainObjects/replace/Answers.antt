use Rattle.std.proofs.Common.{Some, ◌≡◌, is_some, sym, ap, ◌∙◌}
use Rattle.std.specs.FinMap as map
use Rattle.fs_model.proofs.Maps.{colls_suit, get-view, view-insert, lent}
use Rattle.fs_model.proofs.Moves.{with_there, look_there, look_none}
use Rattle.fs_model.proofs.plain.PlainObjects.replace.Goals as goal
use Rattle.fs_model.proofs.plain.PlainObjects.replace.Goals.{in-Some, in-None}

pub replace-requires : goal.replace-requires
replace-requires c =
    let es = c.self.inside.shelves.entries in
    ap is_some (look_there (map.from_entries es) c.args.c.now c.args.o.now c.in-Some.shelf.now (c.in-Some.ensures.value ∙ sym (get-view colls_suit es c.args.c.now)))
    ∙ rw c.self.view_is c.requires

pub returns : goal.returns
returns c =
    let es = c.self.inside.shelves.entries in
    let name = c.args.c.now in
    let o = c.args.o.now in
    let O = map.from_entries es in
    elim c.match-get_mut.branch [
      | in-None w ↦ absurd (look_none O name o (w.in-None.ensures.value ∙ sym (get-view colls_suit es name)) (rw c.self.view_is c.requires))
      | in-Some w ↦
          let s = w.in-Some.shelf.now in
          let there : Some s ≡ map.get O name = w.in-Some.ensures.value ∙ sym (get-view colls_suit es name) in
          rw (w.self-inside-is, ← c.self.view_is)
          (view-insert colls_suit es _ name w.replace.new.self
          (lent colls_suit es _ name s w.replace.new.self w.in-Some.ensures.value (λ some. ((c.get_mut.follows.holds w.replace.new.self).3 some).0))
          ∙ ap (map.insert O name) w.replace.ensures
          ∙ with_there O name o c.args.kept s there)
    ]
