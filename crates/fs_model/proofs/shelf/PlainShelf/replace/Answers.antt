use Rattle.std.proofs.Common.{sym, ap, ◌∙◌}
use Rattle.std.specs.FinMap as map
use Rattle.fs_model.proofs.Maps.{oids_suit, view-insert, lent, not-absent}
use Rattle.fs_model.proofs.shelf.PlainShelf.replace.Goals as goal
use Rattle.fs_model.proofs.shelf.PlainShelf.replace.Goals.{in-Some, in-None}

pub returns : goal.returns
returns c =
    let es = c.self.inside.objects.entries in
    let o = c.args.o.now in
    elim c.match-get_mut.branch [
      | in-None w ↦ absurd (not-absent oids_suit es o (rw c.self.view_is c.requires) (sym w.in-None.ensures.value))
      | in-Some w ↦
          rw (w.self-inside-is, ← c.self.view_is)
          (view-insert oids_suit es _ o w.set.new.self
          (lent oids_suit es _ o w.in-Some.place.now w.set.new.self w.in-Some.ensures.value (λ some. ((c.get_mut.follows.holds w.set.new.self).3 some).0))
          ∙ ap (map.insert (map.from_entries es) o) w.set.ensures)
    ]
