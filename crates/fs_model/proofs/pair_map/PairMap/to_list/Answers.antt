use Rattle.std.proofs.Common.{rules, ◌≡◌, map as map_list, sym, ap, ◌∙◌}
use Rattle.std.specs.Map.Iter.{deref_pair}
use Rattle.std.specs.Cmp.Lexicographic.{nat_list_cmp_total}
use Rattle.std.proofs.lemmas.Map.Iter.{iter_end}
use Rattle.fs_model.specs.Plain.{entry_of}
use Rattle.fs_model.proofs.Maps.{bytes_suit, entries-view}
use Rattle.fs_model.proofs.pair_map.PairMap.to_list.Goals as goal

pub returns : goal.returns
returns c =
    let e : map_list deref_pair c.loop-key.yielded ≡ c.self.inside.pairs.entries = search (rules, iter_end) in
    rw (← c.self.view_is)
    (ap (map_list entry_of) c.from_vec.ensures ∙ c.loop-key.invariant ∙ e
    ∙ sym (entries-view bytes_suit.total bytes_suit.same c.self.inside.pairs.entries c.iter-key-items.ensures.ordered))
