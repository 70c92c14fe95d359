use Rattle.std.proofs.Common.{rules, ◌≡◌, not, ap, ◌∙◌}
use Rattle.std.specs.List.{filter}
use Rattle.std.specs.FinMap as map
use Rattle.std.proofs.lemmas.Map.Made.{filter_same_pairs}
use Rattle.fs_model.specs.Rows.{is_between}
use Rattle.fs_model.proofs.Maps.{bytes_suit, view-retain}
use Rattle.fs_model.proofs.pair_map.PairMap.remove_range.Goals as goal

pub returns : goal.returns
returns c =
    let es = c.self.inside.pairs.entries in
    let from = c.args.from.now in
    let to = c.args.to.now in
    let kept : c.retain.new.self.entries ≡ filter (λ e. not (is_between from to e.0)) es =
    filter_same_pairs _ (λ e. not (is_between from to e.0)) _ (λ k v b w f t. search rules) _ _ c.retain.ensures.filtered in
    rw (← c.self.view_is) (ap map.from_entries kept ∙ view-retain bytes_suit es (λ key. not (is_between from to key)))
