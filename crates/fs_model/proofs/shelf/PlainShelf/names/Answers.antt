use Rattle.std.proofs.Common.{rules, ◌≡◌, ◌++◌, ◌∷◌, [], List, Bool, is_some, map, sym, ap, subst, ◌∙◌}
use Rattle.std.specs.Map.Iter.{deref}
use Rattle.std.specs.List.{list_any, IsDistinct}
use Rattle.std.specs.Ordering.{eq_by_cmp}
use Rattle.std.specs.FinMap.Entries.{is_some-find}
use Rattle.std.specs.FinMap as fin
use Rattle.std.proofs.lemmas.Map.Iter.{iter_end}
use Rattle.std.proofs.lemmas.Map.Keys.{IsDistinct-from_sorted}
use Rattle.std.proofs.lemmas.List.{map-append}
use Rattle.fs_names.specs.declared.oid.Oid.{Oid}
use Rattle.fs_names.specs.Order.{oid_cmp, oid_cmp_total}
use Rattle.fs_model.specs.Objects.{Object}
use Rattle.fs_model.specs.Listing.{IsEachOnce}
use Rattle.fs_model.proofs.shelf.PlainShelf.names.Goals as goal

each_once : (es : List (Oid × Object)) (l : List Oid) → l ≡ map (λ e. e.0) es → IsDistinct (eq_by_cmp oid_cmp) (map (λ e. e.0) es)
    → IsEachOnce l (fin.from_entries es)
each_once es l is once = record {
  all = λ q. ap (list_any (eq_by_cmp oid_cmp q)) is ∙ sym (is_some-find oid_cmp q es) ∙ ap is_some (sym (fin.get-from_entries oid_cmp_total es q));
  once = subst (λ k. IsDistinct (eq_by_cmp oid_cmp) k) (sym is) once;
}

pub loop-oid-preserved : goal.loop-oid-preserved
loop-oid-preserved c =
    c.in_ok-push.ensures.items ∙ ap (λ l. l ++ c.in_ok-copy.field-0 ∷ []) c.loop-oid.invariant
    ∙ ap (λ o. map deref c.loop-oid.yielded ++ o ∷ []) c.in_ok-copy.ensures
    ∙ sym (map-append deref c.loop-oid.yielded (c.in-Some.oid ∷ []))

pub returns : goal.returns
returns c =
    let e : map deref c.loop-oid.yielded ≡ map (λ e. e.0) c.self.inside.objects.entries = search (rules, iter_end) in
    rw (← c.self.view_is) (each_once c.self.inside.objects.entries _ (c.from_vec.ensures ∙ c.loop-oid.invariant ∙ e) (IsDistinct-from_sorted oid_cmp _ c.keys-oid-items.ensures.ordered))
