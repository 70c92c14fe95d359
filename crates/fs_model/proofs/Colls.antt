-- The collections after operations.
use Rattle.std.proofs.Common.{◌≡◌, Bool, true, false, cond, not, ◌&&◌, ◌||◌, Option, None, Some, is_some, List, [], ◌∷◌, map as map_list, refl, sym, ap, ◌∙◌}
use Rattle.std.specs.FinMap as map
use Rattle.std.specs.FinMap.Entries.{is_some-find}
use Rattle.std.specs.FinSet as set
use Rattle.std.specs.Ordering.{eq_by_cmp}
use Rattle.std.specs.Cmp.{eq_by_cmp_equiv}
use Rattle.fs_names.specs.declared.coll.Coll.{Coll}
use Rattle.fs_names.specs.Order.{coll_cmp, coll_cmp_total, coll_cmp-IsAntisymmetric}
use Rattle.fs_model.specs.declared.op.Op.{Op}
use Rattle.fs_model.specs.declared.op.Op.TheVariants.{Touch, Write, Zero, Truncate, Remove, SetAttrs, RmAttr, RmAttrs, Clone, CloneRange, MoveRename, MkColl, RmColl, OmapClear, OmapSet, OmapRemove, OmapRange}
use Rattle.fs_model.specs.Objects.{Objects, Shelf, without_object}
use Rattle.fs_model.specs.Colls.{colls_of}
use Rattle.fs_model.specs.Check.{op_colls, colls_after}
use Rattle.fs_model.specs.Rows.{row, fold_ops, both_there}
use Rattle.fs_model.proofs.Cells.{tie, there-with_object, there-without_object}

pub contains-colls_of : (O : Objects) (q : Coll) → set.contains (colls_of O) q ≡ map.contains_key O q
unfolding colls_of
contains-colls_of O q = set.contains-from_list coll_cmp_total (map.keys O) q ∙ sym (map.contains_key-keys O q)

-- the collections of a map that is made of a list
pub colls-entries : (es : List (Coll × Shelf)) → set.from_list (map_list (λ e. e.0) es) ≡ colls_of (map.from_entries es)
colls-entries es = set.same_set coll_cmp_total coll_cmp-IsAntisymmetric _ _ (λ q.
    set.contains-from_list coll_cmp_total (map_list (λ e. e.0) es) q
    ∙ sym (is_some-find coll_cmp q es)
    ∙ ap is_some (sym (map.get-from_entries coll_cmp_total es q))
    ∙ sym (contains-colls_of (map.from_entries es) q))

alike : (O P : Objects) → ((q : Coll) → map.contains_key O q ≡ map.contains_key P q) → colls_of O ≡ colls_of P
alike O P e = set.same_set coll_cmp_total coll_cmp-IsAntisymmetric _ _ (λ q. contains-colls_of O q ∙ e q ∙ sym (contains-colls_of P q))

pub colls_of-empty : colls_of map.empty ≡ set.empty
colls_of-empty = set.same_set coll_cmp_total coll_cmp-IsAntisymmetric _ _ (λ q.
    contains-colls_of map.empty q ∙ ap is_some (map.get-empty coll_cmp q) ∙ sym (set.contains-from_list coll_cmp_total [] q))

some_or : {X : Type 0} (b : Bool) (v : X) (o : Option X) → is_some (cond b (Some v) o) ≡ (b || is_some o)
some_or true v o = refl
some_or false v o = refl

made : (O : Objects) (c : Coll) (b : Bool) → map.contains_key O c ≡ b → (q : Coll)
    → map.contains_key (cond b O (map.insert O c map.empty)) q ≡ (eq_by_cmp coll_cmp q c || map.contains_key O q)
made O c true e q = elim (eq_by_cmp coll_cmp q c) as (λ b. eq_by_cmp coll_cmp q c ≡ b → map.contains_key O q ≡ (b || map.contains_key O q)) [
  | true ↦ λ t. ap is_some (map.get_tied coll_cmp_total O c q (tie _ ((eq_by_cmp_equiv coll_cmp_total).symm c q ∙ t))) ∙ e
  | false ↦ λ t. refl
] refl
made O c false e q = ap is_some (map.get-insert coll_cmp_total O c map.empty q) ∙ some_or (eq_by_cmp coll_cmp q c) _ _

removed : (O : Objects) (c q : Coll) → map.contains_key (map.remove O c) q ≡ (not (eq_by_cmp coll_cmp q c) && map.contains_key O q)
removed O c q = ap is_some (map.get-remove coll_cmp_total O c q) ∙ none_or (eq_by_cmp coll_cmp q c) (map.get O q)
  where
    none_or : (b : Bool) (o : Option Shelf) → is_some (cond b None o) ≡ (not b && is_some o)
    none_or true o = refl
    none_or false o = refl

-- the same collections stay
kept : (O P : Objects) → ((q : Coll) → map.contains_key P q ≡ map.contains_key O q) → colls_of P ≡ colls_of O
kept O P e = alike P O e

both_kept : (O P : Objects) (b : Bool) → ((q : Coll) → map.contains_key P q ≡ map.contains_key O q) → (q : Coll) → map.contains_key (cond b P O) q ≡ map.contains_key O q
both_kept O P true e q = e q
both_kept O P false e q = refl

pub row-colls : (O : Objects) (op : Op) → colls_of (row O op) ≡ op_colls (colls_of O) op
row-colls O (MkColl c) = set.same_set coll_cmp_total coll_cmp-IsAntisymmetric _ _ (λ q.
    contains-colls_of _ q ∙ made O c _ refl q ∙ ap (λ a. eq_by_cmp coll_cmp q c || a) (sym (contains-colls_of O q)) ∙ sym (set.contains-insert coll_cmp_total (colls_of O) c q))
row-colls O (RmColl c) = set.same_set coll_cmp_total coll_cmp-IsAntisymmetric _ _ (λ q.
    contains-colls_of _ q ∙ removed O c q ∙ ap (λ a. not (eq_by_cmp coll_cmp q c) && a) (sym (contains-colls_of O q)) ∙ sym (set.contains-remove coll_cmp_total (colls_of O) c q))
row-colls O (Touch c o) = kept O _ (λ q. there-with_object O c o _ q)
row-colls O (Write c o at bytes) = kept O _ (λ q. there-with_object O c o _ q)
row-colls O (Zero c o at len) = kept O _ (λ q. there-with_object O c o _ q)
row-colls O (Truncate c o len) = kept O _ (λ q. there-with_object O c o _ q)
row-colls O (Remove c o) = kept O _ (λ q. there-without_object O c o q)
row-colls O (SetAttrs c o pairs) = kept O _ (λ q. there-with_object O c o _ q)
row-colls O (RmAttr c o name) = kept O _ (λ q. there-with_object O c o _ q)
row-colls O (RmAttrs c o) = kept O _ (λ q. there-with_object O c o _ q)
row-colls O (Clone c o c2 o2) = kept O _ (both_kept O _ (both_there O c c2) (λ q. there-with_object O c2 o2 _ q))
row-colls O (CloneRange c o c2 o2 from len to) = kept O _ (both_kept O _ (both_there O c c2) (λ q. there-with_object O c2 o2 _ q))
row-colls O (MoveRename c o c2 o2) =
    kept O _ (both_kept O _ (both_there O c c2) (λ q. there-with_object (without_object O c o) c2 o2 _ q ∙ there-without_object O c o q))
row-colls O (OmapClear c o) = kept O _ (λ q. there-with_object O c o _ q)
row-colls O (OmapSet c o header pairs) = kept O _ (λ q. there-with_object O c o _ q)
row-colls O (OmapRemove c o keys) = kept O _ (λ q. there-with_object O c o _ q)
row-colls O (OmapRange c o from to) = kept O _ (λ q. there-with_object O c o _ q)

pub fold-colls : (O : Objects) (ops : List Op) → colls_of (fold_ops O ops) ≡ colls_after (colls_of O) ops
fold-colls O [] = refl
fold-colls O (op ∷ ops) = fold-colls (row O op) ops ∙ ap (λ S. colls_after S ops) (row-colls O op)
