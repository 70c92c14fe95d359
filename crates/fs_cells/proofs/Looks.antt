-- What a change of the objects does to each of them.
use Rattle.std.proofs.Common.{◌≡◌, Bool, true, false, cond, Option, None, Some, is_some, refl, sym, ap, subst, ◌∙◌}
use Rattle.std.specs.FinMap as map
use Rattle.fs_names.specs.declared.coll.Coll.{Coll}
use Rattle.fs_names.specs.declared.oid.Oid.{Oid}
use Rattle.fs_names.specs.Order.{oid_cmp, coll_cmp_total, oid_cmp-IsAntisymmetric, coll_cmp-IsAntisymmetric}
use Rattle.fs_model.specs.Objects.{Objects, look, on_shelf}
use Rattle.fs_model.proofs.Cells.{same_coll, same_oid, tie}

pub is_coll : (a b : Coll) → same_coll a b ≡ true → a ≡ b
is_coll a b e = coll_cmp-IsAntisymmetric a b (tie _ e)

pub is_oid : (a b : Oid) → same_oid a b ≡ true → a ≡ b
is_oid a b e = oid_cmp-IsAntisymmetric a b (tie _ e)

pub look-remove : (O : Objects) (c q : Coll) (p : Oid) → look (map.remove O c) q p ≡ cond (same_coll q c) None (look O q p)
look-remove O c q p = ap (λ m. on_shelf m p) (map.get-remove coll_cmp_total O c q) ∙ by (same_coll q c)
  where
    by : (b : Bool) → on_shelf (cond b None (map.get O q)) p ≡ cond b None (look O q p)
    by true = refl
    by false = refl

pub none_there : {A : Type 0} (m : Option A) → is_some m ≡ false → m ≡ None
none_there None e = refl
none_there (Some x) e = cc

-- a new collection has no objects
pub look-made : (O : Objects) (c : Coll) → map.contains_key O c ≡ false → (q : Coll) (p : Oid) → look (map.insert O c map.empty) q p ≡ look O q p
look-made O c missing q p = ap (λ m. on_shelf m p) (map.get-insert coll_cmp_total O c map.empty q) ∙ by (same_coll q c) refl
  where
    by : (b : Bool) → same_coll q c ≡ b → on_shelf (cond b (Some map.empty) (map.get O q)) p ≡ on_shelf (map.get O q) p
    by true is = map.get-empty oid_cmp p ∙ sym (ap (λ m. on_shelf m p) (none_there (map.get O q) (subst (λ (d : Coll). map.contains_key O d ≡ false) (sym (is_coll q c is)) missing)))
    by false is = refl
