-- Objects, object by object.
use Rattle.std.proofs.Common.{◌≡◌, Bool, true, false, cond, ◌&&◌, Option, None, Some, is_some, refl, sym, ap, ◌∙◌}
use Rattle.std.specs.declared.cmp.Ordering.{Ordering}
use Rattle.std.specs.declared.cmp.Ordering.TheVariants.{Less, Equal, Greater}
use Rattle.std.specs.Ordering.{is_eq, eq_by_cmp}
use Rattle.std.specs.Cmp.{eq_by_cmp_equiv}
use Rattle.std.specs.FinMap as map
use Rattle.fs_names.specs.declared.coll.Coll.{Coll}
use Rattle.fs_names.specs.declared.oid.Oid.{Oid}
use Rattle.fs_names.specs.Order.{oid_cmp, coll_cmp, oid_cmp_total, coll_cmp_total, oid_cmp-IsAntisymmetric, coll_cmp-IsAntisymmetric}
use Rattle.fs_model.specs.Objects.{Shelf, Objects, Object, look, on_shelf, shelved, with_object, without_object}

abbrev pub same_coll : Coll → Coll → Bool
same_coll = eq_by_cmp coll_cmp

abbrev pub same_oid : Oid → Oid → Bool
same_oid = eq_by_cmp oid_cmp

-- two shelves are equal where they hold the same objects
shelf_ext : (s t : Shelf) → ((p : Oid) → map.get s p ≡ map.get t p) → s ≡ t
shelf_ext s t e = map.same_map oid_cmp_total oid_cmp-IsAntisymmetric s t e

both_shelves : (m n : Option Shelf) → is_some m ≡ is_some n → ((p : Oid) → on_shelf m p ≡ on_shelf n p) → m ≡ n
both_shelves None None h e = refl
both_shelves None (Some t) h e = cc
both_shelves (Some s) None h e = cc
both_shelves (Some s) (Some t) h e = ap Some (shelf_ext s t e)

-- objects are equal where the same collections are there with the same objects
pub same_objects : (O P : Objects) → ((q : Coll) → map.contains_key O q ≡ map.contains_key P q) → ((q : Coll) (p : Oid) → look O q p ≡ look P q p) → O ≡ P
same_objects O P there alike = map.same_map coll_cmp_total coll_cmp-IsAntisymmetric O P (λ q. both_shelves _ _ (there q) (alike q))

pub tie : (r : Ordering) → is_eq r ≡ true → r ≡ Equal
tie Less e = cc
tie Equal e = refl
tie Greater e = cc

tied_back_to : (q c : Coll) → same_coll q c ≡ true → coll_cmp c q ≡ Equal
tied_back_to q c t = tie _ ((eq_by_cmp_equiv coll_cmp_total).symm c q ∙ t)

at_coll : (O : Objects) (q c : Coll) → same_coll q c ≡ true → map.get O q ≡ map.get O c
at_coll O q c t = map.get_tied coll_cmp_total O c q (tied_back_to q c t)

there_shelved : (O : Objects) (c : Coll) (f : Shelf → Shelf) (m : Option Shelf) → map.get O c ≡ m → (q : Coll)
    → map.contains_key (shelved O c f m) q ≡ map.contains_key O q
there_shelved O c f None e q = refl
there_shelved O c f (Some s) e q =
    ap is_some (map.get-insert coll_cmp_total O c (f s) q)
    ∙ elim (same_coll q c) as (λ b. same_coll q c ≡ b → is_some (cond b (Some (f s)) (map.get O q)) ≡ is_some (map.get O q)) [
      | true ↦ λ t. sym (ap is_some (at_coll O q c t ∙ e))
      | false ↦ λ t. refl
    ] refl

pub there-with_object : (O : Objects) (c : Coll) (o : Oid) (x : Object) (q : Coll) → map.contains_key (with_object O c o x) q ≡ map.contains_key O q
unfolding with_object
there-with_object O c o x q = there_shelved O c _ _ refl q

-- what a change of one collection does to each object, where it sets one object to w
look_shelved : (O : Objects) (c : Coll) (o : Oid) (w : Option Object) (f : Shelf → Shelf)
    → ((s : Shelf) (p : Oid) → map.get (f s) p ≡ cond (same_oid p o) w (map.get s p))
    → (m : Option Shelf) → map.get O c ≡ m → (q : Coll) (p : Oid)
    → look (shelved O c f m) q p ≡ cond (is_some m && (same_coll q c && same_oid p o)) w (look O q p)
look_shelved O c o w f does None e q p = refl
look_shelved O c o w f does (Some s) e q p =
    ap (λ m. on_shelf m p) (map.get-insert coll_cmp_total O c (f s) q)
    ∙ elim (same_coll q c) as (λ b. same_coll q c ≡ b → on_shelf (cond b (Some (f s)) (map.get O q)) p ≡ cond (b && same_oid p o) w (look O q p)) [
      | true ↦ λ t. does s p ∙ ap (cond (same_oid p o) w) (sym (ap (λ m. on_shelf m p) (at_coll O q c t ∙ e)))
      | false ↦ λ t. refl
    ] refl

pub look-with_object : (O : Objects) (c : Coll) (o : Oid) (x : Object) (q : Coll) (p : Oid)
    → look (with_object O c o x) q p ≡ cond (map.contains_key O c && (same_coll q c && same_oid p o)) (Some x) (look O q p)
unfolding with_object
look-with_object O c o x q p = look_shelved O c o (Some x) _ (λ s p. map.get-insert oid_cmp_total s o x p) _ refl q p

pub there-without_object : (O : Objects) (c : Coll) (o : Oid) (q : Coll) → map.contains_key (without_object O c o) q ≡ map.contains_key O q
unfolding without_object
there-without_object O c o q = there_shelved O c _ _ refl q

pub look-without_object : (O : Objects) (c : Coll) (o : Oid) (q : Coll) (p : Oid)
    → look (without_object O c o) q p ≡ cond (map.contains_key O c && (same_coll q c && same_oid p o)) None (look O q p)
unfolding without_object
look-without_object O c o q p = look_shelved O c o None _ (λ s p. map.get-remove oid_cmp_total s o p) _ refl q p
