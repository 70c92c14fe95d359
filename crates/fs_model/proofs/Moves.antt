-- Objects that are taken out and put elsewhere.
use Rattle.std.proofs.Common.{◌≡◌, Bool, true, false, cond, ◌&&◌, Option, None, Some, is_some, refl, sym, ap, subst, ◌∙◌}
use Rattle.std.specs.Option.{unwrap_or}
use Rattle.std.specs.Ordering.{is_eq, eq_by_cmp}
use Rattle.std.specs.Cmp.{eq_by_cmp_equiv, tied_itself}
use Rattle.std.specs.FinMap as map
use Rattle.fs_names.specs.declared.coll.Coll.{Coll}
use Rattle.fs_names.specs.declared.oid.Oid.{Oid}
use Rattle.fs_names.specs.Order.{oid_cmp, coll_cmp, oid_cmp_total, coll_cmp_total, oid_cmp-IsAntisymmetric, coll_cmp-IsAntisymmetric}
use Rattle.fs_model.specs.Objects.{Shelf, Objects, Object, empty_object, look, on_shelf, read_object, with_object, without_object}
use Rattle.fs_model.proofs.Cells.{same_coll, same_oid, same_objects, tie, there-with_object, there-without_object, look-with_object, look-without_object}

-- a collection is missing, or there
pub with_missing : (O : Objects) (c : Coll) (o : Oid) (x : Object) → None ≡ map.get O c → O ≡ with_object O c o x
unfolding with_object
with_missing O c o x none = rw (← none) refl

pub with_there : (O : Objects) (c : Coll) (o : Oid) (x : Object) (s : Shelf) → Some s ≡ map.get O c → map.insert O c (map.insert s o x) ≡ with_object O c o x
unfolding with_object
with_there O c o x s there = rw (← there) refl

pub without_missing : (O : Objects) (c : Coll) (o : Oid) → None ≡ map.get O c → O ≡ without_object O c o
unfolding without_object
without_missing O c o none = rw (← none) refl

pub without_there : (O : Objects) (c : Coll) (o : Oid) (s : Shelf) → Some s ≡ map.get O c → map.insert O c (map.remove s o) ≡ without_object O c o
unfolding without_object
without_there O c o s there = rw (← there) refl

pub read_missing : (O : Objects) (c : Coll) (o : Oid) → None ≡ map.get O c → empty_object ≡ read_object O c o
read_missing O c o none = rw (← none) refl

pub read_there : (O : Objects) (c : Coll) (o : Oid) (s : Shelf) → Some s ≡ map.get O c → unwrap_or (map.get s o) empty_object ≡ read_object O c o
read_there O c o s there = rw (← there) refl

pub look_there : (O : Objects) (c : Coll) (o : Oid) (s : Shelf) → Some s ≡ map.get O c → map.get s o ≡ look O c o
look_there O c o s there = rw (← there) refl

pub look_none : (O : Objects) (c : Coll) (o : Oid) → None ≡ map.get O c → is_some (look O c o) ≡ true → ⊥
look_none O c o none is =
    let e : false ≡ true = ap (λ m. is_some (on_shelf m o)) none ∙ is in
    cc

first : (a b : Bool) → (a && b) ≡ true → a ≡ true
first true b e = refl
first false b e = e

pub second : (a b : Bool) → (a && b) ≡ true → b ≡ true
second true b e = e
second false b e = absurd (cc)

-- an object that is touched reads as before
pub read-touched : (O : Objects) (c : Coll) (o : Oid) (q : Coll) (p : Oid) → read_object (with_object O c o (read_object O c o)) q p ≡ read_object O q p
read-touched O c o q p =
    ap (λ m. unwrap_or m empty_object) (look-with_object O c o (read_object O c o) q p)
    ∙ by (map.contains_key O c) (same_coll q c && same_oid p o) refl
  where
    at : (same_coll q c && same_oid p o) ≡ true → read_object O c o ≡ read_object O q p
    at e =
        let colls : q ≡ c = coll_cmp-IsAntisymmetric q c (tie _ (first _ _ e)) in
        let oids : p ≡ o = oid_cmp-IsAntisymmetric p o (tie _ (second (same_coll q c) _ e)) in
        ap (λ x. read_object O x o) (sym colls) ∙ ap (read_object O q) (sym oids)

    by : (a s : Bool) → (same_coll q c && same_oid p o) ≡ s → unwrap_or (cond (a && s) (Some (read_object O c o)) (look O q p)) empty_object ≡ read_object O q p
    by true true e = at e
    by true false e = refl
    by false s e = refl

-- a move: the place is made, the object taken out, and put in its place
pub moved : (O : Objects) (c : Coll) (o : Oid) (c2 : Coll) (o2 : Oid) (x y : Object)
    → with_object (without_object (with_object O c2 o2 x) c o) c2 o2 y ≡ with_object (without_object O c o) c2 o2 y
moved O c o c2 o2 x y =
    let W = without_object (with_object O c2 o2 x) c o in
    let V = without_object O c o in
    let there : (q : Coll) → map.contains_key W q ≡ map.contains_key O q = λ q. there-without_object (with_object O c2 o2 x) c o q ∙ there-with_object O c2 o2 x q in
    let alone : (q : Coll) → map.contains_key V q ≡ map.contains_key O q = λ q. there-without_object O c o q in
    same_objects _ _
    (λ q. there-with_object W c2 o2 y q ∙ there q ∙ sym (there-with_object V c2 o2 y q ∙ alone q))
    (λ q p.
    look-with_object W c2 o2 y q p
    ∙ ap (λ b. cond (b && (same_coll q c2 && same_oid p o2)) (Some y) (look W q p)) (there c2)
    ∙ ap (cond (map.contains_key O c2 && (same_coll q c2 && same_oid p o2)) (Some y))
    (look-without_object (with_object O c2 o2 x) c o q p
    ∙ ap (λ b. cond (b && (same_coll q c && same_oid p o)) None (look (with_object O c2 o2 x) q p)) (there-with_object O c2 o2 x c)
    ∙ ap (cond (map.contains_key O c && (same_coll q c && same_oid p o)) None) (look-with_object O c2 o2 x q p))
    ∙ twice (map.contains_key O c2 && (same_coll q c2 && same_oid p o2)) (map.contains_key O c && (same_coll q c && same_oid p o)) (Some y) (Some x) (look O q p)
    ∙ ap (cond (map.contains_key O c2 && (same_coll q c2 && same_oid p o2)) (Some y)) (sym (look-without_object O c o q p))
    ∙ ap (λ b. cond (b && (same_coll q c2 && same_oid p o2)) (Some y) (look V q p)) (sym (alone c2))
    ∙ sym (look-with_object V c2 o2 y q p))
  where
    twice : (a b : Bool) (y x l : Option Object) → cond a y (cond b None (cond a x l)) ≡ cond a y (cond b None l)
    twice true b y x l = refl
    twice false b y x l = refl

-- the place is there when another object was taken out
pub there-moved : (O : Objects) (c : Coll) (o : Oid) (c2 : Coll) (o2 : Oid) (x : Object) → map.contains_key O c2 ≡ true
    → (eq_by_cmp coll_cmp c c2 && eq_by_cmp oid_cmp o o2) ≡ false → is_some (look (without_object (with_object O c2 o2 x) c o) c2 o2) ≡ true
there-moved O c o c2 o2 x there other =
    let turned : (same_coll c2 c && same_oid o2 o) ≡ false =
    ap (λ b. b && same_oid o2 o) ((eq_by_cmp_equiv coll_cmp_total).symm c2 c) ∙ ap (λ b. same_coll c c2 && b) ((eq_by_cmp_equiv oid_cmp_total).symm o2 o) ∙ other in
    let itself : (same_coll c2 c2 && same_oid o2 o2) ≡ true =
    ap (λ r. is_eq r && same_oid o2 o2) (tied_itself coll_cmp_total c2) ∙ ap is_eq (tied_itself oid_cmp_total o2) in
    ap is_some
    (look-without_object (with_object O c2 o2 x) c o c2 o2
    ∙ ap (λ b. cond (map.contains_key (with_object O c2 o2 x) c && b) None (look (with_object O c2 o2 x) c2 o2)) turned
    ∙ never (map.contains_key (with_object O c2 o2 x) c) (look (with_object O c2 o2 x) c2 o2)
    ∙ look-with_object O c2 o2 x c2 o2
    ∙ ap (λ b. cond (b && (same_coll c2 c2 && same_oid o2 o2)) (Some x) (look O c2 o2)) there
    ∙ ap (λ b. cond b (Some x) (look O c2 o2)) itself)
  where
    never : (a : Bool) (l : Option Object) → cond (a && false) None l ≡ l
    never true l = refl
    never false l = refl
