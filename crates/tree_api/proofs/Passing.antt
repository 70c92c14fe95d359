-- Nodes on their way.
use Rattle.std.proofs.Common.{◌≡◌, ◌⊎◌, inl, inr, ⊎_elim, ℕ, ◌≤◌, ◌<◌, List, length, get_or, refl, sym, ◌∙◌, ap, subst, arith, Option, Some, Result, Ok, Err, IsOk, OnOk}
use Rattle.std.proofs.lemmas.Bool.{cases_Bool, cond-true, cond-false, false≢true}
use Rattle.std.proofs.lemmas.Slice.Eq.{bytes_eq-Decides}
use Rattle.std.proofs.lemmas.List.{get_or_past, ext_get_or}
use Rattle.std.specs.Str.{bytes_eq}
use Rattle.tree_api.specs.Tree.{Path, Version, Tree, Mix, Wrote, AttrIs}
use Rattle.tree_api.specs.Disk.{Disk, Sound, Change, Leaves}
use Rattle.tree_api.specs.Passing.{OneOf, Passing, Within, with_attr, AttrPassing}
use Rattle.tree_api.specs.declared.tree.TreeError.{TreeError}
use Rattle.tree_api.proofs.Moments.{step_wider, one_call}
use Rattle.tree_api.proofs.Images.{same_some}

below_or_not : (i n : ℕ) → (i < n) ⊎ (n ≤ i)
below_or_not i n = grind arith

-- each byte of a mix, 0 past its end, is a byte of one of the two
pub mix_byte : (a b v : Version) → Mix a b v → (i : ℕ) → (get_or v.bytes i 0 ≡ get_or a.bytes i 0) ⊎ (get_or v.bytes i 0 ≡ get_or b.bytes i 0)
mix_byte a b v mix i = ⊎_elim (λ lt. mix.byte i lt) past (below_or_not i (length v.bytes))
  where
    past : length v.bytes ≤ i → (get_or v.bytes i 0 ≡ get_or a.bytes i 0) ⊎ (get_or v.bytes i 0 ≡ get_or b.bytes i 0)
    past le = ⊎_elim
        (λ is. inl (get_or_past v.bytes i 0 le ∙ sym (get_or_past a.bytes i 0 (omega (arith, is, le)))))
        (λ is. inr (get_or_past v.bytes i 0 le ∙ sym (get_or_past b.bytes i 0 (omega (arith, is, le)))))
        mix.len

pub passing_same : (n : ℕ) (a b : Version) (t : Tree) → Passing n a b t t
passing_same n a b t = record { names = refl; snaps = refl; others = λ m not. refl; dir = refl; len = inl refl; byte = λ i. inl refl; attr = λ name. inl refl }

one_then : {A : Type 0} (x y a b v : A) → OneOf x a b y → OneOf y a b v → OneOf x a b v
one_then x y a b v first second =
    ⊎_elim (λ same. ⊎_elim (λ is. inl (same ∙ is)) (λ rest. ⊎_elim (λ is. inr (inl (same ∙ is))) (λ is. inr (inr (same ∙ is))) rest) first) (λ rest. inr rest) second

pub passing_joins : (n : ℕ) (a b : Version) (t u v : Tree) → Passing n a b t u → Passing n a b u v → Passing n a b t v
passing_joins n a b t u v one two = record {
  names = two.names ∙ one.names;
  snaps = two.snaps ∙ one.snaps;
  others = λ m not. two.others m not ∙ one.others m not;
  dir = two.dir ∙ one.dir;
  len = one_then _ _ _ _ _ one.len two.len;
  byte = λ i. one_then _ _ _ _ _ (one.byte i) (two.byte i);
  attr = λ name. one_then _ _ _ _ _ (one.attr name) (two.attr name);
}

-- a cell that is x's or v's, where v's is a's or b's
one_of : {A : Type 0} (x v a b u : A) → (u ≡ x) ⊎ (u ≡ v) → (v ≡ a) ⊎ (v ≡ b) → OneOf x a b u
one_of x v a b u (inl is) which = inl is
one_of x v a b u (inr is) (inl at_a) = inr (inl (is ∙ at_a))
one_of x v a b u (inr is) (inr at_b) = inr (inr (is ∙ at_b))

pub wrote_passing : (n : ℕ) (a b v : Version) (t u : Tree) → Within a b v → Wrote n v t u → Passing n a b t u
wrote_passing n a b v t u within wrote = record {
  names = wrote.names;
  snaps = wrote.snaps;
  others = wrote.others;
  dir = wrote.mixed.dir;
  len = one_of _ _ _ _ _ wrote.mixed.len within.len;
  byte = λ i. one_of _ _ _ _ _ (mix_byte (t.node n) v (u.node n) wrote.mixed i) (within.byte i);
  attr = λ name. one_of _ _ _ _ _ (wrote.mixed.attr name) (within.attr name);
}

either_then : {A : Type 0} (x a b u : A) → (x ≡ a) ⊎ (x ≡ b) → OneOf x a b u → (u ≡ a) ⊎ (u ≡ b)
either_then x a b u which (inr rest) = rest
either_then x a b u (inl at_a) (inl is) = inl (is ∙ at_a)
either_then x a b u (inr at_b) (inl is) = inr (is ∙ at_b)

-- a node on the way stays on it
pub still_within : (n : ℕ) (a b : Version) (t u : Tree) → Within a b (t.node n) → Passing n a b t u → Within a b (u.node n)
still_within n a b t u within passing = record {
  dir = passing.dir ∙ within.dir;
  len = either_then _ _ _ _ within.len passing.len;
  byte = λ i. either_then _ _ _ _ (within.byte i) (passing.byte i);
  attr = λ name. either_then _ _ _ _ (within.attr name) (passing.attr name);
}

pub within_start : (a b : Version) → Within a b a
within_start a b = record { dir = refl; len = inl refl; byte = λ i. inl refl; attr = λ name. inl refl }

pub within_end : (a b : Version) → b.dir ≡ a.dir → Within a b b
within_end a b dir = record { dir = dir; len = inr refl; byte = λ i. inr refl; attr = λ name. inr refl }

-- two versions with the same cells
pub same_version : (v w : Version) → v.dir ≡ w.dir → v.bytes ≡ w.bytes → ((k : List ℕ) → v.attr k ≡ w.attr k) → v ≡ w
same_version v w dir bytes attr = λ i. record { dir = dir i; bytes = bytes i; attr = λ k. attr k i }

pub same_bytes : (xs ys : List ℕ) → length xs ≡ length ys → ((i : ℕ) → get_or xs i 0 ≡ get_or ys i 0) → xs ≡ ys
same_bytes xs ys len each = ext_get_or 0 xs ys len (λ i lt. each i)

-- where the way is no way
pub within_same : (a b v : Version) → a ≡ b → Within a b v → v ≡ b
within_same a b v same within = same_version v b
    (within.dir ∙ ap (λ (w : Version). w.dir) same)
    (same_bytes v.bytes b.bytes (⊎_elim (λ is. is ∙ ap (λ (w : Version). length w.bytes) same) (λ is. is) within.len)
    (λ i. ⊎_elim (λ is. is ∙ ap (λ (w : Version). get_or w.bytes i 0) same) (λ is. is) (within.byte i)))
    (λ k. ⊎_elim (λ is. is ∙ ap (λ (w : Version). w.attr k) same) (λ is. is) (within.attr k))

pub on_ok : {T E : Type 0} {A : Type 0} (r : Result T E) → OnOk r A → IsOk r → A
on_ok (Ok v) a ok = a
on_ok (Err e) a ok = absurd (false≢true ok)

-- one call that changes the node at p
module _ {T : Type 0} (p : Path) (R : Version → Version → Type 0) (d0 d1 : Disk) (r : Result T TreeError) (s0 : Sound d0) (change : Change p R d0 d1 r) where
  pub change_leaves : (n : ℕ) (a b : Version) → d0.tree.at p ≡ Some n → ((v : Version) → R (d0.tree.node n) v → Within a b v) → Leaves (Passing n a b) d0 d1
  change_leaves n a b here within = record {
    any_moment = one_call (Passing n a b) (passing_joins n a b) (passing_same n a b) d0 d1 s0
        (step_wider (Wrote change.n change.to) (Passing n a b) (λ x y is. passing x y is) d0 d1 change.step);
    now = passing d0.tree d1.tree change.partly;
  }
    where
      same : change.n ≡ n
      same = same_some change.n n (sym change.here ∙ here)

      good : Within a b change.to
      good = within change.to (subst (λ (m : ℕ). R (d0.tree.node m) change.to) same change.is)

      passing : (x y : Tree) → Wrote change.n change.to x y → Passing n a b x y
      passing x y is = wrote_passing n a b change.to x y good (subst (λ (m : ℕ). Wrote m change.to x y) same is)

  -- what it has once this is done
  pub change_ok : (n : ℕ) → d0.tree.at p ≡ Some n → IsOk r → R (d0.tree.node n) (d1.tree.node n)
  change_ok n here done =
      let same : change.n ≡ n = same_some change.n n (sym change.here ∙ here) in
      subst (λ (m : ℕ). R (d0.tree.node m) (d1.tree.node m)) same (subst (R (d0.tree.node change.n)) (sym (on_ok r change.ok done)) change.is)

pub with_attr_is : (name : List ℕ) (value : Option (List ℕ)) (a : Version) → AttrIs name value a (with_attr name value a)
with_attr_is name value a = record {
  dir = refl;
  bytes = refl;
  here = cond-true (bytes_eq name name) value (a.attr name) ((bytes_eq-Decides name name).1 refl);
  others = λ k not. elim (cases_Bool (bytes_eq k name)) [
    | inl equal ↦ absurd (not ((bytes_eq-Decides k name).0 equal))
    | inr other ↦ cond-false (bytes_eq k name) value (a.attr k) other
  ];
}

-- there is one version with that attribute set
pub attr_is_with : (name : List ℕ) (value : Option (List ℕ)) (a v : Version) → AttrIs name value a v → v ≡ with_attr name value a
attr_is_with name value a v is = same_version v (with_attr name value a) is.dir is.bytes (λ k.
    elim (cases_Bool (bytes_eq k name)) [
      | inl equal ↦ ap v.attr ((bytes_eq-Decides k name).0 equal) ∙ is.here ∙ sym (cond-true (bytes_eq k name) value (a.attr k) equal)
      | inr other ↦ is.others k (λ same. false≢true (sym other ∙ (bytes_eq-Decides k name).1 same)) ∙ sym (cond-false (bytes_eq k name) value (a.attr k) other)
    ])

-- one attribute of the node at p is set or taken away
pub attr_leaves : {T : Type 0} (p : Path) (name : List ℕ) (value : Option (List ℕ)) (d0 d1 : Disk) (r : Result T TreeError) → Sound d0 → Change p (AttrIs name value) d0 d1 r
    → (n : ℕ) → d0.tree.at p ≡ Some n → Leaves (AttrPassing n name value (d0.tree.node n)) d0 d1
attr_leaves p name value d0 d1 r s0 change n here =
    change_leaves p (AttrIs name value) d0 d1 r s0 change n (d0.tree.node n) (with_attr name value (d0.tree.node n)) here
    (λ v is. subst (Within (d0.tree.node n) (with_attr name value (d0.tree.node n))) (sym (attr_is_with name value (d0.tree.node n) v is)) (within_end (d0.tree.node n) (with_attr name value (d0.tree.node n)) refl))
