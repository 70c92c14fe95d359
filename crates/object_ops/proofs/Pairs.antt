-- Attributes are set and dropped, one after the other.
use Rattle.std.proofs.Common.{◌≡◌, ◌⊎◌, inl, inr, ⊎_elim, ℕ, Bool, true, false, cond, ◌||◌, List, [], ◌∷◌, length, get_or, refl, sym, ◌∙◌, ap, subst, arith, Option, Some, None, Result, IsOk}
use Rattle.std.specs.Prelude.{IsSome}
use Rattle.std.specs.List.{fold, list_any}
use Rattle.std.specs.Str.{bytes_eq}
use Rattle.std.proofs.lemmas.Bool.{cases_Bool, cases_eq, false≢true}
use Rattle.std.proofs.lemmas.Bool.Decides.{nat_tests}
use Rattle.std.proofs.lemmas.Slice.Eq.{bytes_eq-Decides}
use Rattle.std.proofs.lemmas.Map.Text.{is_eq-slice_cmp}
use Rattle.fs_cells.specs.Parts.{same_bytes}
use Rattle.fs_model.specs.declared.pair.Pair.{Pair}
use Rattle.tree_api.specs.Answer.{AreAttrs}
use Rattle.tree_api.specs.declared.path.AttrName.{AttrName}
use Rattle.tree_api.specs.Tree.{Path, Version, Names, Tree, IsFile, AttrIs}
use Rattle.tree_api.specs.Disk.{Disk, Sound, Stays, Leaves, Change}
use Rattle.tree_api.specs.declared.tree.TreeError.{TreeError}
use Rattle.tree_api.specs.Passing.{OneOf, Passing, Within}
use Rattle.tree_api.proofs.Images.{same_some}
use Rattle.tree_api.proofs.Moments.{leaves_wider}
use Rattle.tree_api.proofs.Nodes.{dec_bytes}
use Rattle.tree_api.proofs.Passing.{same_version, attr_is_with, still_within, within_start, change_leaves, change_ok}
use Rattle.object_file.specs.Attrs.{attr_name, IsOurs, object_part}
use Rattle.object_file.specs.Passing.{FileGoes}
use Rattle.object_file.proofs.Copies.{dec_ours}
use Rattle.tree_stands.specs.Files.{set_pair, unless_ours, without_ours}
use Rattle.object_ops.specs.Attributes.{Setting, Dropping, Drops, DropsAll}

-- ---- a file's way, seen as part of a longer one

any_is : {A : Type 0} (x v w a b u : A) → OneOf x v w u → (v ≡ a) ⊎ (v ≡ b) → (w ≡ a) ⊎ (w ≡ b) → OneOf x a b u
any_is x v w a b u which one two = ⊎_elim (λ is. inl is)
    (λ rest. ⊎_elim (λ is. inr (⊎_elim (λ at. inl (is ∙ at)) (λ at. inr (is ∙ at)) one)) (λ is. inr (⊎_elim (λ at. inl (is ∙ at)) (λ at. inr (is ∙ at)) two)) rest) which

passing_wider : (n : ℕ) (a b v w : Version) → Within a b v → Within a b w → (x y : Tree) → Passing n v w x y → Passing n a b x y
passing_wider n a b v w one two x y is = record {
  names = is.names;
  snaps = is.snaps;
  others = is.others;
  dir = is.dir;
  len = any_is _ _ _ _ _ _ is.len one.len two.len;
  byte = λ i. any_is _ _ _ _ _ _ (is.byte i) (one.byte i) (two.byte i);
  attr = λ k. any_is _ _ _ _ _ _ (is.attr k) (one.attr k) (two.attr k);
}

pub goes_file : (p : Path) (R : Version → Version → Type 0) (d0 d1 : Disk) (done : Type 0) → FileGoes p R d0 d1 done → (q : Path) → IsFile d0.tree q → IsFile d1.tree q
goes_file p R d0 d1 done goes q file = (
  file.0,
  ap (λ (f : Names). f q) goes.partly.names ∙ file.1,
  (elim (cases_eq file.0 goes.n) [
    | inl same ↦ subst (λ (j : ℕ). (d1.tree.node j).dir ≡ (d0.tree.node j).dir) (sym same) goes.partly.dir
    | inr not ↦ ap (λ (v : Version). v.dir) (goes.partly.others file.0 not)
  ]) ∙ file.2,
)

pub goes_along : (p : Path) (R S : Version → Version → Type 0) (d0 d1 : Disk) (done : Type 0) → ((a b : Version) → R a b → S a b) → FileGoes p R d0 d1 done → FileGoes p S d0 d1 done
goes_along p R S d0 d1 done wider goes = record {
  n = goes.n;
  here = goes.here;
  to = goes.to;
  is = wider (d0.tree.node goes.n) goes.to goes.is;
  any_moment = goes.any_moment;
  partly = goes.partly;
  ok = goes.ok;
}

module _ (p : Path) (n : ℕ) (a b : Version) (R : Version → Version → Type 0) (d0 d1 : Disk) (done : Type 0) (goes : FileGoes p R d0 d1 done) (here : d0.tree.at p ≡ Some n) where
  same : goes.n ≡ n
  same = same_some goes.n n (sym goes.here ∙ here)

  to_is : R (d0.tree.node n) goes.to
  to_is = subst (λ (k : ℕ). R (d0.tree.node k) goes.to) same goes.is

  pub way_goes : Within a b (d0.tree.node n) → ((v : Version) → R (d0.tree.node n) v → Within a b v) → Leaves (Passing n a b) d0 d1
  way_goes within good = subst (λ (k : ℕ). Leaves (Passing k a b) d0 d1) same
      (leaves_wider (Passing goes.n (d0.tree.node goes.n) goes.to) (Passing goes.n a b)
      (λ x y is. passing_wider goes.n a b (d0.tree.node goes.n) goes.to (subst (λ (k : ℕ). Within a b (d0.tree.node k)) (sym same) within) (good goes.to to_is) x y is)
      d0 d1 (record { any_moment = goes.any_moment; now = goes.partly }))

  pub way_is : done → R (d0.tree.node n) (d1.tree.node n)
  way_is is = subst (R (d0.tree.node n)) (sym (ap d1.tree.node (sym same) ∙ goes.ok is)) to_is

  pub way_here : d1.tree.at p ≡ Some n
  way_here = ap (λ (f : Names). f p) goes.partly.names ∙ here

-- an attribute that is then as in b
pub attr_within : (a b v w : Version) (name : List ℕ) (value : Option (List ℕ)) → Within a b v → AttrIs name value v w → b.attr name ≡ value → Within a b w
attr_within a b v w name value within is wanted = record {
  dir = is.dir ∙ within.dir;
  len = ⊎_elim (λ e. inl (ap length is.bytes ∙ e)) (λ e. inr (ap length is.bytes ∙ e)) within.len;
  byte = λ i. ⊎_elim (λ e. inl (ap (λ (l : List ℕ). get_or l i 0) is.bytes ∙ e)) (λ e. inr (ap (λ (l : List ℕ). get_or l i 0) is.bytes ∙ e)) (within.byte i);
  attr = λ k. ⊎_elim
      (λ at. inr (ap w.attr at ∙ is.here ∙ sym wanted ∙ ap b.attr (sym at)))
      (λ not. ⊎_elim (λ e. inl (is.others k not ∙ e)) (λ e. inr (is.others k not ∙ e)) (within.attr k))
      (dec_bytes k name);
}

-- ---- what pairs make of an attribute

text_same : (k name : List ℕ) → bytes_eq k name ≡ same_bytes k name
text_same k name = sym (is_eq-slice_cmp k name)

abbrev has : List Pair → List ℕ → Bool
has pairs key = list_any (λ p. same_bytes key p.key) pairs

abbrev after : List Pair → List ℕ → Option (List ℕ) → Option (List ℕ)
after [] k was = was
after (p ∷ pairs) k was = after pairs k (cond (bytes_eq k (attr_name p.key)) (Some p.value) was)

after_is : (v : Version) (pairs : List Pair) (k : List ℕ) → (fold set_pair v pairs).attr k ≡ after pairs k (v.attr k)
after_is v [] k = refl
after_is v (p ∷ pairs) k = after_is (set_pair v p) pairs k

set_dir : (v : Version) (pairs : List Pair) → (fold set_pair v pairs).dir ≡ v.dir
set_dir v [] = refl
set_dir v (p ∷ pairs) = set_dir (set_pair v p) pairs

set_bytes : (v : Version) (pairs : List Pair) → (fold set_pair v pairs).bytes ≡ v.bytes
set_bytes v [] = refl
set_bytes v (p ∷ pairs) = set_bytes (set_pair v p) pairs

-- of an attribute that is set again nothing stays
forgets : (pairs : List Pair) (key : List ℕ) (x y : Option (List ℕ)) → has pairs key ≡ true → after pairs (attr_name key) x ≡ after pairs (attr_name key) y
forgets [] key x y again = absurd (false≢true again)
forgets (q ∷ qs) key x y again = elim (cases_Bool (bytes_eq (attr_name key) (attr_name q.key))) [
  | inl e ↦
      ap (λ (t : Bool). after qs (attr_name key) (cond t (Some q.value) x)) e
      ∙ sym (ap (λ (t : Bool). after qs (attr_name key) (cond t (Some q.value) y)) e)
  | inr e ↦
      let apart : same_bytes key q.key ≡ false = sym (text_same key q.key) ∙ e in
      let later : has qs key ≡ true = sym (ap (λ (t : Bool). t || has qs key) apart) ∙ again in
      ap (λ (t : Bool). after qs (attr_name key) (cond t (Some q.value) x)) e ∙ forgets qs key x y later
      ∙ sym (ap (λ (t : Bool). after qs (attr_name key) (cond t (Some q.value) y)) e)
]

-- one that isn't stays
keeps : (pairs : List Pair) (key : List ℕ) (x : Option (List ℕ)) → has pairs key ≡ false → after pairs (attr_name key) x ≡ x
keeps [] key x never = refl
keeps (q ∷ qs) key x never = elim (cases_Bool (bytes_eq (attr_name key) (attr_name q.key))) [
  | inl e ↦
      let at : same_bytes key q.key ≡ true = sym (text_same key q.key) ∙ e in
      absurd (false≢true (sym never ∙ ap (λ (t : Bool). t || has qs key) at))
  | inr e ↦
      let apart : same_bytes key q.key ≡ false = sym (text_same key q.key) ∙ e in
      let later : has qs key ≡ false = sym (ap (λ (t : Bool). t || has qs key) apart) ∙ never in
      ap (λ (t : Bool). after qs (attr_name key) (cond t (Some q.value) x)) e ∙ keeps qs key x later
]

-- a pair whose key comes again needn't be set
skipped : (v : Version) (p : Pair) (later : List Pair) → has later p.key ≡ true → fold set_pair (set_pair v p) later ≡ fold set_pair v later
skipped v p later again = same_version (fold set_pair (set_pair v p) later) (fold set_pair v later) (set_dir (set_pair v p) later ∙ sym (set_dir v later)) (set_bytes (set_pair v p) later ∙ sym (set_bytes v later))
    (λ k. after_is (set_pair v p) later k ∙ each k ∙ sym (after_is v later k))
  where
    each : (k : List ℕ) → after later k ((set_pair v p).attr k) ≡ after later k (v.attr k)
    each k = elim (cases_Bool (bytes_eq k (attr_name p.key))) [
      | inl e ↦
          subst (λ (s : List ℕ). after later s ((set_pair v p).attr s) ≡ after later s (v.attr s)) (sym ((bytes_eq-Decides k (attr_name p.key)).0 e))
          (forgets later p.key ((set_pair v p).attr (attr_name p.key)) (v.attr (attr_name p.key)) again)
      | inr e ↦ ap (λ (t : Bool). after later k (cond t (Some p.value) (v.attr k))) e
    ]

-- ---- one pair

module _ (p : Path) (n : ℕ) (a b : Version) (pair : Pair) (later : List Pair) (d0 : Disk) (setting : Setting p n a b (pair ∷ later) d0.tree) where
  pub set_later : has later pair.key ≡ true → Setting p n a b later d0.tree
  set_later again = record { here = setting.here; within = setting.within; comes = sym (skipped (d0.tree.node n) pair later again) ∙ setting.comes }

  module _ (never : has later pair.key ≡ false) where
    comes_from : (w : Version) → AttrIs (attr_name pair.key) (Some pair.value) (d0.tree.node n) w → fold set_pair w later ≡ b
    comes_from w is = ap (λ (v : Version). fold set_pair v later) (attr_is_with (attr_name pair.key) (Some pair.value) (d0.tree.node n) w is) ∙ setting.comes

    wanted : (w : Version) → AttrIs (attr_name pair.key) (Some pair.value) (d0.tree.node n) w → b.attr (attr_name pair.key) ≡ Some pair.value
    wanted w is =
        sym (ap (λ (v : Version). v.attr (attr_name pair.key)) (comes_from w is)) ∙ after_is w later (attr_name pair.key)
        ∙ keeps later pair.key (w.attr (attr_name pair.key)) never ∙ is.here

    one_within : (w : Version) → AttrIs (attr_name pair.key) (Some pair.value) (d0.tree.node n) w → Within a b w
    one_within w is = attr_within a b (d0.tree.node n) w (attr_name pair.key) (Some pair.value) setting.within is (wanted w is)

    module _ (d1 : Disk) (done : Type 0) (goes : FileGoes p (AttrIs (attr_name pair.key) (Some pair.value)) d0 d1 done) where
      pub set_way : Leaves (Passing n a b) d0 d1
      set_way = way_goes p n a b (AttrIs (attr_name pair.key) (Some pair.value)) d0 d1 done goes setting.here setting.within one_within

      pub set_next : done → Setting p n a b later d1.tree
      set_next is =
          let now = way_is p n a b (AttrIs (attr_name pair.key) (Some pair.value)) d0 d1 done goes setting.here is in
          record {
            here = way_here p n a b (AttrIs (attr_name pair.key) (Some pair.value)) d0 d1 done goes setting.here;
            within = one_within (d1.tree.node n) now;
            comes = comes_from (d1.tree.node n) now;
          }

pub set_starts : (p : Path) (n : ℕ) (pairs : List Pair) (t : Tree) → t.at p ≡ Some n → Setting p n (t.node n) (fold set_pair (t.node n) pairs) pairs t
set_starts p n pairs t here = record { here = here; within = within_start (t.node n) (fold set_pair (t.node n) pairs); comes = refl }

pub set_ends : (p : Path) (n : ℕ) (a b : Version) (rest : List Pair) (t : Tree) → rest ≡ [] → Setting p n a b rest t → t.node n ≡ b
set_ends p n a b rest t none setting = sym (ap (λ (l : List Pair). fold set_pair (t.node n) l) none) ∙ setting.comes

pub set_along : (p : Path) (n : ℕ) (a b : Version) (xs ys : List Pair) (t : Tree) → xs ≡ ys → Setting p n a b xs t → Setting p n a b ys t
set_along p n a b xs ys t same setting = subst (λ (l : List Pair). Setting p n a b l t) same setting

-- ---- attributes that go

pub dropping_on : (p : Path) (n : ℕ) (a b : Version) (t u : Tree) → Dropping p n a b t → Passing n a b t u → Dropping p n a b u
dropping_on p n a b t u dropping passing = record {
  here = ap (λ (f : Names). f p) passing.names ∙ dropping.here;
  within = still_within n a b t u dropping.within passing;
  none = dropping.none;
}

pub dropping_stays : (p : Path) (n : ℕ) (a b : Version) (d0 d1 : Disk) → Stays d0 d1 → Dropping p n a b d0.tree → Dropping p n a b d1.tree
dropping_stays p n a b d0 d1 stays dropping = subst (Dropping p n a b) (sym stays.tree) dropping

ours_none : (name : List ℕ) (x : Option (List ℕ)) → unless_ours (object_part (attr_name name)) x ≡ None
ours_none name x = refl

pub drop_starts : (p : Path) (n : ℕ) (t : Tree) → t.at p ≡ Some n → Dropping p n (t.node n) (without_ours (t.node n)) t
drop_starts p n t here = record {
  here = here;
  within = within_start (t.node n) (without_ours (t.node n));
  none = λ k ours. ap (λ (s : List ℕ). unless_ours (object_part s) ((t.node n).attr s)) ours.1 ∙ ours_none ours.0 ((t.node n).attr (attr_name ours.0));
}

part_none : (k : List ℕ) → (IsOurs k → ⊥) → (object_part k ≡ None)
part_none [] not = refl
part_none (x ∷ []) not = refl
part_none (x ∷ y ∷ name) not = elim (cases_eq x 97) [
  | inl e ↦ elim (cases_eq y 58) [
    | inl f ↦ absurd (not (name, ap (λ (z : ℕ). z ∷ y ∷ name) e ∙ ap (λ (z : ℕ). 97 ∷ z ∷ name) f))
    | inr apart ↦ grind (arith, nat_tests)
  ]
  | inr apart ↦ grind (arith, nat_tests)
]

-- once each attribute that was there was dropped
pub drop_ends : (a v0 v : Version) (names : List AttrName) → a ≡ v0 → AreAttrs v0 names → Within a (without_ours a) v → DropsAll (without_ours a) names v0 v → v ≡ without_ours a
drop_ends a v0 v names same are within drops = same_version v (without_ours a) within.dir (drops.0.bytes ∙ ap (λ (w : Version). w.bytes) (sym same)) attrs
  where
    some : (o : Option (List ℕ)) (x : List ℕ) → o ≡ Some x → IsSome o
    some o x is = subst IsSome (sym is) refl

    ours : (k : List ℕ) → IsOurs k → (o : Option (List ℕ)) → v0.attr k ≡ o → v.attr k ≡ (without_ours a).attr k
    ours k is None none = drops.0.keeps k (none ∙ sym (ap (λ (s : List ℕ). unless_ours (object_part s) (a.attr s)) is.1 ∙ ours_none is.0 (a.attr (attr_name is.0))))
    ours k is (Some x) has_it = drops.1 (record { bytes = k }) ((are.all (record { bytes = k })).1 (some (v0.attr k) x has_it)) is

    others : (k : List ℕ) → (IsOurs k → ⊥) → v.attr k ≡ (without_ours a).attr k
    others k not = drops.0.keeps k (ap (λ (w : Version). w.attr k) (sym same) ∙ sym (ap (λ (o : Option (List ℕ)). unless_ours o (a.attr k)) (part_none k not)))

    attrs : (k : List ℕ) → v.attr k ≡ (without_ours a).attr k
    attrs k = ⊎_elim (λ is. ours k is (v0.attr k) refl) (λ not. others k not) (dec_ours k)

module _ {T : Type 0} (p : Path) (n : ℕ) (a b : Version) (name : List ℕ) (ours : IsOurs name) (d0 d1 : Disk) (s0 : Sound d0) (r : Result T TreeError) (change : Change p (AttrIs name None) d0 d1 r) (dropping : Dropping p n a b d0.tree) where
  pub drop_way : Leaves (Passing n a b) d0 d1
  drop_way = change_leaves p (AttrIs name None) d0 d1 r s0 change n a b dropping.here (λ v is. attr_within a b (d0.tree.node n) v name None dropping.within is (dropping.none name ours))

  pub drop_settles : IsOk r → Drops b name (d0.tree.node n) (d1.tree.node n)
  drop_settles done =
      let is = change_ok p (AttrIs name None) d0 d1 r s0 change n dropping.here done in
      let gone : (d1.tree.node n).attr name ≡ b.attr name = is.here ∙ sym (dropping.none name ours) in (
        record { bytes = is.bytes; keeps = λ k e. ⊎_elim (λ at. ap (d1.tree.node n).attr at ∙ gone ∙ ap b.attr (sym at)) (λ not. is.others k not ∙ e) (dec_bytes k name) },
        λ own. gone,
      )

pub none_left : (xs : List Pair) → length xs ≡ 0 → xs ≡ []
none_left [] is = refl
none_left (x ∷ xs) is = absurd (omega (arith, is))
