-- A change of one file, in the cells of the objects.
use Rattle.std.proofs.Common.{◌≡◌, ◌≢◌, inl, inr, ⊎_elim, ℕ, List, length, get_or, refl, sym, ◌∙◌, ap, subst, Option, Some, None}
use Rattle.std.proofs.lemmas.Bool.{cases_eq}
use Rattle.std.proofs.lemmas.List.{same_from_push}
use Rattle.fs_names.specs.declared.oid.Oid.{Oid}
use Rattle.fs_names.specs.declared.settings.Settings.{Settings}
use Rattle.fs_names.specs.Reading.{OidFits}
use Rattle.fs_names.specs.Text.{oid_text}
use Rattle.tree_api.specs.Tree.{Path, Version, Names, Tree, held}
use Rattle.tree_api.specs.Disk.{Disk, Sound, From, Moves, Keeps, Everywhere, Leaves}
use Rattle.tree_api.proofs.Moments.{weaker, now_from}
use Rattle.lfn_index.specs.FileName.{CalledBy}
use Rattle.lfn_index.specs.Directory.{lfn_name, entry, HasFile}
use Rattle.lfn_index.specs.Changes.{aside}
use Rattle.lfn_index.specs.Maps.{Map, IsMap, Whole, Level, AttrLevel, content}
use Rattle.lfn_index.specs.OneObject.{OnlyOne, IsOff}
use Rattle.lfn_index.proofs.Mapped.{nodes_view, SameView, view_map, content_same, dec_step}
use Rattle.lfn_index.proofs.Once.{same_text, called_texts}
use Rattle.lfn_index.proofs.Only.{look_same, untouched_view}
use Rattle.tree_api.specs.Passing.{OneOf, Passing}
use Rattle.lfn_index.specs.Cells.{Cells, OneBeside, CellsBeside, is_there, bytes_in, attr_in}

pub cells_same : (a b x v : Option Version) → v ≡ x → Cells a b x v
cells_same a b x v same = record {
  there = inl (ap is_there same);
  len = inl (ap (λ (y : Option Version). length (bytes_in y)) same);
  byte = λ i. inl (ap (λ (y : Option Version). get_or (bytes_in y) i 0) same);
  attr = λ k. inl (ap (λ (y : Option Version). attr_in y k) same);
}

pub beside_same : (key : List ℕ) (a b x v : Option Version) → v ≡ x → CellsBeside key a b x v
beside_same key a b x v same = record {
  there = inl (ap (λ (y : Option Version). (is_there y, attr_in y key)) same);
  len = inl (ap (λ (y : Option Version). (length (bytes_in y), attr_in y key)) same);
  byte = λ i. inl (ap (λ (y : Option Version). (get_or (bytes_in y) i 0, attr_in y key)) same);
  attr = λ k. inl (ap (λ (y : Option Version). (attr_in y k, attr_in y key)) same);
}

all_one : {A : Type 0} (w x a b v : A) → x ≡ w → a ≡ w → b ≡ w → OneOf x a b v → v ≡ w
all_one w x a b v one two three which = ⊎_elim (λ is. is ∙ one) (λ rest. ⊎_elim (λ is. is ∙ two) (λ is. is ∙ three) rest) which

-- where what stands beside them is the same in all, each comes with it
with_beside : {A B : Type 0} (x a b v : A) (gx ga gb gv : B) → gx ≡ ga → gb ≡ ga → gv ≡ ga → OneOf x a b v → OneOf {A = A × B} (x, gx) (a, ga) (b, gb) (v, gv)
with_beside x a b v gx ga gb gv ox ob ov which = ⊎_elim
    (λ is. inl (λ i. (is i, (ov ∙ sym ox) i)))
    (λ rest. ⊎_elim (λ is. inr (inl (λ i. (is i, ov i)))) (λ is. inr (inr (λ i. (is i, (ov ∙ sym ob) i)))) rest)
    which

module _ (set : Settings) (dir : Path) (oid : Oid) (d0 d1 : Disk) (s0 : Sound d0) (s1 : Sound d1) (other : dir ≢ aside) (level : Level dir d0) (fits : OidFits oid)
    (n : ℕ) (step : List ℕ) (file : HasFile set d0.tree dir (oid_text oid) step n) (to : Version) (text_stays : to.attr lfn_name ≡ (d0.tree.node n).attr lfn_name) where
  abbrev v0 : Version
  v0 = d0.tree.node n

  abbrev R : Tree → Tree → Type 0
  R = Passing n (d0.tree.node n) to

  module _ (a c : Tree) (may : d0.may a) (is : Passing n (d0.tree.node n) to a c) where
    level_text : (a.node n).attr lfn_name ≡ (d0.tree.node n).attr lfn_name
    level_text = level.called a step n may file.here

    node_text : (c.node n).attr lfn_name ≡ (a.node n).attr lfn_name
    node_text = ⊎_elim (λ same. same) (λ rest. ⊎_elim (λ at_a. at_a ∙ sym level_text) (λ at_b. at_b ∙ text_stays ∙ sym level_text) rest) (is.attr lfn_name)

    pub passing_view : SameView dir a c
    passing_view = record {
      at = λ s. ap (λ (f : Names). f (entry dir s)) is.names;
      kind = λ s k here. elim (cases_eq k n) [
        | inl same ↦ subst (λ (x : ℕ). (c.node x).dir ≡ (a.node x).dir) (sym same) is.dir
        | inr not ↦ ap (λ (v : Version). v.dir) (is.others k not)
      ];
      called = λ s k here. elim (cases_eq k n) [
        | inl same ↦ subst (λ (x : ℕ). (c.node x).attr lfn_name ≡ (a.node x).attr lfn_name) (sym same) node_text
        | inr not ↦ ap (λ (v : Version). v.attr lfn_name) (is.others k not)
      ];
    }

    not_n : (m : Map) → IsMap set a dir m → (o : Oid) → OidFits o → o ≢ oid → (k : ℕ) → m o ≡ Some k → k ≢ n
    not_n m map o own differ k at same =
        let found = map.there o k own at in
        let here : a.at (entry dir found.0) ≡ Some n = found.1.here ∙ ap Some same in
        ⊎_elim
        (λ paths.
        let steps : found.0 ≡ step = (same_from_push dir dir found.0 step paths).1 in
        let called_o : CalledBy set (oid_text o) step ((d0.tree.node n).attr lfn_name) =
        subst (λ (x : Option (List ℕ)). CalledBy set (oid_text o) step x) level_text
        (subst (λ (x : ℕ). CalledBy set (oid_text o) step ((a.node x).attr lfn_name)) same (subst (λ (s : List ℕ). CalledBy set (oid_text o) s ((a.node k).attr lfn_name)) steps found.1.called)) in
        differ (same_text o oid own fits (called_texts set o oid step _ called_o file.called)))
        (λ beside. other (same_from_push dir aside found.0 beside.0 beside.1).0)
        (level.alone a step (entry dir found.0) n may file.here here)

    held_by : (K : Option Version → Option Version → Type 0) → ((x y : Option Version) → y ≡ x → K x y) → K (Some (a.node n)) (Some (c.node n)) → (x : Option ℕ) → K (held x a.node) (held x c.node)
    held_by K keeps own None = keeps None None refl
    held_by K keeps own (Some k) = elim (cases_eq k n) [
      | inl same ↦ subst (λ (j : ℕ). K (Some (a.node j)) (Some (c.node j))) (sym same) own
      | inr not ↦ keeps (Some (a.node k)) (Some (c.node k)) (ap Some (is.others k not))
    ]

    off_node : (q : Path) (k : ℕ) → IsOff dir q → a.at q ≡ Some k → k ≢ n
    off_node q k off here same = ⊎_elim (λ own. off.0 step own) (λ beside. off.1 beside.0 beside.1) (level.alone a step q n may file.here (here ∙ ap Some same))

    -- in another directory
    rest_node : (d : Path) → d ≢ aside → d ≢ dir → (s : List ℕ) (k : ℕ) → a.at (entry d s) ≡ Some k → c.node k ≡ a.node k
    rest_node d off differ s k here = is.others k (λ same. ⊎_elim
        (λ paths. differ (same_from_push d dir s step paths).0)
        (λ beside. off (same_from_push d aside s beside.0 beside.1).0)
        (level.alone a step (entry d s) n may file.here (here ∙ ap Some same)))

    pub passing_only : (K : Option Version → Option Version → Type 0) → ((x y : Option Version) → y ≡ x → K x y) → K (Some (a.node n)) (Some (c.node n)) → OnlyOne set dir oid K a c
    passing_only K keeps own = record {
      here = λ m map. (
        m,
        view_map set dir a c passing_view m map,
        λ o own_fits differ. content_same set dir a c m m o refl (λ k at. is.others k (not_n m map o own_fits differ k at)),
        held_by K keeps own (m oid),
      );
      rest = λ d off differ. untouched_view set d a c (nodes_view d a c (λ s. ap (λ (f : Names). f (entry d s)) is.names) (rest_node d off differ)) (rest_node d off differ);
      looks = λ q off. look_same a c q (ap (λ (f : Names). f q) is.names) (λ k here. is.others k (off_node q k off here));
    }

    pub passing_cells : Cells (Some (d0.tree.node n)) (Some to) (Some (a.node n)) (Some (c.node n))
    passing_cells = record { there = inl refl; len = is.len; byte = is.byte; attr = is.attr }

  -- what the file holds goes by K, in each image and as it reads
  pub goes_only : (K : Option Version → Option Version → Type 0) → ((x y : Option Version) → y ≡ x → K x y) → ((a c : Tree) → d0.may a → Passing n (d0.tree.node n) to a c → K (Some (a.node n)) (Some (c.node n)))
      → Moves (Passing n (d0.tree.node n) to) d0 d1 → Passing n (d0.tree.node n) to d0.tree d1.tree → Leaves (OnlyOne set dir oid K) d0 d1
  goes_only K keeps each moves partly = record {
    any_moment = weaker (From d0 R) (From d0 (OnlyOne set dir oid K)) d0 d1 moves (λ c from. (from.0, from.1, passing_only from.0 c from.1 from.2 K keeps (each from.0 c from.1 from.2)));
    now = passing_only d0.tree d1.tree s0.now partly K keeps (each d0.tree d1.tree s0.now partly);
  }

  -- each cell of the object is as it was in the image, as it read, or as it shall be
  pub goes_cells : Moves (Passing n (d0.tree.node n) to) d0 d1 → Passing n (d0.tree.node n) to d0.tree d1.tree → Leaves (OnlyOne set dir oid (Cells (Some (d0.tree.node n)) (Some to))) d0 d1
  goes_cells moves partly = goes_only (Cells (Some v0) (Some to)) (λ x y same. cells_same (Some v0) (Some to) x y same) (λ a c may is. passing_cells a c may is) moves partly

  pub goes_whole : Moves (Passing n (d0.tree.node n) to) d0 d1 → Everywhere d0 (Whole set dir) → Keeps (Whole set dir) d0 d1
  goes_whole moves all = weaker (From d0 R) (Whole set dir) d0 d1 moves (λ c from. let was = all from.0 from.1 in (was.0, view_map set dir from.0 c (passing_view from.0 c from.1 from.2) was.0 was.1))

  module _ (moves : Moves (Passing n (d0.tree.node n) to) d0 d1) (partly : Passing n (d0.tree.node n) to d0.tree d1.tree) where
    same_texts : (s : List ℕ) (k : ℕ) (a c : Tree) → d0.may a → Passing n (d0.tree.node n) to a c → d0.tree.at (entry dir s) ≡ Some k → (c.node k).attr lfn_name ≡ (d0.tree.node k).attr lfn_name
    same_texts s k a c may is here =
        let text : (c.node k).attr lfn_name ≡ (a.node k).attr lfn_name = elim (cases_eq k n) [
          | inl same ↦ subst (λ (x : ℕ). (c.node x).attr lfn_name ≡ (a.node x).attr lfn_name) (sym same) (node_text a c may is)
          | inr not ↦ ap (λ (v : Version). v.attr lfn_name) (is.others k not)
        ] in
        text ∙ level.called a s k may here

    pub goes_level : Level dir d1
    goes_level = record {
      alone = λ c s q k may here there.
          let from = now_from (From d0 R) d0 d1 s1 moves c may in
          level.alone from.0 s q k from.1 (sym (ap (λ (f : Names). f (entry dir s)) partly.names) ∙ here) (sym (ap (λ (f : Names). f q) from.2.names) ∙ there);
      called = λ c s k may here.
          let from = now_from (From d0 R) d0 d1 s1 moves c may in
          let was : d0.tree.at (entry dir s) ≡ Some k = sym (ap (λ (f : Names). f (entry dir s)) partly.names) ∙ here in
          same_texts s k from.0 c from.1 from.2 was ∙ sym (same_texts s k d0.tree d1.tree s0.now partly was);
    }

    -- once it is done
    pub goes_reads : d1.tree.node n ≡ to → (K : Option Version → Option Version → Type 0) → K (Some (d0.tree.node n)) (Some to) → (m : Map) → IsMap set d0.tree dir m → K (content m d0.tree oid) (content m d1.tree oid)
    goes_reads done K own m map =
        let at : m oid ≡ Some n = map.files oid step n (fits, file) in
        let before : Some (d0.tree.node n) ≡ content m d0.tree oid = sym (ap (λ (x : Option ℕ). held x d0.tree.node) at) in
        let after : Some to ≡ content m d1.tree oid = sym (ap (λ (x : Option ℕ). held x d1.tree.node) at ∙ ap Some done) in
        subst (λ (x : Option Version). K x (content m d1.tree oid)) before (subst (λ (y : Option Version). K (Some (d0.tree.node n)) y) after own)

    -- what the object holds has become this
    pub goes_becomes : d1.tree.node n ≡ to → OnlyOne set dir oid (λ x y. (x ≡ Some (d0.tree.node n)) × (y ≡ Some to)) d0.tree d1.tree
    goes_becomes done = record {
      here = λ m map. (
        m,
        view_map set dir d0.tree d1.tree (passing_view d0.tree d1.tree s0.now partly) m map,
        λ o own differ. content_same set dir d0.tree d1.tree m m o refl (λ k held_at. partly.others k (not_n d0.tree d1.tree s0.now partly m map o own differ k held_at)),
        goes_reads done (λ x y. (x ≡ Some (d0.tree.node n)) × (y ≡ Some to)) (refl, refl) m map,
      );
      rest = λ d off differ. untouched_view set d d0.tree d1.tree (nodes_view d d0.tree d1.tree (λ s. ap (λ (f : Names). f (entry d s)) partly.names) (rest_node d0.tree d1.tree s0.now partly d off differ)) (rest_node d0.tree d1.tree s0.now partly d off differ);
      looks = λ q off. look_same d0.tree d1.tree q (ap (λ (f : Names). f q) partly.names) (λ k here. partly.others k (off_node d0.tree d1.tree s0.now partly q k off here));
    }

  -- beside an attribute that stays
  module _ (key : List ℕ) (attrs : AttrLevel key dir d0) (key_stays : to.attr key ≡ (d0.tree.node n).attr key) where
    key_same : (a c : Tree) → d0.may a → Passing n (d0.tree.node n) to a c → (c.node n).attr key ≡ (d0.tree.node n).attr key
    key_same a c may is = all_one ((d0.tree.node n).attr key) ((a.node n).attr key) ((d0.tree.node n).attr key) (to.attr key) ((c.node n).attr key) (attrs a step n may file.here) refl key_stays (is.attr key)

    beside : {A : Type 0} (f : Option Version → A) (a c : Tree) → d0.may a → Passing n (d0.tree.node n) to a c → OneOf (f (Some (a.node n))) (f (Some (d0.tree.node n))) (f (Some to)) (f (Some (c.node n)))
        → OneBeside key f (Some (d0.tree.node n)) (Some to) (Some (a.node n)) (Some (c.node n))
    beside f a c may is which = with_beside (f (Some (a.node n))) (f (Some (d0.tree.node n))) (f (Some to)) (f (Some (c.node n))) ((a.node n).attr key) ((d0.tree.node n).attr key) (to.attr key) ((c.node n).attr key)
        (attrs a step n may file.here) key_stays (key_same a c may is) which

    pub passing_beside : (a c : Tree) → d0.may a → Passing n (d0.tree.node n) to a c → CellsBeside key (Some (d0.tree.node n)) (Some to) (Some (a.node n)) (Some (c.node n))
    passing_beside a c may is = record {
      there = beside is_there a c may is (inl refl);
      len = beside (λ y. length (bytes_in y)) a c may is is.len;
      byte = λ i. beside (λ y. get_or (bytes_in y) i 0) a c may is (is.byte i);
      attr = λ k. beside (λ y. attr_in y k) a c may is (is.attr k);
    }

    -- each cell of the object, with this attribute beside it, is as it was in the image, as it read, or as it shall be
    pub goes_beside : Moves (Passing n (d0.tree.node n) to) d0 d1 → Passing n (d0.tree.node n) to d0.tree d1.tree → Leaves (OnlyOne set dir oid (CellsBeside key (Some (d0.tree.node n)) (Some to))) d0 d1
    goes_beside moves partly = goes_only (CellsBeside key (Some v0) (Some to)) (λ x y same. beside_same key (Some v0) (Some to) x y same) passing_beside moves partly

    -- and it stays level, in every directory
    pub goes_attrs : Moves (Passing n (d0.tree.node n) to) d0 d1 → Passing n (d0.tree.node n) to d0.tree d1.tree → (d : Path) → AttrLevel key d d0 → AttrLevel key d d1
    goes_attrs moves partly d was c s k may here =
        let from = now_from (From d0 R) d0 d1 s1 moves c may in
        let old_here : d0.tree.at (entry d s) ≡ Some k = sym (ap (λ (f : Names). f (entry d s)) partly.names) ∙ here in
        elim (cases_eq k n) [
          | inl same ↦ subst (λ (x : ℕ). (c.node x).attr key ≡ (d1.tree.node x).attr key) (sym same) (key_same from.0 c from.1 from.2 ∙ sym (key_same d0.tree d1.tree s0.now partly))
          | inr not ↦ ap (λ (v : Version). v.attr key) (from.2.others k not) ∙ was from.0 s k from.1 old_here ∙ sym (ap (λ (v : Version). v.attr key) (partly.others k not))
        ]

  -- Where this attribute alone changes, and the file was stable: each cell is there with the old value beside it or with the new one.
  module _ (key : List ℕ) (synced : (a : Tree) → d0.may a → a.node n ≡ d0.tree.node n) (bytes : to.bytes ≡ (d0.tree.node n).bytes) (attrs : (k : List ℕ) → k ≢ key → to.attr k ≡ (d0.tree.node n).attr k) where
    one_value : {A : Type 0} (f : Version → A) → f to ≡ f (d0.tree.node n) → (a c : Tree) → d0.may a → OneOf (f (a.node n)) (f (d0.tree.node n)) (f to) (f (c.node n)) → f (c.node n) ≡ f (d0.tree.node n)
    one_value f same a c may which = all_one (f (d0.tree.node n)) (f (a.node n)) (f (d0.tree.node n)) (f to) (f (c.node n)) (ap f (synced a may)) refl same which

    closing : {A : Type 0} (f : Version → A) → f to ≡ f (d0.tree.node n) → (a c : Tree) → d0.may a → Passing n (d0.tree.node n) to a c → OneOf (f (a.node n)) (f (d0.tree.node n)) (f to) (f (c.node n))
        → OneOf {A = A × Option (List ℕ)} (f (a.node n), (a.node n).attr key) (f (d0.tree.node n), (d0.tree.node n).attr key) (f to, to.attr key) (f (c.node n), (c.node n).attr key)
    closing f same a c may is which =
        let value : f (c.node n) ≡ f (d0.tree.node n) = one_value f same a c may which in
        ⊎_elim
        (λ old. inr (inl (λ i. (value i, (old ∙ ap (λ (v : Version). v.attr key) (synced a may)) i))))
        (λ rest. ⊎_elim (λ old. inr (inl (λ i. (value i, old i)))) (λ new. inr (inr (λ i. ((value ∙ sym same) i, new i)))) rest)
        (is.attr key)

    -- the attribute's own cell
    closing_key : (k : List ℕ) → k ≡ key → (a c : Tree) → d0.may a → Passing n (d0.tree.node n) to a c → OneBeside key (λ y. attr_in y k) (Some (d0.tree.node n)) (Some to) (Some (a.node n)) (Some (c.node n))
    closing_key k same a c may is = subst (λ (x : List ℕ). OneBeside key (λ y. attr_in y x) (Some (d0.tree.node n)) (Some to) (Some (a.node n)) (Some (c.node n))) (sym same)
        (⊎_elim (λ e. inl (λ i. (e i, e i))) (λ rest. ⊎_elim (λ e. inr (inl (λ i. (e i, e i)))) (λ e. inr (inr (λ i. (e i, e i)))) rest) (is.attr key))

    pub passing_closes : (a c : Tree) → d0.may a → Passing n (d0.tree.node n) to a c → CellsBeside key (Some (d0.tree.node n)) (Some to) (Some (a.node n)) (Some (c.node n))
    passing_closes a c may is = record {
      there = closing (λ v. is_there (Some v)) refl a c may is (inl refl);
      len = closing (λ v. length v.bytes) (ap (λ (l : List ℕ). length l) bytes) a c may is is.len;
      byte = λ i. closing (λ v. get_or v.bytes i 0) (ap (λ (l : List ℕ). get_or l i 0) bytes) a c may is (is.byte i);
      attr = λ k. elim (dec_step k key) [
        | inl same ↦ closing_key k same a c may is
        | inr not ↦ closing (λ v. v.attr k) (attrs k not) a c may is (is.attr k)
      ];
    }

    pub goes_closes : Moves (Passing n (d0.tree.node n) to) d0 d1 → Passing n (d0.tree.node n) to d0.tree d1.tree → Leaves (OnlyOne set dir oid (CellsBeside key (Some (d0.tree.node n)) (Some to))) d0 d1
    goes_closes moves partly = goes_only (CellsBeside key (Some v0) (Some to)) (λ x y same. beside_same key (Some v0) (Some to) x y same) passing_closes moves partly
