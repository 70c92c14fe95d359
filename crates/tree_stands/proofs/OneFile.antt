-- A tree of one file.
use Rattle.std.proofs.Common.{◌≡◌, ◌≢◌, ◌⊎◌, inl, inr, ⊎_elim, ℕ, ◌≤◌, Bool, true, false, cond, ◌&&◌, List, length, refl, sym, ◌∙◌, ap, subst, Option, Some, None}
use Rattle.std.proofs.lemmas.Bool.{cases_Bool, and_from}
use Rattle.std.proofs.lemmas.Slice.Eq.{bytes_eq-Decides}
use Rattle.std.specs.Str.{bytes_eq}
use Rattle.std.specs.Option.{option_map}
use Rattle.std.specs.Cmp.Lexicographic.{slice_cmp}
use Rattle.std.specs.Ordering.{nat_cmp}
use Rattle.std.specs.FinMap as fin
use Rattle.fs_names.specs.declared.coll.Coll.{Coll}
use Rattle.fs_names.specs.declared.oid.Oid.{Oid}
use Rattle.fs_names.specs.declared.settings.Settings.{Settings}
use Rattle.fs_names.specs.Order.{oid_cmp, coll_cmp, oid_cmp_total, coll_cmp_total}
use Rattle.fs_names.specs.Reading.{CollFits, coll_of}
use Rattle.fs_names.specs.Text.{oid_text, coll_text}
use Rattle.fs_names.proofs.CollLaw.{coll_texts_are_read}
use Rattle.fs_names.proofs.OidLaw.{same_text}
use Rattle.fs_model.specs.Objects.{Object, Objects, Shelf, look, on_shelf}
use Rattle.fs_model.proofs.Cells.{same_coll, same_oid}
use Rattle.tree_api.specs.Tree.{Version, Tree, held, file_of}
use Rattle.lfn_index.specs.FileName.{CalledBy}
use Rattle.lfn_index.specs.Directory.{lfn_name}
use Rattle.lfn_index.specs.Maps.{Map, IsMap}
use Rattle.fs_cells.specs.declared.cell.Part.{Part}
use Rattle.fs_cells.specs.declared.cell.Part.TheVariants.{Exists, Length, Byte, Attr, OmapHeader, OmapKey}
use Rattle.fs_cells.specs.Values.{content as contained, value_at}
use Rattle.tree_stands.specs.Names.{Name, NameFits, name_of, same_name, coll_fits, name_fits}
use Rattle.tree_stands.specs.Shown.{Counts, value_in, guard_in, guard_at}
use Rattle.tree_stands.specs.Trees.{dir_of, guard_of, Maps, AreMaps, shown}
use Rattle.tree_stands.specs.Closed.{Shows}
use Rattle.tree_stands.specs.OneFile.{one_tree, one_object, one_of, OneFileLaw}
use Rattle.tree_stands.proofs.Names.{both, name_cases, fit_cases, name_is_fit, true_not_false}
use Rattle.tree_stands.proofs.Trees.{one_content, shows, shows_none}

none_is : {A : Type 0} (k : A) → None ≡ Some k → ⊥
none_is k e = cc

some_same : (a b : ℕ) → Some a ≡ Some b → b ≡ a
some_same a b e = cc

some_coll : (a b : Coll) → Some a ≡ Some b → a ≡ b
some_coll a b e = cc

pub one_coll : (a b : Coll) → CollFits a → CollFits b → coll_text a ≡ coll_text b → a ≡ b
one_coll a b of_a of_b same = some_coll a b (sym (coll_texts_are_read a of_a) ∙ ap coll_of same ∙ coll_texts_are_read b of_b)

abbrev no_objects : Objects
no_objects = fin.empty

abbrev no_shelf : Shelf
no_shelf = fin.empty

text_itself : (l : List ℕ) → bytes_eq l l ≡ true
text_itself l = (bytes_eq-Decides l l).1 refl

module _ (set : Settings) (n : Name) (fits : NameFits n) (short : length (oid_text n.oid) ≤ 200) (bytes : List ℕ) where
  abbrev t : Tree
  t = one_tree n bytes

  abbrev is_it : Coll → List ℕ → Bool
  is_it c s = bytes_eq (coll_text c) (coll_text n.coll) && bytes_eq s (oid_text n.oid)

  files_in : Coll → Map
  files_in c o = cond (bytes_eq (coll_text c) (coll_text n.coll) && bytes_eq (oid_text o) (oid_text n.oid)) (Some 3) None

  -- what stands in a collection is the file
  abbrev Found : Coll → List ℕ → ℕ → Type 0
  Found c s k = (is_it c s ≡ true) × (coll_text c ≡ coll_text n.coll) × (s ≡ oid_text n.oid) × (k ≡ 3)

  found : (c : Coll) (s : List ℕ) (k : ℕ) → cond (is_it c s) (Some 3) None ≡ Some k → Found c s k
  found c s k here = ⊎_elim yes (λ no. absurd (none_is k (sym (ap (λ (b : Bool). cond b (Some 3) None) no) ∙ here))) (cases_Bool (is_it c s))
    where
      yes : is_it c s ≡ true → Found c s k
      yes is =
          let two = both (bytes_eq (coll_text c) (coll_text n.coll)) (bytes_eq s (oid_text n.oid)) is in
          (is, (bytes_eq-Decides (coll_text c) (coll_text n.coll)).0 two.0, (bytes_eq-Decides s (oid_text n.oid)).0 two.1, some_same 3 k (sym (ap (λ (b : Bool). cond b (Some 3) None) is) ∙ here))

  is_file : (k : ℕ) → k ≡ 3 → (t.node k).dir ≡ false
  is_file k is = ap (λ (j : ℕ). (t.node j).dir) is

  no_text : (k : ℕ) → k ≡ 3 → (text : List ℕ) → (t.node k).attr lfn_name ≡ Some text → ⊥
  no_text k is text has = none_is text (sym (ap (λ (j : ℕ). (t.node j).attr lfn_name) is) ∙ has)

  own_text : (o : Oid) (s : List ℕ) (k : ℕ) → k ≡ 3 → CalledBy set (oid_text o) s ((t.node k).attr lfn_name) → s ≡ oid_text o
  own_text o s k is (inl by_name) = by_name.1
  own_text o s k is (inr by_text) = absurd (no_text k is (oid_text o) by_text.2)

  map_is : (c : Coll) → IsMap set t (dir_of c) (files_in c)
  unfolding files_in
  map_is c = record {
    files = λ o s k file.
        let it = found c s k file.1.here in
        let text : s ≡ oid_text o = own_text o s k it.3 file.1.called in
        ap (λ (l : List ℕ). cond (bytes_eq (coll_text c) (coll_text n.coll) && bytes_eq l (oid_text n.oid)) (Some 3) None) (sym text) ∙ file.1.here;
    there = λ o k of_o at.
        let it = found c (oid_text o) k at in
        (oid_text o, record { here = at; kind = is_file k it.3; called = inl (subst (λ (l : List ℕ). length l ≤ 200) (sym it.2) short, refl) });
    known = λ s k here.
        let it = found c s k here in
        inl (n.oid, (fits.oid, record { here = here; kind = is_file k it.3; called = inl (short, it.2) }));
  }

  abbrev file : Option Version
  file = Some (file_of bytes)

  held_at : (m : Name) → NameFits m → held (files_in m.coll m.oid) t.node ≡ cond (same_name m n) (Some (file_of bytes)) None
  unfolding files_in
  held_at m of_m = ⊎_elim here other (name_cases m n)
    where
      it : Bool
      it = is_it m.coll (oid_text m.oid)

      here : (same_name m n ≡ true) × (m ≡ n) → held (cond (is_it m.coll (oid_text m.oid)) (Some 3) None) t.node ≡ cond (same_name m n) (Some (file_of bytes)) None
      here (is, at) =
          let yes : is_it m.coll (oid_text m.oid) ≡ true = subst (λ (o : Name). is_it o.coll (oid_text o.oid) ≡ true) (sym at) (and_from _ _ (text_itself (coll_text n.coll)) (text_itself (oid_text n.oid))) in
          ap (λ (b : Bool). held (cond b (Some 3) None) t.node) yes ∙ sym (ap (λ (b : Bool). cond b (Some (file_of bytes)) None) is)

      other : (same_name m n ≡ false) × (m ≢ n) → held (cond (is_it m.coll (oid_text m.oid)) (Some 3) None) t.node ≡ cond (same_name m n) (Some (file_of bytes)) None
      other (not, off) = ⊎_elim
          (λ yes.
          let it = found m.coll (oid_text m.oid) 3 (ap (λ (b : Bool). cond b (Some 3) None) yes) in
          let colls : m.coll ≡ n.coll = one_coll m.coll n.coll of_m.coll fits.coll it.1 in
          let oids : m.oid ≡ n.oid = same_text m.oid n.oid of_m.oid fits.oid it.2 in
          absurd (off (λ i. record { coll = colls i; oid = oids i })))
          (λ no. ap (λ (b : Bool). held (cond b (Some 3) None) t.node) no ∙ sym (ap (λ (b : Bool). cond b (Some (file_of bytes)) None) not))
          (cases_Bool (is_it m.coll (oid_text m.oid)))

  shown_at : (M : Maps) → AreMaps set t M → (m : Name) → (shown M t).object m ≡ cond (same_name m n) (Some (file_of bytes)) None
  shown_at M of_t m = ⊎_elim
      (λ (is, of_m). shows M t m is ∙ one_content set t (dir_of m.coll) (M m.coll) (files_in m.coll) (of_t m.coll of_m.coll) (map_is m.coll) m.oid of_m.oid ∙ held_at m of_m)
      (λ not. shows_none M t m not ∙ sym (ap (λ (b : Bool). cond b (Some (file_of bytes)) None) (differs m not)))
      (fit_cases m)
    where
      differs : (m : Name) → name_fits m ≡ false → same_name m n ≡ false
      differs m not = ⊎_elim
          (λ (is, at). absurd (true_not_false (name_fits m) (subst (λ (o : Name). name_fits o ≡ true) (sym at) (name_is_fit n fits)) not))
          (λ (isnt, off). isnt)
          (name_cases m n)

  look_at : (q : Coll) (p : Oid) → look (one_of n bytes) q p ≡ cond (same_coll q n.coll && same_oid p n.oid) (Some (one_object bytes)) None
  look_at q p = ap (λ (m : Option Shelf). on_shelf m p) (fin.get-insert coll_cmp_total no_objects n.coll (fin.insert no_shelf n.oid (one_object bytes)) q) ∙ by (same_coll q n.coll)
    where
      nothing : on_shelf (fin.get no_objects q) p ≡ None
      nothing = ap (λ (m : Option Shelf). on_shelf m p) (fin.get-empty coll_cmp q)

      inner : fin.get (fin.insert no_shelf n.oid (one_object bytes)) p ≡ cond (same_oid p n.oid) (Some (one_object bytes)) None
      inner = fin.get-insert oid_cmp_total no_shelf n.oid (one_object bytes) p ∙ ap (λ (m : Option Object). cond (same_oid p n.oid) (Some (one_object bytes)) m) (fin.get-empty oid_cmp p)

      by : (b : Bool) → on_shelf (cond b (Some (fin.insert no_shelf n.oid (one_object bytes))) (fin.get no_objects q)) p ≡ cond (b && same_oid p n.oid) (Some (one_object bytes)) None
      by true = inner
      by false = nothing

  same_parts : (b : Bool) (part : Part) → value_in (cond b (Some (file_of bytes)) None) part ≡ value_at (cond b (Some (one_object bytes)) None) part
  same_parts false part = refl
  same_parts true Exists = refl
  same_parts true Length = refl
  same_parts true (Byte i) = refl
  same_parts true (Attr k) = ap contained (sym (fin.get-empty (slice_cmp nat_cmp) k))
  same_parts true OmapHeader = refl
  same_parts true (OmapKey k) = ap contained (sym (fin.get-empty (slice_cmp nat_cmp) k))

  no_guard : (b : Bool) → guard_in (cond b (Some (file_of bytes)) None) ≡ None
  no_guard true = refl
  no_guard false = refl

  -- no guard on the directory, or it is missing
  counts_none : (g : Counts) (never : (c : Coll) → g.gone c ≡ 0) (m : Name) (a b : Bool) → guard_at g m (cond a (option_map guard_of (held (cond b (Some 2) None) t.node)) None) None ≡ 0
  counts_none g never m false b = never m.coll
  counts_none g never m true false = never m.coll
  counts_none g never m true true = refl

  pub one_file : (g : Counts) → ((c : Coll) → g.gone c ≡ 0) → Shows set g (one_of n bytes) (one_tree n bytes)
  one_file g never = record {
    whole = λ c of_c. (files_in c, map_is c);
    cells = λ M of_t x.
        ap (λ (v : Option Version). value_in v x.part) (shown_at M of_t (name_of x))
        ∙ same_parts (same_name (name_of x) n) x.part
        ∙ sym (ap (λ (v : Option Object). value_at v x.part) (look_at x.c x.o));
    guards = λ M of_t x.
        ap (λ (v : Option Version). guard_at g (name_of x) ((shown M t).dir x.c) (guard_in v)) (shown_at M of_t (name_of x))
        ∙ ap (guard_at g (name_of x) ((shown M t).dir x.c)) (no_guard (same_name (name_of x) n))
        ∙ counts_none g never (name_of x) (coll_fits x.c) (bytes_eq (coll_text x.c) (coll_text n.coll));
  }

pub one_file_law : OneFileLaw
one_file_law set g never n fits short bytes = one_file set n fits short bytes g never
