-- The objects of a directory after a change of names.
use Rattle.std.proofs.Common.{◌≡◌, ◌≢◌, ◌⊎◌, inl, inr, ⊎_elim, ℕ, List, [], ◌∷◌, refl, sym, ◌∙◌, ap, subst, Option, Some, None}
use Rattle.std.proofs.lemmas.Bool.{cases_Bool, cond-true, cond-false}
use Rattle.std.proofs.lemmas.Slice.Eq.{bytes_eq-Decides}
use Rattle.std.specs.Str.{bytes_eq}
use Rattle.fs_names.specs.declared.oid.Oid.{Oid}
use Rattle.fs_names.specs.declared.settings.Settings.{Settings}
use Rattle.fs_names.specs.Reading.{OidFits}
use Rattle.fs_names.specs.Text.{oid_text}
use Rattle.tree_api.specs.Tree.{Path, Version, Names, Tree, held}
use Rattle.lfn_index.specs.FileName.{CalledBy}
use Rattle.lfn_index.specs.Directory.{lfn_name, entry, HasFile, IsFileOf}
use Rattle.lfn_index.specs.Listing.{IsSubdir}
use Rattle.lfn_index.specs.Maps.{Map, IsMap, put, content}
use Rattle.tree_api.specs.Renaming.{SameNamed}
use Rattle.lfn_index.proofs.Once.{same_text, called_texts}
use Rattle.tree_api.proofs.Nodes.{dec_path}

-- the directory's entries are the same, as far as it matters which objects they are of
pub record SameView (dir : Path) (e c : Tree) : Type 0 where
  pub at : (step : List ℕ) → c.at (entry dir step) ≡ e.at (entry dir step)
  pub kind : (step : List ℕ) (k : ℕ) → e.at (entry dir step) ≡ Some k → (c.node k).dir ≡ (e.node k).dir
  pub called : (step : List ℕ) (k : ℕ) → e.at (entry dir step) ≡ Some k → (c.node k).attr lfn_name ≡ (e.node k).attr lfn_name

pub nodes_view : (dir : Path) (e c : Tree) → ((step : List ℕ) → c.at (entry dir step) ≡ e.at (entry dir step)) → ((step : List ℕ) (k : ℕ) → e.at (entry dir step) ≡ Some k → c.node k ≡ e.node k) → SameView dir e c
nodes_view dir e c at nodes = record {
  at = at;
  kind = λ step k here. ap (λ (v : Version). v.dir) (nodes step k here);
  called = λ step k here. ap (λ (v : Version). v.attr lfn_name) (nodes step k here);
}

pub named_view : (dir : Path) (e c : Tree) → SameNamed e c → SameView dir e c
named_view dir e c same = nodes_view dir e c (λ step. ap (λ (f : Names). f (entry dir step)) same.at) (λ step k here. same.nodes (entry dir step) k here)

module _ (set : Settings) (dir : Path) (e c : Tree) where
  -- a file of one is one of the other
  pub file_along : (text step : List ℕ) (n : ℕ) → c.at (entry dir step) ≡ e.at (entry dir step) → (c.node n).dir ≡ (e.node n).dir → (c.node n).attr lfn_name ≡ (e.node n).attr lfn_name
      → HasFile set e dir text step n → HasFile set c dir text step n
  file_along text step n at kind called file = record {
    here = at ∙ file.here;
    kind = kind ∙ file.kind;
    called = subst (CalledBy set text step) (sym called) file.called;
  }

  pub file_back : (text step : List ℕ) (n : ℕ) → c.at (entry dir step) ≡ e.at (entry dir step) → (c.node n).dir ≡ (e.node n).dir → (c.node n).attr lfn_name ≡ (e.node n).attr lfn_name
      → HasFile set c dir text step n → HasFile set e dir text step n
  file_back text step n at kind called file = record {
    here = sym at ∙ file.here;
    kind = sym kind ∙ file.kind;
    called = subst (CalledBy set text step) called file.called;
  }

  subdir_along : (step : List ℕ) → c.at (entry dir step) ≡ e.at (entry dir step) → ((k : ℕ) → e.at (entry dir step) ≡ Some k → (c.node k).dir ≡ (e.node k).dir) → IsSubdir e dir step → IsSubdir c dir step
  subdir_along step at kind is = ((is.0.0, at ∙ is.0.1, kind is.0.0 is.0.1 ∙ is.0.2), is.1)

  module _ (view : SameView dir e c) where
    pub view_file : (text step : List ℕ) (n : ℕ) → HasFile set e dir text step n → HasFile set c dir text step n
    view_file text step n file = file_along text step n (view.at step) (view.kind step n file.here) (view.called step n file.here) file

    pub view_back : (text step : List ℕ) (n : ℕ) → HasFile set c dir text step n → HasFile set e dir text step n
    view_back text step n file =
        let here : e.at (entry dir step) ≡ Some n = sym (view.at step) ∙ file.here in
        file_back text step n (view.at step) (view.kind step n here) (view.called step n here) file

    pub view_map : (m : Map) → IsMap set e dir m → IsMap set c dir m
    view_map m is = record {
      files = λ o step n file. is.files o step n (file.0, view_back (oid_text o) step n file.1);
      there = λ o n fits at. let found = is.there o n fits at in (found.0, view_file (oid_text o) found.0 n found.1);
      known = λ step n here.
          ⊎_elim
          (λ file. inl (file.0, (file.1.0, view_file (oid_text file.0) step n file.1.1)))
          (λ sub. inr (subdir_along step (view.at step) (view.kind step) sub))
          (is.known step n (sym (view.at step) ∙ here));
    }

  -- what an object holds, where its node is the same
  pub content_same : (m w : Map) (o : Oid) → w o ≡ m o → ((k : ℕ) → m o ≡ Some k → c.node k ≡ e.node k) → content w c o ≡ content m e o
  content_same m w o same nodes = one (m o) refl
    where
      one : (x : Option ℕ) → m o ≡ x → held (w o) c.node ≡ held (m o) e.node
      one None is = ap (λ (y : Option ℕ). held y c.node) (same ∙ is) ∙ sym (ap (λ (y : Option ℕ). held y e.node) is)
      one (Some k) is = ap (λ (y : Option ℕ). held y c.node) (same ∙ is) ∙ ap Some (nodes k is) ∙ sym (ap (λ (y : Option ℕ). held y e.node) is)

-- an object's file has come
pub record Arrives (set : Settings) (dir : Path) (oid : Oid) (name : List ℕ) (n : ℕ) (e c : Tree) : Type 0 where
  pub fits : OidFits oid
  pub free : e.at (entry dir name) ≡ None
  pub file : HasFile set c dir (oid_text oid) name n
  pub at : (step : List ℕ) → step ≢ name → c.at (entry dir step) ≡ e.at (entry dir step)
  pub nodes : (step : List ℕ) (k : ℕ) → e.at (entry dir step) ≡ Some k → c.node k ≡ e.node k
  pub none : (step : List ℕ) (k : ℕ) → HasFile set e dir (oid_text oid) step k → ⊥

pub dec_step : (a b : List ℕ) → (a ≡ b) ⊎ (a ≡ b → ⊥)
dec_step a b = elim (dec_path (a ∷ []) (b ∷ [])) [
  | inl same ↦ inl cc
  | inr other ↦ inr (λ eq. other cc)
]

module _ (set : Settings) (dir : Path) (oid : Oid) (name : List ℕ) (n : ℕ) (e c : Tree) (comes : Arrives set dir oid name n e c) where
  not_new : (step : List ℕ) (k : ℕ) → e.at (entry dir step) ≡ Some k → step ≢ name
  not_new step k here same = let z : None ≡ Some k = sym comes.free ∙ ap (λ (s : List ℕ). e.at (entry dir s)) (sym same) ∙ here in cc

  stays_file : (o : Oid) (step : List ℕ) (k : ℕ) → IsFileOf set e dir o step k → IsFileOf set c dir o step k
  stays_file o step k file =
      let v = comes.nodes step k file.1.here in
      (file.0, file_along set dir e c (oid_text o) step k (comes.at step (not_new step k file.1.here)) (ap (λ (w : Version). w.dir) v) (ap (λ (w : Version). w.attr lfn_name) v) file.1)

  was_file : (o : Oid) (step : List ℕ) (k : ℕ) → step ≢ name → IsFileOf set c dir o step k → IsFileOf set e dir o step k
  was_file o step k not file =
      let here : e.at (entry dir step) ≡ Some k = sym (comes.at step not) ∙ file.1.here in
      let v = comes.nodes step k here in
      (file.0, file_back set dir e c (oid_text o) step k (comes.at step not) (ap (λ (w : Version). w.dir) v) (ap (λ (w : Version). w.attr lfn_name) v) file.1)

  module _ (m : Map) (is : IsMap set e dir m) where
    abbrev w : Map
    w = put (oid_text oid) n m

    pub put_here : (o : Oid) → oid_text o ≡ oid_text oid → w o ≡ Some n
    put_here o same = cond-true (bytes_eq (oid_text o) (oid_text oid)) (Some n) (m o) ((bytes_eq-Decides (oid_text o) (oid_text oid)).1 same)

    pub put_other : (o : Oid) → oid_text o ≢ oid_text oid → w o ≡ m o
    put_other o other = elim (cases_Bool (bytes_eq (oid_text o) (oid_text oid))) [
      | inl equal ↦ absurd (other ((bytes_eq-Decides (oid_text o) (oid_text oid)).0 equal))
      | inr differ ↦ cond-false (bytes_eq (oid_text o) (oid_text oid)) (Some n) (m o) differ
    ]

    not_same : (o : Oid) (step : List ℕ) (k : ℕ) → IsFileOf set e dir o step k → oid_text o ≢ oid_text oid
    not_same o step k file same = comes.none step k (subst (λ (x : List ℕ). HasFile set e dir x step k) same file.1)

    pub arrived_map : IsMap set c dir w
    arrived_map = record {
      files = λ o step k file. elim (dec_step step name) [
        | inl same ↦
            let own = subst (λ (s : List ℕ). HasFile set c dir (oid_text o) s k) same file.1 in
            let e1 : Some k ≡ Some n = sym own.here ∙ comes.file.here in
            let kn : k ≡ n = cc in
            let texts : oid_text o ≡ oid_text oid =
            called_texts set o oid name _ (subst (λ (x : ℕ). CalledBy set (oid_text o) name ((c.node x).attr lfn_name)) kn own.called) comes.file.called in
            put_here o texts ∙ ap Some (sym kn)
        | inr other ↦ let was = was_file o step k other file in put_other o (not_same o step k was) ∙ is.files o step k was
      ];
      there = λ o k fits at. elim (cases_Bool (bytes_eq (oid_text o) (oid_text oid))) [
        | inl equal ↦
            let same : oid_text o ≡ oid_text oid = (bytes_eq-Decides (oid_text o) (oid_text oid)).0 equal in
            let e1 : Some n ≡ Some k = sym (put_here o same) ∙ at in
            let nk : n ≡ k = cc in
            (name, subst (λ (x : List ℕ). HasFile set c dir x name k) (sym same) (subst (λ (x : ℕ). HasFile set c dir (oid_text oid) name x) nk comes.file))
        | inr differ ↦
            let found = is.there o k fits (sym (cond-false (bytes_eq (oid_text o) (oid_text oid)) (Some n) (m o) differ) ∙ at) in
            (found.0, (stays_file o found.0 k (fits, found.1)).1)
      ];
      known = λ step k here. elim (dec_step step name) [
        | inl same ↦
            let e1 : Some n ≡ Some k = sym comes.file.here ∙ ap (λ (s : List ℕ). c.at (entry dir s)) (sym same) ∙ here in
            let nk : n ≡ k = cc in
            inl (oid, (comes.fits, subst (λ (s : List ℕ). HasFile set c dir (oid_text oid) s k) (sym same) (subst (λ (x : ℕ). HasFile set c dir (oid_text oid) name x) nk comes.file)))
        | inr other ↦
            ⊎_elim
            (λ file. inl (file.0, stays_file file.0 step k file.1))
            (λ sub. inr (subdir_along set dir e c step (comes.at step other) (λ x at. ap (λ (v : Version). v.dir) (comes.nodes step x at)) sub))
            (is.known step k (sym (comes.at step other) ∙ here))
      ];
    }

    pub arrived_other : (o : Oid) → OidFits o → o ≢ oid → content w c o ≡ content m e o
    arrived_other o fits other =
        content_same set dir e c m w o (put_other o (λ same. other (same_text o oid fits comes.fits same)))
        (λ k at. let found = is.there o k fits at in comes.nodes found.0 k found.1.here)

    pub arrived_here : content w c oid ≡ Some (c.node n)
    arrived_here = ap (λ (x : Option ℕ). held x c.node) (put_here oid refl)
