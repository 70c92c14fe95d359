-- What calls that make a file keep of the objects, in each image.
use Rattle.std.proofs.Common.{◌≡◌, ◌≢◌, ◌⊎◌, inl, inr, ℕ, ◌<◌, ◌++◌, false, List, length, codes, refl, sym, ◌∙◌, ap, subst, Option, Some, None, Result, Ok, Err, IfOk}
use Rattle.std.proofs.lemmas.Bool.{cases_eq}
use Rattle.std.proofs.lemmas.List.{same_from_push}
use Rattle.fs_names.specs.declared.oid.Oid.{Oid}
use Rattle.fs_names.specs.declared.settings.Settings.{Settings}
use Rattle.fs_names.specs.Reading.{OidFits}
use Rattle.fs_names.specs.Text.{oid_text}
use Rattle.tree_api.specs.Tree.{Path, Version, Names, Tree}
use Rattle.tree_api.specs.Disk.{Disk, Sound, Stays, Leaves}
use Rattle.tree_api.proofs.Moments.{started, goes_on}
use Rattle.lfn_index.specs.FileName.{HasStem, CalledBy, stem}
use Rattle.lfn_index.specs.Directory.{lfn_name, entry, HasFile, IsAbsent, Finds}
use Rattle.lfn_index.specs.Changes.{IsNewName, Making, MakesAt, LongNamed, KeepsNamed, aside, new_file}
use Rattle.lfn_index.specs.Maps.{Map, IsMap, Whole, Level, KeepsWhole, IsInMap, put}
use Rattle.lfn_index.specs.Renaming.{Added, BuiltAside, Come}
use Rattle.tree_api.specs.Renaming.{Renamed, NoNode, Without}
use Rattle.lfn_index.proofs.Endings.{never_long}
use Rattle.lfn_index.proofs.Made.{long_new, short_new}
use Rattle.lfn_index.proofs.Mapped.{SameView, nodes_view, named_view, file_back, view_map, Arrives, arrived_map}
use Rattle.tree_api.proofs.Nodes.{dec_path}
use Rattle.lfn_index.proofs.Renamings.{come_back, come_here, come_names, without_back}
use Rattle.tree_api.proofs.Renaming.{kept_by}

-- the place of a new file is free
pub free_new : (set : Settings) (t : Tree) (dir : Path) (text step : List ℕ) → IsAbsent set t dir text → IsNewName set t dir text step → t.at (entry dir step) ≡ None
free_new set t dir text step absent (inl short) = subst (λ (s : List ℕ). t.at (entry dir s) ≡ None) (sym short.1) (absent.free short.0)
free_new set t dir text step absent (inr own) = subst (λ (s : List ℕ). t.at (entry dir s) ≡ None) (sym own.1.2) own.1.3.free

-- what a new file is called
pub new_called : (set : Settings) (t : Tree) (dir : Path) (text step : List ℕ) (v : Version) → IsNewName set t dir text step → v ≡ new_file text → CalledBy set text step (v.attr lfn_name)
new_called set t dir text step v (inl short) is = inl short
new_called set t dir text step v (inr own) is = inr (own.0, (own.1.0, own.1.1, own.1.2), ap (λ (w : Version). w.attr lfn_name) (is ∙ long_new text own.0))

pub new_kind : (set : Settings) (t : Tree) (dir : Path) (text step : List ℕ) → IsNewName set t dir text step → (new_file text).dir ≡ false
new_kind set t dir text step (inl short) = ap (λ (w : Version). w.dir) (short_new text short.0)
new_kind set t dir text step (inr own) = ap (λ (w : Version). w.dir) (long_new text own.0)

-- no directory but that one has what is built aside
pub off_aside : (name : List ℕ) (d : Path) → d ≢ aside → (s : List ℕ) → entry d s ≢ entry aside name
off_aside name d other s same = other (same_from_push d aside s name same).0

module _ (set : Settings) (name : List ℕ) (dir : Path) (oid : Oid) (old new : Disk) (sound : Sound old) (fits : OidFits oid) (absent : IsAbsent set old.tree dir (oid_text oid)) where
  abbrev text : List ℕ
  text = oid_text oid

  abbrev place : Path
  place = entry aside name

  abbrev Long : Type 0
  Long = 200 < length text

  -- no file of it in an image with the names that read
  pub none_there : Level dir old → (e : Tree) → old.may e → e.at ≡ old.tree.at → (step : List ℕ) (k : ℕ) → HasFile set e dir text step k → ⊥
  none_there level e may at step k file =
      let here : old.tree.at (entry dir step) ≡ Some k = sym (ap (λ (f : Names). f (entry dir step)) at) ∙ file.here in
      absent.none step k (file_back set dir old.tree e text step k (ap (λ (f : Names). f (entry dir step)) at) (sound.kinds e k may) (level.called e step k may here) file)

  module _ (making : Making set place dir text old new) where
    abbrev n : ℕ
    n = making.n

    abbrev to : Path
    to = entry dir making.step

    abbrev Such : Tree → Type 0
    Such = Come Long place to n (new_file text) old.tree

    module _ (e c : Tree) (at : e.at ≡ old.tree.at) (others : (m : ℕ) → (m ≡ n → ⊥) → c.node m ≡ e.node m) where
      pub stays_node : (d : Path) → d ≢ aside → (s : List ℕ) (k : ℕ) → e.at (entry d s) ≡ Some k → c.node k ≡ e.node k
      stays_node d other s k here = others k (λ kn. making.away (entry d s) (off_aside name d other s) (sym (ap (λ (f : Names). f (entry d s)) at) ∙ here ∙ ap Some kn))

      pub way_view : BuiltAside place n old.tree c → (d : Path) → d ≢ aside → SameView d e c
      way_view way d other = nodes_view d e c (λ s. way.others (entry d s) (off_aside name d other s) ∙ sym (ap (λ (f : Names). f (entry d s)) at)) (stays_node d other)

      pub other_view : Such c → (d : Path) → d ≢ aside → d ≢ dir → SameView d e c
      other_view such d other differ =
          nodes_view d e c
          (λ s. come_names Long place to n (new_file text) old.tree c such (entry d s) (off_aside name d other s) (λ same. differ (same_from_push d dir s making.step same).0) ∙ sym (ap (λ (f : Names). f (entry d s)) at))
          (stays_node d other)

      pub new_arrives : dir ≢ aside → ((step : List ℕ) (k : ℕ) → HasFile set e dir text step k → ⊥) → Added Long place to n old.tree.at c.at → c.node n ≡ new_file text → Arrives set dir oid making.step n e c
      new_arrives other none added holds = record {
        fits = fits;
        free = ap (λ (f : Names). f to) at ∙ free_new set old.tree dir text making.step absent making.named;
        file = record {
          here = added.here;
          kind = ap (λ (v : Version). v.dir) holds ∙ new_kind set old.tree dir text making.step making.named;
          called = new_called set old.tree dir text making.step (c.node n) making.named holds;
        };
        at = λ s not. added.others (entry dir s) (λ same. not (same_from_push dir dir s making.step same).1) (λ long. off_aside name dir other s) ∙ sym (ap (λ (f : Names). f (entry dir s)) at);
        nodes = stays_node dir other;
        none = none;
      }

    making_whole : KeepsWhole set old new
    making_whole d other level all = kept_by Such (λ m. m ≡ n) (Whole set d) old new sound making.leaves
        (λ a c may same whole. (whole.0, view_map set d a c (named_view d a c same) whole.0 whole.1))
        (λ e c may at others such whole. each e c may at others such whole)
        all
      where
        view : (e c : Tree) → SameView d e c → Whole set d e → Whole set d c
        view e c is whole = (whole.0, view_map set d e c is whole.0 whole.1)

        there : (e c : Tree) → old.may e → e.at ≡ old.tree.at → ((m : ℕ) → (m ≡ n → ⊥) → c.node m ≡ e.node m) → Such c → Added Long place to n old.tree.at c.at × (c.node n ≡ new_file text) → (d ≡ dir) ⊎ (d ≡ dir → ⊥) → Whole set d e → Whole set d c
        there e c may at others such is (inl same) whole =
            let own = subst (λ (x : Path). Whole set x e) same whole in
            let other1 : dir ≢ aside = λ eq. other (same ∙ eq) in
            let comes = new_arrives e c at others other1 (none_there (subst (λ (x : Path). Level x old) same level) e may at) is.0 is.1 in
            subst (λ (x : Path). Whole set x c) (sym same) (put text n own.0, arrived_map set dir oid making.step n e c comes own.0 own.1)
        there e c may at others such is (inr differ) whole = view e c (other_view e c at others such d other differ) whole

        each : (e c : Tree) → old.may e → e.at ≡ old.tree.at → ((m : ℕ) → (m ≡ n → ⊥) → c.node m ≡ e.node m) → Such c → Whole set d e → Whole set d c
        each e c may at others (inl is) whole = there e c may at others (inl is) is (dec_path d dir) whole
        each e c may at others (inr way) whole = view e c (way_view e c at others way.1 d other) whole

    -- files with long names keep their texts
    abbrev Own : List ℕ → Version → Type 0
    Own step v = (x : List ℕ) × (200 < length x) × HasStem (stem set x) step × (v.attr lfn_name ≡ Some x)

    new_own : (step front : List ℕ) (v : Version) → IsNewName set old.tree dir text step → step ≡ front ++ codes "_long" → v ≡ new_file text → Own step v
    new_own step front v (inl short) long is = absurd (never_long oid front (sym short.1 ∙ long))
    new_own step front v (inr own) long is = (text, own.0, (own.1.0, own.1.1, own.1.2), ap (λ (w : Version). w.attr lfn_name) (is ∙ long_new text own.0))

    making_named : KeepsNamed set old new
    making_named d other all = kept_by Such (λ m. m ≡ n) (LongNamed set d) old new sound making.leaves
        (λ a c may same named step front k long here file.
        let was : a.at (entry d step) ≡ Some k = sym (ap (λ (f : Names). f (entry d step)) same.at) ∙ here in
        let v = same.nodes (entry d step) k was in
        subst (Own step) (sym v) (named step front k long was (ap (λ (w : Version). w.dir) (sym v) ∙ file)))
        (λ e c may at others such named step front k long here file. each e c at others such named step front k long here file (cases_eq k n))
        all
      where
        each : (e c : Tree) → e.at ≡ old.tree.at → ((m : ℕ) → (m ≡ n → ⊥) → c.node m ≡ e.node m) → Such c → LongNamed set d e → (step front : List ℕ) (k : ℕ) → step ≡ front ++ codes "_long"
            → c.at (entry d step) ≡ Some k → (c.node k).dir ≡ false → (k ≡ n) ⊎ (k ≡ n → ⊥) → Own step (c.node k)
        each e c at others such named step front k long here file (inl same) =
            let there = come_here Long place to n (new_file text) old.tree c making.away such (entry d step) (off_aside name d other step) (here ∙ ap Some same) in
            let steps : step ≡ making.step = (same_from_push d dir step making.step there.0).1 in
            let own : Own making.step (c.node n) = new_own making.step front (c.node n) making.named (sym steps ∙ long) there.1 in
            subst (λ (s : List ℕ). Own s (c.node k)) (sym steps) (subst (λ (x : ℕ). Own making.step (c.node x)) (sym same) own)
        each e c at others such named step front k long here file (inr not) =
            let was : e.at (entry d step) ≡ Some k = ap (λ (f : Names). f (entry d step)) at ∙ come_back Long place to n (new_file text) old.tree c such (entry d step) k not here in
            let v = others k not in
            subst (Own step) (sym v) (named step front k long was (ap (λ (w : Version). w.dir) (sym v) ∙ file))

  -- a file that may stand aside went
  module _ (leaves : Leaves (Renamed (λ c. Long × Without place old.tree c) NoNode) old new) where
    abbrev Cleared : Tree → Type 0
    Cleared c = Long × Without place old.tree c

    pub cleared_view : (e c : Tree) → e.at ≡ old.tree.at → ((m : ℕ) → (⊥ → ⊥) → c.node m ≡ e.node m) → Cleared c → (d : Path) → d ≢ aside → SameView d e c
    cleared_view e c at others such d other =
        nodes_view d e c (λ s. such.1.others (entry d s) (off_aside name d other s) ∙ sym (ap (λ (f : Names). f (entry d s)) at)) (λ s k here. others k (λ none. none))

    cleared_whole : KeepsWhole set old new
    cleared_whole d other level all = kept_by Cleared NoNode (Whole set d) old new sound leaves
        (λ a c may same whole. (whole.0, view_map set d a c (named_view d a c same) whole.0 whole.1))
        (λ e c may at others such whole. (whole.0, view_map set d e c (cleared_view e c at others such d other) whole.0 whole.1))
        all

    cleared_named : KeepsNamed set old new
    cleared_named d other all = kept_by Cleared NoNode (LongNamed set d) old new sound leaves
        (λ a c may same named step front k long here file.
        let was : a.at (entry d step) ≡ Some k = sym (ap (λ (f : Names). f (entry d step)) same.at) ∙ here in
        let v = same.nodes (entry d step) k was in
        subst (Texted step) (sym v) (named step front k long was (ap (λ (w : Version). w.dir) (sym v) ∙ file)))
        (λ e c may at others such named step front k long here file.
        let was : e.at (entry d step) ≡ Some k = ap (λ (f : Names). f (entry d step)) at ∙ without_back place old.tree c such.1 (entry d step) k here in
        let v = others k (λ none. none) in
        subst (Texted step) (sym v) (named step front k long was (ap (λ (w : Version). w.dir) (sym v) ∙ file)))
        all
      where
        Texted : List ℕ → Version → Type 0
        Texted step v = (x : List ℕ) × (200 < length x) × HasStem (stem set x) step × (v.attr lfn_name ≡ Some x)

  pub makes_whole : MakesAt set place dir text old new → KeepsWhole set old new
  makes_whole (inl cleared) = cleared_whole cleared
  makes_whole (inr making) = making_whole making

  pub makes_named : MakesAt set place dir text old new → KeepsNamed set old new
  makes_named (inl cleared) = cleared_named cleared
  makes_named (inr making) = making_named making

-- what was found, in the map's words
pub find_maps : (set : Settings) (t : Tree) (dir : Path) (o : Oid) (r : Option Path) → OidFits o → Finds set t dir (oid_text o) r → (m : Map) → IsMap set t dir m → IsInMap t m o r
find_maps set t dir o None fits absent m is = one (m o) refl
  where
    one : (x : Option ℕ) → m o ≡ x → m o ≡ None
    one None at = at
    one (Some k) at = let found = is.there o k fits at in absurd (absent.none found.0 k found.1)
find_maps set t dir o (Some p) fits stands m is = (stands.1, ap t.at stands.2 ∙ stands.3.here, is.files o stands.0 stands.1 (fits, stands.3))

pub found_maps : {E : Type 0} (set : Settings) (t : Tree) (dir : Path) (o : Oid) (text : List ℕ) (r : Result (Option Path) E) → OidFits o → text ≡ oid_text o → IfOk r (Finds set t dir text)
    → IfOk r (λ p. (m : Map) → IsMap set t dir m → IsInMap t m o p)
found_maps set t dir o text (Ok p) fits same found = λ m is. find_maps set t dir o p fits (subst (λ (x : List ℕ). Finds set t dir x p) same found) m is
found_maps set t dir o text (Err e) fits same found = tt

pub whole_stays : (set : Settings) (old new : Disk) → Sound old → Stays old new → KeepsWhole set old new
whole_stays set old new sound stays d other level all =
    goes_on (Whole set d) old old new (started (Whole set d) old sound all) stays.time (λ c may. all c (stays.image c may))
