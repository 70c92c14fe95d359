-- What a call on one object leaves alone, in each image and as it reads.
use Rattle.std.proofs.Common.{◌≡◌, ◌≢◌, ◌⊎◌, inl, inr, ⊎_elim, ℕ, ◌<◌, List, length, refl, sym, ◌∙◌, ap, subst, Option, Some, None}
use Rattle.std.proofs.lemmas.List.{same_from_push}
use Rattle.fs_names.specs.declared.oid.Oid.{Oid}
use Rattle.fs_names.specs.declared.settings.Settings.{Settings}
use Rattle.fs_names.specs.Reading.{OidFits}
use Rattle.fs_names.specs.Text.{oid_text}
use Rattle.tree_api.specs.Tree.{Path, Version, Names, Tree, held, look}
use Rattle.tree_api.specs.Disk.{Disk, Sound, Stays, Leaves}
use Rattle.tree_api.proofs.Moments.{first, stays_on}
use Rattle.tree_api.specs.Renaming.{Renamed, SameNamed, NoNode, Without, Removes}
use Rattle.tree_api.proofs.Renaming.{moves_by}
use Rattle.lfn_index.specs.Directory.{entry, HasFile, IsAbsent, IsFileOf}
use Rattle.lfn_index.specs.Changes.{Making, MakesAt, MadeAt, aside, new_file}
use Rattle.lfn_index.specs.Maps.{Map, IsMap, Level, put, content}
use Rattle.lfn_index.specs.OneObject.{ForOne, Untouched, IsOff, OnlyOne, StaysOr, Becomes, OneGoes, MapsNew}
use Rattle.lfn_index.specs.Renaming.{Added, BuiltAside, Come}
use Rattle.lfn_index.proofs.Keeping.{off_aside, none_there, stays_node, other_view, new_arrives}
use Rattle.lfn_index.proofs.Mapped.{SameView, nodes_view, named_view, view_map, content_same, file_along, arrived_map, arrived_other, arrived_here}
use Rattle.lfn_index.proofs.Removing.{less, less_same, less_map, not_n, other_content}
use Rattle.lfn_index.proofs.Renamings.{come_names}

pub look_same : (e c : Tree) (q : Path) → c.at q ≡ e.at q → ((k : ℕ) → e.at q ≡ Some k → c.node k ≡ e.node k) → look c q ≡ look e q
look_same e c q at nodes = ap (λ (x : Option ℕ). held x c.node) at ∙ one (e.at q) refl
  where
    one : (x : Option ℕ) → e.at q ≡ x → held (e.at q) c.node ≡ held (e.at q) e.node
    one None here = ap (λ (x : Option ℕ). held x c.node) here ∙ sym (ap (λ (x : Option ℕ). held x e.node) here)
    one (Some k) here = ap (λ (x : Option ℕ). held x c.node) here ∙ ap Some (nodes k here) ∙ sym (ap (λ (x : Option ℕ). held x e.node) here)

pub untouched_view : (set : Settings) (d : Path) (e c : Tree) → SameView d e c → ((s : List ℕ) (k : ℕ) → e.at (entry d s) ≡ Some k → c.node k ≡ e.node k) → Untouched set d e c
untouched_view set d e c view nodes m is = (m, view_map set d e c view m is, λ o fits. content_same set d e c m m o refl (λ k at. let found = is.there o k fits at in nodes found.0 k found.1.here))

pub untouched_joins : (set : Settings) (d : Path) (a b c : Tree) → Untouched set d a b → Untouched set d b c → Untouched set d a c
untouched_joins set d a b c one two m is =
    let f = one m is in
    let g = two f.0 f.1 in
    (g.0, g.1, λ o fits. g.2 o fits ∙ f.2 o fits)

-- what an object holds goes by one relation and then by another
pub only_joins : (set : Settings) (dir : Path) (oid : Oid) (K L M : Option Version → Option Version → Type 0) → ((x y z : Option Version) → K x y → L y z → M x z) → (a b c : Tree)
    → OnlyOne set dir oid K a b → OnlyOne set dir oid L b c → OnlyOne set dir oid M a c
only_joins set dir oid K L M joins a b c one two = record {
  here = λ m is.
      let f = one.here m is in
      let g = two.here f.0 f.1 in
      (g.0, g.1, λ o fits differ. g.2 o fits differ ∙ f.2 o fits differ, joins (content m a oid) (content f.0 b oid) (content g.0 c oid) f.3 g.3);
  rest = λ d other differ. untouched_joins set d a b c (one.rest d other differ) (two.rest d other differ);
  looks = λ q off. two.looks q off ∙ one.looks q off;
}

pub only_wider : (set : Settings) (dir : Path) (oid : Oid) (K L : Option Version → Option Version → Type 0) → ((x y : Option Version) → K x y → L x y) → (a c : Tree) → OnlyOne set dir oid K a c → OnlyOne set dir oid L a c
only_wider set dir oid K L wider a c one = record {
  here = λ m is. let f = one.here m is in (f.0, f.1, f.2, wider (content m a oid) (content f.0 c oid) f.3);
  rest = one.rest;
  looks = one.looks;
}

module _ (set : Settings) (dir : Path) (oid : Oid) (K : Option Version → Option Version → Type 0) (keeps : (x y : Option Version) → y ≡ x → K x y) where
  -- objects where nodes that stand stay
  same_for_one : (e c : Tree) → OidFits oid → SameView dir e c → ((step : List ℕ) (k : ℕ) → e.at (entry dir step) ≡ Some k → c.node k ≡ e.node k) → ForOne set dir oid K e c
  same_for_one e c fits view nodes m is =
      let same : (o : Oid) → OidFits o → content m c o ≡ content m e o = λ o own. content_same set dir e c m m o refl (λ k at. let found = is.there o k own at in nodes found.0 k found.1.here) in
      (m, view_map set dir e c view m is, λ o own not. same o own, keeps (content m e oid) (content m c oid) (same oid fits))

  pub only_same : (c : Tree) → OidFits oid → OnlyOne set dir oid K c c
  only_same c fits = record {
    here = λ m is. (m, is, λ o own differ. refl, keeps (content m c oid) (content m c oid) refl);
    rest = λ d other differ m is. (m, is, λ o own. refl);
    looks = λ q off. refl;
  }

  pub only_named : (e c : Tree) → OidFits oid → SameNamed e c → OnlyOne set dir oid K e c
  only_named e c fits same = record {
    here = same_for_one e c fits (named_view dir e c same) (λ s k here. same.nodes (entry dir s) k here);
    rest = λ d other differ. untouched_view set d e c (named_view d e c same) (λ s k here. same.nodes (entry d s) k here);
    looks = λ q off. look_same e c q (ap (λ (f : Names). f q) same.at) (λ k here. same.nodes q k here);
  }

  -- where what stands anywhere but aside stays
  pub only_aside : (e c : Tree) → OidFits oid → dir ≢ aside → ((q : Path) → ((s : List ℕ) → q ≢ entry aside s) → c.at q ≡ e.at q) → ((q : Path) (k : ℕ) → ((s : List ℕ) → q ≢ entry aside s) → e.at q ≡ Some k → c.node k ≡ e.node k)
      → OnlyOne set dir oid K e c
  only_aside e c fits other at nodes = record {
    here = same_for_one e c fits (view dir other) (λ s k here. nodes (entry dir s) k (λ b. off_aside b dir other s) here);
    rest = λ d off differ. untouched_view set d e c (view d off) (λ s k here. nodes (entry d s) k (λ b. off_aside b d off s) here);
    looks = λ q off. look_same e c q (at q off.1) (λ k here. nodes q k off.1 here);
  }
    where
      view : (d : Path) → d ≢ aside → SameView d e c
      view d off = nodes_view d e c (λ s. at (entry d s) (λ b. off_aside b d off s)) (λ s k here. nodes (entry d s) k (λ b. off_aside b d off s) here)

-- nothing happens
pub one_stays : (set : Settings) (dir : Path) (oid : Oid) (to : Option Version) (old new : Disk) → OidFits oid → Sound old → Stays old new → OneGoes set dir oid to old new
one_stays set dir oid to old new fits sound stays level =
    let R = OnlyOne set dir oid (StaysOr to) in
    let same : (c : Tree) → OnlyOne set dir oid (StaysOr to) c c = λ c. only_same set dir oid (StaysOr to) (λ x y is. inl is) c fits in
    record { any_moment = stays_on R old old new sound (first R same old sound) stays; now = subst (R old.tree) (sym stays.tree) (same old.tree) }

-- a new file
module _ (set : Settings) (name : List ℕ) (dir : Path) (oid : Oid) (old new : Disk) (sound : Sound old) (fits : OidFits oid) (absent : IsAbsent set old.tree dir (oid_text oid)) (other : dir ≢ aside) where
  abbrev text : List ℕ
  text = oid_text oid

  abbrev place : Path
  place = entry aside name

  abbrev Long : Type 0
  Long = 200 < length (oid_text oid)

  abbrev K : Option Version → Option Version → Type 0
  K = StaysOr (Some (new_file (oid_text oid)))

  abbrev stays : (x y : Option Version) → y ≡ x → StaysOr (Some (new_file (oid_text oid))) x y
  stays x y is = inl is

  module _ (making : Making set (entry aside name) dir (oid_text oid) old new) where
    abbrev n : ℕ
    n = making.n

    abbrev Such : Tree → Type 0
    Such = Come (200 < length (oid_text oid)) (entry aside name) (entry dir making.step) making.n (new_file (oid_text oid)) old.tree

    module _ (e c : Tree) (at : e.at ≡ old.tree.at) (others : (m : ℕ) → (m ≡ making.n → ⊥) → c.node m ≡ e.node m) where
      apart : (q : Path) (k : ℕ) → q ≢ entry aside name → e.at q ≡ Some k → c.node k ≡ e.node k
      apart q k off here = others k (λ kn. making.away q off (sym (ap (λ (f : Names). f q) at) ∙ here ∙ ap Some kn))

      way_only : BuiltAside (entry aside name) making.n old.tree c → OnlyOne set dir oid (StaysOr (Some (new_file (oid_text oid)))) e c
      way_only way =
          only_aside set dir oid K stays e c fits other (λ q off. way.others q (off name) ∙ sym (ap (λ (f : Names). f q) at)) (λ q k off here. apart q k (off name) here)

      come_only : (P : Option Version → Option Version → Type 0) → ((x : Option Version) → P x (Some (new_file (oid_text oid)))) → ((step : List ℕ) (k : ℕ) → HasFile set e dir (oid_text oid) step k → ⊥)
          → Added (200 < length (oid_text oid)) (entry aside name) (entry dir making.step) making.n old.tree.at c.at → c.node making.n ≡ new_file (oid_text oid) → OnlyOne set dir oid P e c
      come_only P becomes none added holds =
          let comes = new_arrives set name dir oid old new sound fits absent making e c at others other none added holds in
          record {
            here = λ m map. (
              put (oid_text oid) making.n m,
              arrived_map set dir oid making.step making.n e c comes m map,
              λ o own differ. arrived_other set dir oid making.step making.n e c comes m map o own differ,
              subst (λ (v : Option Version). P (content m e oid) v) (sym (arrived_here set dir oid making.step making.n e c comes m map ∙ ap Some holds)) (becomes (content m e oid)),
            );
            rest = λ d off differ. untouched_view set d e c (other_view set name dir oid old new sound fits absent making e c at others (inl (added, holds)) d off differ) (stays_node set name dir oid old new sound fits absent making e c at others d off);
            looks = λ q off. look_same e c q
                (come_names (200 < length (oid_text oid)) (entry aside name) (entry dir making.step) making.n (new_file (oid_text oid)) old.tree c (inl (added, holds)) q (off.1 name) (off.0 making.step) ∙ sym (ap (λ (f : Names). f q) at))
                (λ k here. apart q k (off.1 name) here);
          }

    making_only : OneGoes set dir oid (Some (new_file (oid_text oid))) old new
    making_only level = record {
      any_moment = moves_by Such (λ m. m ≡ making.n) (OnlyOne set dir oid K) old new sound making.leaves (λ a c may same. only_named set dir oid K stays a c fits same) (λ e c may at others such. each e c may at others such);
      now = ⊎_elim (λ same. only_named set dir oid K stays old.tree new.tree fits same) (λ such. each old.tree new.tree sound.now refl making.leaves.now.others such) making.leaves.now.names;
    }
      where
        each : (e c : Tree) → old.may e → e.at ≡ old.tree.at → ((m : ℕ) → (m ≡ making.n → ⊥) → c.node m ≡ e.node m) → Come (200 < length (oid_text oid)) (entry aside name) (entry dir making.step) making.n (new_file (oid_text oid)) old.tree c
            → OnlyOne set dir oid (StaysOr (Some (new_file (oid_text oid)))) e c
        each e c may at others (inl is) = come_only e c at others K (λ x. inr refl) (none_there set name dir oid old new sound fits absent level e may at) is.0 is.1
        each e c may at others (inr way) = way_only e c at others way.1

  cleared_only : Leaves (Renamed (λ c. (200 < length (oid_text oid)) × Without (entry aside name) old.tree c) NoNode) old new → OneGoes set dir oid (Some (new_file (oid_text oid))) old new
  cleared_only leaves level = record {
    any_moment = moves_by (λ c. (200 < length (oid_text oid)) × Without (entry aside name) old.tree c) NoNode (OnlyOne set dir oid K) old new sound leaves (λ a c may same. only_named set dir oid K stays a c fits same) (λ e c may at others such. each e c at others such);
    now = ⊎_elim (λ same. only_named set dir oid K stays old.tree new.tree fits same) (λ such. each old.tree new.tree refl leaves.now.others such) leaves.now.names;
  }
    where
      each : (e c : Tree) → e.at ≡ old.tree.at → ((m : ℕ) → (⊥ → ⊥) → c.node m ≡ e.node m) → (200 < length (oid_text oid)) × Without (entry aside name) old.tree c → OnlyOne set dir oid (StaysOr (Some (new_file (oid_text oid)))) e c
      each e c at others such = only_aside set dir oid K stays e c fits other (λ q off. such.1.others q (off name) ∙ sym (ap (λ (f : Names). f q) at)) (λ q k off here. others k (λ none. none))

  pub makes_only : MakesAt set (entry aside name) dir (oid_text oid) old new → OneGoes set dir oid (Some (new_file (oid_text oid))) old new
  makes_only (inl cleared) = cleared_only cleared
  makes_only (inr making) = making_only making

  -- the map as it reads
  pub made_maps : (p : Path) → MadeAt set (entry aside name) dir (oid_text oid) old new p → MapsNew set dir oid old.tree new.tree p
  made_maps p made =
      let making = made.making in
      let added : Added (200 < length (oid_text oid)) (entry aside name) (entry dir making.step) making.n old.tree.at new.tree.at =
      subst (λ (q : Path). Added (200 < length (oid_text oid)) (entry aside name) q making.n old.tree.at new.tree.at) made.path made.names in
      let holds : new.tree.node making.n ≡ new_file (oid_text oid) = made.holds in
      let comes = new_arrives set name dir oid old new sound fits absent making old.tree new.tree refl making.leaves.now.others other absent.none added holds in
      record {
        n = making.n;
        here = made.names.here;
        stands = (making.step, making.n, made.path, comes.file);
        map = λ m is. arrived_map set dir oid making.step making.n old.tree new.tree comes m is;
        reads = come_only making old.tree new.tree refl making.leaves.now.others (Becomes (Some (new_file (oid_text oid)))) (λ x. refl) absent.none added holds;
      }

-- a file goes
module _ (set : Settings) (p : Path) (n : ℕ) (old new : Disk) (sound : Sound old) (was : old.tree.at p ≡ Some n) (leaves : Leaves (Removes p old.tree) old new)
    (dir : Path) (oid : Oid) (step : List ℕ) (path : p ≡ entry dir step) (file : IsFileOf set old.tree dir oid step n) where
  module _ (P : Option Version → Option Version → Type 0) (goes : (x : Option Version) → P x None) (e c : Tree) (may : old.may e) (at : e.at ≡ old.tree.at) (others : (k : ℕ) → (⊥ → ⊥) → c.node k ≡ e.node k) (gone : Without p old.tree c)
      (file_e : IsFileOf set e dir oid step n) where
    gone_only : OnlyOne set dir oid P e c
    gone_only = record {
      here = λ m is. (
        (λ o. less n (m o)),
        less_map set p n old new sound was leaves dir e c may at others gone m is,
        λ o fits differ. other_content set p n old new sound was leaves dir e c may at others gone m is o fits (λ k held_at. not_n set p n old new sound was leaves dir oid step path e may file_e m is o fits differ k held_at),
        subst (λ (v : Option Version). P (content m e oid) v) (sym (ap (λ (x : Option ℕ). held x c.node) (less_same n (m oid) (is.files oid step n file_e)))) (goes (content m e oid)),
      );
      rest = λ d other differ. untouched_view set d e c
          (nodes_view d e c (λ s. stands (entry d s) (λ same. differ (same_from_push d dir s step (same ∙ path)).0)) (λ s k here. others k (λ none. none))) (λ s k here. others k (λ none. none));
      looks = λ q off. look_same e c q (stands q (λ same. off.0 step (same ∙ path))) (λ k here. others k (λ none. none));
    }
      where
        stands : (q : Path) → q ≢ p → c.at q ≡ e.at q
        stands q not = gone.others q not ∙ sym (ap (λ (f : Names). f q) at)

  pub removed_only : OneGoes set dir oid None old new
  removed_only level = record {
    any_moment = moves_by (Without p old.tree) NoNode (OnlyOne set dir oid (StaysOr None)) old new sound leaves (λ a c may same. only_named set dir oid (StaysOr None) (λ x y is. inl is) a c file.0 same)
        (λ e c may at others gone. gone_only (StaysOr None) (λ x. inr refl) e c may at others gone (along e may at));
    now = ⊎_elim (λ same. only_named set dir oid (StaysOr None) (λ x y is. inl is) old.tree new.tree file.0 same) (λ gone. gone_only (StaysOr None) (λ x. inr refl) old.tree new.tree sound.now refl leaves.now.others gone file) leaves.now.names;
  }
    where
      along : (e : Tree) → old.may e → e.at ≡ old.tree.at → IsFileOf set e dir oid step n
      along e may at = (file.0, file_along set dir old.tree e (oid_text oid) step n (ap (λ (f : Names). f (entry dir step)) at) (sound.kinds e n may) (level.called e step n may file.1.here) file.1)

  -- as it reads
  pub removed_reads : new.tree.at p ≡ None → OnlyOne set dir oid (Becomes None) old.tree new.tree
  removed_reads none = gone_only (Becomes None) (λ x. refl) old.tree new.tree sound.now refl leaves.now.others gone file
    where
      gone : Without p old.tree new.tree
      gone = ⊎_elim (λ same. let z : None ≡ Some n = sym none ∙ ap (λ (f : Names). f p) same.at ∙ was in cc) (λ is2. is2) leaves.now.names
