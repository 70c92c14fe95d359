-- Collections that stay, and what stays with each name.
use Rattle.std.proofs.Common.{◌≡◌, ◌≢◌, ⊎_elim, ℕ, true, false, List, codes, refl, sym, ◌∙◌, ap, subst, Option, Some, None}
use Rattle.std.specs.Option.{option_map}
use Rattle.fs_names.specs.declared.coll.Coll.{Coll}
use Rattle.fs_names.specs.declared.oid.Oid.{Oid}
use Rattle.fs_names.specs.declared.settings.Settings.{Settings}
use Rattle.fs_names.specs.Reading.{OidFits, CollFits}
use Rattle.tree_api.specs.Answer.{IsStat, kind_of}
use Rattle.tree_api.specs.Tree.{Path, Version, Names, Tree, IsDir, IsFree, held, look, current}
use Rattle.tree_api.specs.Disk.{Disk, Sound, From, Leaves}
use Rattle.tree_api.specs.Renaming.{SameNamed, Renamed}
use Rattle.tree_api.specs.declared.tree.Kind.{Kind}
use Rattle.tree_api.specs.declared.tree.Stat.{Stat}
use Rattle.tree_api.proofs.Moments.{now_from}
use Rattle.tree_api.proofs.Nodes.{free_along}
use Rattle.tree_api.proofs.Renaming.{moves_by}
use Rattle.lfn_index.specs.Directory.{entry}
use Rattle.lfn_index.specs.Maps.{Map, IsMap, Whole, AttrLevel}
use Rattle.lfn_index.proofs.Mapped.{nodes_view, view_map, content_same}
use Rattle.tree_stands.specs.Trees.{dir_of, guard_of, dir_guard, AllWhole}
use Rattle.op_effects.specs.Collections.{CollStays, IsEmpty, Makes, Drops}
use Rattle.op_effects.specs.Ready.{Ready}
use Rattle.coll_ops.specs.Changes.{AllStay}
use Rattle.coll_ops.specs.Places.{IsThere}
use Rattle.coll_ops.proofs.Paths.{coll_dec}

-- what a look at a path tells
there_at : (t : Tree) (p : Path) (st : Stat) (o : Option ℕ) → t.at p ≡ o → IsStat (held o t.node) (Some st) → IsThere t p (Some st.kind)
there_at t p st None e s = absurd s
there_at t p st (Some n) e s = subst (λ (k : Kind). IsThere t p (Some k)) (sym s.0) (elim (t.node n).dir as (λ b. (t.node n).dir ≡ b → IsThere t p (Some (kind_of b))) [
  | true ↦ λ d. (n, e, d)
  | false ↦ λ d. (n, e, d)
] refl)

pub there_is : (t : Tree) (p : Path) (o : Option Stat) (st : Stat) → IsStat (look t p) o → o ≡ Some st → IsThere t p (Some st.kind)
there_is t p o st s is = there_at t p st (t.at p) refl (subst (IsStat (look t p)) is s)

-- the name is as it was, and so is what stands there
pub record KeepsAt (a c : Tree) (q : Path) : Type 0 where
  pub at : c.at q ≡ a.at q
  pub node : (k : ℕ) → a.at q ≡ Some k → c.node k ≡ a.node k

pub named_keeps : (a c : Tree) → SameNamed a c → (q : Path) → KeepsAt a c q
named_keeps a c same q = record { at = ap (λ (f : Names). f q) same.at; node = λ k here. same.nodes q k here }

module _ (a c : Tree) (q : Path) (keeps : KeepsAt a c q) where
  pub keeps_look : look c q ≡ look a q
  keeps_look = one (a.at q) refl
    where
      one : (x : Option ℕ) → a.at q ≡ x → look c q ≡ look a q
      one None none = ap (λ (y : Option ℕ). held y c.node) (keeps.at ∙ none) ∙ sym (ap (λ (y : Option ℕ). held y a.node) none)
      one (Some k) some = ap (λ (y : Option ℕ). held y c.node) (keeps.at ∙ some) ∙ ap Some (keeps.node k some) ∙ sym (ap (λ (y : Option ℕ). held y a.node) some)

  pub keeps_dir : IsDir a q → IsDir c q
  keeps_dir dir = (dir.0, keeps.at ∙ dir.1, ap (λ (v : Version). v.dir) (keeps.node dir.0 dir.1) ∙ dir.2)

  pub keeps_free : IsFree a q → IsFree c q
  keeps_free free = free_along q a c keeps.at (λ m here. ap (λ (v : Version). v.dir) (keeps.node m here)) free

pub keeps_guard : (a c : Tree) (d : Coll) → KeepsAt a c (dir_of d) → dir_guard c d ≡ dir_guard a d
keeps_guard a c d keeps = ap (option_map guard_of) (keeps_look a c (dir_of d) keeps)

pub no_guard : (t : Tree) (d : Coll) → t.at (dir_of d) ≡ None → dir_guard t d ≡ None
no_guard t d none = ap (option_map guard_of) (ap (λ (y : Option ℕ). held y t.node) none)

-- a collection stays with its directory and the entries
pub coll_stays : (set : Settings) (d : Coll) (a c : Tree) → KeepsAt a c (dir_of d) → ((s : List ℕ) → KeepsAt a c (entry (dir_of d) s)) → CollStays set d a c
coll_stays set d a c dir entries = record {
  dir = keeps_guard a c d dir;
  objects = λ m is. (
    m,
    view_map set (dir_of d) a c (nodes_view (dir_of d) a c (λ s. (entries s).at) (λ s k here. (entries s).node k here)) m is,
    λ o fits. content_same set (dir_of d) a c m m o refl (λ k at. let found = is.there o k fits at in (entries found.0).node k found.1.here),
  );
}

-- a directory without entries
pub empty_dir : (set : Settings) (c : Coll) (t : Tree) → ((s : List ℕ) → t.at (entry (dir_of c) s) ≡ None) → IsEmpty set c t
empty_dir set c t none = record { whole = ((λ o. None), nothing); none = λ m is o fits. one m is o fits (m o) refl }
  where
    not_there : (s : List ℕ) (n : ℕ) → t.at (entry (dir_of c) s) ≡ Some n → ⊥
    not_there s n here = let z : None ≡ Some n = sym (none s) ∙ here in cc

    no_some : (n : ℕ) → None ≡ Some n → ⊥
    no_some n e = cc

    nothing : IsMap set t (dir_of c) (λ o. None)
    nothing = record {
      files = λ o s n file. absurd (not_there s n file.1.here);
      there = λ o n fits at. absurd (no_some n at);
      known = λ s n here. absurd (not_there s n here);
    }

    one : (m : Map) → IsMap set t (dir_of c) m → (o : Oid) → OidFits o → (x : Option ℕ) → m o ≡ x → m o ≡ None
    one m is o fits None at = at
    one m is o fits (Some n) at = let found = is.there o n fits at in absurd (not_there found.0 n found.1.here)

-- damage doesn't come with what a call does
stays_whole : (set : Settings) (c : Coll) (a b : Tree) → CollStays set c a b → Whole set (dir_of c) a → Whole set (dir_of c) b
stays_whole set c a b stays whole = let w = stays.objects whole.0 whole.1 in (w.0, w.1)

module _ (set : Settings) (c : Coll) (fits : CollFits c) (a b : Tree) (whole : AllWhole set a) where
  each_whole : Whole set (dir_of c) b → ((d : Coll) → CollFits d → d ≢ c → CollStays set d a b) → AllWhole set b
  each_whole here others d of_d =
      ⊎_elim (λ same. subst (λ (x : Coll). Whole set (dir_of x) b) (sym same) here) (λ differ. stays_whole set d a b (others d of_d differ) (whole d of_d)) (coll_dec d c)

  pub makes_whole : Makes set c a b → AllWhole set b
  makes_whole makes = each_whole (⊎_elim (λ stays. stays_whole set c a b stays (whole c fits)) (λ comes. comes.empty.whole) makes.here) makes.others

  pub drops_whole : Drops set c a b → AllWhole set b
  drops_whole drops = each_whole (⊎_elim (λ stays. stays_whole set c a b stays (whole c fits)) (λ gone. gone.empty.whole) drops.here) drops.others

pub all_stay_whole : (set : Settings) (a b : Tree) → AllStay set a b → AllWhole set a → AllWhole set b
all_stay_whole set a b stay whole c fits = stays_whole set c a b (stay c fits) (whole c fits)

-- what is told of a place that was looked at, and where the store's directories stand
pub look_dir : (a c : Tree) (q : Path) → look c q ≡ look a q → IsDir a q → IsDir c q
look_dir a c q same dir = by (c.at q) refl
  where
    was : look a q ≡ Some (a.node dir.0)
    was = ap (λ (y : Option ℕ). held y a.node) dir.1

    by : (x : Option ℕ) → c.at q ≡ x → IsDir c q
    by None none = absurd (no (sym (ap (λ (y : Option ℕ). held y c.node) none) ∙ same ∙ was))
      where
        no : None ≡ Some (a.node dir.0) → ⊥
        no e = cc
    by (Some k) some =
        let e : Some (c.node k) ≡ Some (a.node dir.0) = sym (ap (λ (y : Option ℕ). held y c.node) some) ∙ same ∙ was in
        let v : c.node k ≡ a.node dir.0 = cc in
        (k, some, ap (λ (w : Version). w.dir) v ∙ dir.2)

pub ready_current : (set : Settings) (d : Disk) → Sound d → Ready set d → IsDir d.tree current
ready_current set d sound ready = sound.parents d.tree current (codes "aside") ready.dir.0 sound.now ready.dir.1

-- what stands in nothing isn't there
pub below_missing : (d : Disk) → Sound d → (c : Tree) → d.may c → (p : Path) → c.at p ≡ None → (s : List ℕ) → c.at (entry p s) ≡ None
below_missing d sound c may p none s = one (c.at (entry p s)) refl
  where
    one : (x : Option ℕ) → c.at (entry p s) ≡ x → c.at (entry p s) ≡ None
    one None is = is
    one (Some k) is =
        let dir = sound.parents c p s k may is in
        let z : None ≡ Some dir.0 = sym none ∙ dir.1 in
        cc

-- what holds of images that keep their names, and of those with new ones, which came from one with the names that read
pub leaves_by : (Such : Tree → Type 0) (Own : ℕ → Type 0) (S : Tree → Tree → Type 0) (old new : Disk) → Sound old → Leaves (Renamed Such Own) old new
    → ((a c : Tree) → old.may a → SameNamed a c → S a c)
    → ((a c : Tree) → old.may a → a.at ≡ old.tree.at → ((m : ℕ) → (Own m → ⊥) → c.node m ≡ a.node m) → Such c → S a c)
    → Leaves S old new
leaves_by Such Own S old new sound leaves f g = record {
  any_moment = moves_by Such Own S old new sound leaves f g;
  now = ⊎_elim (λ same. f old.tree new.tree sound.now same) (λ such. g old.tree new.tree sound.now refl leaves.now.others such) leaves.now.names;
}

-- an attribute of the files that read is in each image what reads
pub attrs_kept : (Such : Tree → Type 0) (Own : ℕ → Type 0) (key : List ℕ) (dir : Path) (old new : Disk) → Sound new → Leaves (Renamed Such Own) old new
    → ((s : List ℕ) (k : ℕ) → new.tree.at (entry dir s) ≡ Some k → (old.tree.at (entry dir s) ≡ Some k) × (Own k → ⊥))
    → AttrLevel key dir old → AttrLevel key dir new
attrs_kept Such Own key dir old new sound leaves back level c s k may here =
    let from = now_from (From old (Renamed Such Own)) old new sound leaves.any_moment c may in
    let was = back s k here in
    ap (λ (v : Version). v.attr key) (from.2.others k was.1) ∙ level from.0 s k from.1 was.0 ∙ sym (ap (λ (v : Version). v.attr key) (leaves.now.others k was.1))
