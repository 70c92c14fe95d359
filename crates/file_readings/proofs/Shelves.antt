-- What is listed in a collection's directory are the objects of its shelf.
use Rattle.std.proofs.Common.{◌≡◌, ⊎_elim, ℕ, true, List, [], ◌∷◌, length, refl, sym, ◌∙◌, ap, subst, arith, Option, Some, None, is_some}
use Rattle.std.specs.Prelude.{All, Contains}
use Rattle.std.specs.List.{filter, list_any}
use Rattle.std.specs.List.Sorted.{IsStrictlySortedBy}
use Rattle.std.specs.Option.{option_map}
use Rattle.std.specs.Ordering.{eq_by_cmp}
use Rattle.std.specs.Cmp.{eq_by_cmp_equiv}
use Rattle.std.specs.Cmp.Derive.{one_truth}
use Rattle.std.specs.FinMap as map
use Rattle.std.proofs.lemmas.List.{same_from_push, get_or-map, length-map}
use Rattle.std.proofs.lemmas.List.Elements.{All-map, All-weaker, All-contains}
use Rattle.std.proofs.lemmas.Map.Views.{Contains-from_any, list_any-from_Contains}
use Rattle.fs_names.specs.declared.coll.Coll.{Coll}
use Rattle.fs_names.specs.declared.oid.Oid.{Oid}
use Rattle.fs_names.specs.declared.settings.Settings.{Settings}
use Rattle.fs_names.specs.Reading.{CollFits, OidFits}
use Rattle.fs_names.specs.Order.{oid_cmp, oid_cmp_total, oid_cmp-IsAntisymmetric}
use Rattle.fs_cells.proofs.Looks.{is_oid}
use Rattle.fs_model.specs.declared.page.Page.{Page}
use Rattle.fs_model.specs.Listing.{Rises, at_or_after, from_cursor, listing, page_of}
use Rattle.fs_model.specs.Objects.{Object, Objects, Shelf, look, on_shelf}
use Rattle.fs_model.proofs.Listings.{keys-are}
use Rattle.tree_api.specs.Answer.{Before}
use Rattle.tree_api.specs.Disk.{Disk, Sound, Stays}
use Rattle.tree_api.specs.Tree.{Path, Version, Tree, held, IsDir}
use Rattle.lfn_index.specs.Directory.{entry, IsFileOf}
use Rattle.lfn_index.specs.Listing.{AreNames, IsFirstDamage, IsFound, IsTwice, IsUnknown}
use Rattle.lfn_index.specs.Maps.{Whole, content}
use Rattle.lfn_index.specs.declared.listing.Found.{Found}
use Rattle.lfn_index.proofs.Seen.{never_before}
use Rattle.tree_stands.specs.Trees.{dir_of, AllWhole}
use Rattle.tree_shows.specs.Shows.{Matches, Shows}
use Rattle.file_readings.specs.Listed.{oids_of}
use Rattle.file_readings.proofs.Found.{match_some, shelf_there, some_of}

held_some : (node : ℕ → Version) (n : Option ℕ) (x : Object) → Matches (held n node) (Some x) → (k : ℕ) × (n ≡ Some k)
held_some node None x is = absurd is
held_some node (Some k) x is = (k, refl)

rising : (l : List Oid) → IsStrictlySortedBy oid_cmp l → Rises oid_cmp l
unfolding IsStrictlySortedBy
rising [] h = tt
rising (x ∷ l) h = (h.0, rising l h.1)

object_in : (fs : List Found) (f : Found) → Contains fs f → Contains (oids_of fs) f.oid
object_in fs f has =
    let n : length (oids_of fs) ≡ length fs = length-map fs (λ (x : Found). x.oid) in
    (has.0, omega (arith, n, has.1), get_or-map (λ (x : Found). x.oid) fs has.0 f f.oid has.1 ∙ ap (λ (x : Found). x.oid) has.2)

module _ (set : Settings) (O : Objects) (t : Tree) (c : Coll) (fits : CollFits c) (shows : Shows set O t) (s : Shelf) (is : map.get O c ≡ Some s) where
  look_is : (q : Oid) → look O c q ≡ map.get s q
  look_is q = ap (λ (o : Option Shelf). on_shelf o q) is

  on_file : (o : Oid) (step : List ℕ) (n : ℕ) → IsFileOf set t (dir_of c) o step n → map.contains_key s o ≡ true
  on_file o step n file =
      let whole = shows.whole c fits in
      let at : whole.0 o ≡ Some n = whole.1.files o step n file in
      let seen = match_some (t.node n) (look O c o) (subst (λ (k : Option ℕ). Matches (held k t.node) (look O c o)) at (shows.files c whole.0 fits whole.1 o file.0)) in
      ap is_some (sym (look_is o) ∙ seen.1)

  module _ (fs : List Found) (names : AreNames set t (dir_of c) fs) where
    each_there : All (λ o. map.contains_key s o ≡ true) (oids_of fs)
    each_there =
        All-map (λ (o : Oid). map.contains_key s o ≡ true) (λ (f : Found). f.oid) fs
        (All-weaker (λ f. (step : List ℕ) × IsFound set t (dir_of c) f step) (λ f. map.contains_key s f.oid ≡ true)
        (λ f found. on_file f.oid found.0 found.1.1.0 found.1.1.1) fs names.each)

    has_file : (q : Oid) → map.contains_key s q ≡ true → (f : Found) × Contains fs f × (f.oid ≡ q)
    has_file q there =
        let some = some_of (map.get s q) there in
        let seen : look O c q ≡ Some some.0 = look_is q ∙ some.1 in
        let q_fits : OidFits q = shows.named c q (λ none. let z : None ≡ Some some.0 = sym none ∙ seen in cc) in
        let whole = shows.whole c fits in
        let at = held_some t.node (whole.0 q) some.0 (subst (λ (x : Option Object). Matches (content whole.0 t q) x) seen (shows.files c whole.0 fits whole.1 q q_fits)) in
        let file = whole.1.there q at.0 q_fits at.1 in
        let f = names.whole q file.0 (at.0, (q_fits, file.1)) in
        (f.0, f.1, f.2)

    listed : (q : Oid) → map.contains_key s q ≡ true → Contains (oids_of fs) q
    listed q there =
        let f = has_file q there in
        subst (Contains (oids_of fs)) f.2 (object_in fs f.0 f.1)

    members : (q : Oid) → list_any (eq_by_cmp oid_cmp q) (oids_of fs) ≡ map.contains_key s q
    members q = one_truth (list_any (eq_by_cmp oid_cmp q) (oids_of fs)) (map.contains_key s q)
        (λ any. All-contains (λ (o : Oid). map.contains_key s o ≡ true) (oids_of fs) q each_there (Contains-from_any is_oid q (oids_of fs) any))
        (λ there. list_any-from_Contains (eq_by_cmp_equiv oid_cmp_total) q (oids_of fs) (listed q there))

    pub keys_listed : (l : List Oid) → IsStrictlySortedBy oid_cmp l → ((q : Oid) → list_any (eq_by_cmp oid_cmp q) l ≡ list_any (eq_by_cmp oid_cmp q) (oids_of fs)) → l ≡ map.keys s
    keys_listed l sorted alike = keys-are oid_cmp_total oid_cmp-IsAntisymmetric s l (rising l sorted) (λ q. alike q ∙ members q)

-- a page of them
pub page_listed : (set : Settings) (O : Objects) (c : Coll) → CollFits c → (d0 d1 : Disk) → Stays d0 d1 → Shows set O d0.tree → (dir : Path) → dir ≡ dir_of c → IsDir d0.tree dir
    → (fs : List Found) → AreNames set d1.tree dir fs → (l : List Oid) → IsStrictlySortedBy oid_cmp l
    → ((q : Oid) → list_any (eq_by_cmp oid_cmp q) l ≡ list_any (eq_by_cmp oid_cmp q) (oids_of fs))
    → (cursor : Option Oid) (max : ℕ) (page : Page) → page ≡ page_of (filter (at_or_after cursor) l) max → Some page ≡ listing O c cursor max
page_listed set O c fits d0 d1 stays shows dir is there fs names l sorted alike cursor max page page_is =
    let shelf = shelf_there set O d0.tree c fits shows (subst (IsDir d0.tree) is there) in
    let here : AreNames set d0.tree (dir_of c) fs = subst (λ (q : Path). AreNames set d0.tree q fs) is (subst (λ (t : Tree). AreNames set t dir fs) stays.tree names) in
    let keys : l ≡ map.keys shelf.0 = keys_listed set O d0.tree c fits shows shelf.0 shelf.1 fs here l sorted alike in
    ap Some (page_is ∙ ap (λ (k : List Oid). page_of (filter (at_or_after cursor) k) max) keys)
    ∙ sym (ap (option_map (λ (s : Shelf). page_of (from_cursor s cursor) max)) shelf.1)

-- ---- nothing is damaged

module _ (set : Settings) (d : Disk) (sound : Sound d) (dir : Path) (whole : Whole set dir d.tree) where
  pub no_damage : (p : Path) → IsFirstDamage set d.tree dir p → ⊥
  no_damage p first = ⊎_elim unknown twice first.2
    where
      unknown : IsUnknown set d.tree dir first.0 → ⊥
      unknown un = by (d.tree.at (entry dir first.0)) refl
        where
          by : (n : Option ℕ) → d.tree.at (entry dir first.0) ≡ n → ⊥
          by None here = un.0 here
          by (Some n) here = ⊎_elim (λ file. un.2 file.0 (n, file.1)) (λ sub. un.1 sub) (whole.1.known first.0 n here)

      twice : IsTwice set d.tree dir first.0 → ⊥
      twice tw =
          let one = tw.3 in
          let two = tw.4 in
          let e : Some one.0 ≡ Some two.0 = sym (whole.1.files tw.0 tw.1 one.0 one.1) ∙ whole.1.files tw.0 first.0 two.0 two.1 in
          let paths : entry dir tw.1 ≡ entry dir first.0 = sound.single d.tree (entry dir tw.1) (entry dir first.0) two.0 sound.now (one.1.1.here ∙ e) two.1.1.here in
          never_before first.0 (subst (λ (s : List ℕ). Before s first.0) ((same_from_push dir dir tw.1 first.0 paths).1) tw.2)

pub names_undamaged : (set : Settings) (c : Coll) → CollFits c → (d0 d1 : Disk) → Sound d1 → Stays d0 d1 → AllWhole set d0.tree → (dir : Path) → dir ≡ dir_of c
    → (p : Path) → IsFirstDamage set d1.tree dir p → ⊥
names_undamaged set c fits d0 d1 sound stays whole dir is p first =
    no_damage set d1 sound dir (subst (λ (q : Path). Whole set q d1.tree) (sym is) (subst (λ (t : Tree). Whole set (dir_of c) t) (sym stays.tree) (whole c fits))) p first
