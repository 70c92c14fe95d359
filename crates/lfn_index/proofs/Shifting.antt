-- A file moves: the objects of each directory, in each image.
use Rattle.std.proofs.Common.{◌≡◌, ◌≢◌, inl, inr, ⊎_elim, ℕ, ◌<◌, ◌≤◌, true, false, List, length, refl, sym, ◌∙◌, ap, subst, arith, Some, None}
use Rattle.std.proofs.lemmas.List.{same_from_push}
use Rattle.fs_names.specs.declared.oid.Oid.{Oid}
use Rattle.fs_names.specs.declared.settings.Settings.{Settings}
use Rattle.fs_names.specs.Reading.{OidFits}
use Rattle.fs_names.specs.Text.{oid_text}
use Rattle.tree_api.specs.Tree.{Path, Version, Names, Tree, IsFile, MovedFile, Named}
use Rattle.tree_api.specs.Disk.{Disk, Sound, From, Leaves}
use Rattle.tree_api.proofs.Images.{names_now, same_some}
use Rattle.std.proofs.lemmas.Bool.{cases_eq}
use Rattle.lfn_index.specs.FileName.{CalledBy}
use Rattle.tree_api.proofs.Moments.{weaker}
use Rattle.lfn_index.specs.Directory.{lfn_name, entry, HasFile, IsFileOf}
use Rattle.lfn_index.specs.Changes.{aside}
use Rattle.lfn_index.specs.Maps.{Map, IsMap, Whole, Level, KeepsWhole}
use Rattle.lfn_index.specs.Moving.{Same, Renews, LongMove, Moved, renewed, MovesAt}
use Rattle.lfn_index.proofs.Mapped.{nodes_view, view_map, file_along, file_back}
use Rattle.lfn_index.proofs.Once.{called_texts}
use Rattle.tree_api.proofs.Nodes.{dec_path}
use Rattle.lfn_index.proofs.Removing.{less, less_other, less_some}
use Rattle.lfn_index.proofs.Replacing.{Replaces, moved_in, replaced_map}

-- a node leaves a directory
pub record Departs (dir : Path) (n : ℕ) (e c : Tree) : Type 0 where
  pub was : (step : List ℕ) (k : ℕ) → c.at (entry dir step) ≡ Some k → (e.at (entry dir step) ≡ Some k) × (k ≢ n)
  pub kept : (step : List ℕ) (k : ℕ) → e.at (entry dir step) ≡ Some k → k ≢ n → c.at (entry dir step) ≡ Some k
  pub nodes : (step : List ℕ) (k : ℕ) → e.at (entry dir step) ≡ Some k → k ≢ n → c.node k ≡ e.node k

pub departed_map : (set : Settings) (dir : Path) (n : ℕ) (e c : Tree) → Departs dir n e c → (m : Map) → IsMap set e dir m → IsMap set c dir (λ o. less n (m o))
departed_map set dir n e c goes m is = record {
  files = λ o s k file.
      let was = goes.was s k file.1.here in
      let v = goes.nodes s k was.0 was.1 in
      less_other n k (m o)
      (is.files o s k (file.0, file_back set dir e c (oid_text o) s k (file.1.here ∙ sym was.0) (ap (λ (w : Version). w.dir) v) (ap (λ (w : Version). w.attr lfn_name) v) file.1)) was.1;
  there = λ o k fits at.
      let own = less_some n k (m o) at in
      let found = is.there o k fits own.0 in
      (found.0, along (oid_text o) found.0 k own.1 found.1);
  known = λ s k here.
      let was = goes.was s k here in
      ⊎_elim
      (λ file. inl (file.0, (file.1.0, along (oid_text file.0) s k was.1 file.1.1)))
      (λ sub.
      let e1 : Some sub.0.0 ≡ Some k = sym sub.0.1 ∙ was.0 in
      let same : sub.0.0 ≡ k = cc in
      inr ((k, here, ap (λ (v : Version). v.dir) (goes.nodes s k was.0 was.1) ∙ subst (λ (x : ℕ). (e.node x).dir ≡ true) same sub.0.2), sub.1))
      (is.known s k was.0);
}
  where
    along : (text s : List ℕ) (k : ℕ) → k ≢ n → HasFile set e dir text s k → HasFile set c dir text s k
    along text s k not file =
        let v = goes.nodes s k file.here not in
        file_along set dir e c text s k (goes.kept s k file.here not ∙ sym file.here) (ap (λ (w : Version). w.dir) v) (ap (λ (w : Version). w.attr lfn_name) v) file

-- by one rename, to a name that is the text's
module _ (set : Settings) (from dir : Path) (oid : Oid) (old : Disk) (sound : Sound old) (fits : OidFits oid) (file : IsFile old.tree from) (name : List ℕ) (at_new : Names) (moved : MovedFile from (entry dir name) old.tree.at at_new)
    (called : (e : Tree) → old.may e → e.at ≡ old.tree.at → CalledBy set (oid_text oid) name ((e.node file.0).attr lfn_name))
    (once : (e : Tree) → old.may e → e.at ≡ old.tree.at → (s : List ℕ) (k : ℕ) → k ≢ file.0 → HasFile set e dir (oid_text oid) s k → s ≡ name)
    (mine : (e : Tree) → old.may e → e.at ≡ old.tree.at → (o : Oid) (k : ℕ) → k ≢ file.0 → IsFileOf set e dir o name k → oid_text o ≡ oid_text oid) where
  abbrev to : Path
  to = entry dir name

  abbrev n : ℕ
  n = file.0

  module _ (e c : Tree) (may : old.may e) (at : e.at ≡ old.tree.at) (names : c.at ≡ at_new) (nodes : c.node ≡ e.node) where
    node : (k : ℕ) → c.node k ≡ e.node k
    node k = ap (λ (f : ℕ → Version). f k) nodes

    from_e : e.at from ≡ Some file.0
    from_e = ap (λ (f : Names). f from) at ∙ file.1

    pub now_at : (q : Path) → q ≢ from → q ≢ to → c.at q ≡ e.at q
    now_at q nf nt = ap (λ (f : Names). f q) names ∙ moved.others q nf nt ∙ sym (ap (λ (f : Names). f q) at)

    -- it left from where it stood, unless it goes onto itself
    off_from : (q : Path) (k : ℕ) → q ≢ to → c.at q ≡ Some k → q ≢ from
    off_from q k not here same = let z : None ≡ Some k = sym (ap (λ (f : Names). f from) names ∙ moved.gone (λ onto. not (same ∙ onto))) ∙ ap c.at (sym same) ∙ here in cc

    was_there : (q : Path) (k : ℕ) → q ≢ to → c.at q ≡ Some k → (e.at q ≡ Some k) × (k ≢ n)
    was_there q k not here =
        let was : e.at q ≡ Some k = sym (now_at q (off_from q k not here) not) ∙ here in
        (was, λ same. off_from q k not here (sound.single e q from n may (was ∙ ap Some same) from_e))

    still_there : (q : Path) (k : ℕ) → q ≢ to → e.at q ≡ Some k → k ≢ n → c.at q ≡ Some k
    still_there q k not here other =
        let off : q ≢ from = λ same. let z : Some k ≡ Some n = sym here ∙ ap e.at same ∙ from_e in other cc in
        now_at q off not ∙ here

    pub departs : (d : Path) → d ≢ dir → Departs d n e c
    departs d not = record {
      was = λ s k here. was_there (entry d s) k (λ same. not (same_from_push d dir s name same).0) here;
      kept = λ s k here other. still_there (entry d s) k (λ same. not (same_from_push d dir s name same).0) here other;
      nodes = λ s k here other. node k;
    }

    pub replaces : Replaces set dir oid name n e c
    replaces = record {
      fits = fits;
      file = record {
        here = ap (λ (f : Names). f to) names ∙ moved.moved ∙ file.1;
        kind = ap (λ (v : Version). v.dir) (node n) ∙ sound.kinds e n may ∙ file.2;
        called = subst (λ (v : Version). CalledBy set (oid_text oid) name (v.attr lfn_name)) (sym (node n)) (called e may at);
      };
      was = λ s k off here. was_there (entry dir s) k (λ same. off (same_from_push dir dir s name same).1) here;
      kept = λ s k off here other. still_there (entry dir s) k (λ same. off (same_from_push dir dir s name same).1) here other;
      nodes = λ s k here other. node k;
      once = λ s k other own. once e may at s k other own;
      mine = λ o k other own. mine e may at o k other own;
    }

  pub renamed_whole : (new : Disk) → Leaves (Named at_new) old new → KeepsWhole set old new
  renamed_whole new leaves d other level all = weaker (From old (Named at_new)) (Whole set d) old new leaves.any_moment (λ c from_c. each c from_c.0 from_c.1 from_c.2)
    where
      moves : (e c : Tree) → old.may e → e.at ≡ old.tree.at → c.at ≡ at_new → c.node ≡ e.node → Whole set d e → Whole set d c
      moves e c may at names nodes whole = elim (dec_path d dir) [
        | inl here ↦
            let own = subst (λ (x : Path). Whole set x e) here whole in
            let comes = replaces e c may at names nodes in
            subst (λ (x : Path). Whole set x c) (sym here) (moved_in set dir oid name n e c comes own.0 own.1, replaced_map set dir oid name n e c comes own.0 own.1)
        | inr away ↦ ((λ o. less n (whole.0 o)), departed_map set d n e c (departs e c may at names nodes d away) whole.0 whole.1)
      ]

      each : (c a : Tree) → old.may a → Named at_new a c → Whole set d c
      each c a may is = ⊎_elim
          (λ same.
          let was = all a may in
          (was.0, view_map set d a c (nodes_view d a c (λ s. ap (λ (f : Names). f (entry d s)) same) (λ s k here. ap (λ (f : ℕ → Version). f k) is.nodes)) was.0 was.1))
          (λ new_names. let e = record a { at = old.tree.at } in moves e c (names_now old sound a may) refl new_names is.nodes (all e (names_now old sound a may))) is.names

-- a short name is its own
pub short_once : (set : Settings) (e : Tree) (dir : Path) (text s : List ℕ) (k : ℕ) → length text ≤ 200 → HasFile set e dir text s k → s ≡ text
short_once set e dir text s k short own = ⊎_elim (λ name. name.1) (λ long. absurd (omega (arith, long.0, short))) own.called

pub short_mine : (set : Settings) (e : Tree) (dir : Path) (o oid : Oid) (k : ℕ) → length (oid_text oid) ≤ 200 → IsFileOf set e dir o (oid_text oid) k → oid_text o ≡ oid_text oid
short_mine set e dir o oid k short own = called_texts set o oid (oid_text oid) _ own.1.called (inl (short, refl))

-- nothing has changed that stands
pub still_whole : (set : Settings) (d : Path) (a c : Tree) (n : ℕ) → c.at ≡ a.at → c.node n ≡ a.node n → ((m : ℕ) → m ≢ n → c.node m ≡ a.node m) → Whole set d a → Whole set d c
still_whole set d a c n names own others whole = (
  whole.0,
  view_map set d a c (nodes_view d a c (λ s. ap (λ (f : Names). f (entry d s)) names) (λ s k here. elim (cases_eq k n) [
    | inl same ↦ subst (λ (x : ℕ). c.node x ≡ a.node x) (sym same) own
    | inr not ↦ others k not
  ])) whole.0 whole.1,
)

-- by way of the place aside
module _ (set : Settings) (from : Path) (name : List ℕ) (oid : Oid) (old new : Disk) (sound : Sound old) (fits : OidFits oid) (n : ℕ) (from_is : old.tree.at from ≡ Some n) (file : (old.tree.node n).dir ≡ false)
    (by_way : Names) (way : MovedFile from (entry aside name) old.tree.at by_way) (d : Path) (other : d ≢ aside) where
  abbrev place : Path
  place = entry aside name

  off : (s : List ℕ) → entry d s ≢ place
  off s same = other (same_from_push d aside s name same).0

  module _ (e c : Tree) (may : old.may e) (at : e.at ≡ old.tree.at) (others : (m : ℕ) → m ≢ n → c.node m ≡ e.node m) where
    way_was : (s : List ℕ) (k : ℕ) → by_way (entry d s) ≡ Some k → (e.at (entry d s) ≡ Some k) × (k ≢ n)
    way_was s k here =
        let not : entry d s ≢ from = λ same. let z : None ≡ Some k = sym (way.gone (λ p. off s (same ∙ p))) ∙ ap by_way (sym same) ∙ here in cc in
        let was : e.at (entry d s) ≡ Some k = ap (λ (f : Names). f (entry d s)) at ∙ sym (way.others (entry d s) not (off s)) ∙ here in
        (was, λ same. not (sound.single e (entry d s) from n may (was ∙ ap Some same) (ap (λ (f : Names). f from) at ∙ from_is)))

    way_kept : (s : List ℕ) (k : ℕ) → e.at (entry d s) ≡ Some k → k ≢ n → by_way (entry d s) ≡ Some k
    way_kept s k here not =
        let differ : entry d s ≢ from = λ same. let z : Some k ≡ Some n = sym here ∙ ap e.at same ∙ ap (λ (f : Names). f from) at ∙ from_is in not cc in
        way.others (entry d s) differ (off s) ∙ sym (ap (λ (f : Names). f (entry d s)) at) ∙ here

    -- names of this directory that are those by the way
    pub way_departs : ((s : List ℕ) → c.at (entry d s) ≡ by_way (entry d s)) → Departs d n e c
    way_departs names = record {
      was = λ s k here. way_was s k (sym (names s) ∙ here);
      kept = λ s k here not. names s ∙ way_kept s k here not;
      nodes = λ s k here not. others k not;
    }

    left_whole : ((s : List ℕ) → c.at (entry d s) ≡ by_way (entry d s)) → Whole set d e → Whole set d c
    left_whole names whole = ((λ o. less n (whole.0 o)), departed_map set d n e c (way_departs names) whole.0 whole.1)

pub renews_whole : (set : Settings) (from : Path) (name : List ℕ) (oid : Oid) (old new : Disk) → Sound old → OidFits oid → IsFile old.tree from → Renews from (entry aside name) (oid_text oid) old new → KeepsWhole set old new
renews_whole set from name oid old new sound fits file is d other level all =
    let n = is.0 in
    let by_way = is.2 in
    let kind : (old.tree.node is.0).dir ≡ false = subst (λ (k : ℕ). (old.tree.node k).dir ≡ false) (same_some file.0 is.0 (sym file.1 ∙ is.1)) file.2 in
    weaker (From old (Moved is.2 is.2 is.0 (renewed (oid_text oid) (old.tree.node is.0)) (oid_text oid))) (Whole set d) old new is.4.any_moment (λ c from_c.
    let a = from_c.0 in
    let e = record a { at = old.tree.at } in
    let gone : c.at ≡ is.2 → Whole set d c =
    λ names. left_whole set from name oid old new sound fits is.0 is.1 kind is.2 is.3 d other e c (names_now old sound a from_c.1) refl from_c.2.others (λ s. ap (λ (f : Names). f (entry d s)) names) (all e (names_now old sound a from_c.1)) in
    ⊎_elim (λ same. still_whole set d a c n same.0 same.1 from_c.2.others (all a from_c.1)) (λ more. ⊎_elim (λ there. gone there.0) (λ there. gone there.0) more) from_c.2.state)

module _ (set : Settings) (from : Path) (name : List ℕ) (dir : Path) (oid : Oid) (old new : Disk) (sound : Sound old) (fits : OidFits oid) (file : IsFile old.tree from) (long : 200 < length (oid_text oid))
    (move : LongMove set from (entry aside name) dir (oid_text oid) old new) where
  kind : (old.tree.node move.n).dir ≡ false
  kind = subst (λ (k : ℕ). (old.tree.node k).dir ≡ false) (same_some file.0 move.n (sym file.1 ∙ move.from_is)) file.2

  module _ (other : dir ≢ aside) (level : Level dir old) (whole : Whole set dir old.tree) (e c : Tree) (may : old.may e) (at : e.at ≡ old.tree.at) (others : (m : ℕ) → m ≢ move.n → c.node m ≡ e.node m)
      (names : c.at ≡ move.there) (dirs : (c.node move.n).dir ≡ (e.node move.n).dir) (has : (c.node move.n).attr lfn_name ≡ Some (oid_text oid)) where
    off_place : (s : List ℕ) → entry dir s ≢ entry aside name
    off_place s same = other (same_from_push dir aside s name same).0

    there_names : (s : List ℕ) → s ≢ move.step → c.at (entry dir s) ≡ move.by_way (entry dir s)
    there_names s not = ap (λ (f : Names). f (entry dir s)) names ∙ move.home.others (entry dir s) (off_place s) (λ same. not (same_from_push dir dir s move.step same).1)

    -- a file of the image is one as it reads
    reads_file : (text s : List ℕ) (k : ℕ) → HasFile set e dir text s k → HasFile set old.tree dir text s k
    reads_file text s k own =
        let here : old.tree.at (entry dir s) ≡ Some k = sym (ap (λ (f : Names). f (entry dir s)) at) ∙ own.here in
        file_back set dir old.tree e text s k (ap (λ (f : Names). f (entry dir s)) at) (sound.kinds e k may) (level.called e s k may here) own

    pub comes : Replaces set dir oid move.step move.n e c
    comes = record {
      fits = fits;
      file = record {
        here = ap (λ (f : Names). f (entry dir move.step)) names ∙ move.home.moved ∙ move.aside.moved ∙ move.from_is;
        kind = dirs ∙ sound.kinds e move.n may ∙ kind;
        called = inr (long, move.named, has);
      };
      was = λ s k not here. way_was set from name oid old new sound fits move.n move.from_is kind move.by_way move.aside dir other e c may at others s k (sym (there_names s not) ∙ here);
      kept = λ s k not here differ. there_names s not ∙ way_kept set from name oid old new sound fits move.n move.from_is kind move.by_way move.aside dir other e c may at others s k here differ;
      nodes = λ s k here differ. others k differ;
      once = λ s k differ own. ⊎_elim
          (λ there.
          let mine = reads_file (oid_text oid) s k own in
          let same : k ≡ there.0 = same_some k there.0 (sym (whole.1.files oid s k (fits, mine)) ∙ whole.1.files oid move.step there.0 (fits, there.1)) in
          (same_from_push dir dir s move.step (sound.single old.tree (entry dir s) (entry dir move.step) there.0 sound.now (mine.here ∙ ap Some same) there.1.here)).1)
          (λ free. absurd (differ (free.1 s k (reads_file (oid_text oid) s k own)))) move.stood;
      mine = λ o k differ own. ⊎_elim
          (λ there. called_texts set o oid move.step _ (reads_file (oid_text o) move.step k own.1).called
          (subst (λ (x : ℕ). CalledBy set (oid_text oid) move.step ((old.tree.node x).attr lfn_name)) (same_some there.0 k (sym there.1.here ∙ (reads_file (oid_text o) move.step k own.1).here)) there.1.called))
          (λ free. absurd (let z : None ≡ Some k = sym free.0 ∙ way_kept set from name oid old new sound fits move.n move.from_is kind move.by_way move.aside dir other e c may at others move.step k own.1.here differ in no_some k z))
          move.stood;
    }
      where
        no_some : (k : ℕ) → None ≡ Some k → ⊥
        no_some k is = cc

    come_whole : Whole set dir e → Whole set dir c
    come_whole own = (moved_in set dir oid move.step move.n e c comes own.0 own.1, replaced_map set dir oid move.step move.n e c comes own.0 own.1)

  pub long_whole : KeepsWhole set old new
  long_whole d other level all =
      weaker (From old (Moved move.by_way move.there move.n (renewed (oid_text oid) (old.tree.node move.n)) (oid_text oid))) (Whole set d) old new move.leaves.any_moment (λ c from_c. each c from_c.0 from_c.1 from_c.2)
    where
      v : Version
      v = renewed (oid_text oid) (old.tree.node move.n)

      each : (c a : Tree) → old.may a → Moved move.by_way move.there move.n (renewed (oid_text oid) (old.tree.node move.n)) (oid_text oid) a c → Whole set d c
      each c a may is =
          let e = record a { at = old.tree.at } in
          let may_e = names_now old sound a may in
          ⊎_elim
          (λ same. still_whole set d a c move.n same.0 same.1 is.others (all a may))
          (λ more.
          ⊎_elim
          (λ way. left_whole set from name oid old new sound fits move.n move.from_is kind move.by_way move.aside d other e c may_e refl is.others (λ s. ap (λ (f : Names). f (entry d s)) way.0) (all e may_e))
          (λ there. elim (dec_path d dir) [
            | inl same ↦
                let own = subst (λ (x : Path). Whole set x e) same (all e may_e) in
                subst (λ (x : Path). Whole set x c) (sym same)
                (come_whole (λ eq. other (same ∙ eq)) (subst (λ (x : Path). Level x old) same level) (subst (λ (x : Path). Whole set x old.tree) same (all old.tree sound.now)) e c may_e refl is.others there.0 there.1.dir there.2 own)
            | inr differ ↦
                left_whole set from name oid old new sound fits move.n move.from_is kind move.by_way move.aside d other e c may_e refl is.others
                (λ s. ap (λ (f : Names). f (entry d s)) there.0 ∙ move.home.others (entry d s) (λ same. other (same_from_push d aside s name same).0) (λ same. differ (same_from_push d dir s move.step same).0)) (all e may_e)
          ]) more) is.state

-- how far a move has come
pub moves_whole : (set : Settings) (from : Path) (name : List ℕ) (dir : Path) (oid : Oid) (old new : Disk) → Sound old → OidFits oid → IsFile old.tree from → MovesAt set from (entry aside name) dir (oid_text oid) old new → KeepsWhole set old new
moves_whole set from name dir oid old new sound fits file (inl same) d other level all =
    weaker (From old Same) (Whole set d) old new same.any_moment (λ c from_c. subst (Whole set d) (sym from_c.2) (all from_c.0 from_c.1))
moves_whole set from name dir oid old new sound fits file (inr (inl move)) d other level all =
    renamed_whole set from dir oid old sound fits file (oid_text oid) move.1.at move.1.moved (λ e may at. inl (move.0, refl)) (λ e may at s k differ own. short_once set e dir (oid_text oid) s k move.0 own)
    (λ e may at o k differ own. short_mine set e dir o oid k move.0 own) new move.1.leaves d other level all
moves_whole set from name dir oid old new sound fits file (inr (inr more)) d other level all =
    ⊎_elim (λ renews. renews_whole set from name oid old new sound fits file renews d other level all) (λ move. long_whole set from name dir oid old new sound fits file more.0 move d other level all) more.1
