-- A file on its way: the maps of all directories, in each image and as it reads.
use Rattle.std.proofs.Common.{◌≡◌, ◌≢◌, ◌⊎◌, inl, inr, ⊎_elim, ℕ, ◌<◌, ◌≤◌, ◌==◌, true, false, List, length, refl, sym, ◌∙◌, ap, subst, Option, Some, None, arith}
use Rattle.std.proofs.lemmas.Bool.{cases_Bool, cases_eq, cond-true, cond-false, eq-eqb, eqb-true}
use Rattle.std.proofs.lemmas.List.{same_from_push}
use Rattle.std.specs.Prelude.{if◌then◌else◌}
use Rattle.std.specs.Str.{bytes_eq}
use Rattle.fs_names.specs.declared.oid.Oid.{Oid}
use Rattle.fs_names.specs.declared.settings.Pos.{Pos}
use Rattle.fs_names.specs.declared.settings.Settings.{Settings}
use Rattle.fs_names.specs.Reading.{OidFits}
use Rattle.fs_names.specs.Text.{oid_text}
use Rattle.tree_api.specs.Tree.{Path, Version, Names, Tree, IsFile, MovedFile, Named, Mix, look}
use Rattle.tree_api.specs.Disk.{Disk, Sound, From, Moves, Leaves, Everywhere, Keeps}
use Rattle.tree_api.proofs.Images.{names_now, same_some}
use Rattle.tree_api.proofs.Moments.{weaker, now_from}
use Rattle.tree_api.proofs.Nodes.{dec_path}
use Rattle.lfn_index.specs.FileName.{CalledBy, stem, long_name}
use Rattle.lfn_index.specs.Directory.{lfn_name, entry, HasFile, IsFileOf}
use Rattle.lfn_index.specs.Changes.{aside, aside_at}
use Rattle.lfn_index.specs.Maps.{Map, IsMap, Whole, Level, LevelBut, KeepsOthersLevel, IsAside, but, without, put}
use Rattle.lfn_index.specs.Moving.{Same, Moved, Renews, LongMove, MovesAt, MovedIn, IsHome, MixedWith, ObjectMoves, ObjectMoved, renewed, moved_version}
use Rattle.lfn_index.specs.OneObject.{SameMaps, LeftMaps, HomeMaps, FileMoves, IsOff}
use Rattle.lfn_index.specs.Room.{IsRoom, Shifted, IsApart, IsSame, ObjectShifts, ObjectShifted}
use Rattle.lfn_index.proofs.Homing.{long_version, short_version}
use Rattle.lfn_index.proofs.Keeping.{off_aside, none_there}
use Rattle.lfn_index.proofs.Mapped.{nodes_view, view_map}
use Rattle.lfn_index.proofs.Once.{called_texts}
use Rattle.lfn_index.proofs.Only.{look_same}
use Rattle.lfn_index.proofs.Removing.{less, pick, pick_same, pick_other}
use Rattle.lfn_index.proofs.Replacing.{Replaces, moved_in, moved_in_is, replaced_map}
use Rattle.lfn_index.proofs.Shifting.{Departs, departed_map, departs, replaces, now_at, way_departs, comes, short_once, short_mine}

-- the map without a node, in its two forms
less_but : (n : ℕ) (x : Option ℕ) → but n x ≡ less n x
less_but n None = refl
less_but n (Some k) = elim (cases_Bool (k == n)) [
  | inl equal ↦ cond-true (k == n) None (Some k) equal ∙ sym (pick_same k n (cases_eq k n) (eqb-true k n equal))
  | inr differ ↦ cond-false (k == n) None (Some k) differ ∙ sym (pick_other k n (cases_eq k n) (λ same. let z : true ≡ false = sym (eq-eqb k n same) ∙ differ in cc))
]

map_same : (set : Settings) (t : Tree) (d : Path) (m w : Map) → ((o : Oid) → w o ≡ m o) → IsMap set t d m → IsMap set t d w
map_same set t d m w same is = record {
  files = λ o s k file. same o ∙ is.files o s k file;
  there = λ o k fits at. is.there o k fits (sym (same o) ∙ at);
  known = is.known;
}

pub left_map : (set : Settings) (d : Path) (n : ℕ) (e c : Tree) → Departs d n e c → (m : Map) → IsMap set e d m → IsMap set c d (without n m)
left_map set d n e c goes m is = map_same set c d (λ o. less n (m o)) (without n m) (λ o. less_but n (m o)) (departed_map set d n e c goes m is)

pub home_map : (set : Settings) (dir : Path) (oid : Oid) (name : List ℕ) (n : ℕ) (e c : Tree) → Replaces set dir oid name n e c → (m : Map) → IsMap set e dir m → IsMap set c dir (put (oid_text oid) n (without n m))
home_map set dir oid name n e c comes m is = map_same set c dir (moved_in set dir oid name n e c comes m is) (put (oid_text oid) n (without n m)) same (replaced_map set dir oid name n e c comes m is)
  where
    same : (o : Oid) → put (oid_text oid) n (without n m) o ≡ moved_in set dir oid name n e c comes m is o
    same o = ap (λ (x : Option ℕ). if bytes_eq (oid_text o) (oid_text oid) then Some n else x) (less_but n (m o)) ∙ sym (moved_in_is set dir oid name n e c comes m is o)

pub home_maps : (set : Settings) (dir : Path) (oid : Oid) (name : List ℕ) (n : ℕ) (e c : Tree) → Replaces set dir oid name n e c → ((d : Path) → d ≢ aside → d ≢ dir → Departs d n e c) → HomeMaps set dir oid n e c
home_maps set dir oid name n e c comes goes = record {
  here = λ m is. home_map set dir oid name n e c comes m is;
  rest = λ d m off differ is. left_map set d n e c (goes d off differ) m is;
}

own_mix : (x v y : Version) → y ≡ x → Mix x v y
own_mix x v y same = subst (λ (w : Version). Mix x v w) (sym same) (record { dir = refl; len = inl refl; byte = λ i lt. inl refl; attr = λ k. inl refl })

-- nothing has changed that stands
pub still_moves : (set : Settings) (from dir : Path) (oid : Oid) (n : ℕ) (K : Version → Version → Type 0) → ((x y : Version) → y ≡ x → K x y) → (a c : Tree) → c.at ≡ a.at → ((k : ℕ) → c.node k ≡ a.node k) → FileMoves set from dir oid n K a c
still_moves set from dir oid n K keeps a c names nodes = record {
  maps = inl (λ d m off is. view_map set d a c (nodes_view d a c (λ s. ap (λ (f : Names). f (entry d s)) names) (λ s k here. nodes k)) m is);
  own = keeps (a.node n) (c.node n) (nodes n);
  others = λ k not. nodes k;
  looks = λ q not off. look_same a c q (ap (λ (f : Names). f q) names) (λ k here. nodes k);
}

-- what is on its way leaves no damage where there was none
pub file_whole : (set : Settings) (from dir : Path) (oid : Oid) (n : ℕ) (K : Version → Version → Type 0) (old new : Disk) → Moves (FileMoves set from dir oid n K) old new → (d : Path) → d ≢ aside → Everywhere old (Whole set d) → Keeps (Whole set d) old new
file_whole set from dir oid n K old new moves d other all = weaker (From old (FileMoves set from dir oid n K)) (Whole set d) old new moves (λ c from_c.
    let was = all from_c.0 from_c.1 in
    ⊎_elim
    (λ same. (was.0, same d was.0 other was.1))
    (λ more. ⊎_elim
    (λ left. (without n was.0, left d was.0 other was.1))
    (λ home. elim (dec_path d dir) [
      | inl here ↦
          let own : IsMap set from_c.0 dir was.0 = subst (λ (x : Path). IsMap set from_c.0 x was.0) here was.1 in
          (put (oid_text oid) n (without n was.0), subst (λ (x : Path). IsMap set c x (put (oid_text oid) n (without n was.0))) (sym here) (home.here was.0 own))
      | inr differ ↦ (without n was.0, home.rest d was.0 other differ was.1)
    ]) more)
    from_c.2.maps)

-- by one rename, to a name that is the text's
module _ (set : Settings) (from dir : Path) (oid : Oid) (old : Disk) (sound : Sound old) (fits : OidFits oid) (file : IsFile old.tree from) (name : List ℕ) (at_new : Names) (moved : MovedFile from (entry dir name) old.tree.at at_new)
    (called : (e : Tree) → old.may e → e.at ≡ old.tree.at → CalledBy set (oid_text oid) name ((e.node file.0).attr lfn_name))
    (once : (e : Tree) → old.may e → e.at ≡ old.tree.at → (s : List ℕ) (k : ℕ) → k ≢ file.0 → HasFile set e dir (oid_text oid) s k → s ≡ name)
    (mine : (e : Tree) → old.may e → e.at ≡ old.tree.at → (o : Oid) (k : ℕ) → k ≢ file.0 → IsFileOf set e dir o name k → oid_text o ≡ oid_text oid) where
  pub renamed_home : (e c : Tree) → old.may e → e.at ≡ old.tree.at → c.at ≡ at_new → c.node ≡ e.node → HomeMaps set dir oid file.0 e c
  renamed_home e c may at names nodes =
      home_maps set dir oid name file.0 e c (replaces set from dir oid old sound fits file name at_new moved called once mine e c may at names nodes)
      (λ d off differ. departs set from dir oid old sound fits file name at_new moved called once mine e c may at names nodes d differ)

  pub renamed_moves : (K : Version → Version → Type 0) → ((x y : Version) → y ≡ x → K x y) → (new : Disk) → Leaves (Named at_new) old new → Moves (FileMoves set from dir oid file.0 K) old new
  renamed_moves K keeps new leaves = weaker (From old (Named at_new)) (From old (FileMoves set from dir oid file.0 K)) old new leaves.any_moment (λ c from_c.
      let a = from_c.0 in
      let is = from_c.2 in
      ⊎_elim
      (λ same. (a, from_c.1, still_moves set from dir oid file.0 K keeps a c same (λ k. ap (λ (f : ℕ → Version). f k) is.nodes)))
      (λ new_names. (record a { at = old.tree.at }, names_now old sound a from_c.1, goes (record a { at = old.tree.at }) c (names_now old sound a from_c.1) refl new_names is.nodes))
      is.names)
    where
      goes : (e c : Tree) → old.may e → e.at ≡ old.tree.at → c.at ≡ at_new → c.node ≡ e.node → FileMoves set from dir oid file.0 K e c
      goes e c may at names nodes = record {
        maps = inr (inr (renamed_home e c may at names nodes));
        own = keeps (e.node file.0) (c.node file.0) (ap (λ (f : ℕ → Version). f file.0) nodes);
        others = λ k not. ap (λ (f : ℕ → Version). f k) nodes;
        looks = λ q not off. look_same e c q (now_at set from dir oid old sound fits file name at_new moved called once mine e c may at names nodes q not (off.0 name)) (λ k here. ap (λ (f : ℕ → Version). f k) nodes);
      }

-- by way of the place aside
module _ (set : Settings) (from : Path) (name : List ℕ) (dir : Path) (oid : Oid) (old : Disk) (sound : Sound old) (fits : OidFits oid) (n : ℕ) (from_is : old.tree.at from ≡ Some n) (file : (old.tree.node n).dir ≡ false)
    (by_way : Names) (way : MovedFile from (entry aside name) old.tree.at by_way) where
  way_looks : (e c : Tree) → old.may e → e.at ≡ old.tree.at → ((m : ℕ) → m ≢ n → c.node m ≡ e.node m) → (q : Path) → q ≢ from → q ≢ entry aside name → c.at q ≡ by_way q → look c q ≡ look e q
  way_looks e c may at others q not off is = look_same e c q (is ∙ way.others q not off ∙ sym (ap (λ (f : Names). f q) at))
      (λ k here. others k (λ same. not (sound.single e q from n may (here ∙ ap Some same) (ap (λ (f : Names). f from) at ∙ from_is))))

  pub way_moves : (K : Version → Version → Type 0) (e c : Tree) → old.may e → e.at ≡ old.tree.at → ((m : ℕ) → m ≢ n → c.node m ≡ e.node m) → c.at ≡ by_way → K (e.node n) (c.node n) → FileMoves set from dir oid n K e c
  way_moves K e c may at others names own = record {
    maps = inr (inl (λ d m off is. left_map set d n e c (way_departs set from name oid old old sound fits n from_is file by_way way d off e c may at others (λ s. ap (λ (f : Names). f (entry d s)) names)) m is));
    own = own;
    others = others;
    looks = λ q not off. way_looks e c may at others q not (off.1 name) (ap (λ (f : Names). f q) names);
  }

module _ (set : Settings) (from : Path) (name : List ℕ) (dir : Path) (oid : Oid) (old new : Disk) (sound : Sound old) (fits : OidFits oid) (file : IsFile old.tree from) (other : dir ≢ aside) (level : Level dir old) (whole : Whole set dir old.tree) where
  abbrev text : List ℕ
  text = oid_text oid

  abbrev place : Path
  place = entry aside name

  kind_of : (n : ℕ) → old.tree.at from ≡ Some n → (old.tree.node n).dir ≡ false
  kind_of n is = subst (λ (k : ℕ). (old.tree.node k).dir ≡ false) (same_some file.0 n (sym file.1 ∙ is)) file.2

  all_nodes : (n : ℕ) (a c : Tree) → c.node n ≡ a.node n → ((m : ℕ) → m ≢ n → c.node m ≡ a.node m) → (k : ℕ) → c.node k ≡ a.node k
  all_nodes n a c own others k = elim (cases_eq k n) [
    | inl same ↦ subst (λ (x : ℕ). c.node x ≡ a.node x) (sym same) own
    | inr not ↦ others k not
  ]

  mixed : 200 < length (oid_text oid) → (n : ℕ) (x y : Version) → Mix x (renewed (oid_text oid) (old.tree.node n)) y → MixedWith (oid_text oid) (old.tree.node n) x y
  mixed long n x y is = subst (λ (v : Version). Mix x v y) (sym (long_version (oid_text oid) (old.tree.node n) long)) is

  renews_moves : 200 < length (oid_text oid) → (is : Renews from (entry aside name) (oid_text oid) old new) → Moves (FileMoves set from dir oid is.0 (MixedWith (oid_text oid) (old.tree.node is.0))) old new
  renews_moves long is =
      let n = is.0 in
      let K = MixedWith (oid_text oid) (old.tree.node is.0) in
      weaker (From old (Moved is.2 is.2 is.0 (renewed (oid_text oid) (old.tree.node is.0)) (oid_text oid))) (From old (FileMoves set from dir oid is.0 K)) old new is.4.any_moment (λ c from_c.
      let a = from_c.0 in
      let e = record a { at = old.tree.at } in
      let may_e = names_now old sound a from_c.1 in
      let gone : c.at ≡ is.2 → Mix (a.node is.0) (renewed (oid_text oid) (old.tree.node is.0)) (c.node is.0) → From old (FileMoves set from dir oid is.0 K) c =
      λ names mix. (e, may_e, way_moves set from name dir oid old sound fits n is.1 (kind_of is.0 is.1) is.2 is.3 K e c may_e refl from_c.2.others names (mixed long is.0 (a.node is.0) (c.node is.0) mix)) in
      ⊎_elim
      (λ same. (a, from_c.1, still_moves set from dir oid n K (λ x y eq. own_mix x _ y eq) a c same.0 (all_nodes n a c same.1 from_c.2.others)))
      (λ more. ⊎_elim (λ there. gone there.0 there.1) (λ there. gone there.0 there.1) more) from_c.2.state)

  home_moves : 200 < length (oid_text oid) → (move : LongMove set from (entry aside name) dir (oid_text oid) old new) → Moves (FileMoves set from dir oid move.n (MixedWith (oid_text oid) (old.tree.node move.n))) old new
  home_moves long move =
      weaker (From old (Moved move.by_way move.there move.n (renewed (oid_text oid) (old.tree.node move.n)) (oid_text oid))) (From old (FileMoves set from dir oid move.n (MixedWith (oid_text oid) (old.tree.node move.n)))) old new move.leaves.any_moment (λ c from_c.
      let a = from_c.0 in
      let e = record a { at = old.tree.at } in
      let may_e = names_now old sound a from_c.1 in
      let mix : Mix (a.node move.n) (renewed (oid_text oid) (old.tree.node move.n)) (c.node move.n) → MixedWith (oid_text oid) (old.tree.node move.n) (a.node move.n) (c.node move.n) = mixed long move.n (a.node move.n) (c.node move.n) in
      ⊎_elim
      (λ same. (a, from_c.1, still_moves set from dir oid move.n (MixedWith (oid_text oid) (old.tree.node move.n)) (λ x y eq. own_mix x _ y eq) a c same.0 (all_nodes move.n a c same.1 from_c.2.others)))
      (λ more. ⊎_elim
      (λ way. (e, may_e, way_moves set from name dir oid old sound fits move.n move.from_is kind move.by_way move.aside (MixedWith (oid_text oid) (old.tree.node move.n)) e c may_e refl from_c.2.others way.0 (mix way.1)))
      (λ there. (e, may_e, home e c may_e refl from_c.2.others there.0 there.1.dir there.2 (mix there.1))) more) from_c.2.state)
    where
      kind : (old.tree.node move.n).dir ≡ false
      kind = kind_of move.n move.from_is

      home : (e c : Tree) → old.may e → e.at ≡ old.tree.at → ((m : ℕ) → m ≢ move.n → c.node m ≡ e.node m) → c.at ≡ move.there → (c.node move.n).dir ≡ (e.node move.n).dir → (c.node move.n).attr lfn_name ≡ Some (oid_text oid)
          → MixedWith (oid_text oid) (old.tree.node move.n) (e.node move.n) (c.node move.n) → FileMoves set from dir oid move.n (MixedWith (oid_text oid) (old.tree.node move.n)) e c
      home e c may at others names dirs has own = record {
        maps = inr (inr (home_maps set dir oid move.step move.n e c (comes set from name dir oid old new sound fits file long move other level whole e c may at others names dirs has)
            (λ d off differ. way_departs set from name oid old old sound fits move.n move.from_is kind move.by_way move.aside d off e c may at others
            (λ s. ap (λ (f : Names). f (entry d s)) names ∙ move.home.others (entry d s) (off_aside name d off s) (λ same. differ (same_from_push d dir s move.step same).0)))));
        own = own;
        others = others;
        looks = λ q not off. way_looks set from name dir oid old sound fits move.n move.from_is kind move.by_way move.aside e c may at others q not (off.1 name)
            (ap (λ (f : Names). f q) names ∙ move.home.others q (off.1 name) (off.0 move.step));
      }

  short_moves : length (oid_text oid) ≤ 200 → (at_new : Names) → MovedFile from (entry dir (oid_text oid)) old.tree.at at_new → Leaves (Named at_new) old new → Moves (FileMoves set from dir oid file.0 (MixedWith (oid_text oid) (old.tree.node file.0))) old new
  short_moves short at_new moved leaves =
      renamed_moves set from dir oid old sound fits file (oid_text oid) at_new moved (λ e may at. inl (short, refl)) (λ e may at s k differ own. short_once set e dir (oid_text oid) s k short own)
      (λ e may at o k differ own. short_mine set e dir o oid k short own) (MixedWith (oid_text oid) (old.tree.node file.0)) (λ x y same. own_mix x _ y same) new leaves

  abbrev Goal : ℕ → Type 0
  Goal n = Moves (FileMoves set from dir oid n (MixedWith (oid_text oid) (old.tree.node n))) old new

  pub moves_object : MovesAt set from (entry aside name) dir (oid_text oid) old new → (n : ℕ) → old.tree.at from ≡ Some n → Moves (FileMoves set from dir oid n (MixedWith (oid_text oid) (old.tree.node n))) old new
  moves_object (inl same) n is =
      weaker (From old Same) (From old (FileMoves set from dir oid n (MixedWith (oid_text oid) (old.tree.node n)))) old new same.any_moment
      (λ c from_c. (from_c.0, from_c.1, still_moves set from dir oid n (MixedWith (oid_text oid) (old.tree.node n)) (λ x y eq. own_mix x _ y eq) from_c.0 c (ap (λ (t : Tree). t.at) from_c.2) (λ k. ap (λ (t : Tree). t.node k) from_c.2)))
  moves_object (inr (inl move)) n is = subst Goal (same_some file.0 n (sym file.1 ∙ is)) (short_moves move.0 move.1.at move.1.moved move.1.leaves)
  moves_object (inr (inr more)) n is = ⊎_elim
      (λ renews. subst Goal (same_some renews.0 n (sym renews.1 ∙ is)) (renews_moves more.0 renews))
      (λ move. subst Goal (same_some move.n n (sym move.from_is ∙ is)) (home_moves more.0 move))
      more.1

-- As it reads. Where it came, stood a file of the text or none.
module _ (set : Settings) (from : Path) (name : List ℕ) (dir : Path) (oid : Oid) (old : Disk) (now : Tree) (sound : Sound old) (fits : OidFits oid) (other : dir ≢ aside) (p : Path) (done : MovedIn set from (entry aside name) old.tree now dir (oid_text oid) p)
    (home : 200 < length (oid_text oid) → IsHome set from old.tree now dir (oid_text oid) p) where
  abbrev t : Tree
  t = old.tree

  abbrev n : ℕ
  n = done.n

  spot : now.at p ≡ Some done.n
  spot = ap now.at done.path ∙ done.file.here

  -- what stands now anywhere but there and aside, stood there
  was : (q : Path) (k : ℕ) → q ≢ p → q ≢ entry aside name → now.at q ≡ Some k → (old.tree.at q ≡ Some k) × (k ≢ done.n)
  was q k not off here =
      let away : q ≢ from = λ same. let z : None ≡ Some k = sym (done.gone (λ onto. not (same ∙ onto))) ∙ ap now.at (sym same) ∙ here in cc in
      let stood : old.tree.at q ≡ Some k = sym (done.others q away off not) ∙ here in
      (stood, λ same. away (sound.single old.tree q from done.n sound.now (stood ∙ ap Some same) done.from_is))

  kept : (q : Path) (k : ℕ) → q ≢ p → q ≢ entry aside name → old.tree.at q ≡ Some k → k ≢ done.n → now.at q ≡ Some k
  kept q k not off here differ =
      let away : q ≢ from = λ same. let z : Some k ≡ Some done.n = sym here ∙ ap old.tree.at same ∙ done.from_is in differ cc in
      done.others q away off not ∙ here

  off_spot : (s : List ℕ) → s ≢ done.step → entry dir s ≢ p
  off_spot s not same = not (same_from_push dir dir s done.step (same ∙ done.path)).1

  gone : (d : Path) → d ≢ aside → d ≢ dir → Departs d done.n old.tree now
  gone d off differ = record {
    was = λ s k here. was (entry d s) k (λ same. differ (same_from_push d dir s done.step (same ∙ done.path)).0) (off_aside name d off s) here;
    kept = λ s k here not. kept (entry d s) k (λ same. differ (same_from_push d dir s done.step (same ∙ done.path)).0) (off_aside name d off s) here not;
    nodes = λ s k here not. done.nodes k not;
  }

  short_step : length (oid_text oid) ≤ 200 → done.step ≡ oid_text oid
  short_step short = ⊎_elim (λ own. own.1) (λ long. absurd (omega (arith, long.0, short))) done.file.called

  once : Whole set dir old.tree → (s : List ℕ) (k : ℕ) → k ≢ done.n → HasFile set old.tree dir (oid_text oid) s k → s ≡ done.step
  once whole s k differ own = ⊎_elim
      (λ short. short_once set old.tree dir (oid_text oid) s k short.0 own ∙ sym (short_step short.0))
      (λ long. ⊎_elim
      (λ there.
      let same : k ≡ there.1 = same_some k there.1 (sym (whole.1.files oid s k (fits, own)) ∙ whole.1.files oid there.0 there.1 (fits, there.3)) in
      let steps : s ≡ there.0 = (same_from_push dir dir s there.0 (sound.single old.tree (entry dir s) (entry dir there.0) there.1 sound.now (own.here ∙ ap Some same) there.3.here)).1 in
      steps ∙ (same_from_push dir dir there.0 done.step (sym there.2 ∙ done.path)).1)
      (λ free. absurd (differ (same_some k done.n (sym own.here ∙ ap old.tree.at (free.0 s k own) ∙ done.from_is))))
      (home long.0)) done.file.called

  mine : (o : Oid) (k : ℕ) → k ≢ done.n → IsFileOf set old.tree dir o done.step k → oid_text o ≡ oid_text oid
  mine o k differ own = ⊎_elim
      (λ short. short_mine set old.tree dir o oid k short.0 (subst (λ (s : List ℕ). IsFileOf set old.tree dir o s k) short.1 own))
      (λ long. mine_long o k differ own (home long.0)) done.file.called
    where
      mine_long : (o : Oid) (k : ℕ) → k ≢ done.n → IsFileOf set old.tree dir o done.step k → IsHome set from old.tree now dir (oid_text oid) p → oid_text o ≡ oid_text oid
      mine_long o k differ own (inl there) =
          let steps : there.0 ≡ done.step = (same_from_push dir dir there.0 done.step (sym there.2 ∙ done.path)).1 in
          let file : HasFile set old.tree dir (oid_text oid) done.step there.1 = subst (λ (s : List ℕ). HasFile set old.tree dir (oid_text oid) s there.1) steps there.3 in
          called_texts set o oid done.step _ own.1.called (subst (λ (x : ℕ). CalledBy set (oid_text oid) done.step ((old.tree.node x).attr lfn_name)) (same_some there.1 k (sym file.here ∙ own.1.here)) file.called)
      mine_long o k differ own (inr free) =
          let here : old.tree.at p ≡ Some k = ap old.tree.at done.path ∙ own.1.here in
          absurd (elim (dec_path p from) [
            | inl same ↦ differ (same_some k done.n (sym here ∙ ap old.tree.at same ∙ done.from_is))
            | inr not ↦ let z : None ≡ Some k = sym (free.1 not) ∙ here in cc
          ])

  moved_here : Whole set dir old.tree → HomeMaps set dir oid done.n old.tree now
  moved_here whole = home_maps set dir oid done.step done.n old.tree now comes_now gone
    where
      comes_now : Replaces set dir oid done.step done.n old.tree now
      comes_now = record {
        fits = fits;
        file = done.file;
        was = λ s k not here. was (entry dir s) k (off_spot s not) (off_aside name dir other s) here;
        kept = λ s k not here differ. kept (entry dir s) k (off_spot s not) (off_aside name dir other s) here differ;
        nodes = λ s k here differ. done.nodes k differ;
        once = once whole;
        mine = mine;
      }

  pub moved_object : ObjectMoved set from dir oid old.tree now
  moved_object m is whole = subst (λ (k : ℕ). HomeMaps set dir oid k old.tree now) (same_some done.n m (sym done.from_is ∙ is)) (moved_here whole)

-- a file that moved leaves all others where they stood
pub moved_back : (from to : Path) (old new : Names) (n : ℕ) → MovedFile from to old new → old from ≡ Some n → (q : Path) (k : ℕ) → k ≢ n → new q ≡ Some k → old q ≡ Some k
moved_back from to old new n moved is q k not here = elim (dec_path q to) [
  | inl same ↦ let z : Some k ≡ Some n = sym here ∙ ap new same ∙ moved.moved ∙ is in absurd (not cc)
  | inr differ ↦ elim (dec_path q from) [
    | inl same ↦ let z : None ≡ Some k = sym (moved.gone (λ onto. differ (same ∙ onto))) ∙ ap new (sym same) ∙ here in cc
    | inr away ↦ sym (moved.others q away differ) ∙ here
  ]
]

-- From an image before: nodes but n are the same, and stand where they stood there or as it read.
pub record Traces (n : ℕ) (t a c : Tree) : Type 0 where
  pub others : (k : ℕ) → k ≢ n → c.node k ≡ a.node k
  pub at : ((q : Path) (k : ℕ) → k ≢ n → c.at q ≡ Some k → a.at q ≡ Some k) ⊎ ((q : Path) (k : ℕ) → k ≢ n → c.at q ≡ Some k → t.at q ≡ Some k)

still_traces : (n : ℕ) (t a c : Tree) → c.at ≡ a.at → ((k : ℕ) → k ≢ n → c.node k ≡ a.node k) → Traces n t a c
still_traces n t a c names others = record { others = others; at = inl (λ q k not here. sym (ap (λ (f : Names). f q) names) ∙ here) }

pub named_traces : (from to : Path) (old : Disk) (n : ℕ) → old.tree.at from ≡ Some n → (at_new : Names) → MovedFile from to old.tree.at at_new → (a c : Tree) → Named at_new a c → Traces n old.tree a c
named_traces from to old n is at_new moved a c named = record {
  others = λ k not. ap (λ (f : ℕ → Version). f k) named.nodes;
  at = ⊎_elim
      (λ same. inl (λ q k not here. sym (ap (λ (f : Names). f q) same) ∙ here))
      (λ names. inr (λ q k not here. moved_back from to old.tree.at at_new n moved is q k not (sym (ap (λ (f : Names). f q) names) ∙ here)))
      named.names;
}

pub level_but : (n : ℕ) (R : Tree → Tree → Type 0) (old new : Disk) → Sound old → Sound new → ((a c : Tree) → R a c → Traces n old.tree a c) → Moves R old new → ((k : ℕ) → k ≢ n → new.tree.node k ≡ old.tree.node k)
    → (d : Path) → ((s : List ℕ) (k : ℕ) → k ≢ n → new.tree.at (entry d s) ≡ Some k → old.tree.at (entry d s) ≡ Some k) → Level d old → LevelBut n d new
level_but n R old new s0 s1 traces moves nodes d back level = record {
  alone = λ c s q k not may here there.
      let from = now_from (From old R) old new s1 moves c may in
      ⊎_elim
      (λ own. level.alone from.0 s q k from.1 (back s k not here) (own q k not there))
      (λ read. level.alone old.tree s q k s0.now (back s k not here) (read q k not there))
      (traces from.0 c from.2).at;
  called = λ c s k not may here.
      let from = now_from (From old R) old new s1 moves c may in
      ap (λ (v : Version). v.attr lfn_name) ((traces from.0 c from.2).others k not) ∙ level.called from.0 s k from.1 (back s k not here) ∙ sym (ap (λ (v : Version). v.attr lfn_name) (nodes k not));
}

module _ (set : Settings) (from : Path) (name : List ℕ) (dir : Path) (oid : Oid) (old new : Disk) (s0 : Sound old) (s1 : Sound new) (p : Path) (done : MovedIn set from (entry aside name) old.tree new.tree dir (oid_text oid) p) where
  back : (d : Path) → d ≢ aside → (s : List ℕ) (k : ℕ) → k ≢ done.n → new.tree.at (entry d s) ≡ Some k → old.tree.at (entry d s) ≡ Some k
  back d off s k differ here =
      let not : entry d s ≢ p = λ same. let z : Some k ≡ Some done.n = sym here ∙ ap new.tree.at (same ∙ done.path) ∙ done.file.here in differ cc in
      let away : entry d s ≢ from = λ same. let z : None ≡ Some k = sym (done.gone (λ onto. not (same ∙ onto))) ∙ ap new.tree.at (sym same) ∙ here in cc in
      sym (done.others (entry d s) away (off_aside name d off s) not) ∙ here

  way_traces : (by_way there : Names) (v : Version) (n : ℕ) → old.tree.at from ≡ Some n → MovedFile from (entry aside name) old.tree.at by_way → ((q : Path) (k : ℕ) → k ≢ n → there q ≡ Some k → by_way q ≡ Some k)
      → (a c : Tree) → Moved by_way there n v (oid_text oid) a c → Traces n old.tree a c
  way_traces by_way there v n is way onward a c moved = record {
    others = moved.others;
    at = ⊎_elim
        (λ same. inl (λ q k not here. sym (ap (λ (f : Names). f q) same.0) ∙ here))
        (λ more. ⊎_elim
        (λ on. inr (λ q k not here. moved_back from (entry aside name) old.tree.at by_way n way is q k not (sym (ap (λ (f : Names). f q) on.0) ∙ here)))
        (λ home. inr (λ q k not here. moved_back from (entry aside name) old.tree.at by_way n way is q k not (onward q k not (sym (ap (λ (f : Names). f q) home.0) ∙ here)))) more)
        moved.state;
  }

  at_level : (n : ℕ) → n ≡ done.n → (R : Tree → Tree → Type 0) → ((a c : Tree) → R a c → Traces n old.tree a c) → Moves R old new → (d : Path) → d ≢ aside → Level d old → LevelBut n d new
  at_level n same R traces moves d off level = level_but n R old new s0 s1 traces moves (λ k not. done.nodes k (λ is. not (is ∙ sym same))) d (λ s k not here. back d off s k (λ is. not (is ∙ sym same)) here) level

  pub moved_level : MovesAt set from (entry aside name) dir (oid_text oid) old new → KeepsOthersLevel from old new
  moved_level (inl same) n is d off level =
      at_level n (same_some n done.n (sym is ∙ done.from_is)) Same (λ a c eq. still_traces n old.tree a c (ap (λ (t : Tree). t.at) eq) (λ k not. ap (λ (t : Tree). t.node k) eq)) same.any_moment d off level
  moved_level (inr (inl move)) n is d off level =
      at_level n (same_some n done.n (sym is ∙ done.from_is)) (Named move.1.at) (λ a c named. named_traces from (entry dir (oid_text oid)) old n is move.1.at move.1.moved a c named) move.1.leaves.any_moment d off level
  moved_level (inr (inr more)) n is d off level = ⊎_elim
      (λ renews.
      let same : renews.0 ≡ n = same_some renews.0 n (sym renews.1 ∙ is) in
      let v = renewed (oid_text oid) (old.tree.node renews.0) in
      subst (λ (k : ℕ). LevelBut k d new) same
      (at_level renews.0 (same_some renews.0 done.n (sym renews.1 ∙ done.from_is)) (Moved renews.2 renews.2 renews.0 v (oid_text oid)) (way_traces renews.2 renews.2 v renews.0 renews.1 renews.3 (λ q k not here. here)) renews.4.any_moment d off level))
      (λ move.
      let same : move.n ≡ n = same_some move.n n (sym move.from_is ∙ is) in
      let v = renewed (oid_text oid) (old.tree.node move.n) in
      subst (λ (k : ℕ). LevelBut k d new) same
      (at_level move.n (same_some move.n done.n (sym move.from_is ∙ done.from_is)) (Moved move.by_way move.there move.n v (oid_text oid))
      (way_traces move.by_way move.there v move.n move.from_is move.aside (λ q k not here. moved_back (entry aside name) (entry dir move.step) move.by_way move.there move.n move.home (move.aside.moved ∙ move.from_is) q k not here)) move.leaves.any_moment d off level))
      more.1

-- within a collection
module _ (set : Settings) (from dir : Path) (oid : Oid) (step : List ℕ) (old : Disk) (sound : Sound old) (fits : OidFits oid) (file : IsFile old.tree from) (p : Path) (room : IsRoom set old.tree dir (oid_text oid) step p) (n : ℕ)
    (own : IsApart set from dir oid step n old) (at_new : Names) (given : MovedFile from p old.tree.at at_new) where
  shift_to : MovedFile from (entry dir room.0) old.tree.at at_new
  shift_to = subst (λ (q : Path). MovedFile from q old.tree.at at_new) room.1 given

  from_is : old.tree.at from ≡ Some n
  from_is = ap old.tree.at own.path ∙ own.file.here

  node_is : n ≡ file.0
  node_is = same_some n file.0 (sym from_is ∙ file.1)

  called_there : (e : Tree) → old.may e → e.at ≡ old.tree.at → CalledBy set (oid_text oid) room.0 ((e.node file.0).attr lfn_name)
  called_there e may at =
      let reads : (e.node n).attr lfn_name ≡ (old.tree.node n).attr lfn_name = own.level.called e step n may own.file.here in
      subst (λ (k : ℕ). CalledBy set (oid_text oid) room.0 ((e.node k).attr lfn_name)) node_is
      (subst (λ (x : Option (List ℕ)). CalledBy set (oid_text oid) room.0 x) (sym reads) (room.3 ((old.tree.node n).attr lfn_name) own.file.called))

  once_there : (e : Tree) → old.may e → e.at ≡ old.tree.at → (s : List ℕ) (k : ℕ) → k ≢ file.0 → HasFile set e dir (oid_text oid) s k → s ≡ room.0
  once_there e may at s k differ has = absurd (none_there set step dir oid old old sound fits own.absent own.target e may at s k has)

  mine_there : (e : Tree) → old.may e → e.at ≡ old.tree.at → (o : Oid) (k : ℕ) → k ≢ file.0 → IsFileOf set e dir o room.0 k → oid_text o ≡ oid_text oid
  mine_there e may at o k differ has = absurd (let z : None ≡ Some k = sym room.2 ∙ ap old.tree.at room.1 ∙ sym (ap (λ (f : Names). f (entry dir room.0)) at) ∙ has.1.here in cc)

  pub shift_moves : (new : Disk) → Leaves (Named at_new) old new → Moves (FileMoves set from dir oid n IsSame) old new
  shift_moves new leaves = subst (λ (k : ℕ). Moves (FileMoves set from dir oid k IsSame) old new) (sym node_is)
      (renamed_moves set from dir oid old sound fits file room.0 at_new shift_to called_there once_there mine_there IsSame (λ x y same. same) new leaves)

  pub shift_reads : (now : Tree) → now.at ≡ at_new → now.node ≡ old.tree.node → HomeMaps set dir oid n old.tree now
  shift_reads now names nodes = subst (λ (k : ℕ). HomeMaps set dir oid k old.tree now) (sym node_is)
      (renamed_home set from dir oid old sound fits file room.0 at_new shift_to called_there once_there mine_there old.tree now sound.now refl names nodes)

pub shift_still : (set : Settings) (from dir : Path) (oid : Oid) (step : List ℕ) (old new : Disk) → Leaves Same old new → ObjectShifts set from dir oid step old new
shift_still set from dir oid step old new same n own =
    weaker (From old Same) (From old (FileMoves set from dir oid n IsSame)) old new same.any_moment
    (λ c from_c. (from_c.0, from_c.1, still_moves set from dir oid n IsSame (λ x y eq. eq) from_c.0 c (ap (λ (t : Tree). t.at) from_c.2) (λ k. ap (λ (t : Tree). t.node k) from_c.2)))

-- the others are level still
pub shift_level : (from p : Path) (old new : Disk) → Sound old → Sound new → (at_new : Names) → MovedFile from p old.tree.at at_new → Leaves (Named at_new) old new → new.tree.at ≡ at_new → new.tree.node ≡ old.tree.node → KeepsOthersLevel from old new
shift_level from p old new s0 s1 at_new moved leaves names nodes n is d off level =
    level_but n (Named at_new) old new s0 s1 (λ a c named. named_traces from p old n is at_new moved a c named) leaves.any_moment (λ k not. ap (λ (f : ℕ → Version). f k) nodes) d
    (λ s k not here. moved_back from p old.tree.at at_new n moved is (entry d s) k not (sym (ap (λ (f : Names). f (entry d s)) names) ∙ here)) level

-- by what equals the place and the text
pub moved_along : (set : Settings) (pos : Pos) (from dir p : Path) (words own : List ℕ) (t now : Tree) → p ≡ aside_at pos → words ≡ own → (q : Path) → MovedIn set from p t now dir words q → MovedIn set from (aside_at pos) t now dir own q
moved_along set pos from dir p words own t now place is q moved =
    subst (λ (x : Path). MovedIn set from x t now dir own q) place (subst (λ (x : List ℕ). MovedIn set from p t now dir x q) is moved)
