-- What stands between operations stands again after a step.
use Rattle.std.proofs.Common.{◌≡◌, ◌≢◌, ◌⊎◌, inl, inr, ⊎_elim, ℕ, ◌<◌, ◌≤◌, ◌++◌, ◌∷◌, [], List, length, codes, false, sym, ◌∙◌, ap, refl, subst, arith, Option, Some, None}
use Rattle.std.proofs.lemmas.Bool.{cases_eq, cases_lt}
use Rattle.std.proofs.lemmas.List.{same_from_push}
use Rattle.fs_names.specs.declared.coll.Coll.{Coll}
use Rattle.fs_names.specs.declared.settings.Settings.{Settings}
use Rattle.fs_names.specs.declared.settings.Pos.{Pos}
use Rattle.fs_names.specs.Reading.{CollFits}
use Rattle.fs_names.specs.Text.{oid_text, coll_text}
use Rattle.tree_api.specs.Tree.{Path, Version, Tree, Names, held, look, IsDir, IsFree, current}
use Rattle.tree_api.specs.Disk.{Disk, Sound, Stays, From, Everywhere, Leaves}
use Rattle.tree_api.specs.Renaming.{Removes}
use Rattle.tree_api.proofs.Moments.{now_from}
use Rattle.tree_api.proofs.Nodes.{dec_path}
use Rattle.lfn_index.specs.Directory.{lfn_name, entry}
use Rattle.lfn_index.specs.Changes.{aside, aside_at, place_name, new_file, MadeAt}
use Rattle.lfn_index.specs.Maps.{Level, AttrLevel, KeepsLevel, KeepsAttrs}
use Rattle.lfn_index.specs.OneObject.{OnlyOne, StaysOr, OneGoes}
use Rattle.lfn_index.proofs.Keeping.{new_kind}
use Rattle.replay_guard.specs.Guards.{guard_name}
use Rattle.tree_stands.specs.Names.{Name, NameFits}
use Rattle.tree_stands.specs.Trees.{dir_of, dir_guard, AllWhole, GuardsLevel, ForObject}
use Rattle.tree_stands.proofs.Only.{off_aside, only_object}
use Rattle.op_effects.specs.Ready.{HasColls, OffStays, Ready}

pub shorter : (c d : List ℕ) (step : List ℕ) → current ++ c ∷ [] ≢ entry (current ++ d ∷ []) step
shorter c d step same = let e : 2 ≡ 3 = ap length same in absurd (omega (arith, e))

-- what stands at the path of a collection stands there still
pub dir_stays : (c d : Coll) (e f : Tree) → OffStays (dir_of c) e f → IsDir e (dir_of d) → IsDir f (dir_of d)
dir_stays c d e f stays is = by (f.at (dir_of d)) refl
  where
    same : look f (dir_of d) ≡ Some (e.node is.0)
    same = stays (dir_of d) ((λ s. shorter (coll_text d) (coll_text c) s), (λ s. shorter (coll_text d) (codes "aside") s)) ∙ ap (λ (x : Option ℕ). held x e.node) is.1

    by : (x : Option ℕ) → f.at (dir_of d) ≡ x → IsDir f (dir_of d)
    by None here = let z : None ≡ Some (e.node is.0) = sym (ap (λ (x : Option ℕ). held x f.node) here) ∙ same in cc
    by (Some n) here =
        let z : Some (f.node n) ≡ Some (e.node is.0) = sym (ap (λ (x : Option ℕ). held x f.node) here) ∙ same in
        let v : f.node n ≡ e.node is.0 = cc in
        (n, here, ap (λ (w : Version). w.dir) v ∙ is.2)

-- calls that change nothing
module _ (d0 d1 : Disk) (stays : Stays d0 d1) where
  same_at : (q : Path) (k : ℕ) → d1.tree.at q ≡ Some k → d0.tree.at q ≡ Some k
  same_at q k here = sym (ap (λ (t : Tree). t.at q) stays.tree) ∙ here

  attr_stays : (key : List ℕ) (dir : Path) → AttrLevel key dir d0 → AttrLevel key dir d1
  attr_stays key dir level c s k may here = level c s k (stays.image c may) (same_at (entry dir s) k here) ∙ sym (ap (λ (t : Tree). (t.node k).attr key) stays.tree)

  level_stays : (dir : Path) → Level dir d0 → Level dir d1
  level_stays dir level = record {
    alone = λ c s q k may here there. level.alone c s q k (stays.image c may) (same_at (entry dir s) k here) there;
    called = attr_stays lfn_name dir level.called;
  }

  pub ready_stays : (set : Settings) → Ready set d0 → Ready set d1
  ready_stays set ready = record {
    dir = subst (λ (t : Tree). IsDir t (current ++ codes "aside" ∷ [])) (sym stays.tree) ready.dir;
    places = λ step. subst (λ (t : Tree). IsFree t (entry (current ++ codes "aside" ∷ []) step)) (sym stays.tree) (ready.places step);
    whole = λ c may. ready.whole c (stays.image c may);
    colls = λ c may. subst (λ (t : Tree). HasColls t c) (sym stays.tree) (ready.colls c (stays.image c may));
    level = λ c fits. level_stays (dir_of c) (ready.level c fits);
    guards = λ c fits. attr_stays guard_name (dir_of c) (ready.guards c fits);
  }

module _ (set : Settings) (n : Name) (fits : NameFits n) where
  -- a step on one object
  module _ (K : Option Version → Option Version → Type 0) (d0 d1 : Disk) (s1 : Sound d1) (ready : Ready set d0) (goes : Leaves (OnlyOne set (dir_of n.coll) n.oid K) d0 d1) where
    came : (c : Tree) → d1.may c → From d0 (ForObject set n K) c
    came c may =
        let from = now_from (From d0 (OnlyOne set (dir_of n.coll) n.oid K)) d0 d1 s1 goes.any_moment c may in
        (from.0, from.1, only_object set n fits K from.0 c from.2)

    whole_next : Everywhere d1 (AllWhole set)
    whole_next c may coll of_coll =
        let from = came c may in
        let was = ready.whole from.0 from.1 coll of_coll in
        let now = (from.2 coll of_coll).objects was.0 was.1 in
        (now.0, now.1)

    dir_next : (coll : Coll) → CollFits coll → dir_guard d1.tree coll ≡ dir_guard d0.tree coll
    dir_next coll of_coll = (only_object set n fits K d0.tree d1.tree goes.now coll of_coll).dir

    colls_next : Everywhere d1 (HasColls d1.tree)
    colls_next c may coll of_coll there =
        let from = came c may in
        (from.2 coll of_coll).dir ∙ ready.colls from.0 from.1 coll of_coll (λ none. there (dir_next coll of_coll ∙ none)) ∙ sym (dir_next coll of_coll)

    pub ready_next : IsDir d1.tree aside → ((step : List ℕ) → IsFree d1.tree (entry aside step)) → ((c : Coll) → CollFits c → Level (dir_of c) d1) → ((c : Coll) → CollFits c → GuardsLevel (dir_of c) d1) → Ready set d1
    ready_next is_dir free level guards = record { dir = is_dir; places = free; whole = whole_next; colls = colls_next; level = level; guards = guards }

  -- the object's file has come
  module _ (pos : Pos) (d1 d2 : Disk) (s2 : Sound d2) (ready : Ready set d1) (p : Path) (made : MadeAt set (aside_at pos) (dir_of n.coll) (oid_text n.oid) d1 d2 p)
      (one : OneGoes set (dir_of n.coll) n.oid (Some (new_file (oid_text n.oid))) d1 d2) (levels : KeepsLevel d1 d2) (attrs : KeepsAttrs d1 d2) where
    apart_aside : aside ≢ p
    apart_aside same = shorter (codes "aside") (coll_text n.coll) made.making.step (same ∙ made.path)

    apart_place : aside ≢ aside_at pos
    apart_place same = shorter (codes "aside") (codes "aside") (place_name pos) same

    apart_in : (s : List ℕ) → entry aside s ≢ p
    apart_in s same = off_aside n.coll fits.coll (sym (same_from_push aside (dir_of n.coll) s made.making.step (same ∙ made.path)).0)

    aside_made : IsDir d2.tree aside
    aside_made =
        let was = ready.dir in (
          was.0,
          made.names.others aside apart_aside (λ long. apart_place) ∙ was.1,
          ap (λ (v : Version). v.dir) (made.making.leaves.now.others was.0 (λ same. made.making.away aside apart_place (was.1 ∙ ap Some same))) ∙ was.2,
        )

    kind : (k : ℕ) → (d1.tree.node k).dir ≡ false → (d2.tree.node k).dir ≡ false
    kind k was = elim (cases_eq k made.making.n) [
      | inl same ↦ ap (λ (j : ℕ). (d2.tree.node j).dir) same ∙ ap (λ (v : Version). v.dir) made.holds ∙ new_kind set d1.tree (dir_of n.coll) (oid_text n.oid) made.making.step made.making.named
      | inr not ↦ ap (λ (v : Version). v.dir) (made.making.leaves.now.others k not) ∙ was
    ]

    stays_free : (q : Path) → d2.tree.at q ≡ d1.tree.at q → IsFree d1.tree q → IsFree d2.tree q
    stays_free q at (inl none) = inl (at ∙ none)
    stays_free q at (inr file) = inr (file.0, at ∙ file.1, kind file.0 file.2)

    at_place : (q : Path) → q ≢ p → q ≡ aside_at pos → (200 < length (oid_text n.oid)) ⊎ (length (oid_text n.oid) ≤ 200) → IsFree d1.tree q → IsFree d2.tree q
    at_place q off same (inl long) was = inl (ap d2.tree.at same ∙ made.names.aside long)
    at_place q off same (inr short) was = stays_free q (made.names.others q off (λ long. absurd (omega (arith, long, short)))) was

    free_made : (q : Path) → q ≢ p → IsFree d1.tree q → IsFree d2.tree q
    free_made q off was = elim (dec_path q (aside_at pos)) [
      | inl same ↦ at_place q off same (cases_lt 200 (length (oid_text n.oid))) was
      | inr not ↦ stays_free q (made.names.others q off (λ long. not)) was
    ]

    pub ready_made : Ready set d2
    ready_made =
        ready_next (StaysOr (Some (new_file (oid_text n.oid)))) d1 d2 s2 ready (one (ready.level n.coll fits.coll)) aside_made (λ s. free_made (entry aside s) (apart_in s) (ready.places s))
        (λ c of_c. levels (dir_of c) (off_aside c of_c) (ready.level c of_c)) (λ c of_c. attrs guard_name (dir_of c) (off_aside c of_c) (ready.guards c of_c))

  -- it has gone
  module _ (d1 d2 : Disk) (s2 : Sound d2) (ready : Ready set d1) (p : Path) (step : List ℕ) (path : p ≡ entry (dir_of n.coll) step) (leaves : Leaves (Removes p d1.tree) d1 d2)
      (one : OneGoes set (dir_of n.coll) n.oid None d1 d2) (levels : KeepsLevel d1 d2) (attrs : KeepsAttrs d1 d2) where
    off_aside_dir : aside ≢ p
    off_aside_dir same = shorter (codes "aside") (coll_text n.coll) step (same ∙ path)

    off_aside_in : (s : List ℕ) → entry aside s ≢ p
    off_aside_in s same = off_aside n.coll fits.coll (sym (same_from_push aside (dir_of n.coll) s step (same ∙ path)).0)

    still_at : (q : Path) → q ≢ p → d2.tree.at q ≡ d1.tree.at q
    still_at q off = ⊎_elim (λ same. ap (λ (f : Names). f q) same.at) (λ gone. gone.others q off) leaves.now.names

    still_node : (k : ℕ) → d2.tree.node k ≡ d1.tree.node k
    still_node k = leaves.now.others k (λ none. none)

    still_free : (q : Path) → q ≢ p → IsFree d1.tree q → IsFree d2.tree q
    still_free q off (inl none) = inl (still_at q off ∙ none)
    still_free q off (inr file) = inr (file.0, still_at q off ∙ file.1, ap (λ (v : Version). v.dir) (still_node file.0) ∙ file.2)

    aside_still : IsDir d2.tree aside
    aside_still = let was = ready.dir in (was.0, still_at aside off_aside_dir ∙ was.1, ap (λ (v : Version). v.dir) (still_node was.0) ∙ was.2)

    pub ready_gone : Ready set d2
    ready_gone =
        ready_next (StaysOr None) d1 d2 s2 ready (one (ready.level n.coll fits.coll)) aside_still (λ s. still_free (entry aside s) (off_aside_in s) (ready.places s))
        (λ c of_c. levels (dir_of c) (off_aside c of_c) (ready.level c of_c)) (λ c of_c. attrs guard_name (dir_of c) (off_aside c of_c) (ready.guards c of_c))
