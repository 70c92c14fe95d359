-- Trees and what they show.
use Rattle.std.proofs.Common.{◌≡◌, ◌≢◌, ◌⊎◌, inl, inr, ⊎_elim, ℕ, Bool, true, false, cond, List, refl, sym, ◌∙◌, ap, subst, Option, Some, None}
use Rattle.fs_names.specs.declared.coll.Coll.{Coll}
use Rattle.fs_names.specs.declared.oid.Oid.{Oid}
use Rattle.fs_names.specs.declared.settings.Settings.{Settings}
use Rattle.fs_names.specs.Reading.{OidFits, CollFits}
use Rattle.tree_api.specs.Tree.{Path, Version, Tree, held}
use Rattle.lfn_index.specs.Maps.{Map, IsMap, content}
use Rattle.tree_stands.specs.Names.{Name, NameFits, same_name, name_fits, coll_fits}
use Rattle.tree_stands.specs.Shown.{Shown, with_file, ComesAt, Paired}
use Rattle.tree_stands.specs.Trees.{dir_of, Maps, AreMaps, AllWhole, dir_guard, shown, OnlyBy, ForObject}
use Rattle.tree_stands.proofs.Names.{name_cases, fit_cases, coll_cases, coll_is_fit, fit_coll, name_is_fit}

-- a map for each collection
module _ (set : Settings) (t : Tree) (whole : AllWhole set t) where
  chosen : (c : Coll) → CollFits c ⊎ (CollFits c → ⊥) → Map
  chosen c (inl fits) = (whole c fits).0
  chosen c (inr not) = λ o. None

  chosen_is : (c : Coll) → CollFits c → (which : CollFits c ⊎ (CollFits c → ⊥)) → IsMap set t (dir_of c) (chosen c which)
  unfolding chosen
  chosen_is c here (inl fits) = (whole c fits).1
  chosen_is c here (inr not) = absurd (not here)

  pub maps : Maps
  maps c = chosen c (coll_cases c)

  pub maps_are : AreMaps set t maps
  unfolding maps
  maps_are c fits = chosen_is c fits (coll_cases c)

-- two maps of a directory agree
pub one_map : (set : Settings) (t : Tree) (d : Path) (m w : Map) → IsMap set t d m → IsMap set t d w → (o : Oid) → OidFits o → m o ≡ w o
one_map set t d m w of_m of_w o fits = by (m o) (w o) refl refl
  where
    over : (x y : Map) → IsMap set t d x → IsMap set t d y → (n : ℕ) → x o ≡ Some n → y o ≡ Some n
    over x y of_x of_y n is = let found = of_x.there o n fits is in of_y.files o found.0 n (fits, found.1)

    by : (a b : Option ℕ) → m o ≡ a → w o ≡ b → m o ≡ w o
    by (Some n) b is_m is_w = is_m ∙ sym (over m w of_m of_w n is_m)
    by None (Some n) is_m is_w = over w m of_w of_m n is_w ∙ sym is_w
    by None None is_m is_w = is_m ∙ sym is_w

pub one_content : (set : Settings) (t : Tree) (d : Path) (m w : Map) → IsMap set t d m → IsMap set t d w → (o : Oid) → OidFits o → content m t o ≡ content w t o
one_content set t d m w of_m of_w o fits = ap (λ (x : Option ℕ). held x t.node) (one_map set t d m w of_m of_w o fits)

pub shows : (M : Maps) (t : Tree) (n : Name) → name_fits n ≡ true → (shown M t).object n ≡ content (M n.coll) t n.oid
shows M t n is = ap (λ (b : Bool). cond b (content (M n.coll) t n.oid) None) is

pub shows_none : (M : Maps) (t : Tree) (n : Name) → name_fits n ≡ false → (shown M t).object n ≡ None
shows_none M t n is = ap (λ (b : Bool). cond b (content (M n.coll) t n.oid) None) is

pub shows_dir : (M : Maps) (t : Tree) (c : Coll) → CollFits c → (shown M t).dir c ≡ dir_guard t c
shows_dir M t c fits = ap (λ (b : Bool). cond b (dir_guard t c) None) (coll_is_fit c fits)

same_dirs : (M W : Maps) (e f : Tree) (c : Coll) → (CollFits c → dir_guard f c ≡ dir_guard e c) → (shown W f).dir c ≡ (shown M e).dir c
same_dirs M W e f c same = by (coll_fits c) refl
  where
    by : (b : Bool) → coll_fits c ≡ b → cond (coll_fits c) (dir_guard f c) None ≡ cond (coll_fits c) (dir_guard e c) None
    by true is = ap (λ (d : Option (Option (List ℕ))). cond (coll_fits c) d None) (same (fit_coll c is))
    by false is = ap (λ (b : Bool). cond b (dir_guard f c) None) is ∙ sym (ap (λ (b : Bool). cond b (dir_guard e c) None) is)

-- f shows what came from e, where one object went by K
module _ (set : Settings) (n : Name) (K : Option Version → Option Version → Type 0) (e f : Tree) (goes : ForObject set n K e f) (M W : Maps) (of_e : AreMaps set e M) (of_f : AreMaps set f W) where
  pub dirs_same : (c : Coll) → (shown W f).dir c ≡ (shown M e).dir c
  dirs_same c = same_dirs M W e f c (λ fits. (goes c fits).dir)

  only : (o : Name) → NameFits o → OnlyBy n K o (content (M o.coll) e o.oid) (content (W o.coll) f o.oid)
  only o fits =
      let clause = (goes o.coll fits.coll).objects (M o.coll) (of_e o.coll fits.coll) in
      subst (λ (y : Option Version). OnlyBy n K o (content (M o.coll) e o.oid) y)
      (one_content set f (dir_of o.coll) clause.0 (W o.coll) clause.1 (of_f o.coll fits.coll) o.oid fits.oid)
      (clause.2 o.oid fits.oid)

  pub object_other : (o : Name) → o ≢ n → (shown W f).object o ≡ (shown M e).object o
  object_other o differ = ⊎_elim
      (λ (is, fits). shows W f o is ∙ (only o fits).other differ ∙ sym (shows M e o is))
      (λ not. shows_none W f o not ∙ sym (shows_none M e o not))
      (fit_cases o)

  pub object_here : NameFits n → K ((shown M e).object n) ((shown W f).object n)
  object_here fits =
      let is : name_fits n ≡ true = name_is_fit n fits in
      subst (λ (y : Option Version). K ((shown M e).object n) y) (sym (shows W f n is))
      (subst (λ (x : Option Version). K x (content (W n.coll) f n.oid)) (sym (shows M e n is)) ((only n fits).here refl))

-- an image comes from one at entry
pub comes : (set : Settings) (n : Name) (T : Shown) (b : Option Version) (e f : Tree) → ForObject set n (Paired (T.object n) b) e f → (M W : Maps) → AreMaps set e M → AreMaps set f W
    → NameFits n → (shown M e).dir n.coll ≡ T.dir n.coll → (o : Name) → ComesAt T n b o (shown M e) (shown W f)
comes set n T b e f goes M W of_e of_f fits level o = ⊎_elim
    (λ (is, at). inr (
      at,
      dirs_same set n (Paired (T.object n) b) e f goes M W of_e of_f o.coll,
      dirs_same set n (Paired (T.object n) b) e f goes M W of_e of_f o.coll ∙ subst (λ (p : Name). (shown M e).dir p.coll ≡ T.dir p.coll) (sym at) level,
      object_here set n (Paired (T.object n) b) e f goes M W of_e of_f fits,
    ))
    (λ (not, differ). inl (dirs_same set n (Paired (T.object n) b) e f goes M W of_e of_f o.coll, object_other set n (Paired (T.object n) b) e f goes M W of_e of_f o differ))
    (name_cases o n)

-- and so it reads once this is done
pub reads_next : (set : Settings) (n : Name) (F : Option Version → Option Version) (t u : Tree) → ForObject set n (λ x y. y ≡ F x) t u → (M W : Maps) → AreMaps set t M → AreMaps set u W
    → NameFits n → shown W u ≡ with_file n (F ((shown M t).object n)) (shown M t)
reads_next set n F t u goes M W of_t of_u fits = λ i. record { object = objects i; dir = dirs i }
  where
    b : Option Version
    b = F ((shown M t).object n)

    object : (o : Name) → (shown W u).object o ≡ cond (same_name o n) (F ((shown M t).object n)) ((shown M t).object o)
    object o = ⊎_elim
        (λ (is, at). ap (shown W u).object at ∙ object_here set n (λ x y. y ≡ F x) t u goes M W of_t of_u fits ∙ sym (ap (λ (s : Bool). cond s (F ((shown M t).object n)) ((shown M t).object o)) is))
        (λ (not, differ). object_other set n (λ x y. y ≡ F x) t u goes M W of_t of_u o differ ∙ sym (ap (λ (s : Bool). cond s (F ((shown M t).object n)) ((shown M t).object o)) not))
        (name_cases o n)

    objects : (shown W u).object ≡ (λ o. cond (same_name o n) (F ((shown M t).object n)) ((shown M t).object o))
    objects = λ i o. object o i

    dirs : (shown W u).dir ≡ (shown M t).dir
    dirs = λ i c. dirs_same set n (λ x y. y ≡ F x) t u goes M W of_t of_u c i
