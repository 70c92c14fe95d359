-- What a tree shows of its collections.
use Rattle.std.proofs.Common.{◌≡◌, ◌≢◌, ⊎_elim, ℕ, Bool, true, false, cond, ◌&&◌, List, refl, sym, ◌∙◌, ap, subst, Option, Some, None}
use Rattle.std.proofs.lemmas.Bool.{cases_Bool}
use Rattle.std.specs.Option.{is_some}
use Rattle.fs_names.specs.declared.coll.Coll.{Coll}
use Rattle.fs_names.specs.declared.oid.Oid.{Oid}
use Rattle.fs_names.specs.declared.settings.Settings.{Settings}
use Rattle.fs_names.specs.Reading.{OidFits, CollFits}
use Rattle.fs_model.specs.declared.op.Op.{Op}
use Rattle.tree_api.specs.Tree.{Version, Tree, held}
use Rattle.lfn_index.specs.Maps.{Map, IsMap, Whole, content}
use Rattle.fs_cells.specs.declared.cell.Cell.{Cell}
use Rattle.fs_cells.specs.Values.{absent}
use Rattle.tree_stands.specs.Names.{Name, name_of, coll_fits}
use Rattle.tree_stands.specs.Shown.{value_in, guard_in, guard_at, cells_in, guards_in}
use Rattle.tree_stands.specs.Trees.{dir_of, Maps, AreMaps, dir_guard, shown}
use Rattle.tree_stands.proofs.Names.{coll_is_fit, fit_coll, fit_cases}
use Rattle.tree_stands.proofs.Trees.{one_map, one_content, shows, shows_none}
use Rattle.op_effects.specs.Collections.{CollStays, IsEmpty}
use Rattle.op_places.specs.Line.{gone_in, counts_of}
use Rattle.op_places.specs.Places.{is_there}

-- a collection shows a directory where it is there
pub dir_there : (M : Maps) (t : Tree) (c : Coll) → is_some ((shown M t).dir c) ≡ is_there t c
dir_there M t c = at (coll_fits c) (dir_guard t c)
  where
    at : (b : Bool) (d : Option (Option (List ℕ))) → is_some (cond b d None) ≡ (b && is_some d)
    at true d = refl
    at false d = refl

some_there : (d : Option (Option (List ℕ))) → d ≢ None → is_some d ≡ true
some_there None some = absurd (some refl)
some_there (Some x) some = refl

pub none_shown : (d : Option (Option (List ℕ))) → is_some d ≡ false → d ≡ None
none_shown None is = refl
none_shown (Some x) is = cc

pub there_is : (t : Tree) (c : Coll) → CollFits c → dir_guard t c ≢ None → is_there t c ≡ true
there_is t c fits some = ap (λ (b : Bool). b && is_some (dir_guard t c)) (coll_is_fit c fits) ∙ some_there (dir_guard t c) some

pub missing_is : (t : Tree) (c : Coll) → dir_guard t c ≡ None → is_there t c ≡ false
missing_is t c none = ap (λ (d : Option (Option (List ℕ))). coll_fits c && is_some d) none ∙ nothing (coll_fits c)
  where
    nothing : (b : Bool) → (b && false) ≡ false
    nothing true = refl
    nothing false = refl

pub unfit_is : (t : Tree) (c : Coll) → (CollFits c → ⊥) → is_there t c ≡ false
unfit_is t c unfit = ⊎_elim (λ fits. absurd (unfit (fit_coll c fits))) (λ not. ap (λ (b : Bool). b && is_some (dir_guard t c)) not) (cases_Bool (coll_fits c))

pub is_missing : (t : Tree) (c : Coll) → CollFits c → is_there t c ≡ false → dir_guard t c ≡ None
is_missing t c fits isnt = none_shown (dir_guard t c) (sym (ap (λ (b : Bool). b && is_some (dir_guard t c)) (coll_is_fit c fits)) ∙ isnt)

-- no guard of a file or a directory counts
counts_none : (ops : List Op) (o : Name) (d : Option (Option (List ℕ))) (file : Option (List ℕ)) → guard_at (counts_of ops) o d file ≡ cond (is_some d) 0 (gone_in o.coll ops)
counts_none ops o None file = refl
counts_none ops o (Some None) None = refl
counts_none ops o (Some None) (Some text) = refl
counts_none ops o (Some (Some dir)) None = refl
counts_none ops o (Some (Some dir)) (Some text) = refl

pub guard_is : (ops : List Op) (M : Maps) (t : Tree) (x : Cell) → guards_in (counts_of ops) (shown M t) x ≡ cond (is_there t x.c) 0 (gone_in x.c ops)
guard_is ops M t x =
    counts_none ops (name_of x) ((shown M t).dir x.c) (guard_in ((shown M t).object (name_of x)))
    ∙ ap (λ (b : Bool). cond b 0 (gone_in x.c ops)) (dir_there M t x.c)

pub guard_there : (ops : List Op) (M : Maps) (t : Tree) (x : Cell) → is_there t x.c ≡ true → guards_in (counts_of ops) (shown M t) x ≡ 0
guard_there ops M t x is = guard_is ops M t x ∙ ap (λ (b : Bool). cond b 0 (gone_in x.c ops)) is

pub guard_missing : (ops : List Op) (M : Maps) (t : Tree) (x : Cell) → is_there t x.c ≡ false → guards_in (counts_of ops) (shown M t) x ≡ gone_in x.c ops
guard_missing ops M t x is = guard_is ops M t x ∙ ap (λ (b : Bool). cond b 0 (gone_in x.c ops)) is

pub guard_same : (ops : List Op) (M W : Maps) (e f : Tree) (x : Cell) → is_there f x.c ≡ is_there e x.c → guards_in (counts_of ops) (shown W f) x ≡ guards_in (counts_of ops) (shown M e) x
guard_same ops M W e f x same = guard_is ops W f x ∙ ap (λ (b : Bool). cond b 0 (gone_in x.c ops)) same ∙ sym (guard_is ops M e x)

-- where the directory's guard stays
pub there_same : (e f : Tree) (c : Coll) → (CollFits c → dir_guard f c ≡ dir_guard e c) → is_there f c ≡ is_there e c
there_same e f c same = ⊎_elim
    (λ fits. ap (λ (d : Option (Option (List ℕ))). coll_fits c && is_some d) (same (fit_coll c fits)))
    (λ not. ap (λ (b : Bool). b && is_some (dir_guard f c)) not ∙ sym (ap (λ (b : Bool). b && is_some (dir_guard e c)) not))
    (cases_Bool (coll_fits c))

-- an empty collection shows no object
module _ (set : Settings) (t : Tree) (M : Maps) (of_t : AreMaps set t M) where
  pub object_none : (n : Name) → (CollFits n.coll → IsEmpty set n.coll t) → (shown M t).object n ≡ None
  object_none n empty = ⊎_elim
      (λ (is, fits). shows M t n is ∙ ap (λ (x : Option ℕ). held x t.node) ((empty fits.coll).none (M n.coll) (of_t n.coll fits.coll) n.oid fits.oid))
      (λ not. shows_none M t n not)
      (fit_cases n)

  pub cell_none : (x : Cell) → (CollFits x.c → IsEmpty set x.c t) → cells_in (shown M t) x ≡ absent x.part
  cell_none x empty = ap (λ (v : Option Version). value_in v x.part) (object_none (name_of x) empty)

held_none : (o : Option ℕ) (node : ℕ → Version) → held o node ≡ None → o ≡ None
held_none None node is = refl
held_none (Some n) node is = cc

-- a collection that stays
module _ (set : Settings) (c : Coll) (e f : Tree) (stays : CollStays set c e f) where
  pub whole_stays : Whole set (dir_of c) e → Whole set (dir_of c) f
  whole_stays whole = let next = stays.objects whole.0 whole.1 in (next.0, next.1)

  pub empty_stays : IsEmpty set c e → IsEmpty set c f
  empty_stays empty = record { whole = whole_stays empty.whole; none = none }
    where
      none : (w : Map) → IsMap set f (dir_of c) w → (o : Oid) → OidFits o → w o ≡ None
      none w of_f o fits =
          let next = stays.objects empty.whole.0 empty.whole.1 in
          let gone : empty.whole.0 o ≡ None = empty.none empty.whole.0 empty.whole.1 o fits in
          one_map set f (dir_of c) w next.0 of_f next.1 o fits
          ∙ held_none (next.0 o) f.node (next.2 o fits ∙ ap (λ (x : Option ℕ). held x e.node) gone)

  pub there_stays : is_there f c ≡ is_there e c
  there_stays = ap (λ (d : Option (Option (List ℕ))). coll_fits c && is_some d) stays.dir

  pub object_stays : (M W : Maps) → AreMaps set e M → AreMaps set f W → (n : Name) → n.coll ≡ c → (shown W f).object n ≡ (shown M e).object n
  object_stays M W of_e of_f n at = ⊎_elim
      (λ (is, fits).
      let fits_c : CollFits c = subst CollFits at fits.coll in
      let next = stays.objects (M c) (of_e c fits_c) in
      let same : content (W c) f n.oid ≡ content (M c) e n.oid =
      sym (one_content set f (dir_of c) next.0 (W c) next.1 (of_f c fits_c) n.oid fits.oid) ∙ next.2 n.oid fits.oid in
      shows W f n is ∙ ap (λ (d : Coll). content (W d) f n.oid) at ∙ same ∙ sym (ap (λ (d : Coll). content (M d) e n.oid) at) ∙ sym (shows M e n is))
      (λ not. shows_none W f n not ∙ sym (shows_none M e n not))
      (fit_cases n)

  pub cell_stays : (M W : Maps) → AreMaps set e M → AreMaps set f W → (x : Cell) → x.c ≡ c → cells_in (shown W f) x ≡ cells_in (shown M e) x
  cell_stays M W of_e of_f x at = ap (λ (v : Option Version). value_in v x.part) (object_stays M W of_e of_f (name_of x) at)
