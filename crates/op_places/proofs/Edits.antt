-- An operation on one object, from its file to the places of a tree.
use Rattle.std.proofs.Common.{◌≡◌, ◌≢◌, ◌⊎◌, inl, inr, ⊎_elim, ℕ, suc, ◌<◌, ◌≤◌, Bool, true, false, ◌||◌, List, [], ◌∷◌, refl, sym, ◌∙◌, ap, subst, arith, Option, None}
use Rattle.std.specs.List.{list_all, list_any}
use Rattle.std.specs.Ordering.{eq_by_cmp}
use Rattle.std.specs.FinMap as fin
use Rattle.fs_names.specs.declared.coll.Coll.{Coll}
use Rattle.fs_names.specs.declared.settings.Settings.{Settings}
use Rattle.fs_names.specs.Order.{coll_cmp}
use Rattle.fs_names.specs.Reading.{CollFits}
use Rattle.fs_model.specs.declared.op.Op.{Op}
use Rattle.fs_model.specs.declared.op.Op.TheVariants.{MkColl, RmColl}
use Rattle.fs_model.specs.Named.{colls_named, made, needed, needed_by}
use Rattle.fs_model.specs.Objects.{Objects}
use Rattle.tree_api.specs.Tree.{Version, Tree}
use Rattle.lfn_index.specs.Maps.{content}
use Rattle.replay_laws.specs.Replay.{leaves}
use Rattle.replay_laws.specs.Places.{AtEach, GoesOne}
use Rattle.replay_laws.proofs.Places.{places_law}
use Rattle.replay_laws.proofs.Walk.{same_or_later}
use Rattle.slot_laws.specs.Slots.{DoesOp}
use Rattle.fs_cells.specs.declared.cell.Cell.{Cell}
use Rattle.fs_cells.specs.declared.cell.Part.{Part}
use Rattle.fs_cells.specs.Parts.{CellAct}
use Rattle.fs_cells.specs.Actions.{in_coll, act_of}
use Rattle.fs_cells.proofs.Reading.{leaves_others}
use Rattle.fs_cells.proofs.Replaying.{raise_laws}
use Rattle.tree_stands.specs.Names.{Name, cell_at}
use Rattle.tree_stands.specs.Shown.{Shown, cells_in, guards_in, with_file, Paired}
use Rattle.tree_stands.specs.Trees.{Maps, AreMaps, dir_guard, shown, ForObject}
use Rattle.tree_stands.proofs.Law.{whole_on}
use Rattle.tree_stands.proofs.Names.{both, name_is_fit, true_not_false}
use Rattle.tree_stands.proofs.Steps.{image_step, does}
use Rattle.tree_stands.proofs.Trees.{maps, maps_are, shows, shows_dir, comes, reads_next}
use Rattle.op_effects.specs.Ready.{HasColls}
use Rattle.op_effects.specs.Collections.{CollStays, IsEmpty}
use Rattle.op_places.specs.Line.{line_of, after_ops, makes, takes, gone_in, counts_of}
use Rattle.op_places.specs.Places.{is_there, CollAt, PastOps}
use Rattle.op_places.specs.Laws.{IsAt, EditsOne, EditLaw}
use Rattle.op_places.proofs.Colls.{two_colls}
use Rattle.op_places.proofs.Gone.{taken_since}
use Rattle.op_places.proofs.Line.{act_is, is_act, no_source, allowed_at}
use Rattle.op_places.proofs.Shown.{there_is, guard_there, there_same, empty_stays}
use Rattle.op_places.proofs.Moving.{coll_next, past_next}

-- all collections but the object's stay
stays_off : (set : Settings) (n : Name) (K : Option Version → Option Version → Type 0) (e f : Tree) → ForObject set n K e f → (c : Coll) → CollFits c → c ≢ n.coll → CollStays set c e f
stays_off set n K e f goes c fits off = record {
  dir = (goes c fits).dir;
  objects = λ m is. let w = (goes c fits).objects m is in (w.0, w.1, λ o own. (w.2 o own).other (λ same. off (ap (λ (p : Name). p.coll) same)));
}

-- what is missing stays empty, where the object's collection is there
empty_on : (set : Settings) (n : Name) (K : Option Version → Option Version → Type 0) (e f : Tree) → ForObject set n K e f → (CollFits n.coll → dir_guard e n.coll ≢ None)
    → ((c : Coll) → CollFits c → dir_guard e c ≡ None → IsEmpty set c e) → (c : Coll) → CollFits c → dir_guard f c ≡ None → IsEmpty set c f
empty_on set n K e f goes there empty c fits none =
    let was : dir_guard e c ≡ None = sym (goes c fits).dir ∙ none in
    let off : c ≢ n.coll = λ same. there (subst CollFits same fits) (subst (λ (d : Coll). dir_guard e d ≡ None) same was) in
    empty_stays set c e f (stays_off set n K e f goes c fits off) (empty c fits was)

module _ (set : Settings) (O : Objects) (ops : List Op) (k : ℕ) (op : Op) (n : Name) (row : Part → CellAct) (F : Option Version → Option Version) (t : Tree)
    (at : IsAt set O ops k op t) (one : EditsOne op n row F t) where
  there : is_there t n.coll ≡ true
  there = there_is t n.coll one.fits.coll one.there

  module _ (M : Maps) (of_t : AreMaps set t M) where
    abbrev then_shown : Shown
    then_shown = with_file n (F ((shown M t).object n)) (shown M t)

    done : DoesOp (line_of O ops) (λ x. true) k (cells_in (shown M t)) (cells_in then_shown) (guards_in (counts_of ops) (shown M t)) (guards_in (counts_of ops) then_shown) (λ x. 0) (λ x. 0)
    done = does (counts_of ops) (line_of O ops) k (λ x. true) (λ x. 0) (shown M t) n (F ((shown M t).object n)) row refl
        (λ x. act_is O ops k op at.is_op x ∙ one.is_on.acts x) (one.edits ((shown M t).object n)) (λ x own. refl) (λ part. omega (arith, guard_there ops M t (cell_at n part) there))

    goes_one : GoesOne (line_of O ops) k (cells_in (shown M t)) (cells_in then_shown) (guards_in (counts_of ops) (shown M t)) (guards_in (counts_of ops) then_shown) (λ x. 0) (λ x. 0) (λ x. k) (λ x. suc k)
    goes_one = record {
      each = λ x. inl (refl, refl, done.given x refl, done.guarded x refl);
      reads = λ z y from. absurd (no_source O ops at.plain.built k z y from);
      further = done.further;
      for_good = done.for_good;
      all_copied = done.all_copied;
    }

    next : AtEach (line_of O ops) (λ x. suc k) (cells_in then_shown) (guards_in (counts_of ops) then_shown) (λ x. 0)
    next = places_law.keeps (line_of O ops) raise_laws k (is_act O ops k op at.is_op) (cells_in (shown M t)) (cells_in then_shown) (guards_in (counts_of ops) (shown M t)) (guards_in (counts_of ops) then_shown)
        (λ x. 0) (λ x. 0) (λ x. k) (λ x. suc k) (at.reads.cells M of_t) goes_one

    here : (shown M t).object n ≡ content (M n.coll) t n.oid
    here = shows M t n (name_is_fit n one.fits)

    module _ (l : ℕ) (le : l ≤ k) (e f : Tree) (past : PastOps set O ops l e) (has : HasColls t e)
        (goes : ForObject set n (Paired (content (M n.coll) t n.oid) (F (content (M n.coll) t n.oid))) e f) where
      goes_on : ForObject set n (Paired ((shown M t).object n) (F ((shown M t).object n))) e f
      goes_on = subst (λ (a : Option Version). ForObject set n (Paired a (F a)) e f) (sym here) goes

      level : (E : Maps) → (shown E e).dir n.coll ≡ (shown M t).dir n.coll
      level E = shows_dir E e n.coll one.fits.coll ∙ has n.coll one.fits.coll one.there ∙ sym (shows_dir M t n.coll one.fits.coll)

      cells : (W : Maps) → AreMaps set f W → AtEach (line_of O ops) (λ x. l) (cells_in (shown W f)) (guards_in (counts_of ops) (shown W f)) (λ x. 0)
      cells W of_f =
          let E = maps set e past.whole in
          let of_e : AreMaps set e E = maps_are set e past.whole in
          image_step (counts_of ops) (line_of O ops) l (λ x. 0) (shown M t) n (F ((shown M t).object n))
          (places_law.back (line_of O ops) (λ x. k) (λ x. l) (cells_in (shown M t)) (guards_in (counts_of ops) (shown M t)) (λ x. 0) (at.reads.cells M of_t) (λ x. le))
          (places_law.back (line_of O ops) (λ x. suc k) (λ x. l) (cells_in then_shown) (guards_in (counts_of ops) then_shown) (λ x. 0) next (λ x. omega (arith, le)))
          (shown W f)
          (λ p. (shown E e, past.cells E of_e, comes set n (shown M t) (F ((shown M t).object n)) e f goes_on E W of_e of_f one.fits (level E) p))

      pub image_keeps : PastOps set O ops l f
      image_keeps = record {
        cells = cells;
        colls = λ c. subst (λ (b : Bool). CollAt O ops l c b) (sym (there_same e f c (λ fits. (goes c fits).dir))) (past.colls c);
        whole = whole_on set n _ e f goes past.whole;
        empty = empty_on set n _ e f goes (λ fits none. one.there (sym (has n.coll fits one.there) ∙ none)) past.empty;
      }

    pub reads_goes : (u : Tree) → ForObject set n (λ x y. y ≡ F x) t u → PastOps set O ops (suc k) u
    reads_goes u goes = record {
      cells = λ W of_u.
          subst (λ (s : Shown). AtEach (line_of O ops) (λ x. suc k) (cells_in s) (guards_in (counts_of ops) s) (λ x. 0)) (sym (reads_next set n F t u goes M W of_t of_u one.fits)) next;
      colls = λ c. coll_next O ops k op c (is_there u c) at.is_op (one.keeps_colls c).0 (one.keeps_colls c).1
          (subst (λ (b : Bool). CollAt O ops k c b) (sym (there_same t u c (λ fits. (goes c fits).dir))) (at.reads.colls c));
      whole = whole_on set n _ t u goes at.reads.whole;
      empty = empty_on set n _ t u goes (λ fits. one.there) at.reads.empty;
    }

makes_none : (op : Op) (d : Coll) → made op ≡ [] → makes d op ≡ false
makes_none (MkColl c) d none = cc
makes_none op d none = refl

same_head : (c d : Coll) → c ∷ [] ≡ d ∷ [] → c ≡ d
same_head c d is = cc

takes_other : (op : Op) (c d : Coll) → colls_named op ≡ c ∷ [] → eq_by_cmp coll_cmp d c ≡ false → takes d op ≡ false
takes_other (RmColl q) c d named not = subst (λ (p : Coll). eq_by_cmp coll_cmp d p ≡ false) (sym (same_head q c named)) not
takes_other op c d named not = refl

-- an operation whose collection isn't there
module _ (set : Settings) (O : Objects) (ops : List Op) (k : ℕ) (op : Op) (c : Coll) (t : Tree)
    (at : IsAt set O ops k op t) (named : colls_named op ≡ c ∷ []) (none : made op ≡ []) (isnt : is_there t c ≡ false) where
  was_there : fin.contains_key (after_ops O ops k) c ≡ true
  was_there =
      let needs : needed op ≡ c ∷ [] = ap (λ (m : List Coll). needed_by m (colls_named op)) none ∙ named in
      (both (fin.contains_key (after_ops O ops k) c) true
      (subst (λ (cs : List Coll). list_all (λ d. fin.contains_key (after_ops O ops k) d) cs ≡ true) needs (allowed_at O ops k op at.is_op at.plain.allowed))).0

  then_missing : fin.contains_key (after_ops O ops (at.reads.colls c).when) c ≡ false
  then_missing = sym (at.reads.colls c).is ∙ isnt

  to_come : k < gone_in c ops
  to_come = taken_since O c ops k (at.reads.colls c).when (at.reads.colls c).from was_there then_missing

  leaves_other : (x : Cell) → eq_by_cmp coll_cmp x.c c ≡ false → act_of op x ≡ leaves
  leaves_other x not = leaves_others op x (ap (λ (cs : List Coll). list_any (λ d. in_coll d x) cs) named ∙ ap (λ (b : Bool). b || false) not)

  each : (x : Cell) → ((is_there t x.c ≡ false) × (k < gone_in x.c ops)) ⊎ (act_of op x ≡ leaves)
  each x = ⊎_elim
      (λ (is, same). inl (subst (λ (d : Coll). is_there t d ≡ false) (sym same) isnt, subst (λ (d : Coll). k < gone_in d ops) (sym same) to_come))
      (λ (not, differ). inr (leaves_other x not))
      (two_colls x.c c)

  own : CollAt O ops (suc k) c (is_there t c)
  own = ⊎_elim
      (λ here. absurd (true_not_false (fin.contains_key (after_ops O ops k) c) was_there (ap (λ (i : ℕ). fin.contains_key (after_ops O ops i) c) here ∙ then_missing)))
      (λ later. record { when = (at.reads.colls c).when; from = omega (arith, later); to = (at.reads.colls c).to; is = (at.reads.colls c).is })
      (same_or_later k (at.reads.colls c).when (at.reads.colls c).from)

  pub left_out : PastOps set O ops (suc k) t
  left_out = past_next set O ops k op t at.plain at.is_op at.reads each (λ d. ⊎_elim
      (λ (is, same). subst (λ (q : Coll). CollAt O ops (suc k) q (is_there t q)) (sym same) own)
      (λ (not, differ). coll_next O ops k op d (is_there t d) at.is_op (makes_none op d none) (takes_other op c d named not) (at.reads.colls d))
      (two_colls d c))

pub edit_law : EditLaw
edit_law = record {
  keeps = λ set O ops k op n row F t at one l le M of_t e f past has goes. image_keeps set O ops k op n row F t at one M of_t l le e f past has goes;
  goes = λ set O ops k op n row F t at one u goes. reads_goes set O ops k op n row F t at one (maps set t at.reads.whole) (maps_are set t at.reads.whole) u goes;
  skipped = λ set O ops k op c t at named none isnt. left_out set O ops k op c t at named none isnt;
}
