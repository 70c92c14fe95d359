-- A collection is made, or taken away.
use Rattle.std.proofs.Common.{◌≡◌, ◌≢◌, ◌⊎◌, inl, inr, ⊎_elim, ℕ, suc, ◌<◌, ◌≤◌, Bool, true, false, cond, List, refl, sym, ◌∙◌, ap, subst, arith, Some, None}
use Rattle.std.specs.Prelude.{slice_get}
use Rattle.std.specs.FinMap as fin
use Rattle.fs_names.specs.declared.coll.Coll.{Coll}
use Rattle.fs_names.specs.declared.coll.Coll.TheVariants.{Meta}
use Rattle.fs_names.specs.declared.settings.Settings.{Settings}
use Rattle.fs_names.specs.Reading.{CollFits}
use Rattle.fs_model.specs.declared.op.Op.{Op}
use Rattle.fs_model.specs.declared.op.Op.TheVariants.{MkColl, RmColl}
use Rattle.fs_model.specs.Objects.{Objects}
use Rattle.tree_api.specs.Tree.{Tree}
use Rattle.lfn_index.specs.Maps.{Whole}
use Rattle.replay_laws.specs.Replay.{leaves}
use Rattle.fs_cells.specs.declared.cell.Cell.{Cell}
use Rattle.fs_cells.specs.Actions.{act_of}
use Rattle.fs_cells.specs.Parts.{removed}
use Rattle.fs_cells.specs.Values.{absent}
use Rattle.tree_stands.specs.Shown.{cells_in, guards_in}
use Rattle.tree_stands.specs.Trees.{dir_of, Maps, AreMaps, dir_guard, shown}
use Rattle.tree_stands.proofs.Names.{coll_itself, coll_cases}
use Rattle.tree_stands.proofs.Trees.{maps, maps_are}
use Rattle.op_effects.specs.Collections.{CollStays, IsEmpty, Comes, IsGone, Makes, Drops}
use Rattle.op_places.specs.Line.{after_ops, gone_in, counts_of, IsPlain}
use Rattle.op_places.specs.Places.{is_there, CollAt, PastOps}
use Rattle.op_places.specs.Laws.{CollLaw}
use Rattle.op_places.proofs.Colls.{two_colls, next_there, made_by, taken_by}
use Rattle.op_places.proofs.Gone.{gone_past}
use Rattle.op_places.proofs.Cells.{Holds, at_each, holds_lower, holds_along, holds_gone}
use Rattle.op_places.proofs.Shown.{there_is, missing_is, unfit_is, guard_there, guard_missing, guard_same, cell_none, whole_stays, empty_stays, there_stays, cell_stays}
use Rattle.op_places.proofs.Moving.{past_absent, coll_next, coll_by, past_next}

-- Each collection stays, or it is this one and P holds.
module _ (set : Settings) (O : Objects) (ops : List Op) (k : ℕ) (c : Coll) (e f : Tree) (past : PastOps set O ops k e) (P : Type 0)
    (which : (d : Coll) → CollFits d → CollStays set d e f ⊎ ((d ≡ c) × P))
    (whole_here : P → Whole set (dir_of c) f) (empty_here : P → dir_guard f c ≡ None → IsEmpty set c f) (coll_here : P → CollAt O ops k c (is_there f c))
    (cell_here : P → (W : Maps) → AreMaps set f W → (x : Cell) → x.c ≡ c → Holds O ops (guards_in (counts_of ops) (shown W f) x) k x (cells_in (shown W f) x)) where
  module _ (W : Maps) (of_f : AreMaps set f W) (x : Cell) where
    abbrev E : Maps
    E = maps set e past.whole

    abbrev of_e : AreMaps set e E
    of_e = maps_are set e past.whole

    along : is_there f x.c ≡ is_there e x.c → cells_in (shown W f) x ≡ cells_in (shown E e) x → Holds O ops (guards_in (counts_of ops) (shown W f) x) k x (cells_in (shown W f) x)
    along there same =
        holds_along O ops (guards_in (counts_of ops) (shown E e) x) (guards_in (counts_of ops) (shown W f) x) k x (cells_in (shown E e) x) (cells_in (shown W f) x)
        (guard_same ops E W e f x there) same ((past.cells E of_e).stands x)

    cell : Holds O ops (guards_in (counts_of ops) (shown W f) x) k x (cells_in (shown W f) x)
    cell = ⊎_elim
        (λ fits. ⊎_elim
        (λ stays. along (there_stays set x.c e f stays) (cell_stays set x.c e f stays E W of_e of_f x refl))
        (λ (same, p). cell_here p W of_f x same)
        (which x.c fits))
        (λ unfit. along
        (unfit_is f x.c unfit ∙ sym (unfit_is e x.c unfit))
        (cell_none set f W of_f x (λ fits. absurd (unfit fits)) ∙ sym (cell_none set e E of_e x (λ fits. absurd (unfit fits)))))
        (coll_cases x.c)

  pub changes : PastOps set O ops k f
  changes = record {
    cells = λ W of_f. at_each O ops (λ x. k) (cells_in (shown W f)) (guards_in (counts_of ops) (shown W f)) (cell W of_f);
    colls = λ d. ⊎_elim
        (λ fits. ⊎_elim
        (λ stays. subst (λ (b : Bool). CollAt O ops k d b) (sym (there_stays set d e f stays)) (past.colls d))
        (λ (same, p). subst (λ (b : Coll). CollAt O ops k b (is_there f b)) (sym same) (coll_here p))
        (which d fits))
        (λ unfit. subst (λ (b : Bool). CollAt O ops k d b) (unfit_is e d unfit ∙ sym (unfit_is f d unfit)) (past.colls d))
        (coll_cases d);
    whole = λ d fits. ⊎_elim
        (λ stays. whole_stays set d e f stays (past.whole d fits))
        (λ (same, p). subst (λ (b : Coll). Whole set (dir_of b) f) (sym same) (whole_here p))
        (which d fits);
    empty = λ d fits none. ⊎_elim
        (λ stays. empty_stays set d e f stays (past.empty d fits (sym stays.dir ∙ none)))
        (λ (same, p). subst (λ (b : Coll). IsEmpty set b f) (sym same) (empty_here p (subst (λ (b : Coll). dir_guard f b ≡ None) same none)))
        (which d fits);
  }

-- all stay
pub past_stays : (set : Settings) (O : Objects) (ops : List Op) (k : ℕ) (e f : Tree) → ((c : Coll) → CollFits c → CollStays set c e f) → PastOps set O ops k e → PastOps set O ops k f
past_stays set O ops k e f stays past =
    changes set O ops k Meta e f past ⊥ (λ d fits. inl (stays d fits)) (λ none. absurd none) (λ none is. absurd none) (λ none. absurd none) (λ none W of_f x at. absurd none)

-- one may do otherwise
one_may : (set : Settings) (c : Coll) (e f : Tree) (P : Type 0) → CollStays set c e f ⊎ P → ((d : Coll) → CollFits d → d ≢ c → CollStays set d e f)
    → (d : Coll) → CollFits d → CollStays set d e f ⊎ ((d ≡ c) × P)
one_may set c e f P here others d fits = ⊎_elim
    (λ (is, same). ⊎_elim (λ stays. inl (subst (λ (b : Coll). CollStays set b e f) (sym same) stays)) (λ p. inr (same, p)) here)
    (λ (not, differ). inl (others d fits differ))
    (two_colls d c)

-- the collection is made
module _ (set : Settings) (O : Objects) (ops : List Op) (k : ℕ) (c : Coll) (fits : CollFits c) (plain : IsPlain O ops) (is : slice_get ops k ≡ Some (MkColl c)) where
  made_then : fin.contains_key (after_ops O ops (suc k)) c ≡ true
  made_then = next_there O ops k (MkColl c) c is ∙ made_by c (MkColl c) (fin.contains_key (after_ops O ops k) c) (coll_itself c)

  module _ (l : ℕ) (le : l ≤ k) (e f : Tree) (past : PastOps set O ops l e) (goes : Makes set c e f) where
    comes_there : Comes set c e f → is_there f c ≡ true
    comes_there comes = there_is f c fits (λ none. some_or comes none)
      where
        some_or : Comes set c e f → dir_guard f c ≡ None → ⊥
        some_or comes none = let e : Some None ≡ None = sym comes.here ∙ none in cc

    comes_cell : Comes set c e f → (W : Maps) → AreMaps set f W → (x : Cell) → x.c ≡ c → Holds O ops (guards_in (counts_of ops) (shown W f) x) l x (cells_in (shown W f) x)
    comes_cell comes W of_f x same =
        let E = maps set e past.whole in
        let of_e : AreMaps set e E = maps_are set e past.whole in
        let was : is_there e x.c ≡ false = ap (is_there e) same ∙ missing_is e c comes.was in
        let now : is_there f x.c ≡ true = ap (is_there f) same ∙ comes_there comes in
        let none : cells_in (shown W f) x ≡ absent x.part = cell_none set f W of_f x (λ own. subst (λ (d : Coll). IsEmpty set d f) (sym same) comes.empty) in
        let zero_guard : guards_in (counts_of ops) (shown W f) x ≡ 0 = guard_there ops W f x now in
        holds_along O ops 0 (guards_in (counts_of ops) (shown W f) x) l x (cells_in (shown E e) x) (cells_in (shown W f) x)
        zero_guard (none ∙ sym (past_absent set O ops l e E of_e past x was))
        (holds_lower O ops (guards_in (counts_of ops) (shown E e) x) 0 l x (cells_in (shown E e) x) (omega arith) ((past.cells E of_e).stands x))

    pub makes_image : PastOps set O ops l f
    makes_image = changes set O ops l c e f past (Comes set c e f) (one_may set c e f (Comes set c e f) goes.here goes.others)
        (λ comes. comes.empty.whole) (λ comes none. comes.empty)
        (λ comes. coll_by O ops k l (MkColl c) c (is_there f c) is (omega (arith, le)) (comes_there comes ∙ sym made_then)) comes_cell

  pub makes_done : (t u : Tree) → PastOps set O ops k t → Makes set c t u → dir_guard u c ≢ None → PastOps set O ops (suc k) u
  makes_done t u past goes there = past_next set O ops k (MkColl c) u plain is (makes_image k (omega arith) t u past goes) (λ x. inr refl) (λ d. ⊎_elim
      (λ (at, same). subst (λ (b : Coll). CollAt O ops (suc k) b (is_there u b)) (sym same) (coll_by O ops k (suc k) (MkColl c) c (is_there u c) is (omega arith) (there_is u c fits there ∙ sym made_then)))
      (λ (not, differ). coll_next O ops k (MkColl c) d (is_there u d) is not refl ((makes_image k (omega arith) t u past goes).colls d))
      (two_colls d c))

-- the collection is taken away
module _ (set : Settings) (O : Objects) (ops : List Op) (k : ℕ) (c : Coll) (plain : IsPlain O ops) (is : slice_get ops k ≡ Some (RmColl c)) where
  gone_now : fin.contains_key (after_ops O ops (suc k)) c ≡ false
  gone_now = next_there O ops k (RmColl c) c is ∙ taken_by c (RmColl c) (fin.contains_key (after_ops O ops k) c) (coll_itself c)

  to_come : (x : Cell) → x.c ≡ c → k < gone_in x.c ops
  to_come x same = subst (λ (d : Coll). k < gone_in d ops) (sym same) (gone_past c ops k (RmColl c) is (coll_itself c))

  module _ (l : ℕ) (le : l ≤ k) (e f : Tree) (past : PastOps set O ops l e) (goes : Drops set c e f) where
    gone_cell : IsGone set c f → (W : Maps) → AreMaps set f W → (x : Cell) → x.c ≡ c → Holds O ops (guards_in (counts_of ops) (shown W f) x) l x (cells_in (shown W f) x)
    gone_cell gone W of_f x same =
        let isnt : is_there f x.c ≡ false = ap (is_there f) same ∙ missing_is f c gone.none in
        holds_along O ops (gone_in x.c ops) (guards_in (counts_of ops) (shown W f) x) l x (absent x.part) (cells_in (shown W f) x)
        (guard_missing ops W f x isnt) (cell_none set f W of_f x (λ own. subst (λ (d : Coll). IsEmpty set d f) (sym same) gone.empty))
        (holds_gone O ops plain l x (omega (arith, le, to_come x same)))

    pub drops_image : PastOps set O ops l f
    drops_image = changes set O ops l c e f past (IsGone set c f) (one_may set c e f (IsGone set c f) goes.here goes.others)
        (λ gone. gone.empty.whole) (λ gone none. gone.empty)
        (λ gone. coll_by O ops k l (RmColl c) c (is_there f c) is (omega (arith, le)) (missing_is f c gone.none ∙ sym gone_now)) gone_cell

  left_or_gone : (u : Tree) → dir_guard u c ≡ None → (x : Cell) → ((is_there u x.c ≡ false) × (k < gone_in x.c ops)) ⊎ (act_of (RmColl c) x ≡ leaves)
  left_or_gone u none x = ⊎_elim
      (λ (at, same). inl (ap (is_there u) same ∙ missing_is u c none, to_come x same))
      (λ (not, differ). inr (ap (λ (b : Bool). cond b (removed x.part) leaves) not))
      (two_colls x.c c)

  pub drops_done : (t u : Tree) → PastOps set O ops k t → Drops set c t u → dir_guard u c ≡ None → PastOps set O ops (suc k) u
  drops_done t u past goes none = past_next set O ops k (RmColl c) u plain is (drops_image k (omega arith) t u past goes) (left_or_gone u none) (λ d. ⊎_elim
      (λ (at, same). subst (λ (b : Coll). CollAt O ops (suc k) b (is_there u b)) (sym same) (coll_by O ops k (suc k) (RmColl c) c (is_there u c) is (omega arith) (missing_is u c none ∙ sym gone_now)))
      (λ (not, differ). coll_next O ops k (RmColl c) d (is_there u d) is refl not ((drops_image k (omega arith) t u past goes).colls d))
      (two_colls d c))

pub coll_law : CollLaw
coll_law = record {
  makes = λ set O ops k c fits plain is l le e f past goes. makes_image set O ops k c fits plain is l le e f past goes;
  is_made = λ set O ops k c t u fits at goes there. makes_done set O ops k c fits at.plain at.is_op t u at.reads goes there;
  drops = λ set O ops k c plain is l le e f past goes. drops_image set O ops k c plain is l le e f past goes;
  is_dropped = λ set O ops k c t u at goes none. drops_done set O ops k c at.plain at.is_op t u at.reads goes none;
}
