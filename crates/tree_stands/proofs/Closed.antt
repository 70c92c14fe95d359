-- A store that was made or closed.
use Rattle.std.proofs.Common.{◌≡◌, ℕ, zero, suc, ◌-◌, Bool, true, false, cond, List, replicate, refl, sym, ◌∙◌, ap, subst, arith, ⊎_elim, Option, Some, None}
use Rattle.std.specs.Option.{option_map}
use Rattle.std.specs.FinMap as fin
use Rattle.fs_names.specs.declared.coll.Coll.{Coll}
use Rattle.fs_names.specs.declared.settings.Mode.{Mode}
use Rattle.fs_names.specs.declared.settings.Settings.{Settings}
use Rattle.fs_names.specs.Order.{coll_cmp}
use Rattle.fs_model.specs.Objects.{Shelf, on_shelf}
use Rattle.tree_api.specs.Tree.{Version, Tree, held}
use Rattle.lfn_index.specs.Maps.{IsMap}
use Rattle.turn_core.specs.Table.{mounted}
use Rattle.replay_laws.specs.Places.{AtEach}
use Rattle.slot_laws.specs.History.{Txn, Open, AreOpen, count, line, place}
use Rattle.slot_laws.proofs.Slots.{slots_law}
use Rattle.turn_history.specs.History.{opens_of}
use Rattle.fs_cells.specs.declared.cell.Cell.{Cell}
use Rattle.fs_cells.specs.Values.{Value, raise, value_at, cells_of}
use Rattle.fs_cells.specs.Standing.{history_of}
use Rattle.tree_stands.specs.Names.{Name, name_of, coll_fits}
use Rattle.tree_stands.specs.Shown.{Counts, value_in, guard_at, guard_in, cells_in, guards_in}
use Rattle.tree_stands.specs.Trees.{dir_of, guard_of, Maps, AreMaps, shown, TreeAt}
use Rattle.tree_stands.specs.Standing.{History, line_of, place_of, Image}
use Rattle.tree_stands.specs.Closed.{Shows, NoColls, ClosedLaw}
use Rattle.tree_stands.proofs.Names.{fit_cases}
use Rattle.tree_stands.proofs.Trees.{one_content, shows, shows_none}

free_open : (base n : ℕ) (ts : List (Txn Cell Value)) → AreOpen ts 0 (opens_of base (replicate n None))
free_open base zero ts = tt
free_open base (suc n) ts = free_open base n ts

module _ (set : Settings) (g : Counts) (h : History) (mode : Mode) (trash : ℕ) (t : Tree) (is : Shows set g h.objects t) where
  abbrev ts : List (Txn Cell Value)
  ts = history_of h.txns

  abbrev slots : List (Option Open)
  slots = opens_of h.base (replicate 8 None)

  none_yet : h.base - h.base ≡ 0
  none_yet = omega arith

  reads : TreeAt set g (line_of h h.base) (place_of h (mounted mode h.base h.base trash)) (λ x. 0) t
  reads M of_t = subst (λ (n : ℕ). AtEach (line raise (cells_of h.objects) (history_of h.txns) n) (place (history_of h.txns) n (opens_of h.base (replicate 8 None))) (cells_in (shown M t)) (guards_in g (shown M t)) (λ x. 0)) (sym none_yet)
      (slots_law.fresh raise (cells_of h.objects) (history_of h.txns) (opens_of h.base (replicate 8 None)) (free_open h.base 8 (history_of h.txns)) (cells_in (shown M t)) (guards_in g (shown M t)) (is.cells M of_t) (is.guards M of_t)).0

  image : Image set g h h.base h.base (λ x. 0) t t
  image = record {
    at = λ M of_t. subst (λ (n : ℕ). AtEach (line raise (cells_of h.objects) (history_of h.txns) n) (λ x. count (history_of h.txns) n) (cells_in (shown M t)) (guards_in g (shown M t)) (λ x. 0)) (sym none_yet)
        (slots_law.fresh raise (cells_of h.objects) (history_of h.txns) (opens_of h.base (replicate 8 None)) (free_open h.base 8 (history_of h.txns)) (cells_in (shown M t)) (guards_in g (shown M t)) (is.cells M of_t) (is.guards M of_t)).1;
    whole = is.whole;
    dirs = λ coll fits there. refl;
  }

none_or : {A : Type 0} (n : A) → None ≡ Some n → ⊥
none_or n e = cc

module _ (set : Settings) (g : Counts) (never : (c : Coll) → g.gone c ≡ 0) (t : Tree) (none : NoColls t) where
  no_files : (c : Coll) → IsMap set t (dir_of c) (λ o. None)
  no_files c = record {
    files = λ o step n is. absurd (none_or n (sym (none.entries c step) ∙ is.1.here));
    there = λ o n fits is. absurd (none_or n is);
    known = λ step n here. absurd (none_or n (sym (none.entries c step) ∙ here));
  }

  no_object : (M : Maps) → AreMaps set t M → (n : Name) → (shown M t).object n ≡ None
  no_object M of_t n = ⊎_elim
      (λ (is, fits). shows M t n is ∙ one_content set t (dir_of n.coll) (M n.coll) (λ o. None) (of_t n.coll fits.coll) (no_files n.coll) n.oid fits.oid)
      (λ not. shows_none M t n not)
      (fit_cases n)

  no_dir : (M : Maps) (c : Coll) → (shown M t).dir c ≡ None
  no_dir M c = ap (λ (m : Option ℕ). cond (coll_fits c) (option_map guard_of (held m t.node)) None) (none.dirs c) ∙ same (coll_fits c)
    where
      same : (b : Bool) → cond b (let nothing : Option (Option (List ℕ)) = None in nothing) None ≡ None
      same true = refl
      same false = refl

  empty : Shows set g fin.empty t
  empty = record {
    whole = λ c fits. (λ o. None, no_files c);
    cells = λ M of_t x. ap (λ (v : Option Version). value_in v x.part) (no_object M of_t (name_of x)) ∙ sym (ap (λ (m : Option Shelf). value_at (on_shelf m x.o) x.part) (fin.get-empty coll_cmp x.c));
    guards = λ M of_t x. ap (λ (d : Option (Option (List ℕ))). guard_at g (name_of x) d (guard_in ((shown M t).object (name_of x)))) (no_dir M x.c) ∙ never x.c;
  }

pub closed_law : ClosedLaw
closed_law = record {
  stands = λ set g h mode trash t is. (image set g h mode trash t is, reads set g h mode trash t is);
  empty = λ set g never t none. empty set g never t none;
  bare = record { dirs = λ c. refl; entries = λ c step. refl };
}
