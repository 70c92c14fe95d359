-- A tree without collections, of which no operation is done.
use Rattle.std.proofs.Common.{◌≡◌, inl, ⊎_elim, [], false, sym, ◌∙◌, ap, arith, Option}
use Rattle.std.specs.Option.{is_some}
use Rattle.std.specs.FinMap as fin
use Rattle.fs_names.specs.declared.coll.Coll.{Coll}
use Rattle.fs_names.specs.declared.settings.Settings.{Settings}
use Rattle.fs_names.specs.Order.{coll_cmp}
use Rattle.fs_names.specs.Reading.{CollFits}
use Rattle.fs_model.specs.Objects.{Objects, Shelf}
use Rattle.tree_api.specs.Tree.{Tree}
use Rattle.fs_cells.specs.declared.cell.Cell.{Cell}
use Rattle.tree_stands.specs.Shown.{cells_in, guards_in}
use Rattle.tree_stands.specs.Trees.{Maps, AreMaps, shown}
use Rattle.tree_stands.proofs.Names.{coll_cases}
use Rattle.op_effects.specs.Collections.{IsGone}
use Rattle.op_places.specs.Line.{counts_of}
use Rattle.op_places.specs.Places.{is_there, PastOps}
use Rattle.op_places.proofs.Cells.{Holds, at_each, missing_absent}
use Rattle.op_places.proofs.Shown.{missing_is, unfit_is, guard_missing, cell_none}

abbrev nothing : Objects
nothing = fin.empty

no_coll : (c : Coll) → fin.contains_key nothing c ≡ false
no_coll c = ap (λ (m : Option Shelf). is_some m) (fin.get-empty coll_cmp c)

module _ (set : Settings) (t : Tree) (gone : (c : Coll) → CollFits c → IsGone set c t) where
  isnt : (c : Coll) → is_there t c ≡ false
  isnt c = ⊎_elim (λ fits. missing_is t c (gone c fits).none) (λ unfit. unfit_is t c unfit) (coll_cases c)

  cell : (M : Maps) → AreMaps set t M → (x : Cell) → Holds nothing [] (guards_in (counts_of []) (shown M t) x) 0 x (cells_in (shown M t) x)
  cell M of_t x = inl (record {
    when = 0;
    from_guard = omega (arith, guard_missing [] M t x (isnt x.c));
    reached = omega arith;
    by = omega arith;
    value = cell_none set t M of_t x (λ fits. (gone x.c fits).empty) ∙ sym (missing_absent nothing x (no_coll x.c));
    free = λ j z lt source. absurd (omega (arith, lt));
  })

  pub past_none : PastOps set fin.empty [] 0 t
  past_none = record {
    cells = λ M of_t. at_each nothing [] (λ x. 0) (cells_in (shown M t)) (guards_in (counts_of []) (shown M t)) (cell M of_t);
    colls = λ c. record { when = 0; from = omega arith; to = omega arith; is = isnt c ∙ sym (no_coll c) };
    whole = λ c fits. (gone c fits).empty.whole;
    empty = λ c fits missing. (gone c fits).empty;
  }
