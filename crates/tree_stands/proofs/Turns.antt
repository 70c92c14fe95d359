-- What the other turns of a store make of what stands.
use Rattle.std.proofs.Common.{ℕ, ◌+◌, ◌-◌, ◌≤◌, List, take, drop, refl, sym, subst, arith}
use Rattle.replay_laws.specs.Replay.{Act}
use Rattle.replay_laws.specs.Places.{AtEach}
use Rattle.replay_laws.proofs.Places.{places_law}
use Rattle.slot_laws.specs.History.{flat, line}
use Rattle.slot_laws.proofs.Flat.{flat_more}
use Rattle.turn_history.proofs.Opening.{history_law}
use Rattle.fs_cells.specs.declared.cell.Cell.{Cell}
use Rattle.fs_cells.specs.Values.{Value, raise, cells_of}
use Rattle.fs_cells.specs.Standing.{group_at, history_of}
use Rattle.tree_stands.specs.Shown.{cells_in, guards_in}
use Rattle.tree_stands.specs.Trees.{shown}
use Rattle.tree_stands.specs.Standing.{History, line_of, count_to}
use Rattle.tree_stands.specs.Turns.{TurnLaw}
use Rattle.tree_stands.proofs.Next.{all_within}

-- more transactions are started
line_grows : (h : History) (started : ℕ) (place : Cell → ℕ) (cells : Cell → Value) (guards passed : Cell → ℕ) → ((x : Cell) → passed x ≤ count_to h started)
    → AtEach (line_of h started) place cells guards passed → AtEach (line raise (cells_of h.objects) (history_of h.txns) (started + 1 - h.base)) place cells guards passed
line_grows h started place cells guards passed bound held =
    subst (λ (ops : List (Cell → Act Cell Value)). AtEach (record { raise = raise; ops = ops; before = cells_of h.objects; start = cells_of h.objects; skips = λ x. 0 }) place cells guards passed)
    (sym (flat_more (history_of h.txns) (started - h.base) (started + 1 - h.base) (omega arith)))
    (places_law.more (line_of h started) (flat (take (started + 1 - h.base - (started - h.base)) (drop (started - h.base) (history_of h.txns)))) place cells guards passed bound held)

pub turn_law : TurnLaw
turn_law = record {
  start_reads = λ set g h core passed slot t chain opens ready match bound reads M of_t.
      history_law.start raise (cells_of h.objects) group_at h.base (history_of h.txns) (all_within h.txns) core slot chain opens ready match (cells_in (shown M t)) (guards_in g (shown M t)) passed bound (reads M of_t);
  start_image = λ set g h started number passed t e bound is. record {
    at = λ M of_e. line_grows h started (λ x. count_to h number) (cells_in (shown M e)) (guards_in g (shown M e)) passed bound (is.at M of_e);
    whole = is.whole;
    dirs = is.dirs;
  };
  synced = λ set g h core passed t chain opens whole reads. record {
    at = λ M of_t. history_law.synced raise (cells_of h.objects) group_at h.base (history_of h.txns) core chain opens (cells_in (shown M t)) (guards_in g (shown M t)) passed (reads M of_t);
    whole = whole;
    dirs = λ coll fits there. refl;
  };
}
