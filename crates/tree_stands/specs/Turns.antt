-- What the other turns of a store make of what stands. A turn that is not named here leaves it word for word.
use Rattle.std.specs.Prelude.{ℕ, ◌+◌, ◌≤◌, Some}
use Rattle.fs_names.specs.declared.settings.Settings.{Settings}
use Rattle.tree_api.specs.Tree.{Tree}
use Rattle.turn_core.specs.declared.turn.Turn.TheVariants as turn
use Rattle.turn_core.specs.declared.slots.Slot.{Slot}
use Rattle.turn_core.specs.declared.state.Core.{Core}
use Rattle.turn_core.specs.Phases.{target}
use Rattle.turn_core.specs.Table.{after}
use Rattle.turn_core.specs.Chain.{Chain, IsReady}
use Rattle.turn_history.specs.History.{Matches, Opens}
use Rattle.fs_cells.specs.declared.cell.Cell.{Cell}
use Rattle.fs_cells.specs.Standing.{group_at, history_of}
use Rattle.tree_stands.specs.Shown.{Counts}
use Rattle.tree_stands.specs.Trees.{AllWhole, TreeAt}
use Rattle.tree_stands.specs.Standing.{History, line_of, place_of, count_to, Image}

pub record TurnLaw : Type 0 where
  -- a Start turn leaves the tree where it is, as it reads and in each image
  pub start_reads : (set : Settings) (g : Counts) (h : History) (core : Core) (passed : Cell → ℕ) (slot : Slot) (t : Tree) → Chain core
      → Opens group_at h.base (history_of h.txns) core
      → IsReady core turn.Start (Some slot) → Matches group_at h.base (history_of h.txns) slot → ((x : Cell) → passed x ≤ count_to h core.started)
      → TreeAt set g (line_of h core.started) (place_of h core) passed t
      → TreeAt set g (line_of h (core.started + 1)) (place_of h (after core turn.Start (Some slot))) passed t
  pub start_image : (set : Settings) (g : Counts) (h : History) (started number : ℕ) (passed : Cell → ℕ) (t e : Tree)
      → ((x : Cell) → passed x ≤ count_to h started)
      → Image set g h started number passed t e → Image set g h (started + 1) number passed t e
  -- what reads is an image of itself with the number that a commit took, which a whole sync makes the only one
  pub synced : (set : Settings) (g : Counts) (h : History) (core : Core) (passed : Cell → ℕ) (t : Tree) → Chain core
      → Opens group_at h.base (history_of h.txns) core → AllWhole set t
      → TreeAt set g (line_of h core.started) (place_of h core) passed t → Image set g h core.started (target core.committed core.phase) passed t t
