-- An Apply turn over disks: what stands is carried on.
use Rattle.std.proofs.Common.{◌≡◌, ◌≢◌, ℕ, ◌≤◌, Option, None}
use Rattle.fs_names.specs.declared.settings.Settings.{Settings}
use Rattle.tree_api.specs.Tree.{Version, Tree}
use Rattle.tree_api.specs.Disk.{Disk, Sound, From, Keeps}
use Rattle.tree_api.proofs.Moments.{weaker, now_from}
use Rattle.lfn_index.specs.Maps.{content}
use Rattle.turn_core.specs.declared.turn.Turn.TheVariants as turn
use Rattle.turn_core.specs.declared.slots.Slot.{Slot}
use Rattle.turn_core.specs.declared.state.Core.{Core}
use Rattle.turn_core.specs.Phases.{target}
use Rattle.turn_core.specs.Table.{after}
use Rattle.fs_cells.specs.declared.cell.Cell.{Cell}
use Rattle.fs_cells.specs.declared.cell.Part.{Part}
use Rattle.fs_cells.specs.Parts.{CellAct}
use Rattle.tree_stands.specs.Names.{Name, cell_at}
use Rattle.tree_stands.specs.Shown.{Counts, guards_in, Paired}
use Rattle.tree_stands.specs.Trees.{Maps, AreMaps, AllWhole, dir_guard, shown, ForObject}
use Rattle.tree_stands.specs.Standing.{History, slot_place, Image, Stand, ObjectCrash}
use Rattle.tree_stands.specs.Edits.{Edits}
use Rattle.tree_stands.specs.Laws.{AppliesTo, ApplyLaw}
use Rattle.tree_stands.proofs.Law.{edit_law}
use Rattle.tree_stands.proofs.Trees.{maps, maps_are}

module _ (set : Settings) (g : Counts) (h : History) (core : Core) (number : ℕ) (passed : Cell → ℕ) (i : ℕ) (slot : Slot) (n : Name) (row : Part → CellAct) (F : Option Version → Option Version)
    (to : AppliesTo h core i slot n row) (edits : (a : Option Version) → Edits row a (F a)) (taken : number ≤ target core.committed core.phase)
    (old new : Disk) (sound : Sound old) (sound_new : Sound new) (stand : Stand set g h core number passed old) (there : dir_guard old.tree n.coll ≢ None)
    (applies : (M : Maps) → AreMaps set old.tree M → (part : Part) → guards_in g (shown M old.tree) (cell_at n part) ≤ slot_place h slot)
    (crash : ObjectCrash set n F old new) where
  abbrev whole : AllWhole set old.tree
  whole = (stand.images old.tree sound.now).whole

  abbrev M : Maps
  M = maps set old.tree whole

  abbrev of_old : AreMaps set old.tree M
  of_old = maps_are set old.tree whole

  abbrev Goes : Tree → Tree → Type 0
  Goes = ForObject set n (Paired (content (M n.coll) old.tree n.oid) (F (content (M n.coll) old.tree n.oid)))

  law : ApplyLaw set g h core number passed i n F old.tree
  law = edit_law set g h core number passed i slot n row F old.tree to edits
      (record { reads = stand.reads; itself = stand.images old.tree sound.now; taken = taken; there = there; applies = applies })

  image : (f : Tree) → From old Goes f → Image set g h core.started number passed old.tree f
  image f from = law.keeps M of_old from.0 f (stand.images from.0 from.1) from.2

  -- a crash at any moment leaves an image beside what read
  pub turn_keeps : Keeps (Image set g h core.started number passed old.tree) old new
  turn_keeps = weaker (From old Goes) (Image set g h core.started number passed old.tree) old new (crash M of_old) (λ f from. image f from)

  -- and once the turn is done the store stands
  pub turn_stands : ForObject set n (λ x y. y ≡ F x) old.tree new.tree → Stand set g h (after core (turn.Apply i) None) number passed new
  turn_stands reads = record {
    reads = law.goes new.tree reads;
    images = λ f may. law.beside new.tree f reads (image f (now_from (From old Goes) old new sound_new (crash M of_old) f may));
  }
