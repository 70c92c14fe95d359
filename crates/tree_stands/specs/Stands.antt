-- The objects that a tree and a journal stand for.
use Rattle.std.specs.Prelude.{◌≡◌, ℕ, ◌-◌, ◌≤◌, false, List, length, take, Option, Some, None}
use Rattle.std.specs.FinMap as fin
use Rattle.fs_names.specs.declared.coll.Coll.{Coll}
use Rattle.fs_names.specs.declared.settings.Settings.{Settings}
use Rattle.fs_model.specs.Objects.{Object, Objects, look}
use Rattle.fs_model.specs.Rows.{fold_txns}
use Rattle.tree_api.specs.Tree.{Version, Tree}
use Rattle.lfn_index.specs.Maps.{content}
use Rattle.object_file.specs.Attrs.{attr_name}
use Rattle.replay_laws.specs.Replay.{Act}
use Rattle.slot_laws.specs.History.{flat}
use Rattle.slot_laws.specs.Slots.{above}
use Rattle.fs_cells.specs.declared.cell.Cell.{Cell}
use Rattle.fs_cells.specs.Values.{Value, cells_of, is_omap}
use Rattle.fs_cells.specs.Standing.{history_of, AllAllowed, StandsForObjects}
use Rattle.tree_stands.specs.Names.{Name, NameFits}
use Rattle.tree_stands.specs.Shown.{Counts, cells_in, guards_in}
use Rattle.tree_stands.specs.Trees.{Maps, AreMaps, AllWhole, shown, TreeAt}
use Rattle.tree_stands.specs.Standing.{History, line_of, count_to}

-- a file holds an object's bytes and attributes, or neither is there
abbrev pub IsLaid : Option Version → Option Object → Type 0
IsLaid None None = Unit {0}
IsLaid None (Some x) = ⊥
IsLaid (Some v) None = ⊥
IsLaid (Some v) (Some x) = (v.bytes ≡ x.bytes) × ((k : List ℕ) → v.attr (attr_name k) ≡ fin.get x.attrs k)

-- the operations of a journal that gave up the transactions up to p and ends at `end`, but for those up to this number
abbrev pub ops_above : History → ℕ → ℕ → ℕ → List (Cell → Act Cell Value)
ops_above h p number end = flat (above (history_of h.txns) (p - h.base) (number - h.base) (end - h.base))

-- the objects after the transactions up to this number
abbrev pub objects_at : History → ℕ → Objects
objects_at h number = fold_txns h.objects (take (number - h.base) h.txns)

-- a tree with this number and these operations stand for the objects
abbrev pub TreeStandsFor : Settings → Counts → History → ℕ → List (Cell → Act Cell Value) → Tree → Objects → Type 0
TreeStandsFor set g h number ops t O =
    (M : Maps) → AreMaps set t M → StandsForObjects ops (cells_in (shown M t)) (λ x. guards_in g (shown M t) x - count_to h number) O

pub record StandsLaw : Type 0 where
  -- an image with a number, and a journal that holds all that were started above it, stand for the objects at the journal's end
  pub join : (set : Settings) (g : Counts) (h : History) → AllAllowed h.objects h.txns → (p number started end : ℕ) → h.base ≤ p → p ≤ number
      → number ≤ started → started ≤ end → end - h.base ≤ length h.txns → (passed : Cell → ℕ) → ((x : Cell) → passed x ≤ count_to h started) → (t : Tree)
      → TreeAt set g (line_of h started) (λ x. count_to h number) passed t → TreeStandsFor set g h number (ops_above h p number end) t (objects_at h end)
  -- and for no others that have the same collections
  pub once : (set : Settings) (g : Counts) (h : History) (number : ℕ) (ops : List (Cell → Act Cell Value)) (t : Tree) → AllWhole set t → (O P : Objects)
      → ((c : Coll) → fin.contains_key O c ≡ fin.contains_key P c) → TreeStandsFor set g h number ops t O → TreeStandsFor set g h number ops t P → O ≡ P
  -- a tree whose cells but for the omap are those of objects holds these objects
  pub laid : (set : Settings) (t : Tree) (M : Maps) → AreMaps set t M → (O : Objects)
      → ((x : Cell) → is_omap x.part ≡ false → cells_in (shown M t) x ≡ cells_of O x)
      → (n : Name) → NameFits n → IsLaid (content (M n.coll) t n.oid) (look O n.coll n.oid)
