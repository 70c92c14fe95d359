-- The next operation of a slot's transaction, in the line of all operations.
use Rattle.std.proofs.Common.{◌≡◌, ℕ, zero, suc, ◌+◌, ◌-◌, ◌<◌, true, List, [], ◌∷◌, map, length, get_or, sym, ◌∙◌, ap, subst, Option, Some, None}
use Rattle.std.specs.Prelude.{slice_get}
use Rattle.std.specs.List.{flat_map}
use Rattle.fs_model.specs.declared.op.Op.{Op}
use Rattle.fs_model.specs.Named.{colls_named, groups_of}
use Rattle.turn_core.specs.Groups.{among}
use Rattle.turn_core.specs.declared.slots.Slot.{Slot}
use Rattle.turn_core.specs.declared.state.Core.{Core}
use Rattle.turn_core.specs.Slots.{Holding}
use Rattle.turn_core.specs.Chain.{Chain}
use Rattle.turn_core.proofs.Rows.{some_not_none, some_same}
use Rattle.replay_laws.specs.Replay.{Act, act}
use Rattle.slot_laws.specs.History.{Txn, txn, idle_op, Within, AllWithin, IsOpen, AreOpen}
use Rattle.slot_laws.proofs.Flat.{op_at}
use Rattle.turn_history.specs.History.{opens_of, Opens}
use Rattle.turn_history.proofs.Matching.{txn_is}
use Rattle.fs_cells.specs.declared.cell.Cell.{Cell}
use Rattle.fs_cells.specs.Values.{Value}
use Rattle.fs_cells.specs.Actions.{act_of}
use Rattle.fs_cells.specs.Laws.{is_named}
use Rattle.fs_cells.specs.Standing.{group_at, history_of}
use Rattle.fs_cells.proofs.Groups.{first_among, later_among, txns_within}
use Rattle.tree_stands.specs.Standing.{History, line_of, slot_place, IsNext}

pub all_within : (txns : List (List Op)) → AllWithin (history_of txns)
all_within txns i = subst (λ (t : Txn Cell Value). Within t) (sym (txn_is txns i)) (txns_within (get_or txns i []))

-- what a slot holds is open in the history
open_at : (ts : List (Txn Cell Value)) (started base : ℕ) (slots : List (Option Slot)) (i : ℕ) (slot : Slot) → AreOpen ts started (opens_of base slots) → Holding slots i slot
    → IsOpen ts started (record { index = slot.seq - (base + 1); next = slot.next })
open_at ts started base [] i slot open_ones is = absurd (some_not_none slot (sym is))
open_at ts started base (None ∷ slots) zero slot open_ones is = absurd (some_not_none slot (sym is))
open_at ts started base (None ∷ slots) (suc i) slot open_ones is = open_at ts started base slots i slot open_ones is
open_at ts started base (Some first ∷ slots) zero slot (here, alone, rest) is =
    subst (λ (s : Slot). IsOpen ts started (record { index = s.seq - (base + 1); next = s.next })) (some_same first slot is) here
open_at ts started base (Some first ∷ slots) (suc i) slot (here, alone, rest) is = open_at ts started base slots i slot rest is

act_at : (ops : List Op) (k : ℕ) (op : Op) → slice_get ops k ≡ Some op → get_or (map act_of ops) k idle_op ≡ act_of op
act_at [] k op is = absurd (some_not_none op (sym is))
act_at (first ∷ ops) zero op is = ap act_of (some_same first op is)
act_at (first ∷ ops) (suc k) op is = act_at ops k op is

named_at : (ops : List Op) (k : ℕ) (op : Op) → slice_get ops k ≡ Some op → (x : Cell) → is_named op x ≡ true → among (groups_of ops) (group_at x) ≡ true
named_at [] k op is x named = absurd (some_not_none op (sym is))
named_at (first ∷ ops) zero op is x named = first_among (colls_named first) (flat_map colls_named ops) x (subst (λ (o : Op). is_named o x ≡ true) (sym (some_same first op is)) named)
named_at (first ∷ ops) (suc k) op is x named = later_among (colls_named first) (flat_map colls_named ops) (group_at x) (named_at ops k op is x named)

module _ (h : History) (core : Core) (i : ℕ) (slot : Slot) (op : Op) (chain : Chain core) (opens : Opens group_at h.base (history_of h.txns) core) (holding : Holding core.slots i slot) (next : IsNext h slot op) where
  abbrev index : ℕ
  index = slot.seq - (h.base + 1)

  is_left : slot.next < length (txn (history_of h.txns) index).ops
  is_left = subst (λ (k : ℕ). slot.next < k) (opens.each i slot holding).ops_are (chain.well_formed.unfinished i slot holding)

  -- the operation is where its slot is
  pub next_act : (x : Cell) → act (line_of h core.started) (slot_place h slot) x ≡ act_of op x
  next_act x = ap (λ (o : Cell → Act Cell Value). o x)
      (op_at (history_of h.txns) index (core.started - h.base) slot.next (open_at (history_of h.txns) (core.started - h.base) h.base core.slots i slot opens.open_ones holding).begun is_left
      ∙ ap (λ (t : Txn Cell Value). get_or t.ops slot.next idle_op) (txn_is h.txns index)
      ∙ act_at (get_or h.txns index []) slot.next op next)

  -- its cells are of the slot's groups
  pub next_named : (x : Cell) → is_named op x ≡ true → among slot.groups (group_at x) ≡ true
  next_named x named = sym ((opens.each i slot holding).names_are x) ∙ ap (λ (t : Txn Cell Value). t.names x) (txn_is h.txns index) ∙ named_at (get_or h.txns index []) slot.next op next x named
