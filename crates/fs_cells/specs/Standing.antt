-- Transactions of operations, and the objects that a tree's cells and a journal's entries stand for.
use Rattle.std.specs.Prelude.{◌≡◌, ℕ, ◌-◌, ◌≤◌, List, [], ◌∷◌, length, map, take}
use Rattle.std.specs.FinMap as fin
use Rattle.fs_names.specs.declared.coll.Coll.{Coll}
use Rattle.fs_names.specs.declared.coll.GroupId.{GroupId}
use Rattle.fs_names.specs.Groups.{group_of}
use Rattle.fs_model.specs.declared.op.Op.{Op}
use Rattle.fs_model.specs.Named.{groups_of, Conflict}
use Rattle.fs_model.specs.Objects.{Objects}
use Rattle.fs_model.specs.Rows.{fold_ops, fold_txns}
use Rattle.replay_laws.specs.Replay.{Act}
use Rattle.slot_laws.specs.History.{Txn, Within, Apart, flat, count}
use Rattle.slot_laws.specs.Slots.{Image, StandsFor, above}
use Rattle.fs_cells.specs.declared.cell.Cell.{Cell}
use Rattle.fs_cells.specs.Values.{Value, raise, cells_of}
use Rattle.fs_cells.specs.Actions.{act_of}
use Rattle.turn_core.specs.Groups.{among}
use Rattle.fs_cells.specs.Laws.{AreAllowed}

abbrev pub group_at : Cell → GroupId
group_at x = group_of x.c

-- a transaction as one of a history: the cells in groups of the collections that it names, and what it does
abbrev pub txn_of : List Op → Txn Cell Value
txn_of ops = record { names = λ x. among (groups_of ops) (group_at x); ops = map act_of ops }

abbrev pub history_of : List (List Op) → List (Txn Cell Value)
history_of txns = map txn_of txns

-- its operations change and read cells of its own groups alone
abbrev pub TxnsWithin : Type 0
TxnsWithin = (ops : List Op) → Within (txn_of ops)

-- transactions that don't conflict have no cell in common
abbrev pub TxnsApart : Type 0
TxnsApart = (a b : List Op) → (Conflict a b → ⊥) → Apart (txn_of a) (txn_of b)

-- each operation names collections that are there after those before it, over all transactions
abbrev pub AllAllowed : Objects → List (List Op) → Type 0
AllAllowed O [] = Unit {0}
AllAllowed O (ops ∷ txns) = AreAllowed O ops × AllAllowed (fold_ops O ops) txns

-- the cells and guards of a tree, with the operations that it has not committed, stand for these objects
abbrev pub StandsForObjects : List (Cell → Act Cell Value) → (Cell → Value) → (Cell → ℕ) → Objects → Type 0
StandsForObjects ops cells guards O = StandsFor raise ops cells guards (cells_of O)

-- An image past n transactions, and a journal that gave up the first p and holds those up to end, stand for the objects after
-- the first end transactions.
abbrev pub JoinLaw : Type 0
JoinLaw = (O : Objects) (txns : List (List Op)) → AllAllowed O txns → (p n started end : ℕ) → p ≤ n → n ≤ started
    → started ≤ end → end ≤ length txns
    → (cells : Cell → Value) (guards passed : Cell → ℕ) → ((x : Cell) → passed x ≤ count (history_of txns) started)
    → Image raise (cells_of O) (history_of txns) started n cells guards passed
    → StandsForObjects (flat (above (history_of txns) p n end)) cells (λ x. guards x - count (history_of txns) n) (fold_txns O (take end txns))

-- and for none else with these collections
abbrev pub OnceLaw : Type 0
OnceLaw = (ops : List (Cell → Act Cell Value)) (cells : Cell → Value) (guards : Cell → ℕ) (O P : Objects)
    → ((c : Coll) → fin.contains_key O c ≡ fin.contains_key P c)
    → StandsForObjects ops cells guards O → StandsForObjects ops cells guards P → O ≡ P
