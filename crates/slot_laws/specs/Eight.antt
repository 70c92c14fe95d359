-- Eight transactions that are open at once.
use Rattle.std.specs.Prelude.{ℕ, ◌==◌, if◌then◌else◌, List, [], ◌∷◌, Option, Some}
use Rattle.replay_laws.specs.Replay.{sets, leaves}
use Rattle.slot_laws.specs.History.{Txn, Open, AreOpen}

-- it has a group of its own, with one cell, and writes 1 to it
abbrev pub small_txn : ℕ → Txn ℕ ℕ
small_txn i = record { names = λ x. x == i; ops = (λ x. if x == i then sets 1 else leaves) ∷ [] }

abbrev pub eight : List (Txn ℕ ℕ)
eight = small_txn 0 ∷ small_txn 1 ∷ small_txn 2 ∷ small_txn 3 ∷ small_txn 4 ∷ small_txn 5 ∷ small_txn 6 ∷ small_txn 7 ∷ []

abbrev pub begun : ℕ → Option Open
begun i = Some (record { index = i; next = 0 })

abbrev pub EightOpen : Type 0
EightOpen = AreOpen eight 8 (begun 0 ∷ begun 1 ∷ begun 2 ∷ begun 3 ∷ begun 4 ∷ begun 5 ∷ begun 6 ∷ begun 7 ∷ [])
