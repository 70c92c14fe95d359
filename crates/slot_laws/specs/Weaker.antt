-- What goes wrong where two open transactions name a group, and where a copy is not for good before its source changes.
use Rattle.std.specs.Prelude.{◌≡◌, ℕ, max, List, [], ◌∷◌}
use Rattle.replay_laws.specs.Replay.{Effect, stays, becomes, Act, leaves, sets, copies, Case, fold, GoodStart}

abbrev pub first_value : List ℕ → Effect ℕ
first_value [] = stays
first_value (v ∷ more) = becomes v

pub data Two : Type 0 where
  source : Two
  copy : Two

-- the first transaction copies the source, the second writes 7 to it; the cells were 5 and 9
abbrev pub copy_op : Two → Act Two ℕ
copy_op source = leaves
copy_op copy = copies (source ∷ []) first_value

abbrev pub write_op : Two → Act Two ℕ
write_op source = sets 7
write_op copy = leaves

abbrev pub two : ℕ → ℕ → Two → ℕ
two a b source = a
two a b copy = b

abbrev pub left : ℕ → ℕ → ℕ → Case Two ℕ
left a b guard = record { raise = max; ops = copy_op ∷ write_op ∷ []; before = two 5 9; start = two a b; skips = two 0 guard }

pub record WeakerLaw : Type 0 where
  -- in order the copy gets 5; with the write first it gets 7, also without any crash
  pub in_order : fold max (copy_op ∷ write_op ∷ []) (two 5 9) copy ≡ 5
  pub other_order : fold max (write_op ∷ copy_op ∷ []) (two 5 9) copy ≡ 7
  -- where the write is done and the copy is not, a crash leaves no good start
  pub not_overtaken : GoodStart (left 7 9 0) → ⊥
  -- nor where both are done, and the copy has no guard
  pub not_unguarded : GoodStart (left 7 5 0) → ⊥
  -- with its guard it does, and so does each moment of the two in order
  pub with_guard : GoodStart (left 7 5 1)
  pub copied : GoodStart (left 5 5 1)
  pub copied_unguarded : GoodStart (left 5 5 0)
  pub nothing_done : GoodStart (left 5 9 0)
