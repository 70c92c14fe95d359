-- A clone, a write to its source and a move of the copy: which of what a crash may leave is a good start.
use Rattle.std.specs.Prelude.{◌≡◌, ℕ, ◌+◌, max, List, [], ◌∷◌}
use Rattle.replay_laws.specs.Replay.{Effect, stays, becomes, Act, leaves, sets, raises, copies, Case, fold, GoodStart, Replayed}

pub data Three : Type 0 where
  source : Three
  copy : Three
  target : Three

abbrev pub first_value : List ℕ → Effect ℕ
first_value [] = stays
first_value (v ∷ more) = becomes v

abbrev pub clone_op : Three → Act Three ℕ
clone_op source = leaves
clone_op copy = copies (source ∷ []) first_value
clone_op target = leaves

abbrev pub write_op : Three → Act Three ℕ
write_op source = sets 7
write_op copy = leaves
write_op target = leaves

-- what is gone is 0
abbrev pub move_op : Three → Act Three ℕ
move_op source = leaves
move_op copy = sets 0
move_op target = copies (copy ∷ []) first_value

abbrev pub three : ℕ → ℕ → ℕ → Three → ℕ
three a b c source = a
three a b c copy = b
three a b c target = c

abbrev pub ops : List (Three → Act Three ℕ)
ops = clone_op ∷ write_op ∷ move_op ∷ []

-- a crash left these values and guards; before the clone they were 5, 8 and 9
abbrev pub left : (Three → ℕ) → (Three → ℕ) → Case Three ℕ
left values guards = record { raise = max; ops = ops; before = three 5 8 9; start = values; skips = guards }

-- one operation adds 1 to what was 0, and a crash left it done
abbrev pub add : ℕ → ℕ → ℕ
add n m = n + m

abbrev pub added : Case Three ℕ
added = record { raise = add; ops = (λ x. raises 1) ∷ []; before = λ x. 0; start = λ x. 1; skips = λ x. 0 }

pub record ExamplesLaw : Type 0 where
  -- at the end the copy is gone, and the target has what the source was
  pub end_source : fold max ops (three 5 8 9) source ≡ 7
  pub end_copy : fold max ops (three 5 8 9) copy ≡ 0
  pub end_target : fold max ops (three 5 8 9) target ≡ 5
  -- good starts: nothing is done, the copy is made, it is guarded, its source is written, the move has begun, and it is done
  pub nothing_done : GoodStart (left (three 5 8 9) (three 0 0 0))
  pub copied : GoodStart (left (three 5 5 9) (three 0 0 0))
  pub guarded : GoodStart (left (three 5 5 9) (three 0 1 0))
  pub written : GoodStart (left (three 7 5 9) (three 0 1 0))
  pub begun : GoodStart (left (three 7 5 9) (three 0 2 0))
  pub moved : GoodStart (left (three 7 0 5) (three 0 0 3))
  -- a copy without a guard whose source was written
  pub not_unguarded : GoodStart (left (three 7 5 9) (three 0 0 0)) → ⊥
  -- a guard of the move that counts the operations before it, and not the move
  pub not_one_less : GoodStart (left (three 7 0 5) (three 0 0 2)) → ⊥
  -- a guard that stands before the copy's content
  pub not_before_content : GoodStart (left (three 5 8 9) (three 0 1 0)) → ⊥
  -- raising twice must be raising once: with a sum, replay of a good start ends with 2 in place of 1
  pub added_good : GoodStart added
  pub added_replayed : Replayed added 1 (λ x. 2)
  pub added_meant : fold add added.ops added.before source ≡ 1
