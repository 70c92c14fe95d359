-- The calls on a file of fixed length, each with its answer.
use Rattle.std.specs.Prelude.{ℕ, List}

pub data Call : Type 0 where
  -- these bytes are to be written at a place; no call of the system is made yet
  Asked : ℕ → List ℕ → Call
  -- these bytes were written at a place
  Wrote : ℕ → List ℕ → Call
  -- these bytes were read at a place
  Gave : ℕ → List ℕ → Call
  -- a call that reads or writes has failed
  Failed : Call
  Synced : Call
  -- a sync has failed
  NotSynced : Call
