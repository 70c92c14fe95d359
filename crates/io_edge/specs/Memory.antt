-- Streams in memory, whose calls fail by a plan.
use Rattle.std.specs.Prelude.{◌≡◌, ℕ, ◌<◌, List, length, Bool, if◌then◌else◌, Contains}
use Rattle.fault_count.specs.Counted.{one_more}
use Rattle.fault_count.specs.Plan.{Plan}

-- what a source in memory has left
pub record Incoming : Type 0 where
  pub left : List ℕ
  pub plan : Plan

-- what a sink in memory has taken, and how much it has room for in all
pub record Outgoing : Type 0 where
  pub written : List ℕ
  pub room : ℕ
  pub plan : Plan

-- no call yet
abbrev pub first_plan : List ℕ → Plan
first_plan fail = record { fail = fail; calls = 0; faults = 0 }

-- the plan fails its next call
abbrev pub FailsNext : Plan → Type 0
FailsNext plan = Contains plan.fail (one_more plan.calls)

-- the plan after a call, which may have failed
abbrev pub after_call : Bool → Plan → Plan
after_call failed plan = record {
  fail = plan.fail;
  calls = one_more plan.calls;
  faults = if failed then one_more plan.faults else plan.faults;
}

-- there is no room for any byte of a piece that has some
pub record IsFull (sink : Outgoing) (piece : List ℕ) : Type 0 where
  pub full : length sink.written ≡ sink.room
  pub some : 0 < length piece
