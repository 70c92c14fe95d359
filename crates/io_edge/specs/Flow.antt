-- What a source and a sink show.
use Rattle.std.specs.Prelude.{ℕ, List}
use Rattle.fault_count.specs.Counted.{Counted}

pub record Inflow : Type 0 where
  -- the bytes that are left
  pub left : List ℕ
  -- how often it has failed
  pub faults : ℕ

pub record Outflow : Type 0 where
  -- the bytes that were taken
  pub written : List ℕ
  -- how often it has failed
  pub faults : ℕ

-- a fault was counted in between, or the count stands at its end
abbrev pub SourceFails : Inflow → Inflow → Type 0
SourceFails before now = Counted before.faults now.faults

abbrev pub SinkFails : Outflow → Outflow → Type 0
SinkFails before now = Counted before.faults now.faults
