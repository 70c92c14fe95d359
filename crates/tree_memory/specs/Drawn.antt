-- What a crash takes, as drawn.
use Rattle.std.specs.Prelude.{ℕ, ◌/◌, ◌^◌, ◌==◌, ◌&&◌, Bool, not}
use Rattle.draws.specs.State.{next_state, upper_half}

-- what is new is taken where the number after this state is 2^31 or more, but never by the oldest image
abbrev pub takes : Bool → ℕ → Bool
takes oldest state = (upper_half (next_state state) / 2 ^ 31 == 1) && not oldest
