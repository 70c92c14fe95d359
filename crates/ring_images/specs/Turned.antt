-- A ring's bytes, turned so that they begin at the start place.
use Rattle.std.specs.Prelude.{ℕ, ◌+◌, ◌-◌, List, ◌++◌, take, drop, if◌then◌else◌, ltb}
use Rattle.ring_frame.specs.Frame.{heads_size}

-- the bytes from the start place to the device's end, and then those from the ring's first place on
abbrev pub turned : ℕ → List ℕ → List ℕ
turned start bytes = drop start bytes ++ take (start - heads_size) (drop heads_size bytes)

-- what is left of them from an offset on
abbrev pub ring_from : ℕ → ℕ → List ℕ → List ℕ
ring_from start offset bytes = drop offset (turned start bytes)

-- where on the device the byte at this offset from the start is
abbrev pub place_of : ℕ → ℕ → ℕ → ℕ
place_of size start offset = if ltb offset (size - start) then start + offset else heads_size + (offset - (size - start))
