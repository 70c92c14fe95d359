-- The bytes that the first entries of a ring take, as they are found from its front on.
use Rattle.std.specs.Prelude.{◌≡◌, ℕ, ◌+◌, ◌≤◌, List, length, take, Result, IfOk}
use Rattle.ring_frame.specs.Frame.{Entry, need, told_length}
use Rattle.ring_frame.specs.Heads.{Head}
use Rattle.ring_images.specs.Readable.{sizes}
use Rattle.ring_images.specs.Turned.{ring_from}
use Rattle.ring_images.specs.Held.{StandUnder}

-- the offset behind an entry at this one
abbrev pub behind : Head → ℕ → List ℕ → ℕ
behind h offset bytes = offset + need (told_length (ring_from h.start offset bytes))

-- it is answered, where the entry ends within the used bytes
abbrev pub IsBehind : {E : Type 0} → Result ℕ E → Head → ℕ → ℕ → List ℕ → Type 0
IsBehind result h used offset bytes = behind h offset bytes ≤ used → IfOk result (λ n. n ≡ behind h offset bytes)

-- of entries that take the used bytes, the first n take what is answered
abbrev pub SizesFirst : {E : Type 0} → Result ℕ E → Head → ℕ → ℕ → List ℕ → Type 0
SizesFirst result h used n bytes =
    (es : List Entry) → StandUnder h bytes es → sizes es ≡ used → n ≤ length es → IfOk result (λ size. size ≡ sizes (take n es))

-- the same where it is known how many there are
abbrev pub SizesSkipped : {E : Type 0} → Result ℕ E → Head → ℕ → ℕ → ℕ → List ℕ → Type 0
SizesSkipped result h used count n bytes =
    (es : List Entry) → StandUnder h bytes es → sizes es ≡ used → length es ≡ count → n ≤ count → IfOk result (λ size. size ≡ sizes (take n es))
