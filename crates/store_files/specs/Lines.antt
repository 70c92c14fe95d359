-- Lines of a word and a value.
use Rattle.std.specs.Prelude.{◌≡◌, ◌≢◌, ℕ, ◌++◌, ◌∷◌, List, All}

abbrev pub NoNewline : List ℕ → Type 0
NoNewline = All (λ b. b ≢ 10)

-- a word, a value, a newline, and what follows
abbrev pub line : List ℕ → List ℕ → List ℕ → List ℕ
line word value rest = word ++ (value ++ 10 ∷ rest)

-- a text is a line of this word and what follows
abbrev pub IsLine : List ℕ → List ℕ → List ℕ → List ℕ → Type 0
IsLine word text value rest = NoNewline value × (text ≡ line word value rest)

-- it doesn't begin with such a line
abbrev pub NoLine : List ℕ → List ℕ → Type 0
NoLine word text = (value rest : List ℕ) → text ≢ line word value rest
