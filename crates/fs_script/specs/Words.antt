-- So many words.
use Rattle.std.specs.Prelude.{◌≡◌, ◌==◌, ℕ, Bool, true, not, if◌then◌else◌, List, [], ◌∷◌, Option, None, Some, Result, Ok, Err}
use Rattle.std.specs.List.{slice_split}
use Rattle.std.specs.Borrow.{Bor}
use Rattle.fs_script.specs.declared.fault.LineFault.{LineFault}
use Rattle.fs_script.specs.declared.fault.LineFault.TheVariants.{Bad}
use Rattle.fs_script.specs.declared.fault.ScriptWhy.TheVariants.{WrongCount}
use Rattle.fs_script.specs.Reading.{Reading}

-- words are separated by one space
abbrev pub words_of : List ℕ → List (List ℕ)
words_of line = slice_split (λ b. b == 32) line

abbrev pub no_word : List (List ℕ) → Reading (Unit {0})
no_word [] = Ok tt
no_word _ = Err WrongCount

abbrev pub one_word : List (List ℕ) → Reading (List ℕ)
one_word (a ∷ []) = Ok a
one_word _ = Err WrongCount

abbrev pub two_words : List (List ℕ) → Reading (List ℕ × List ℕ)
two_words (a ∷ b ∷ []) = Ok (a, b)
two_words _ = Err WrongCount

abbrev pub three_words : List (List ℕ) → Reading (List ℕ × List ℕ × List ℕ)
three_words (a ∷ b ∷ c ∷ []) = Ok (a, b, c)
three_words _ = Err WrongCount

abbrev pub five_words : List (List ℕ) → Reading (List ℕ × List ℕ × List ℕ × List ℕ × List ℕ)
five_words (a ∷ b ∷ c ∷ d ∷ e ∷ []) = Ok (a, b, c, d, e)
five_words _ = Err WrongCount

-- a word, and those behind it
abbrev pub first_word : List (List ℕ) → Reading (List ℕ × List (List ℕ))
first_word [] = Err WrongCount
first_word (word ∷ words) = Ok (word, words)

-- one word or more
abbrev pub some_word : List (List ℕ) → Reading (Unit {0})
some_word [] = Err WrongCount
some_word _ = Ok tt

abbrev pub is_even : List (List ℕ) → Bool
is_even [] = true
is_even (word ∷ words) = not (is_even words)

-- two words each
abbrev pub paired : List (List ℕ) → Reading (Unit {0})
paired words = if is_even words then Ok tt else Err WrongCount

-- what is left of a text that is cut at a byte, as pieces

abbrev pub pieces_left : ℕ → Option (Bor (List ℕ)) → List (List ℕ)
pieces_left byte None = []
pieces_left byte (Some rest) = slice_split (λ b. b == byte) rest.now

-- exactly so many words; no memory is taken
abbrev pub GivesOne : List (List ℕ) → Result (Bor (List ℕ)) LineFault → Type 0
GivesOne words (Ok a) = words ≡ a.now ∷ []
GivesOne words (Err fault) = (fault ≡ Bad WrongCount) × (one_word words ≡ Err WrongCount)

abbrev pub GivesTwo : List (List ℕ) → Result (Bor (List ℕ) × Bor (List ℕ)) LineFault → Type 0
GivesTwo words (Ok w) = words ≡ w.0.now ∷ w.1.now ∷ []
GivesTwo words (Err fault) = (fault ≡ Bad WrongCount) × (two_words words ≡ Err WrongCount)

abbrev pub GivesThree : List (List ℕ) → Result (Bor (List ℕ) × Bor (List ℕ) × Bor (List ℕ)) LineFault → Type 0
GivesThree words (Ok w) = words ≡ w.0.now ∷ w.1.now ∷ w.2.now ∷ []
GivesThree words (Err fault) = (fault ≡ Bad WrongCount) × (three_words words ≡ Err WrongCount)

abbrev pub GivesFive : List (List ℕ) → Result (Bor (List ℕ) × Bor (List ℕ) × Bor (List ℕ) × Bor (List ℕ) × Bor (List ℕ)) LineFault → Type 0
GivesFive words (Ok w) = words ≡ w.0.now ∷ w.1.now ∷ w.2.now ∷ w.3.now ∷ w.4.now ∷ []
GivesFive words (Err fault) = (fault ≡ Bad WrongCount) × (five_words words ≡ Err WrongCount)

abbrev pub GivesFirst : List (List ℕ) → Result (Bor (List ℕ) × Option (Bor (List ℕ))) LineFault → Type 0
GivesFirst words (Ok w) = words ≡ w.0.now ∷ pieces_left 32 w.1
GivesFirst words (Err fault) = (fault ≡ Bad WrongCount) × (first_word words ≡ Err WrongCount)
