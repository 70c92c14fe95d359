-- More pieces than a field or a statement has.
use Rattle.std.proofs.Common.{◌≡◌, ℕ, Bool, true, false, not, List, ◌∷◌, refl, ◌∙◌, ap}
use Rattle.std.specs.Prelude.{Option, Some, Ok, Err, ◌==◌}
use Rattle.std.specs.List.{slice_split}
use Rattle.std.specs.Borrow.{Bor}
use Rattle.fs_script.specs.declared.fault.ScriptWhy.TheVariants.{BadObject, WrongCount}
use Rattle.fs_script.specs.Fields.{object_parts}
use Rattle.fs_script.specs.Words.{no_word, one_word, some_word, is_even, pieces_left}
use Rattle.fs_script.proofs.Cuts.{some-piece}

pub object_parts-more : (p : ℕ → Bool) (c o r : List ℕ) → object_parts (c ∷ o ∷ slice_split p r) ≡ Err BadObject
object_parts-more p c o r = some-piece p r (λ (l : List (List ℕ)). object_parts (c ∷ o ∷ l) ≡ Err BadObject) (λ a more. refl)

pub no_word-more : (p : ℕ → Bool) (r : List ℕ) → no_word (slice_split p r) ≡ Err WrongCount
no_word-more p r = some-piece p r (λ (l : List (List ℕ)). no_word l ≡ Err WrongCount) (λ a more. refl)

pub one_word-more : (p : ℕ → Bool) (a r : List ℕ) → one_word (a ∷ slice_split p r) ≡ Err WrongCount
one_word-more p a r = some-piece p r (λ (l : List (List ℕ)). one_word (a ∷ l) ≡ Err WrongCount) (λ b bs. refl)

pub some_word-more : (p : ℕ → Bool) (r : List ℕ) → some_word (slice_split p r) ≡ Ok tt
some_word-more p r = some-piece p r (λ (l : List (List ℕ)). some_word l ≡ Ok tt) (λ a more. refl)

pub ruleset counts = (object_parts-more, no_word-more, one_word-more, some_word-more)

-- an even number of words, where so many were taken off
abbrev pub same : Bool → Bool → Bool
same true even = even
same false even = not even

pub one-word : (all : List (List ℕ)) (even : Bool) (old : Option (Bor (List ℕ))) (text : Bor (List ℕ)) (word : List ℕ) (more : Option (Bor (List ℕ)))
    → is_even all ≡ same even (is_even (pieces_left 32 old)) → old ≡ Some text → slice_split (λ b. b == 32) text.now ≡ word ∷ pieces_left 32 more
    → is_even all ≡ same (not even) (is_even (pieces_left 32 more))
one-word all even old text word more so_far is cut =
    so_far ∙ ap (λ (r : Option (Bor (List ℕ))). same even (is_even (pieces_left 32 r))) is
    ∙ ap (λ (ws : List (List ℕ)). same even (is_even ws)) cut
    ∙ turned even (is_even (pieces_left 32 more))
  where
    turned : (even rest : Bool) → same even (not rest) ≡ same (not even) rest
    turned true rest = refl
    turned false true = refl
    turned false false = refl
