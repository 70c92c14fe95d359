-- The fields so far, and those of the words that are left.
use Rattle.std.proofs.Common.{◌≡◌, ℕ, List, [], ◌∷◌, ◌++◌, refl, sym, ◌∙◌, ap, append_assoc}
use mathlib.Core.List.{append-nil}
use Rattle.std.specs.Prelude.{Option, None, Some, Ok, Err}
use Rattle.std.specs.Borrow.{Bor}
use Rattle.fs_script.specs.declared.fault.LineFault.{LineFault}
use Rattle.fs_script.specs.declared.fault.LineFault.TheVariants.{Bad, Memory}
use Rattle.fs_script.specs.Reading.{Reading, Tells}
use Rattle.fs_script.specs.Words.{pieces_left, words_of}
use Rattle.fs_script.specs.Fields.{before_fields, TellsFirst}

-- the fields so far, and then the others
abbrev pub after_fields : {A : Type 0} → List A → Reading (List A) → Reading (List A)
after_fields xs (Ok more) = Ok (xs ++ more)
after_fields xs (Err why) = Err why

pub before-any : {A : Type 0} (r : Reading (List A)) → r ≡ after_fields [] r
before-any (Ok xs) = refl
before-any (Err why) = refl

is-none : (r : Option (Bor (List ℕ))) → ((text : Bor (List ℕ)) → r ≡ Some text → ⊥) → r ≡ None
is-none None none = refl
is-none (Some text) none = absurd (none text refl)

after-field : {A : Type 0} (xs : List A) (x : A) (r : Reading (List A)) → after_fields xs (before_fields x r) ≡ after_fields (xs ++ x ∷ []) r
after-field xs x (Ok more) = ap Ok (sym (append_assoc xs (x ∷ []) more))
after-field xs x (Err why) = refl

-- the fields behind, where one more is read; each list of fields is read as `fields`

module _ {A : Type 0} (fields : List (List ℕ) → Reading (List A)) where
  pub one-field : (all : List (List ℕ)) (xs new : List A) (old : Option (Bor (List ℕ))) (text : Bor (List ℕ)) (x : A) (more : Option (Bor (List ℕ)))
      → fields all ≡ after_fields xs (fields (pieces_left 32 old)) → old ≡ Some text
      → fields (words_of text.now) ≡ before_fields x (fields (pieces_left 32 more)) → new ≡ xs ++ x ∷ []
      → fields all ≡ after_fields new (fields (pieces_left 32 more))
  one-field all xs new old text x more so_far is said added =
      so_far ∙ ap (λ (r : Option (Bor (List ℕ))). after_fields xs (fields (pieces_left 32 r))) is
      ∙ ap (after_fields xs) said
      ∙ after-field xs x (fields (pieces_left 32 more))
      ∙ ap (λ (l : List A). after_fields l (fields (pieces_left 32 more))) (sym added)

  pub bad-field : (all : List (List ℕ)) (xs : List A) (old : Option (Bor (List ℕ))) (text : Bor (List ℕ)) (fault : LineFault)
      → fields all ≡ after_fields xs (fields (pieces_left 32 old)) → old ≡ Some text
      → TellsFirst fields text.now (Err fault) → Tells (fields all) (Err fault)
  bad-field all xs old text (Bad why) so_far is said =
      so_far ∙ ap (λ (r : Option (Bor (List ℕ))). after_fields xs (fields (pieces_left 32 r))) is ∙ ap (after_fields xs) said
  bad-field all xs old text Memory so_far is said = tt

  pub all-fields : (all : List (List ℕ)) (xs new : List A) (rest : Option (Bor (List ℕ)))
      → fields all ≡ after_fields xs (fields (pieces_left 32 rest)) → fields [] ≡ Ok [] → ((text : Bor (List ℕ)) → rest ≡ Some text → ⊥) → new ≡ xs
      → fields all ≡ Ok new
  all-fields all xs new rest so_far nil none is =
      so_far ∙ ap (λ (r : Option (Bor (List ℕ))). after_fields xs (fields (pieces_left 32 r))) (is-none rest none)
      ∙ ap (after_fields xs) nil ∙ ap Ok (append-nil xs ∙ sym is)
