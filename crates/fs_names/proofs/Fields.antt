-- The fields of an object's text.
use Rattle.std.proofs.Common.{◌≡◌, ℕ, ◌<◌, List, [], ◌∷◌, length, Err, refl, sym, ap, ◌∙◌, arith}
use Rattle.std.proofs.lemmas.List.Splits.{slice_split_first, length-slice_split}
use Rattle.std.specs.List.{position_or_len, before_first, after_first, slice_split}
use Rattle.fs_names.specs.declared.fault.NameFault.TheVariants.{BadField}
use Rattle.fs_names.specs.Reading.{is_underscore, oid_of, oid_of_fields, oid_of_six}
use Rattle.fs_names.proofs.Splits.{split_none}

-- a text whose first field is `front`, and one that is a single field
abbrev IsCut : List ℕ → List ℕ → List ℕ → Type 0
IsCut text front rest =
    (position_or_len is_underscore text < length text) × (front ≡ before_first is_underscore text) × (rest ≡ after_first is_underscore text)

abbrev IsWhole : List ℕ → Type 0
IsWhole text = position_or_len is_underscore text ≡ length text

abbrev fields : List ℕ → List (List ℕ)
fields text = slice_split is_underscore text

cut : (text front rest : List ℕ) → IsCut text front rest → fields text ≡ front ∷ fields rest
cut text front rest h =
    slice_split_first is_underscore text 0 h.0
    ∙ ap (λ f. f ∷ fields (after_first is_underscore text)) (sym h.1) ∙ ap (λ r. front ∷ fields r) (sym h.2)

whole : (text : List ℕ) → IsWhole text → fields text ≡ text ∷ []
whole text h = split_none is_underscore text h

read : (text : List ℕ) (parts : List (List ℕ)) → fields text ≡ parts → oid_of text ≡ oid_of_fields parts
unfolding oid_of
read text parts e = ap oid_of_fields e

pub one_field : (text : List ℕ) → IsWhole text → oid_of text ≡ Err (BadField 6)
one_field text h = read text _ (whole text h)

module _ (text a r : List ℕ) (one : IsCut text a r) where
  pub two_fields : IsWhole r → oid_of text ≡ Err (BadField 6)
  two_fields h = read text _ (cut text a r one ∙ ap (λ l. a ∷ l) (whole r h))

  module _ (b s : List ℕ) (two : IsCut r b s) where
    pub three_fields : IsWhole s → oid_of text ≡ Err (BadField 6)
    three_fields h = read text _ (cut text a r one ∙ ap (λ l. a ∷ l) (cut r b s two ∙ ap (λ l. b ∷ l) (whole s h)))

    module _ (c t : List ℕ) (three : IsCut s c t) where
      pub four_fields : IsWhole t → oid_of text ≡ Err (BadField 6)
      four_fields h =
          read text _ (cut text a r one ∙ ap (λ l. a ∷ l) (cut r b s two ∙ ap (λ l. b ∷ l) (cut s c t three ∙ ap (λ l. c ∷ l) (whole t h))))

      module _ (d u : List ℕ) (four : IsCut t d u) where
        front : (parts : List (List ℕ)) → fields u ≡ parts → oid_of text ≡ oid_of_fields (a ∷ b ∷ c ∷ d ∷ parts)
        front parts h =
            read text _ (cut text a r one ∙ ap (λ l. a ∷ l) (cut r b s two ∙ ap (λ l. b ∷ l) (cut s c t three ∙ ap (λ l. c ∷ l) (cut t d u four ∙ ap (λ l. d ∷ l) h))))

        pub five_fields : IsWhole u → oid_of text ≡ Err (BadField 6)
        five_fields h = front (u ∷ []) (whole u h)

        module _ (e v : List ℕ) (five : IsCut u e v) where
          pub six_fields : IsWhole v → oid_of text ≡ oid_of_six a b c d e v
          six_fields h = front (e ∷ v ∷ []) (cut u e v five ∙ ap (λ l. e ∷ l) (whole v h))

          pub more_fields : (f w : List ℕ) → IsCut v f w → oid_of text ≡ Err (BadField 6)
          more_fields f w six =
              front (e ∷ f ∷ fields w) (cut u e v five ∙ ap (λ l. e ∷ l) (cut v f w six)) ∙ too_many (fields w) (omega (arith, length-slice_split is_underscore w))
            where
              too_many : (parts : List (List ℕ)) → 0 < length parts → oid_of_fields (a ∷ b ∷ c ∷ d ∷ e ∷ f ∷ parts) ≡ Err (BadField 6)
              too_many [] h = absurd (omega arith)
              too_many (g ∷ parts) h = refl
