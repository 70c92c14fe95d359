-- Texts whose bytes spell themselves.
use Rattle.std.proofs.Common.{◌≡◌, ℕ, ◌<◌, true, List, [], ◌∷◌, ◌++◌, Ok, refl, sym, ap, ◌∙◌, arith}
use Rattle.std.proofs.lemmas.Bool.Decides.{nat_tests}
use Rattle.std.proofs.lemmas.List.Elements.{All-head, All-tail, All-weaker}
use Rattle.std.proofs.lemmas.List.Sums.{AllPass-from_list_all}
use Rattle.std.specs.List.{All, list_all}
use Rattle.fs_names.specs.Likely.{is_plain}
use Rattle.fs_names.specs.Text.{spelled, field_text}
use Rattle.fs_names.specs.Units.{field_of}
use Rattle.fs_names.proofs.ReadLaws.{field_reads}

pub field_itself : (bytes : List ℕ) → All (λ b. spelled b ≡ b ∷ []) bytes → field_text bytes ≡ bytes
field_itself [] all = refl
field_itself (b ∷ bs) all =
    ap (λ l. l ++ field_text bs) (All-head (λ b. spelled b ≡ b ∷ []) b bs all) ∙ ap (λ l. b ∷ l) (field_itself bs (All-tail (λ b. spelled b ≡ b ∷ []) b bs all))

plain_itself : (b : ℕ) → is_plain b ≡ true → spelled b ≡ b ∷ []
plain_itself b h = grind (arith, nat_tests)

plain_small : (b : ℕ) → is_plain b ≡ true → b < 256
plain_small b h = grind (arith, nat_tests)

pub plain_field : (at : ℕ) (text : List ℕ) → list_all is_plain text ≡ true → field_of at text ≡ Ok text
plain_field at text h =
    let all = AllPass-from_list_all is_plain text h in
    ap (field_of at) (sym (field_itself text (All-weaker (λ b. is_plain b ≡ true) (λ b. spelled b ≡ b ∷ []) plain_itself text all)))
    ∙ field_reads at text (All-weaker (λ b. is_plain b ≡ true) (λ b. b < 256) plain_small text all)

pub plain_read : (at : ℕ) (text bytes : List ℕ) → list_all is_plain text ≡ true → field_of at text ≡ Ok bytes → text ≡ bytes
plain_read at text bytes h e = let same : Ok text ≡ Ok bytes = sym (plain_field at text h) ∙ e in cc
