-- The digits of an identity.
use Rattle.std.proofs.Common.{◌≡◌, ℕ, zero, suc, ◌+◌, ◌*◌, ◌<◌, List, [], ◌∷◌, take, length, ◌∙◌, ap, subst, arith, Result, Ok, Err, All, length-append}
use Rattle.std.specs.Prelude.{MatchResult}
use Rattle.std.proofs.lemmas.List.{take_at}
use Rattle.std.proofs.lemmas.List.Elements.{All-head, All-tail}
use Rattle.hex.specs.Hex.{encode_lower, decode_sized, IsBytes, lower_digits}
use Rattle.hex.specs.declared.error.FromHexError.{FromHexError}
use Rattle.hex.proofs.HexLemmas.{length-encode_with, decode_sized-encode_lower}
use Rattle.store_files.specs.Texts.{fsid_text, IsFsid}

are_bytes : (bytes : List ℕ) → All (λ x. x < 256) bytes → IsBytes bytes
are_bytes [] all i = omega arith
are_bytes (b ∷ bytes) all zero = All-head (λ x. x < 256) b bytes all
are_bytes (b ∷ bytes) all (suc i) = are_bytes bytes (All-tail (λ x. x < 256) b bytes all) i

digits_length : (fsid : List ℕ) → IsFsid fsid → length (encode_lower fsid) ≡ 32
digits_length fsid is = length-encode_with lower_digits fsid ∙ ap (λ (k : ℕ). 2 * k) is.long

pub fsid_length : (fsid : List ℕ) → IsFsid fsid → length (fsid_text fsid) ≡ 33
fsid_length fsid is = length-append (encode_lower fsid) (10 ∷ []) ∙ ap (λ (k : ℕ). k + 1) (digits_length fsid is)

pub spelled_bytes : (text fsid : List ℕ) → IsFsid fsid → text ≡ fsid_text fsid → decode_sized (take 32 text) 16 ≡ Ok fsid
spelled_bytes text fsid is spelled =
    ap (λ (l : List ℕ). decode_sized l 16) (ap (take 32) spelled ∙ take_at (encode_lower fsid) (10 ∷ []) 32 (digits_length fsid is))
    ∙ decode_sized-encode_lower fsid 16 is.long (are_bytes fsid is.bytes)

-- what decoding those digits answers
pub decoded : (text digits fsid : List ℕ) (room : ℕ) (r : Result Unit FromHexError) (out : List ℕ) → digits ≡ take 32 text → room ≡ 16 → IsFsid fsid → text ≡ fsid_text fsid
    → MatchResult (decode_sized digits room) (λ bytes. (r ≡ Ok tt) × (out ≡ bytes)) (λ e. r ≡ Err e) → (r ≡ Ok tt) × (out ≡ fsid)
decoded text digits fsid room r out at long is spelled value =
    subst (λ (d : Result (List ℕ) FromHexError). MatchResult d (λ bytes. (r ≡ Ok tt) × (out ≡ bytes)) (λ e. r ≡ Err e))
    (ap (λ (l : List ℕ). decode_sized l room) at ∙ ap (λ (k : ℕ). decode_sized (take 32 text) k) long ∙ spelled_bytes text fsid is spelled) value
