-- The texts of snaps, pools and hashes, as they are read.
use Rattle.std.proofs.Common.{◌≡◌, ℕ, ◌^◌, ◌<◌, Bool, true, false, cond, codes, List, ◌∷◌, Option, Some, None, IfSome, refl, sym, ap, subst, ◌∙◌, arith}
use Rattle.std.proofs.lemmas.Bool.{both_ways, cond-false, false_from_ne_true}
use Rattle.std.proofs.lemmas.List.Elements.{All-get_or}
use Rattle.std.proofs.lemmas.Slice.Eq.{bytes_eq-Decides}
use Rattle.std.specs.Fmt.{digits}
use Rattle.std.specs.List.{AllPass}
use Rattle.std.specs.Option.{option_map}
use Rattle.std.specs.Str.{bytes_eq}
use Rattle.fs_names.specs.declared.oid.Snap.{Snap}
use Rattle.fs_names.specs.declared.oid.Snap.TheVariants.{Head, Dir, Id}
use Rattle.fs_names.specs.Numbers.{number_of, is_lower_digit}
use Rattle.fs_names.specs.Reading.{SnapFits, snap_of, pool_of}
use Rattle.fs_names.specs.Text.{snap_text, pool_text}
use Rattle.fs_names.proofs.Digits.{digits-lower, number_gives, number_reads}

-- no digits are a word that begins with another letter
not_word : (n b : ℕ) (bs : List ℕ) → is_lower_digit 16 b ≡ false → bytes_eq (digits 16 false n) (b ∷ bs) ≡ false
not_word n b bs other =
    false_from_ne_true _ (λ e.
    let same = (bytes_eq-Decides (digits 16 false n) (b ∷ bs)).0 e in
    let all = subst (AllPass (is_lower_digit 16)) same (digits-lower 16 n (omega arith) (omega arith)) in
    both_ways (is_lower_digit 16 b) other (All-get_or (λ b. is_lower_digit 16 b ≡ true) (b ∷ bs) 0 0 (omega arith) all))

pub snap_of_text : (s : Snap) → SnapFits s → snap_of (snap_text s) ≡ Some s
snap_of_text Head fits = refl
snap_of_text Dir fits = refl
snap_of_text (Id n) fits =
    cond-false _ _ _ (not_word n 104 (codes "ead") refl) ∙ (cond-false _ _ _ (not_word n 115 (codes "napdir") refl)
    ∙ ap (option_map Id) (number_reads 16 n (omega arith) (omega arith) fits))

pub pool_of_text : (p : Option ℕ) → IfSome p (λ n. n < 2 ^ 64) → pool_of (pool_text p) ≡ Some p
pool_of_text None fits = refl
pool_of_text (Some n) fits =
    cond-false _ _ _ (not_word n 110 (codes "one") refl) ∙ ap (option_map Some) (number_reads 16 n (omega arith) (omega arith) fits)

-- and what is read is so spelled
id_given : (text : List ℕ) (o : Option ℕ) (s : Snap) → number_of 16 text ≡ o → option_map Id o ≡ Some s → (snap_text s ≡ text) × SnapFits s
id_given text None s e f = cc
id_given text (Some n) s e f =
    let p = number_gives 16 text n e in
    let same : Id n ≡ s = cc in
    subst (λ x. (snap_text x ≡ text) × SnapFits x) same (sym p.1, p.0)

pub snap_given : (text : List ℕ) (s : Snap) → snap_of text ≡ Some s → (snap_text s ≡ text) × SnapFits s
snap_given text s e = by (bytes_eq text (codes "head")) (bytes_eq text (codes "snapdir")) refl refl e
  where
    by : (a b : Bool) → bytes_eq text (codes "head") ≡ a → bytes_eq text (codes "snapdir") ≡ b
        → cond a (Some Head) (cond b (Some Dir) (option_map Id (number_of 16 text))) ≡ Some s → (snap_text s ≡ text) × SnapFits s
    by true b h d f =
        let same : Head ≡ s = cc in
        subst (λ x. (snap_text x ≡ text) × SnapFits x) same (sym ((bytes_eq-Decides text (codes "head")).0 h), tt)
    by false true h d f =
        let same : Dir ≡ s = cc in
        subst (λ x. (snap_text x ≡ text) × SnapFits x) same (sym ((bytes_eq-Decides text (codes "snapdir")).0 d), tt)
    by false false h d f = id_given text (number_of 16 text) s refl f

some_given : (text : List ℕ) (o : Option ℕ) (p : Option ℕ) → number_of 16 text ≡ o → option_map Some o ≡ Some p
    → (pool_text p ≡ text) × IfSome p (λ n. n < 2 ^ 64)
some_given text None p e f = cc
some_given text (Some n) p e f =
    let q = number_gives 16 text n e in
    let same : Some n ≡ p = cc in
    subst (λ x. (pool_text x ≡ text) × IfSome x (λ n. n < 2 ^ 64)) same (sym q.1, q.0)

pub pool_given : (text : List ℕ) (p : Option ℕ) → pool_of text ≡ Some p → (pool_text p ≡ text) × IfSome p (λ n. n < 2 ^ 64)
pool_given text p e = by (bytes_eq text (codes "none")) refl e
  where
    by : (a : Bool) → bytes_eq text (codes "none") ≡ a → cond a (Some None) (option_map Some (number_of 16 text)) ≡ Some p
        → (pool_text p ≡ text) × IfSome p (λ n. n < 2 ^ 64)
    by true h f =
        let same : None ≡ p = cc in
        subst (λ x. (pool_text x ≡ text) × IfSome x (λ n. n < 2 ^ 64)) same (sym ((bytes_eq-Decides text (codes "none")).0 h), tt)
    by false h f = some_given text (number_of 16 text) p refl f
