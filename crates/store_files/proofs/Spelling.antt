-- What a file spells, by its text.
use Rattle.std.proofs.Common.{◌≡◌, ◌≢◌, ◌≤◌, ℕ, List, length, Option, Some, None, MatchOption, refl, sym, subst, ap, ◌∙◌}
use Rattle.tree_api.specs.Tree.{Path, Version, Tree}
use Rattle.store_files.specs.Stores.{HasText, NoShortText, Spells, HasNone, Reads, HasVersion, HasFsid, Versioned}

same_some : (a b : Version) → Some a ≡ Some b → a ≡ b
same_some a b e = cc

pub text_is : (t : Tree) (p : Path) (a b : List ℕ) → HasText t p a → HasText t p b → a ≡ b
text_is t p a b one two = sym one.3 ∙ ap (λ (v : Version). v.bytes) (same_some one.0 two.0 (sym one.1 ∙ two.1)) ∙ two.3

pub read_some : {A : Type 0} (text : A → List ℕ) (fits : A → Type 0) (p : Path) (t : Tree) (bytes : List ℕ) (o : Option A) → HasText t p bytes
    → MatchOption o ((x : A) → fits x → bytes ≢ text x) (λ x. fits x × (bytes ≡ text x)) → Reads (Spells text fits p t) o
read_some text fits p t bytes None has none = λ x is. none x is.0 (text_is t p bytes (text x) has is.1)
read_some text fits p t bytes (Some x) has is = (is.0, (has.0, has.1, has.2, has.3 ∙ is.1))

pub read_none : {A : Type 0} (text : A → List ℕ) (fits : A → Type 0) (p : Path) (t : Tree) → ((x : A) → fits x → length (text x) ≤ 64) → (q : Path) → q ≡ p → NoShortText t q → HasNone (Spells text fits p t)
read_none text fits p t short q same none = λ x is. none (text x) (short x is.0) (subst (λ r. HasText t r (text x)) (sym same) is.1)

pub versioned : (t : Tree) (n : ℕ) → HasVersion t n → n ≡ 1 → (fsid : List ℕ) → HasFsid t fsid → Versioned t 1
versioned t n is one fsid has = (subst (HasVersion t) one is, fsid, has)

pub none_of : {A : Type 0} (P : A → Type 0) (o : Option A) → Reads P o → ((x : A) → o ≡ Some x → ⊥) → HasNone P
none_of P None none other = none
none_of P (Some x) is other = absurd (other x refl)
