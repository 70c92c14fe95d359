-- Calls that concern a few nodes or names.
use Rattle.std.proofs.Common.{◌≡◌, ◌⊎◌, inl, inr, ℕ, List, [], ◌∷◌, refl, sym, ◌∙◌, ap, subst, Some}
use Rattle.std.proofs.lemmas.Bool.{cases_eq}
use Rattle.tree_api.specs.Tree.{Path, Version, Tree, IsFree, Wrote}

-- a path stays free or a file, as names and kinds say
pub free_along : (p : Path) (d c : Tree) → c.at p ≡ d.at p → ((m : ℕ) → d.at p ≡ Some m → (c.node m).dir ≡ (d.node m).dir) → IsFree d p → IsFree c p
free_along p d c at dirs (inl none) = inl (at ∙ none)
free_along p d c at dirs (inr file) = inr (file.0, at ∙ file.1, dirs file.0 file.1 ∙ file.2)

-- a node that is written keeps its kind
pub same_dir : (n m : ℕ) (v : Version) (d c : Tree) → Wrote n v d c → (c.node m).dir ≡ (d.node m).dir
same_dir n m v d c is = elim (cases_eq m n) [
  | inl same ↦ subst (λ (k : ℕ). (c.node k).dir ≡ (d.node k).dir) (sym same) is.mixed.dir
  | inr not ↦ ap (λ (w : Version). w.dir) (is.others m not)
]

-- whether two are the same
dec_list : {A : Type 0} → ((a b : A) → (a ≡ b) ⊎ (a ≡ b → ⊥)) → (xs ys : List A) → (xs ≡ ys) ⊎ (xs ≡ ys → ⊥)
dec_list d [] [] = inl refl
dec_list d [] (y ∷ ys) = inr (λ e. cc)
dec_list d (x ∷ xs) [] = inr (λ e. cc)
dec_list d (x ∷ xs) (y ∷ ys) = elim (d x y) [
  | inl same ↦ elim (dec_list d xs ys) [
    | inl rest ↦ inl cc
    | inr not ↦ inr (λ e. not cc)
  ]
  | inr not ↦ inr (λ e. not cc)
]

pub dec_bytes : (xs ys : List ℕ) → (xs ≡ ys) ⊎ (xs ≡ ys → ⊥)
dec_bytes xs ys = dec_list (λ a b. cases_eq a b) xs ys

pub dec_path : (p q : Path) → (p ≡ q) ⊎ (p ≡ q → ⊥)
dec_path p q = dec_list dec_bytes p q
