-- What a listing of the root and the numbers of the snapshots tell.
use Rattle.std.proofs.Common.{◌≡◌, ◌≢◌, ℕ, List, [], ◌∷◌, ◌++◌, length, refl, sym, ◌∙◌, ap, subst, Option, Some, None, arith, append_assoc}
use Rattle.std.specs.Prelude.{IsSome}
use Rattle.tree_api.specs.Answer.{IsListing, AreSnapshots, kind_of}
use Rattle.tree_api.specs.declared.tree.Entry.{Entry}
use Rattle.tree_api.specs.Tree.{Path, Tree, Content, IsDir}
use Rattle.tree_api.specs.Disk.{Disk, Sound}
use Rattle.store_files.specs.Steps.{IsBare}
use Rattle.store_files.specs.News.{IsNew}

never : {A : Type 0} (x : A) → None ≡ Some x → ⊥
never x is = cc

-- what stands below a path stands in a directory
above_dir : (d : Disk) → Sound d → (p : Path) (step : List ℕ) (rest : Path) (n : ℕ) → d.tree.at (p ++ step ∷ rest) ≡ Some n → IsDir d.tree p
above_dir d sound p step [] n is = sound.parents d.tree p step n sound.now is
above_dir d sound p step (x ∷ rest) n is =
    let below = above_dir d sound (p ++ step ∷ []) x rest n (ap d.tree.at (append_assoc p (step ∷ []) (x ∷ rest)) ∙ is) in
    sound.parents d.tree p step below.0 sound.now below.1

-- and its first step stands in the root
first_step : (d : Disk) → Sound d → (s : List ℕ) (rest : Path) (n : ℕ) → d.tree.at (s ∷ rest) ≡ Some n → (m : ℕ) × (d.tree.at (s ∷ []) ≡ Some m)
first_step d sound s [] n is = (n, is)
first_step d sound s (x ∷ rest) n is = let dir = above_dir d sound (s ∷ []) x rest n is in (dir.0, dir.1)

unlisted : (t : Tree) (es : List Entry) → IsListing t [] es → length es ≡ 0 → (s : List ℕ) (m : ℕ) → t.at (s ∷ []) ≡ Some m → ⊥
unlisted t es listing none s m here =
    let has = (listing.entries (record { step = s ∷ []; kind = kind_of (t.node m).dir })).1 (m, refl, here, refl) in
    omega (arith, has.1, none)

nothing_at : (d : Disk) → Sound d → (es : List Entry) → IsListing d.tree [] es → length es ≡ 0 → (q : Path) → q ≢ [] → d.tree.at q ≡ None
nothing_at d sound es listing none [] not = absurd (not refl)
nothing_at d sound es listing none (s ∷ rest) not = by (d.tree.at (s ∷ rest)) refl
  where
    by : (x : Option ℕ) → d.tree.at (s ∷ rest) ≡ x → d.tree.at (s ∷ rest) ≡ None
    by None is = is
    by (Some n) is = let one = first_step d sound s rest n is in absurd (unlisted d.tree es listing none s one.0 one.1)

pub is_bare : (d : Disk) → Sound d → (es : List Entry) → IsListing d.tree [] es → length es ≡ 0 → IsBare d.tree
is_bare d sound es listing none = (sound.root d.tree sound.now, nothing_at d sound es listing none)

pub not_bare : (t : Tree) (es : List Entry) → IsListing t [] es → length es ≢ 0 → IsBare t → ⊥
not_bare t [] listing some bare = some refl
not_bare t (e ∷ es) listing some bare =
    let here = (listing.entries e).0 (0, omega arith, refl) in
    let named : e.step ≢ [] = λ is. omega (arith, here.1, ap (λ (p : Path). length p) is) in
    never here.0 (sym (bare.1 e.step named) ∙ here.2)

no_snapshot : (t : Tree) (ks : List ℕ) → AreSnapshots t ks → length ks ≡ 0 → (k : ℕ) → t.snap k ≡ None
no_snapshot t ks are none k = by (t.snap k) refl
  where
    by : (x : Option Content) → t.snap k ≡ x → t.snap k ≡ None
    by None is = is
    by (Some content) is =
        let has = (are.numbers k).1 (subst (λ (o : Option Content). IsSome o) (sym is) refl) in
        absurd (omega (arith, has.1, none))

none_some : IsSome {T = Content} None → ⊥
none_some is = cc

pub snapshot_there : (t : Tree) (ks : List ℕ) → AreSnapshots t ks → length ks ≢ 0 → ((k : ℕ) → t.snap k ≡ None) → ⊥
snapshot_there t [] are some free = some refl
snapshot_there t (k ∷ ks) are some free = none_some (subst (λ (o : Option Content). IsSome o) (free k) ((are.numbers k).0 (0, omega arith, refl)))

-- both looks at trees that read the same
pub is_new : (t m : Tree) → m ≡ t → IsBare t → (ks : List ℕ) → AreSnapshots m ks → length ks ≡ 0 → IsNew t
is_new t m same bare ks are none = (bare, no_snapshot t ks (subst (λ (x : Tree). AreSnapshots x ks) same are) none)

pub not_new : (t m : Tree) → m ≡ t → (ks : List ℕ) → AreSnapshots m ks → length ks ≢ 0 → IsNew t → ⊥
not_new t m same ks are some new = snapshot_there t ks (subst (λ (x : Tree). AreSnapshots x ks) same are) some new.1
