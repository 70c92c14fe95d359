-- Where the number's file stands.
use Rattle.std.proofs.Common.{◌≡◌, ◌≢◌, ◌⊎◌, inl, inr, ⊎_elim, ℕ, ◌+◌, false, List, [], ◌∷◌, ◌++◌, codes, length, refl, ◌∙◌, ap, subst, arith, Option, Some, None, Result, OnOk, length-append}
use Rattle.tree_api.specs.Tree.{Path, Version, Tree, IsFile, IsDir, IsFree, IsAbove, HasParent, current, file_of, look, held}
use Rattle.tree_api.specs.Disk.{Disk, Sound, Everywhere, Leaves}
use Rattle.tree_api.specs.declared.tree.TreeError.{TreeError}
use Rattle.tree_api.proofs.Moments.{leaves_same}
use Rattle.commit_point.specs.Number.{number_path, aside, building, spelled, number_file, IsReady, Renumbers}
use Rattle.commit_point.specs.Replacing.{Replaces}
use Rattle.commit_point.proofs.Steps.{replaces_same, replaces_joins}

pub apart : number_path ≢ building
apart is = absurd (omega (arith, ap length is))

pub off_the_way : IsAbove building number_path → ⊥
off_the_way (step, rest, is) = absurd (omega (arith, ap length is ∙ length-append building (step ∷ rest)))

pub place_parent : (t : Tree) (p : Path) → p ≡ building → IsReady t → HasParent t p
place_parent t p is ready = (aside, codes "seq", is, ready.dir)

pub path_there : (d : Disk) → Sound d → (p place : Path) → p ≡ number_path → place ≡ building → IsReady d.tree
    → (dir : Path) × (step : List ℕ) × (p ≡ dir ++ step ∷ []) × (dir ≢ place) × IsDir d.tree dir
path_there d sound p place is at ready = (
  current,
  codes "commit_op_seq",
  is,
  (λ same. absurd (omega (arith, ap length (same ∙ at)))),
  sound.parents d.tree current (codes "aside") ready.dir.0 sound.now ready.dir.1,
)

file_at : (t : Tree) (q : Path) (v : Version) → v.dir ≡ false → (o : Option ℕ) → t.at q ≡ o → held o t.node ≡ Some v → IsFile t q
file_at t q v file None at is = absurd (no is)
  where
    no : None ≡ Some v → ⊥
    no e = cc
file_at t q v file (Some n) at is = (n, at, ap (λ (w : Version). w.dir) (one (t.node n) v is) ∙ file)
  where
    one : (a b : Version) → Some a ≡ Some b → a ≡ b
    one a b e = cc

none_at : (t : Tree) (q : Path) (o : Option ℕ) → t.at q ≡ o → held o t.node ≡ None → t.at q ≡ None
none_at t q None at is = at
none_at t q (Some n) at is = absurd (no is)
  where
    no : Some (t.node n) ≡ None → ⊥
    no e = cc

look_free : (t now : Tree) (q : Path) → look now q ≡ look t q → IsFree t q → IsFree now q
look_free t now q same (inl none) = inl (none_at now q (now.at q) refl (same ∙ ap (λ (o : Option ℕ). held o t.node) none))
look_free t now q same (inr (n, at, file)) = inr (file_at now q (t.node n) file (now.at q) refl (same ∙ ap (λ (o : Option ℕ). held o t.node) at))

abbrev step_of : Path → List ℕ
step_of [] = []
step_of (a ∷ []) = []
step_of (a ∷ b ∷ rest) = b

pub ready_stays : (n : ℕ) (t now : Tree) → Renumbers n t now → IsReady t → IsReady now
ready_stays n t now is ready =
    let not : aside ≢ building = λ same. absurd (omega (arith, ap length same)) in
    let nor : aside ≢ number_path = other in
    record {
      dir = (ready.dir.0, is.others aside not nor ∙ ready.dir.1, ap (λ (w : Version). w.dir) (is.nodes aside ready.dir.0 not nor ready.dir.1) ∙ ready.dir.2);
      place = is.place ready.place;
      target = ⊎_elim (λ same. look_free t now number_path same ready.target) (λ new. inr (file_at now number_path (number_file n) refl (now.at number_path) refl new)) is.target;
    }
  where
    heads : (a b : Path) → a ≡ b → length (step_of a) ≡ length (step_of b)
    heads a b e = ap (λ (l : Path). length (step_of l)) e

    other : aside ≢ number_path
    other same = absurd (omega (arith, heads aside number_path same))

pub nothing_yet : (n : ℕ) (d : Disk) → Sound d → Leaves (Renumbers n) d d
nothing_yet n d sound = leaves_same (Renumbers n) (replaces_same building number_path (number_file n)) (replaces_joins building number_path (number_file n)) d sound

pub renumbers_along : (n : ℕ) (p to : Path) (text : List ℕ) (d0 d1 : Disk) → p ≡ building → to ≡ number_path → text ≡ spelled n → Leaves (Replaces p to (file_of text)) d0 d1 → Leaves (Renumbers n) d0 d1
renumbers_along n p to text d0 d1 at there is leaves =
    subst (λ (q : Path). Leaves (Replaces q number_path (number_file n)) d0 d1) at
    (subst (λ (q : Path). Leaves (Replaces p q (number_file n)) d0 d1) there (subst (λ (b : List ℕ). Leaves (Replaces p to (file_of b)) d0 d1) is leaves))

pub done_along : {T : Type 0} (n : ℕ) (to : Path) (text : List ℕ) (d : Disk) (r : Result T TreeError) → to ≡ number_path → text ≡ spelled n
    → OnOk r (Everywhere d (λ c. look c to ≡ Some (file_of text))) → OnOk r (Everywhere d (λ c. look c number_path ≡ Some (number_file n)))
done_along n to text d r there is done =
    subst (λ (q : Path). OnOk r (Everywhere d (λ c. look c q ≡ Some (number_file n)))) there (subst (λ (b : List ℕ). OnOk r (Everywhere d (λ c. look c to ≡ Some (file_of b)))) is done)
