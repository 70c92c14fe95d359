-- Paths that grow by a step, and folders.
use Rattle.std.proofs.Common.{◌≡◌, ◌+◌, ◌-◌, ◌*◌, ℕ, List, [], ◌∷◌, ◌++◌, take, drop, slice_get, slice_range, All, codes, Some, sym, ap, ◌∙◌, subst, arith, append_assoc, add-one}
use Rattle.std.proofs.lemmas.List.{flat_map_more, take_more}
use Rattle.std.proofs.lemmas.List.Elements.{All-get_or}
use Rattle.std.proofs.lemmas.Option.{slice_get_within, get_or_from_slice_get}
use Rattle.hex.specs.Hex.{encode_lower}
use Rattle.tree_api.specs.Tree.{Path}
use Rattle.tree_real.specs.Places.{IsFileName, along, pieces}

taken : (path : Path) (i : ℕ) (step : List ℕ) → slice_get path i ≡ Some step → take (i + 1) path ≡ take i path ++ step ∷ []
taken path i step is =
    take_more path i step (slice_get_within path i step is) ∙ ap (λ (s : List ℕ). take i path ++ s ∷ []) (get_or_from_slice_get path i step step is)

-- one step more
pub stepped : (front begin : List ℕ) (path : Path) (i : ℕ) (step name old new : List ℕ) → slice_get path i ≡ Some step → name ≡ step
    → old ≡ begin ++ along front (take i path) → new ≡ old ++ (front ++ name) → new ≡ begin ++ along front (take (i + 1) path)
stepped front begin path i step name old new is named was now =
    now ∙ ap (λ (t : List ℕ). t ++ (front ++ name)) was
    ∙ ap (λ (t : List ℕ). (begin ++ along front (take i path)) ++ (front ++ t)) named
    ∙ flat_map_more (λ (s : List ℕ). front ++ s) begin (take i path) step
    ∙ ap (λ (t : Path). begin ++ along front t) (sym (taken path i step is))

pub not_all : (path : Path) (i : ℕ) (step : List ℕ) → slice_get path i ≡ Some step → ¬ (IsFileName step) → ¬ (All IsFileName path)
not_all path i step is bad all =
    bad (subst IsFileName (get_or_from_slice_get path i step step is) (All-get_or IsFileName path i step (slice_get_within path i step is) all))

-- one piece more
pub pieced : (name begin old new : List ℕ) (k : ℕ) → old ≡ begin ++ pieces k name
    → new ≡ old ++ (codes "/-" ++ encode_lower (slice_range name (k * 100) (k * 100 + 100))) → new ≡ begin ++ pieces (k + 1) name
pieced name begin old new k was now =
    let room : k * 100 + 100 - k * 100 ≡ 100 = omega arith in
    now ∙ ap (λ (t : List ℕ). t ++ (codes "/-" ++ encode_lower (slice_range name (k * 100) (k * 100 + 100)))) was
    ∙ append_assoc begin (pieces k name) _
    ∙ ap (λ (n : ℕ). begin ++ (pieces k name ++ (codes "/-" ++ encode_lower (take n (drop (k * 100) name))))) room
    ∙ ap (λ (n : ℕ). begin ++ pieces n name) (sym (add-one k))
