-- Where a number may be written.
use Rattle.std.proofs.Common.{◌≡◌, [], ◌∷◌, ◌++◌, codes, sym, subst, ◌∙◌, ap}
use Rattle.tree_api.specs.Tree.{Path, Tree, IsDir, IsFree, current}
use Rattle.commit_point.specs.Number.{number_path, aside, building, IsReady}

-- a number may be written, where three looks at the same tree say so
pub ready_of : (t0 t1 t2 t3 : Tree) (root up dir place path : Path) → root ≡ [] → up ≡ root ++ codes "current" ∷ [] → dir ≡ up ++ codes "aside" ∷ []
    → place ≡ dir ++ codes "seq" ∷ [] → path ≡ up ++ codes "commit_op_seq" ∷ [] → t1 ≡ t0 → t2 ≡ t1 → t3 ≡ t2
    → IsDir t0 dir → IsFree t1 place → IsFree t2 path → IsReady t3
ready_of t0 t1 t2 t3 root up dir place path none first second third last one two three is free target =
    let here : up ≡ current = first ∙ ap (λ (q : Path). q ++ codes "current" ∷ []) none in
    let beside : dir ≡ aside = second ∙ ap (λ (q : Path). q ++ codes "aside" ∷ []) here in
    record {
      dir = subst (λ (t : Tree). IsDir t aside) (sym (three ∙ two ∙ one)) (subst (λ (q : Path). IsDir t0 q) beside is);
      place = subst (λ (t : Tree). IsFree t building) (sym (three ∙ two)) (subst (λ (q : Path). IsFree t1 q) (third ∙ ap (λ (q : Path). q ++ codes "seq" ∷ []) beside) free);
      target = subst (λ (t : Tree). IsFree t number_path) (sym three) (subst (λ (q : Path). IsFree t2 q) (last ∙ ap (λ (q : Path). q ++ codes "commit_op_seq" ∷ []) here) target);
    }
