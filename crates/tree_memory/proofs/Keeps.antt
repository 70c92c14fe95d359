-- Copies of what snapshots keep.
use Rattle.std.proofs.Common.{◌≡◌, List, [], ◌∷◌, map, cond, Some, None, refl, sym, ◌∙◌, ap, subst}
use Rattle.tree_api.specs.Tree.{Path, Version, Content}
use Rattle.tree_memory.specs.Paths.{same_path}
use Rattle.tree_memory.specs.Nodes.{version}
use Rattle.tree_memory.specs.Kept.{content_of, rests_of, IsEach, pair}
use Rattle.tree_memory.specs.declared.snap.Kept.{Kept}

-- what a list of pairs has at a path
abbrev pub paired : List (Path × Version) → Content
paired [] r = None
paired (p ∷ ps) r = cond (same_path r p.0) (Some p.1) (paired ps r)

pub content_paired : (xs : List Kept) (r : Path) → content_of xs r ≡ paired (map pair xs) r
content_paired [] r = refl
content_paired (x ∷ xs) r = ap (cond (same_path r x.rest) (Some (version x.node))) (content_paired xs r)

pub same_content : (xs ys : List Kept) → map pair xs ≡ map pair ys → content_of xs ≡ content_of ys
same_content xs ys e = λ i r. (content_paired xs r ∙ ap (λ (ps : List (Path × Version)). paired ps r) e ∙ sym (content_paired ys r)) i

rests_paired : (xs : List Kept) → rests_of xs ≡ map (λ (p : Path × Version). p.0) (map pair xs)
rests_paired [] = refl
rests_paired (x ∷ xs) = ap (λ l. x.rest ∷ l) (rests_paired xs)

pub same_rests : (xs ys : List Kept) → map pair xs ≡ map pair ys → rests_of xs ≡ rests_of ys
same_rests xs ys e = rests_paired xs ∙ ap (map (λ (p : Path × Version). p.0)) e ∙ sym (rests_paired ys)

pub same_each : (xs ys : List Kept) → map pair xs ≡ map pair ys → IsEach (rests_of ys) → IsEach (rests_of xs)
same_each xs ys e each = subst IsEach (sym (same_rests xs ys e)) each
