use Rattle.std.proofs.Common.{◌≡◌, ℕ, List, [], ◌∷◌, ◌++◌, length, Option, Some, None, refl, sym, ◌∙◌, ap, subst, eqb-true, arith}
use Rattle.tree_api.specs.Tree.{Path, Tree, IsEmptyDir}
use Rattle.tree_api.specs.Answer.{IsListing, kind_of}
use Rattle.tree_api.specs.declared.tree.Entry.{Entry}
use Rattle.tree_api.specs.declared.tree.Kind.{Kind}
use Rattle.tree_api.specs.declared.tree.Kind.TheVariants.{Dir}
use Rattle.tree_memory.specs.Seen.{IsSeen}
use Rattle.tree_memory.specs.Tells.{disk_of}
use Rattle.tree_memory.proofs.tests.is_empty.Goals as goal

empty_dir : (now was : Tree) (d : Path) (o : Option Kind) (es : List Entry) → now ≡ was → IsSeen was d o → o ≡ Some Dir → IsListing was d es → length es ≡ 0 → IsEmptyDir now d
empty_dir now was d o es same seen is listing none =
    subst (λ (t : Tree). IsEmptyDir t d) (sym same) (subst (IsSeen was d) is seen, λ step. by step (was.at (d ++ step ∷ [])) refl)
  where
    by : (step : List ℕ) (o : Option ℕ) → was.at (d ++ step ∷ []) ≡ o → was.at (d ++ step ∷ []) ≡ None
    by step None e = e
    by step (Some n) e =
        let there = (listing.entries (record { step = step ∷ []; kind = kind_of (was.node n).dir })).1 (n, refl, e, refl) in
        absurd (omega (arith, none, there.1))

pub returns : goal.returns
returns c = λ yes.
    let v = c.in_ok-entries.entries in
    empty_dir (disk_of c.list.new.self).tree (disk_of c.seen.new.tree).tree c.args.dir.now c.in_ok-seen.field-0 v.items (c.list.ensures.still tt).stays.tree c.in_ok-seen.ensures.kind
    (c.in-Some-Dir.is ∙ ap Some c.in-Some-Dir.field-0-is) (c.in_ok-entries.ensures.entries tt) (sym v.ok.0 ∙ eqb-true v.len 0 (sym c.is_empty.ensures ∙ yes))
