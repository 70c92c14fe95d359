use Rattle.std.proofs.Common.{◌≡◌, ◌+◌, ◌++◌, ℕ, [], ◌∷◌, length, take, sym, ap, ◌∙◌, arith}
use Rattle.std.proofs.lemmas.List.{take_more, map-append, length-map}
use Rattle.tree_memory.specs.Names.{numbered}
use Rattle.tree_memory.specs.Kept.{rests_of}
use Rattle.tree_memory.specs.declared.snap.Kept.{Kept}
use Rattle.tree_memory.proofs.Lists.{length_take_below}
use Rattle.tree_memory.proofs.Stores.{numbered_push}
use Rattle.tree_memory.proofs.store.number.Goals as goal

pub loop-one-preserved : goal.loop-one-preserved
loop-one-preserved c =
    let xs = c.args.kept.now in
    let i = c.loop-one.one-index in
    let x = c.one-item.result in
    let first = c.args.first in
    let long : length (rests_of (take i xs)) ≡ i = length-map (take i xs) (λ (k : Kept). k.rest) ∙ length_take_below i xs (omega arith) in
    let place : c.loop-one.node ≡ first + length (rests_of (take i xs)) = omega (arith, long, c.loop-one.invariant.place) in
    record {
      place = omega arith;
      numbers =
          c.in_ok-push.ensures.items
          ∙ ap (λ l. l ++ record { rest = c.in_ok-copy.field-0; node = c.loop-one.node } ∷ []) c.loop-one.invariant.numbers
          ∙ ap (λ p. numbered first (rests_of (take i xs)) ++ record { rest = p; node = c.loop-one.node } ∷ []) c.in_ok-copy.ensures
          ∙ ap (λ (n : ℕ). numbered first (rests_of (take i xs)) ++ record { rest = x.rest; node = n } ∷ []) place
          ∙ sym (numbered_push first (rests_of (take i xs)) x.rest)
          ∙ ap (numbered first) (sym (map-append (λ (k : Kept). k.rest) (take i xs) (x ∷ [])))
          ∙ ap (λ l. numbered first (rests_of l)) (ap (λ y. take i xs ++ y ∷ []) c.one-item.is ∙ sym (take_more xs i x (omega arith)));
    }
