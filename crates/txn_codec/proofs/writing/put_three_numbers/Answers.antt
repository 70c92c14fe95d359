use Rattle.std.proofs.Common.{◌≡◌, ◌++◌, ℕ, List, ap, ◌∙◌, append_assoc}
use Rattle.txn_codec.specs.Spelling.{count8}
use Rattle.txn_codec.proofs.writing.put_three_numbers.Goals as goal

pub returns : goal.returns
returns c =
    let first : List ℕ = count8 c.args.a in
    let rest : List ℕ = count8 c.args.b ++ count8 c.args.c in
    c.in_ok-put_two_numbers.ensures ∙ ap (λ (l : List ℕ). l ++ rest) c.in_ok-put_u64.ensures ∙ append_assoc c.args.out.now.items first rest
