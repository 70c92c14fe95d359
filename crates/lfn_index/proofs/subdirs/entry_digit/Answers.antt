use Rattle.std.proofs.Common.{◌≡◌, ◌∙◌, sym, arith}
use Rattle.std.proofs.lemmas.Grind.{common_steps}
use Rattle.tree_api.specs.declared.tree.Kind.TheVariants.{Dir}
use Rattle.lfn_index.proofs.Subdigits.{entry_digit_is}
use Rattle.lfn_index.proofs.subdirs.entry_digit.Goals as goal

pub returns : goal.returns
returns c =
    let dir : c.args.entry.now.kind ≡ Dir = grind (arith, common_steps) in
    entry_digit_is c.args.entry.now c.step.result.now c.subdir_digit.result (sym c.steps.ensures ∙ c.if-steps-ne1.false) c.step.ensures.bytes dir c.subdir_digit.ensures
