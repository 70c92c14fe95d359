use Rattle.std.proofs.Common.{ap, ◌∙◌}
use Rattle.std.proofs.lemmas.Result.{on_ok_weaker}
use Rattle.std.specs.FinSet.{union, difference}
use Rattle.fs_model.proofs.Changes.{change-gone}
use Rattle.fs_model.proofs.check.CollChange.take.Goals as goal

pub returns : goal.returns
returns c =
    let made = c.args.self.now.made in
    on_ok_weaker c.insert.result (λ new S. ap (difference (union S made)) new ∙ change-gone S made c.args.self.now.gone c.args.c) c.insert.ensures.ok
