use Rattle.std.proofs.Common.{ap, ◌∙◌}
use Rattle.std.proofs.lemmas.Result.{on_ok_weaker}
use Rattle.std.specs.FinSet.{union, difference, insert}
use Rattle.fs_model.proofs.Changes.{change-made}
use Rattle.fs_model.proofs.check.CollChange.make.Goals as goal

pub returns : goal.returns
returns c =
    let made = c.args.self.now.made in
    on_ok_weaker c.insert.result
    (λ new S. ap (λ M. difference (union S M) c.remove.new.self) new ∙ ap (difference (union S (insert made c.args.c))) c.remove.ensures
    ∙ change-made S made c.args.self.now.gone c.args.c) c.insert.ensures.ok
