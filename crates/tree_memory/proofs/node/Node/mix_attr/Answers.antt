use Rattle.std.proofs.Common.{Some, None, ap, ◌∙◌}
use Rattle.std.proofs.lemmas.Result.{on_ok_weaker}
use Rattle.tree_memory.specs.Nodes.{version}
use Rattle.tree_memory.proofs.Lefts.{attr_mix}
use Rattle.tree_memory.proofs.node.Node.mix_attr.Goals as goal

pub returns-in_ok-clone-in-Some-clause-mixed : goal.returns-in_ok-clone-in-Some-clause-mixed
returns-in_ok-clone-in-Some-clause-mixed c =
    on_ok_weaker c.set_attr.result
    (λ e. attr_mix (version c.args.self.now) (version c.args.now.now) (version c.set_attr.new.self) c.args.name.now (Some c.in_ok-clone-in-Some.field-0) e (ap Some c.in_ok-clone-in-Some.ensures.cases ∙ c.in-Some.ensures.value))
    c.set_attr.ensures.ok

pub returns-in-None-clause-mixed : goal.returns-in-None-clause-mixed
returns-in-None-clause-mixed c =
    on_ok_weaker c.set_attr-in-None.result
    (λ e. attr_mix (version c.args.self.now) (version c.args.now.now) (version c.set_attr-in-None.new.self) c.args.name.now None e c.in-None.ensures.value)
    c.set_attr-in-None.ensures.ok
