use Rattle.std.proofs.Common.{All, codes, string_bytes, sym, subst, take_all, arith}
use Rattle.std.proofs.lemmas.List.Elements.{All-more}
use Rattle.std.proofs.lemmas.Option.{slice_get_within, get_or_from_slice_get}
use Rattle.tree_real.specs.Places.{joined, IsFileName}
use Rattle.tree_real.proofs.Placing.{stepped, not_all}
use Rattle.tree_real.proofs.layout.Layout.place.Goals as goal

pub returns-in_default-clause-refused : goal.returns-in_default-clause-refused
returns-in_default-clause-refused c = λ e.
    not_all c.args.path.now c.loop-i.i c.step.result.now c.step.ensures.bytes c.in_default.ensures

pub loop-i-preserved : goal.loop-i-preserved
loop-i-preserved c =
    let path = c.args.path.now in
    let i = c.loop-i.i in
    let step = c.step.result.now in
    let root = string_bytes c.args.self.now.root in
    let name = c.in-Some.ensures in
    record {
      node = stepped (codes "/") (joined root (codes "tree")) path i step c.in-Some.step.now (string_bytes c.loop-i.node) _
          c.step.ensures.bytes name.0 c.loop-i.invariant.node c.in_ok-push_step.ensures;
      side = stepped (codes "/c/") (joined root (codes "side")) path i step c.in-Some.step.now (string_bytes c.loop-i.side) _
          c.step.ensures.bytes name.0 c.loop-i.invariant.side c.in_ok-push_step-2.ensures;
      names = All-more IsFileName path i step (slice_get_within path i step c.step.ensures.bytes) c.loop-i.invariant.names
          (subst IsFileName (sym (get_or_from_slice_get path i step step c.step.ensures.bytes)) name.1);
    }

pub returns-clause-names : goal.returns-clause-names
returns-clause-names c = subst (All IsFileName) (take_all c.loop-i.i c.args.path.now (omega (arith, c.loop-i-test.false, c.steps-i-end.ensures))) c.loop-i.invariant.names
