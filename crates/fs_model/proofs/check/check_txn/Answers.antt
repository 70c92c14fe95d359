use Rattle.std.proofs.Common.{◌≡◌, ℕ, None, Some, Result, Err, refl, sym, ap, arith, ◌∙◌}
use Rattle.std.specs.FinSet.{union, difference, empty}
use Rattle.fs_model.specs.declared.op.TxnFault.TheVariants.{At}
use Rattle.fs_model.specs.Changes.{changed}
use Rattle.fs_model.specs.Check.{refusal_at, op_colls, txn_refusal}
use Rattle.fs_model.proofs.Changes.{no_change}
use Rattle.fs_model.proofs.Refusals.{after_more, accepted_more, below_limit, refused_here}
use Rattle.fs_model.proofs.check.check_txn.Goals as goal

err_is : {A E : Type 0} (x y : E) → ◌≡◌ {A = Result A E} (Err x) (Err y) → x ≡ y
err_is x y e = cc

pub loop-i-init : goal.loop-i-init
loop-i-init c = record {
  after = ap (λ M. difference (union c.args.colls.now M) c.new-change.result.gone) c.new-change.ensures.made
      ∙ ap (difference (union c.args.colls.now empty)) c.new-change.ensures.gone ∙ no_change c.args.colls.now;
  accepted = refl;
  few = omega arith;
}

pub loop-i-preserved : goal.loop-i-preserved
loop-i-preserved c =
    let ops = c.slice-ops.result.now in
    let i = c.loop-i.i in
    let op = c.index-ops-i.result in
    let S = c.args.colls.now in
    let now = changed S c.loop-i.change in
    let here : refusal_at now i op ≡ None = c.in_default.ensures.accepted in
    record {
      after = c.in_default.ensures.added ∙ ap (λ X. op_colls X op) c.loop-i.invariant.after ∙ sym (after_more S ops i op c.index-ops-i.is c.loop-i-test.true);
      accepted = accepted_more S now ops i op c.index-ops-i.is c.loop-i-test.true c.loop-i.invariant.after c.loop-i.invariant.accepted here;
      few = below_limit now i op c.loop-i.invariant.few here;
    }

pub returns-in-Err-clause-refused : goal.returns-in-Err-clause-refused
returns-in-Err-clause-refused c = λ op why e.
    let ops = c.slice-ops.result.now in
    let i = c.loop-i.i in
    let refused = c.in-Err.ensures.refused op why (ap Err (err_is c.in-Err.fault (At op why) e)) in
    ap (txn_refusal c.args.colls.now) (sym c.slice-ops.ensures)
    ∙ refused_here c.args.colls.now (changed c.args.colls.now c.loop-i.change) ops i c.index-ops-i.result why c.index-ops-i.is c.loop-i-test.true c.loop-i.invariant.after c.loop-i.invariant.accepted refused.1
    ∙ ap (λ (k : ℕ). Some (k, why)) (sym refused.0)
