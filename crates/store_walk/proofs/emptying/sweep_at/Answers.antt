use Rattle.std.proofs.Common.{rules, ◌≡◌, ◌++◌, length, None, refl, subst, arith}
use Rattle.index_fault.specs.declared.IndexFault.TheVariants.{Damaged}
use Rattle.tree_api.specs.Tree.{Path}
use Rattle.lfn_index.proofs.Known.{handed_on}
use Rattle.coll_ops.specs.Changes.{Sweeps}
use Rattle.coll_ops.proofs.Clearing.{entry_path}
use Rattle.coll_ops.proofs.Depth.{below_along}
use Rattle.store_walk.proofs.emptying.sweep_at.Goals as goal

pub returns-in_err-sweep-clause-sweeps : goal.returns-in_err-sweep-clause-sweeps
returns-in_err-sweep-clause-sweeps g c = λ t.
    let disk = g.T.FileTree.disk in
    let one : length c.args.entry.now.step ≡ 1 = omega arith in
    let path = entry_path c.args.dir.now c.in_ok-path.path c.args.entry.now.step c.step.result.now one c.step.ensures.bytes c.in_ok-path.ensures in
    subst (λ (p : Path). Sweeps p (disk c.args.tree.now) (disk c.sweep.new.tree)) path (c.sweep.ensures.leaves (search rules))

pub returns-in_err-sweep-clause-damaged : goal.returns-in_err-sweep-clause-damaged
returns-in_err-sweep-clause-damaged g c = λ t q is.
    let one : length c.args.entry.now.step ≡ 1 = omega arith in
    let path = entry_path c.args.dir.now c.in_ok-path.path c.args.entry.now.step c.step.result.now one c.step.ensures.bytes c.in_ok-path.ensures in
    below_along (g.T.FileTree.disk c.args.tree.now).tree c.in_ok-path.path (c.args.dir.now ++ c.args.entry.now.step) q 9 9 path refl (c.sweep.ensures.damaged (search rules) q
    (handed_on c.sweep.result c.from_residual-in_err-sweep.result c.in_err-sweep.field-0.0 (Damaged q) c.in_err-sweep.was c.from_residual-in_err-sweep.ensures.1 is))

pub returns-clause-sweeps : goal.returns-clause-sweeps
returns-clause-sweeps g c = λ t.
    let disk = g.T.FileTree.disk in
    let one : length c.args.entry.now.step ≡ 1 = omega arith in
    let path = entry_path c.args.dir.now c.in_ok-path.path c.args.entry.now.step c.step.result.now one c.step.ensures.bytes c.in_ok-path.ensures in
    subst (λ (p : Path). Sweeps p (disk c.args.tree.now) (disk c.sweep.new.tree)) path (c.sweep.ensures.leaves (search rules))

pub returns-clause-gone : goal.returns-clause-gone
returns-clause-gone g c = λ t.
    let one : length c.args.entry.now.step ≡ 1 = omega arith in
    let path = entry_path c.args.dir.now c.in_ok-path.path c.args.entry.now.step c.step.result.now one c.step.ensures.bytes c.in_ok-path.ensures in
    subst (λ (p : Path). (g.T.FileTree.disk c.sweep.new.tree).tree.at p ≡ None) path (c.in_ok-sweep.ensures.gone (search rules))
