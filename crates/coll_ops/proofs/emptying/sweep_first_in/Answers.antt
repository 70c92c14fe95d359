use Rattle.std.proofs.Common.{rules, subst}
use Rattle.index_fault.specs.declared.IndexFault.TheVariants.{Damaged}
use Rattle.lfn_index.proofs.Known.{handed_on}
use Rattle.coll_ops.specs.Trash.{IsFirst}
use Rattle.coll_ops.proofs.Clearing.{stays_sweeps, sweeps_then}
use Rattle.coll_ops.proofs.Depth.{first_deep}
use Rattle.coll_ops.proofs.Trash.{first_within, first_goes}
use Rattle.coll_ops.proofs.emptying.sweep_first_in.Goals as goal

pub returns-in_err-sweep-clause-sweeps : goal.returns-in_err-sweep-clause-sweeps
returns-in_err-sweep-clause-sweeps g c = λ t.
    let disk = g.T.FileTree.disk in
    let sound = g.met.T.FileTree.sound in
    let still = c.first_in.ensures.still (search rules) in
    let first = subst (IsFirst (disk c.args.tree.now).tree c.args.dir.now) c.in-Some.is (c.in_ok-path.ensures.first (search rules)) in
    sweeps_then c.args.dir.now c.in-Some.path (disk c.args.tree.now) (disk c.first_in.new.tree) (disk c.sweep.new.tree) (sound c.first_in.new.tree (search rules))
    (first_within c.args.dir.now c.in-Some.path (disk c.args.tree.now) (disk c.first_in.new.tree) (disk c.sweep.new.tree) first still.stays.tree)
    (stays_sweeps c.args.dir.now (disk c.args.tree.now) (disk c.first_in.new.tree) (sound c.args.tree.now (search rules)) still.stays) (c.sweep.ensures.leaves (search rules))

pub returns-clause-sweeps : goal.returns-clause-sweeps
returns-clause-sweeps g c = λ t.
    let disk = g.T.FileTree.disk in
    let sound = g.met.T.FileTree.sound in
    let still = c.first_in.ensures.still (search rules) in
    let first = subst (IsFirst (disk c.args.tree.now).tree c.args.dir.now) c.in-Some.is (c.in_ok-path.ensures.first (search rules)) in
    sweeps_then c.args.dir.now c.in-Some.path (disk c.args.tree.now) (disk c.first_in.new.tree) (disk c.sweep.new.tree) (sound c.first_in.new.tree (search rules))
    (first_within c.args.dir.now c.in-Some.path (disk c.args.tree.now) (disk c.first_in.new.tree) (disk c.sweep.new.tree) first still.stays.tree)
    (stays_sweeps c.args.dir.now (disk c.args.tree.now) (disk c.first_in.new.tree) (sound c.args.tree.now (search rules)) still.stays) (c.sweep.ensures.leaves (search rules))

pub returns-clause-swept : goal.returns-clause-swept
returns-clause-swept g c = λ t.
    let disk = g.T.FileTree.disk in
    let still = c.first_in.ensures.still (search rules) in
    let first = subst (IsFirst (disk c.args.tree.now).tree c.args.dir.now) c.in-Some.is (c.in_ok-path.ensures.first (search rules)) in
    first_goes c.args.dir.now c.in-Some.path (disk c.args.tree.now) (disk c.first_in.new.tree) (disk c.sweep.new.tree) first still.stays.tree (c.sweep.ensures.leaves (search rules)) (c.in_ok-sweep.ensures.gone (search rules))

pub returns-in_err-sweep-clause-damaged : goal.returns-in_err-sweep-clause-damaged
returns-in_err-sweep-clause-damaged g c = λ t q is.
    let disk = g.T.FileTree.disk in
    let still = c.first_in.ensures.still (search rules) in
    let first = subst (IsFirst (disk c.args.tree.now).tree c.args.dir.now) c.in-Some.is (c.in_ok-path.ensures.first (search rules)) in
    first_deep c.args.dir.now c.in-Some.path (disk c.args.tree.now).tree (disk c.first_in.new.tree).tree q first still.stays.tree (c.sweep.ensures.damaged (search rules) q
    (handed_on c.sweep.result c.from_residual-in_err-sweep.result c.in_err-sweep.field-0.0 (Damaged q) c.in_err-sweep.was c.from_residual-in_err-sweep.ensures.1 is))
