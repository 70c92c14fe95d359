use Rattle.std.proofs.Common.{◌≡◌, length, sym, subst, arith}
use Rattle.tree_api.specs.Tree.{Path}
use Rattle.lfn_index.proofs.Listings.{single_step}
use Rattle.coll_ops.proofs.Clearing.{entry_path}
use Rattle.store_walk.specs.Walked.{HoldsObjects}
use Rattle.store_walk.proofs.Looked.{entry_kind}
use Rattle.store_walk.proofs.collections.look_place.Goals as goal

pub look_coll-requires : goal.look_coll-requires
look_coll-requires g c =
    let one : length c.args.entry.now.step ≡ 1 = omega arith in
    let path = entry_path c.args.dir.now c.in_ok-path.path c.args.entry.now.step c.step-step.result.now one c.step-step.ensures.bytes c.in_ok-path.ensures in
    record { there = λ told. entry_kind (g.T.FileTree.disk c.args.tree.now).tree c.args.dir.now c.in_ok-path.path c.args.entry.now (c.requires.entry told) path }

pub returns-then-is_coll-clause-damaged : goal.returns-then-is_coll-clause-damaged
returns-then-is_coll-clause-damaged g c = λ now p is placed.
    let one : length c.args.entry.now.step ≡ 1 = omega arith in
    let step = single_step c.args.entry.now.step c.step-step.result.now one c.step-step.ensures.bytes in
    c.look_coll.ensures.damaged now p is
    (subst (λ (q : Path). HoldsObjects c.args.set.now q (g.T.FileTree.disk c.args.tree.now).tree) (sym c.in_ok-path.ensures)
    (placed c.step-step.result.now step (c.is_coll.ensures.0 c.if-is_coll.true)))
