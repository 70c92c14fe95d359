use Rattle.std.proofs.Common.{◌≡◌, ◌++◌, length, sym, subst, arith}
use Rattle.tree_api.specs.Tree.{IsFile}
use Rattle.coll_ops.proofs.Clearing.{entry_path, name_gone}
use Rattle.store_walk.proofs.Thinning.{gone_removes}
use Rattle.store_walk.proofs.tidying.drop_file.Goals as goal

pub remove_file-requires : goal.remove_file-requires
remove_file-requires g c =
    let one : length c.args.entry.now.step ≡ 1 = omega arith in
    let path = entry_path c.args.dir.now c.in_ok-path.path c.args.entry.now.step c.step.result.now one c.step.ensures.bytes c.in_ok-path.ensures in
    record { file = λ told. subst (IsFile (g.T.FileTree.disk c.args.tree.now).tree) (sym path) (c.requires.file told).1 }

pub returns-in_err-remove_file-clause-leaves : goal.returns-in_err-remove_file-clause-leaves
returns-in_err-remove_file-clause-leaves g c = λ now.
    let disk = g.T.FileTree.disk in
    let one : length c.args.entry.now.step ≡ 1 = omega arith in
    let path = entry_path c.args.dir.now c.in_ok-path.path c.args.entry.now.step c.step.result.now one c.step.ensures.bytes c.in_ok-path.ensures in
    gone_removes c.in_ok-path.path (c.args.dir.now ++ c.args.entry.now.step) (disk c.args.tree.now) (disk c.remove_file.new.self) c.remove_file.result
    (g.met.T.FileTree.sound c.args.tree.now (c.remove_file.ensures.told now)) path (c.remove_file.ensures.change now)

pub returns-clause-leaves : goal.returns-clause-leaves
returns-clause-leaves g c = λ now.
    let disk = g.T.FileTree.disk in
    let one : length c.args.entry.now.step ≡ 1 = omega arith in
    let path = entry_path c.args.dir.now c.in_ok-path.path c.args.entry.now.step c.step.result.now one c.step.ensures.bytes c.in_ok-path.ensures in
    gone_removes c.in_ok-path.path (c.args.dir.now ++ c.args.entry.now.step) (disk c.args.tree.now) (disk c.remove_file.new.self) c.remove_file.result
    (g.met.T.FileTree.sound c.args.tree.now (c.remove_file.ensures.told now)) path (c.remove_file.ensures.change now)

pub returns-clause-gone : goal.returns-clause-gone
returns-clause-gone g c = λ now.
    let disk = g.T.FileTree.disk in
    let one : length c.args.entry.now.step ≡ 1 = omega arith in
    let path = entry_path c.args.dir.now c.in_ok-path.path c.args.entry.now.step c.step.result.now one c.step.ensures.bytes c.in_ok-path.ensures in
    name_gone c.in_ok-path.path (c.args.dir.now ++ c.args.entry.now.step) (disk c.args.tree.now) (disk c.remove_file.new.self) c.in_ok-remove_file.field-0 (c.in_ok-remove_file.ensures.change now) path
