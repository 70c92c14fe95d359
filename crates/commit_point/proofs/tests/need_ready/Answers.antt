use Rattle.std.proofs.Common.{rules}
use Rattle.commit_point.proofs.Looking.{ready_of}
use Rattle.commit_point.proofs.tests.need_ready.Goals as goal

pub returns : goal.returns
returns g c = record {
  ready = λ t.
      let disk = g.T.FileTree.disk in
      ready_of (disk c.args.tree.now).tree (disk c.need_dir.new.tree).tree (disk c.need_free.new.tree).tree (disk c.need_free-2.new.tree).tree
      c.root.result c.in_ok-current.current c.in_ok-aside.aside c.in_ok-place.place c.in_ok-path.path
      c.root.ensures c.in_ok-current.ensures c.in_ok-aside.ensures c.in_ok-place.ensures c.in_ok-path.ensures
      (c.need_dir.ensures.same (search rules)) (c.need_free.ensures.same (search rules)) (c.need_free-2.ensures.same (search rules))
      (c.in_ok-need_dir.ensures.dir (search rules)) (c.in_ok-need_free.ensures.free (search rules)) (c.in_ok-need_free-2.ensures.free (search rules));
}
