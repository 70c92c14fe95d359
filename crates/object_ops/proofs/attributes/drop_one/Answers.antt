use Rattle.std.proofs.Common.{rules}
use Rattle.object_file.specs.Attrs.{IsOurs}
use Rattle.object_file.proofs.Passing.{when_ok}
use Rattle.object_ops.proofs.Pairs.{drop_way, drop_settles}
use Rattle.object_ops.proofs.attributes.drop_one.Goals as goal

pub returns-clause-way : goal.returns-clause-way
returns-clause-way g c = λ t n a b dropping.
    let disk = g.T.FileTree.disk in
    let s0 = g.met.T.FileTree.sound c.args.tree.now (search rules) in
    let ours : IsOurs c.args.name.now = (c.in-Some._part.now, c.in-Some.ensures) in
    let change = c.remove_attr.ensures.change (search rules) in (
      drop_way c.args.path.now n a b c.args.name.now ours (disk c.args.tree.now) (disk c.remove_attr.new.self) s0 c.remove_attr.result change dropping,
      when_ok _ c.remove_attr.result (λ ok. drop_settles c.args.path.now n a b c.args.name.now ours (disk c.args.tree.now) (disk c.remove_attr.new.self) s0 c.remove_attr.result change dropping ok),
    )
