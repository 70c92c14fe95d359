use Rattle.std.proofs.Common.{rules, ◌≡◌, get_or, length, arith}
use Rattle.coll_ops.proofs.Trash.{none_first, is_first, empty_list, some_list}
use Rattle.coll_ops.proofs.emptying.first_in.Goals as goal

pub returns-then-is_empty-clause-first : goal.returns-then-is_empty-clause-first
returns-then-is_empty-clause-first g c = λ t s.
    let es = c.in_ok-entries.entries.items in
    let empty = empty_list c.in_ok-entries.entries.len (length es) c.is_empty.result c.is_empty.ensures c.if-is_empty.true c.in_ok-entries.entries.ok.0 in
    none_first (g.T.FileTree.disk c.args.tree.now).tree c.args.dir.now es (c.in_ok-entries.ensures.entries (search rules)) empty s

pub returns-clause-first : goal.returns-clause-first
returns-clause-first g c = λ t.
    let es = c.in_ok-entries.entries.items in
    let e = c.index-entry.result.now in
    let some = some_list c.in_ok-entries.entries.len (length es) c.is_empty.result c.is_empty.ensures c.if-is_empty.false c.in_ok-entries.entries.ok.0 in
    let item : e ≡ get_or es 0 e = search rules in
    let one : length e.step ≡ 1 = omega arith in
    is_first (g.T.FileTree.disk c.args.tree.now).tree c.args.dir.now es (c.in_ok-entries.ensures.entries (search rules)) some e item c.in_ok-path.path c.step.result.now one c.step.ensures.bytes c.in_ok-path.ensures
