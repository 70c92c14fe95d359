use Rattle.std.proofs.Common.{rules, length}
use Rattle.index_fault.specs.declared.IndexFault.TheVariants.{Damaged}
use Rattle.lfn_index.specs.Maps.{Whole, map_of}
use Rattle.lfn_index.proofs.Known.{handed_on}
use Rattle.coll_ops.proofs.Trash.{empty_list, some_list}
use Rattle.store_walk.proofs.Objects.{never_damaged, no_subdirs, some_subdir}
use Rattle.store_walk.proofs.collections.look_objects.Goals as goal

pub returns-then-is_empty-clause-laid : goal.returns-then-is_empty-clause-laid
returns-then-is_empty-clause-laid g c = λ t.
    let disk = g.T.FileTree.disk in
    let digits = c.in_ok-listed.listed.subdirs in
    let whole : Whole c.args.set.now c.args.dir.now (disk c.args.tree.now).tree = (map_of (disk c.args.tree.now).tree c.in_ok-listed.listed.files.items, c.in_ok-listed.ensures.maps (search rules)) in
    let empty = empty_list digits.len (length digits.items) c.is_empty.result c.is_empty.ensures c.if-is_empty.true digits.ok.0 in
    record {
      there = c.requires.dir (search rules);
      whole = whole;
      flat = no_subdirs c.args.set.now (disk c.args.tree.now) (g.met.T.FileTree.sound c.args.tree.now (search rules)) c.args.dir.now whole digits.items (c.in_ok-listed.ensures.subdirs (search rules)) empty;
    }

pub returns-in_err-listed-clause-damaged : goal.returns-in_err-listed-clause-damaged
returns-in_err-listed-clause-damaged g c = λ t p is objects.
    never_damaged c.args.set.now (g.T.FileTree.disk c.args.tree.now) (g.met.T.FileTree.sound c.args.tree.now (search rules)) c.args.dir.now objects.whole p
    (c.entries.ensures.damaged (search rules) p (handed_on c.entries.result c.from_residual.result c.in_err-listed.field-0.0 (Damaged p) c.in_err-listed.was c.from_residual.ensures.1 is))

pub returns-clause-damaged : goal.returns-clause-damaged
returns-clause-damaged g c = λ t p is objects.
    let digits = c.in_ok-listed.listed.subdirs in
    let some = some_list digits.len (length digits.items) c.is_empty.result c.is_empty.ensures c.if-is_empty.false digits.ok.0 in
    some_subdir (g.T.FileTree.disk c.args.tree.now).tree c.args.dir.now digits.items (c.in_ok-listed.ensures.subdirs (search rules)) some objects.flat
