use Rattle.std.proofs.Common.{◌∙◌, rules}
use Rattle.store_opening.proofs.Made.{colls_are}
use Rattle.store_opening.proofs.Found.{current_there, usable_index}
use Rattle.store_opening.proofs.opening.read_colls.Goals as goal

pub colls-requires : goal.colls-requires
colls-requires g c = record {
  current = λ told. current_there c.args.set.now (g.T.FileTree.disk c.args.tree.now) (g.met.T.FileTree.sound c.args.tree.now told) (c.requires.ready told);
}

pub returns-in-Ok-coll_list-clause-reads : goal.returns-in-Ok-coll_list-clause-reads
returns-in-Ok-coll_list-clause-reads g c = λ tells O shows.
    colls_are O c.slice.result.now c.in-Ok-coll_list.colls
    (c.slice.ensures ∙ c.in-Ok.ensures.reads (search rules) O shows (c.requires.ready (search rules)).own.clear) c.in-Ok-coll_list.ensures

pub returns-in-Err-clause-usable : goal.returns-in-Err-clause-usable
returns-in-Err-clause-usable g c = usable_index c.from.result c.in-Err.fault c.from.ensures
