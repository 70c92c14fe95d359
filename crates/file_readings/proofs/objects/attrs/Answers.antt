use Rattle.std.proofs.Common.{rules, map as map_list, subst, ap, ◌∙◌}
use Rattle.fs_model.specs.Objects.{Object}
use Rattle.tree_api.specs.Tree.{Version}
use Rattle.object_file.specs.Attrs.{ArePairs}
use Rattle.file_readings.specs.Finding.{IsPathOf}
use Rattle.file_readings.specs.Pairs.{pair_of, pairs_of}
use Rattle.file_readings.proofs.PairLists.{pairs_are}
use Rattle.file_readings.proofs.Reading.{none_read, one_read}
use Rattle.file_readings.proofs.objects.attrs.Goals as goal

pub returns-in_default-clause-reads : goal.returns-in_default-clause-reads
returns-in_default-clause-reads g c = λ t O shows clear.
    none_read O c.args.c.now c.args.o.now (g.T.FileTree.disk c.find_file.new.tree).tree c.in_ok-path.field-0 (λ (x : Object). pairs_of x.attrs) c.in_default.is (c.in_ok-path.ensures.path t O shows)

pub returns-clause-reads : goal.returns-clause-reads
returns-clause-reads g c = λ t O shows clear.
    let tree = (g.T.FileTree.disk c.find_file.new.tree).tree in
    let attrs = c.in_ok-attrs.attrs.items in
    one_read O c.args.c.now c.args.o.now tree c.in-Some.path (λ (x : Object). pairs_of x.attrs) c.in_ok-to_pairs.field-0 (λ (v : Version). ArePairs v attrs)
    (subst (IsPathOf O c.args.c.now c.args.o.now tree) c.in-Some.is (c.in_ok-path.ensures.path (search rules) O shows))
    (c.in_ok-attrs.ensures.pairs t) (λ v x file are. c.in_ok-to_pairs.ensures ∙ ap (map_list pair_of) c.deref.ensures.value ∙ pairs_are v x attrs file are)
