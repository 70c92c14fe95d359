use Rattle.std.proofs.Common.{◌≡◌, ℕ, List, Some, sym, subst, ap, ◌∙◌}
use Rattle.std.specs.Option.{option_map}
use Rattle.fs_model.specs.declared.pair.Pair.{Pair}
use Rattle.fs_model.specs.Objects.{Object}
use Rattle.file_readings.specs.Finding.{IsPathOf}
use Rattle.file_readings.specs.Pairs.{pairs_of}
use Rattle.file_readings.proofs.PairLists.{no_pairs}
use Rattle.file_readings.proofs.Reading.{none_read}
use Rattle.file_readings.proofs.objects.omap.Goals as goal

abbrev omap_of : Object → List ℕ × List Pair
omap_of x = (x.header, pairs_of x.omap)

pub returns-in_default-clause-reads : goal.returns-in_default-clause-reads
returns-in_default-clause-reads g c = λ t O shows clear.
    none_read O c.args.c.now c.args.o.now (g.T.FileTree.disk c.find_file.new.tree).tree c.in_ok-_path.field-0 omap_of c.in_default.is (c.in_ok-_path.ensures.path t O shows)

pub returns-clause-reads : goal.returns-clause-reads
returns-clause-reads g c = λ t O shows clear.
    let tree = (g.T.FileTree.disk c.find_file.new.tree).tree in
    let here = subst (IsPathOf O c.args.c.now c.args.o.now tree) c.in-Some.is (c.in_ok-_path.ensures.path t O shows) in
    let header : c.from_vec-header.result ≡ here.1.header = c.from_vec-header.ensures ∙ c.new.ensures.items ∙ sym here.4.header in
    let pairs : c.from_vec-pairs.result ≡ pairs_of here.1.omap = c.from_vec-pairs.ensures ∙ c.new-2.ensures.items ∙ sym (ap pairs_of here.4.omap ∙ no_pairs) in
    (λ i. Some (header i, pairs i)) ∙ sym (ap (option_map omap_of) here.3)
