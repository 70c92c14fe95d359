use Rattle.std.proofs.Common.{rules, ◌≡◌, length, subst, ap, ◌∙◌}
use Rattle.fs_model.specs.Objects.{Object}
use Rattle.tree_api.specs.Tree.{Version}
use Rattle.file_readings.specs.Finding.{IsPathOf}
use Rattle.file_readings.proofs.Reading.{none_read, one_read}
use Rattle.file_readings.proofs.objects.stat.Goals as goal

pub returns-in_default-clause-reads : goal.returns-in_default-clause-reads
returns-in_default-clause-reads g c = λ t O shows clear.
    none_read O c.args.c.now c.args.o.now (g.T.FileTree.disk c.find_file.new.tree).tree c.in_ok-path.field-0 (λ (x : Object). length x.bytes) c.in_default.is (c.in_ok-path.ensures.path t O shows)

pub returns-clause-reads : goal.returns-clause-reads
returns-clause-reads g c = λ t O shows clear.
    let tree = (g.T.FileTree.disk c.find_file.new.tree).tree in
    one_read O c.args.c.now c.args.o.now tree c.in-Some.path (λ (x : Object). length x.bytes) c.in_ok-size.field-0 (λ (v : Version). c.in_ok-size.field-0 ≡ length v.bytes)
    (subst (IsPathOf O c.args.c.now c.args.o.now tree) c.in-Some.is (c.in_ok-path.ensures.path (search rules) O shows))
    (c.in_ok-size.ensures.bytes t) (λ v x file is. is ∙ ap length file.bytes)
