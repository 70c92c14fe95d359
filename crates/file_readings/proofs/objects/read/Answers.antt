use Rattle.std.proofs.Common.{rules, ◌≡◌, ◌<◌, ◌^◌, ℕ, List, length, take, drop, subst, ap, ◌∙◌}
use Rattle.fs_model.specs.Objects.{Object}
use Rattle.tree_api.specs.Tree.{Version}
use Rattle.file_readings.specs.Finding.{IsPathOf}
use Rattle.file_readings.proofs.Reading.{none_read, one_read}
use Rattle.file_readings.proofs.objects.read.Goals as goal

pub returns-in_default-clause-reads : goal.returns-in_default-clause-reads
returns-in_default-clause-reads g c = λ t O shows clear.
    none_read O c.args.c.now c.args.o.now (g.T.FileTree.disk c.find_file.new.tree).tree c.in_ok-path.field-0 (λ (x : Object). take c.args.len (drop c.args.at x.bytes)) c.in_default.is
    (c.in_ok-path.ensures.path t O shows)

pub returns-clause-reads : goal.returns-clause-reads
returns-clause-reads g c = λ t O shows clear.
    let tree = (g.T.FileTree.disk c.find_file.new.tree).tree in
    let sound = g.met.T.FileTree.sound c.find_file.new.tree (search rules) in
    let part = c.within_files-first.result in
    let here = c.in_ok-bytes.ensures.bytes t in
    one_read O c.args.c.now c.args.o.now tree c.in-Some.path (λ (x : Object). take c.args.len (drop c.args.at x.bytes)) c.in_ok-new.field-0
    (λ (v : Version). (c.in_ok-bytes.bytes ≡ take part.1 (drop part.0 v.bytes)) × (length v.bytes < 2 ^ 63))
    (subst (IsPathOf O c.args.c.now c.args.o.now tree) c.in-Some.is (c.in_ok-path.ensures.path (search rules) O shows))
    (here.0, here.1, (here.2, sound.short tree here.0 sound.now))
    (λ v x file is. c.in_ok-new.ensures ∙ c.slice.ensures ∙ is.0 ∙ c.within_files-first.ensures.same v.bytes is.1 ∙ ap (λ (b : List ℕ). take c.args.len (drop c.args.at b)) file.bytes)
