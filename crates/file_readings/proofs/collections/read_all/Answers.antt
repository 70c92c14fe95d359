use Rattle.std.proofs.Common.{◌∙◌, ◌++◌, ap, option_to_list, Option}
use Rattle.fs_names.specs.declared.coll.Coll.{Coll}
use Rattle.file_readings.proofs.Named.{colls_more}
use Rattle.file_readings.proofs.collections.read_all.Goals as goal

pub loop-entry-preserved : goal.loop-entry-preserved
loop-entry-preserved c =
    colls_more c.args.entries.now c.loop-entry.entry-index c.entry-item.result c.loop-entry.colls.items c.add.new.colls.items c.loop-entry-test.true c.entry-item.is c.loop-entry.invariant
    (c.in_ok-add.ensures ∙ ap (λ (o : Option Coll). c.loop-entry.colls.items ++ option_to_list o) c.in_ok-coll.ensures.coll)
