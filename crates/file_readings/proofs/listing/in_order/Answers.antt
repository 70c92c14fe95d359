use Rattle.file_readings.proofs.Gathered.{gathered_more}
use Rattle.file_readings.proofs.listing.in_order.Goals as goal

pub loop-file-preserved : goal.loop-file-preserved
loop-file-preserved c = record {
  ordered = c.insert.ensures.ordered;
  gathered = gathered_more c.args.files.items c.loop-file.left.items c.pop.new.self.items c.loop-file.oids.keys c.insert.new.self.keys c.in-Some.file
      c.loop-file.invariant.gathered c.in-Some.ensures.items c.in_ok-insert.ensures.updates.0;
}
