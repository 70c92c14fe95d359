use Rattle.std.proofs.Common.{rules, true, false}
use Rattle.tree_real.specs.Counts.{Counts}
use Rattle.tree_real.proofs.Quiet.{synced-now}
use Rattle.tree_real.proofs.real.RealTreeFileTree.sync_all.Goals as goal

pub returns-then-self-clause-counts : goal.returns-then-self-clause-counts
returns-then-self-clause-counts g c =
    let now : Counts = record { faults = c.rise-then-self.new.self; syncs = c.rise.new.self; looks = c.self.inside.looks; unsure = c.self.inside.unsure; settled = c.self.inside.settled } in
    synced-now c.args.self.now now true (search rules) (search rules) (search rules)

pub returns-clause-counts : goal.returns-clause-counts
returns-clause-counts g c =
    let now : Counts = record { faults = c.self.inside.faults; syncs = c.rise.new.self; looks = c.self.inside.looks; unsure = c.self.inside.unsure; settled = c.self.inside.settled } in
    synced-now c.args.self.now now false (search rules) (search rules) (search rules)
