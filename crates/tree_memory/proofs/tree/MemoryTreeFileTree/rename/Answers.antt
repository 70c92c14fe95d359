use Rattle.tree_memory.specs.Told.{count_of}
use Rattle.tree_memory.specs.Tells.{state_of}
use Rattle.tree_memory.proofs.Dones.{seen_there}
use Rattle.tree_memory.proofs.Pushes.{tied_low}
use Rattle.tree_memory.proofs.Renames.{file_call, dir_call, move_suits, move_valid, if_moving, free_target}
use Rattle.tree_memory.proofs.tree.MemoryTreeFileTree.rename.Goals as goal

pub moving-event-requires-clause-there : goal.moving-event-requires-clause-there
moving-event-requires-clause-there c =
    let m = c.args.self.now in
    seen_there m.store m.tied.reads c.args.from.now (c.requires.there tt)

pub moving-event-requires-clause-low : goal.moving-event-requires-clause-low
moving-event-requires-clause-low c =
    let m = c.args.self.now in
    tied_low m.origin m.store m.log.items m.synced m.tied

pub call-requires-clause-suits : goal.call-requires-clause-suits
call-requires-clause-suits c =
    let m = c.args.self.now in
    move_suits (state_of m) (count_of m.store) m.tied.valid m.plan.faults m.syncs m.looks 0 0 0 c.args.from.now c.args.to.now (c.requires.off_the_way tt) (c.requires.parent tt) c.moving-event.result (if_moving m.store m.tied.reads c.args.from.now c.args.to.now c.moving-event.result c.moving-event.ensures)

pub call-requires-clause-valid : goal.call-requires-clause-valid
call-requires-clause-valid c =
    let m = c.args.self.now in
    move_valid (state_of m) (count_of m.store) m.tied.valid m.plan.faults m.syncs m.looks 0 0 0 c.args.from.now c.args.to.now (c.requires.off_the_way tt) (c.requires.parent tt) (c.requires.there tt) (c.requires.target tt) c.moving-event.result (if_moving m.store m.tied.reads c.args.from.now c.args.to.now c.moving-event.result c.moving-event.ensures)

pub returns-clause-file : goal.returns-clause-file
returns-clause-file c = λ t file.
    let m = c.args.self.now in
    let n = c.call.new.self in
    file_call (state_of m) (count_of m.store) m.tied.valid m.plan.faults m.syncs m.looks n.plan.faults n.syncs n.looks c.args.from.now c.args.to.now (c.requires.off_the_way tt) (c.requires.parent tt) file (c.requires.target tt) c.moving-event.result (state_of n) c.call.result (if_moving m.store m.tied.reads c.args.from.now c.args.to.now c.moving-event.result c.moving-event.ensures) c.call.ensures.did

pub returns-clause-dir : goal.returns-clause-dir
returns-clause-dir c = λ t dir.
    let m = c.args.self.now in
    let n = c.call.new.self in
    dir_call (state_of m) (count_of m.store) m.tied.valid m.plan.faults m.syncs m.looks n.plan.faults n.syncs n.looks c.args.from.now c.args.to.now (c.requires.off_the_way tt) (c.requires.parent tt) dir (free_target (state_of m).now.tree c.args.from.now c.args.to.now dir (c.requires.target tt)) c.moving-event.result (state_of n) c.call.result (if_moving m.store m.tied.reads c.args.from.now c.args.to.now c.moving-event.result c.moving-event.ensures) c.call.ensures.did
