use Rattle.std.proofs.Common.{refl}
use Rattle.tree_api.specs.Tree.{Written}
use Rattle.tree_memory.specs.Told.{count_of}
use Rattle.tree_memory.specs.Tells.{state_of}
use Rattle.tree_memory.specs.Nodes.{written_in}
use Rattle.tree_memory.proofs.Dones.{change_call, change_valid, change_suits, written_short, file_there, seen_there, if_changed}
use Rattle.tree_memory.proofs.tree.MemoryTreeFileTree.write_at.Goals as goal

pub writing-event-requires-clause-there : goal.writing-event-requires-clause-there
writing-event-requires-clause-there c =
    let m = c.args.self.now in
    seen_there m.store m.tied.reads c.args.path.now (file_there (state_of c.args.self.now).now.tree c.args.path.now (c.requires.file tt))

pub call-requires-clause-suits : goal.call-requires-clause-suits
call-requires-clause-suits c =
    let m = c.args.self.now in
    change_suits (state_of m) (count_of m.store) m.tied.valid m.plan.faults m.syncs m.looks 0 0 0 c.args.path.now (λ v. written_in v c.args.at c.args.bytes.now) c.writing-event.result (if_changed m.store m.tied.reads c.args.path.now (λ v. written_in v c.args.at c.args.bytes.now) c.writing-event.result c.writing-event.ensures)

pub call-requires-clause-valid : goal.call-requires-clause-valid
call-requires-clause-valid c =
    let m = c.args.self.now in
    change_valid (state_of m) (count_of m.store) m.tied.valid m.plan.faults m.syncs m.looks 0 0 0 c.args.path.now (Written c.args.at c.args.bytes.now) (λ v. written_in v c.args.at c.args.bytes.now) (λ v. refl) (λ v. refl) (file_there (state_of c.args.self.now).now.tree c.args.path.now (c.requires.file tt)) c.writing-event.result (λ v short. written_short v c.args.at c.args.bytes.now c.requires.place short) (if_changed m.store m.tied.reads c.args.path.now (λ v. written_in v c.args.at c.args.bytes.now) c.writing-event.result c.writing-event.ensures)

pub returns-clause-change : goal.returns-clause-change
returns-clause-change c = λ t.
    let m = c.args.self.now in
    let n = c.call.new.self in
    change_call (state_of m) (count_of m.store) m.tied.valid m.plan.faults m.syncs m.looks n.plan.faults n.syncs n.looks c.args.path.now (Written c.args.at c.args.bytes.now) (λ v. written_in v c.args.at c.args.bytes.now) (λ v. refl) (λ v. refl) (file_there (state_of c.args.self.now).now.tree c.args.path.now (c.requires.file tt)) c.writing-event.result (state_of n) c.call.result (if_changed m.store m.tied.reads c.args.path.now (λ v. written_in v c.args.at c.args.bytes.now) c.writing-event.result c.writing-event.ensures) c.call.ensures.did
