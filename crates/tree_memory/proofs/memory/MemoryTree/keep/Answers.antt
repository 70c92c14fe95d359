use Rattle.std.proofs.Common.{◌≡◌, ◌+◌, sym, ap, ◌∙◌}
use Rattle.tree_memory.specs.Log.{ran, adds}
use Rattle.tree_memory.specs.Told.{tree_of, count_of}
use Rattle.tree_memory.specs.declared.event.Call.{Call}
use Rattle.tree_memory.specs.declared.event.Event.{Event}
use Rattle.tree_memory.proofs.Pushes.{tied_low, tied_kept, tied_same, state_push, last_call, popped, pushed_at}
use Rattle.tree_memory.proofs.Stores.{ok_part, err_part}
use Rattle.tree_memory.proofs.memory.MemoryTree.keep.Goals as goal

pub apply-requires-clause-low : goal.apply-requires-clause-low
apply-requires-clause-low c =
    let m = c.args.self.now in
    tied_low m.origin m.store m.log.items m.synced m.tied

pub invariant_of-self-then-is_err : goal.invariant_of-self-then-is_err
invariant_of-self-then-is_err c =
    let m = c.args.self.now in
    let e = c.in_ok-push.ensures.items in
    let err = sym c.is_err.ensures.value ∙ c.if-is_err.true in
    record {
      few = m.few;
      tied = tied_same m.origin m.store m.log.items m.synced m.tied c.apply.new.self _ (popped m.log.items c.push.new.self.items _ (record { synced = m.synced; event = c.args.event }) _ e c.push.new.self.ok.0 c.pop.ensures.rest)
          (err_part c.apply.result err c.apply.ensures.err) (err_part c.apply.result err c.apply.ensures.err_count);
    }

pub invariant_of-self-2 : goal.invariant_of-self-2
invariant_of-self-2 c =
    let m = c.args.self.now in
    let e = c.in_ok-push.ensures.items in
    let ok = sym c.is_err.ensures.value ∙ c.if-is_err.false in
    let call : Call = record { synced = m.synced; event = c.args.event } in
    let item = last_call m.log.items c.push.new.self.items call c.index.result.now _ e (pushed_at m.log.items c.push.new.self.items call _ e (c.len-last.ensures ∙ c.push.new.self.ok.0)) c.index.ensures in
    let event : c.index.result.now.event ≡ c.args.event = ap (λ (x : Call). x.event) item in
    record {
      few = m.few;
      tied = tied_kept m.origin m.store m.log.items m.synced m.tied c.apply.new.self c.push.new.self.items c.args.event e c.requires.suits c.requires.valid
          (ok_part c.apply.result ok c.apply.ensures.ok ∙ ap (λ (x : Event). ran x (tree_of m.store)) event)
          (ok_part c.apply.result ok c.apply.ensures.count ∙ ap (λ (x : Event). count_of m.store + adds x) event);
    }

pub returns-clause-follows : goal.returns-clause-follows
returns-clause-follows c =
    let m = c.args.self.now in
    record { ok = state_push m.origin m.log.items c.push.new.self.items m.synced c.args.event c.in_ok-push.ensures.items; err = tt }
