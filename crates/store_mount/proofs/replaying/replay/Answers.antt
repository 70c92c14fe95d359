use Rattle.std.proofs.Common.{rules, arith, ◌≡◌, ◌∙◌, ℕ, ◌+◌, ◌-◌, drop, ap, sym, refl, subst}
use Rattle.std.specs.Prelude.{length, Option, Some, None, Err, IfSome, IfNone}
use Rattle.dev_api.specs.Disk.{Disk}
use Rattle.ring_frame.specs.Heads.{Head}
use Rattle.ring_images.specs.Held.{readable}
use Rattle.ring_journal.specs.declared.blob.Stored.{Stored}
use Rattle.ring_journal.specs.State.{State, told_first}
use Rattle.store_mount.proofs.Going.{begun, finished, keeps_on, goes_on}
use Rattle.store_mount.proofs.Told.{Spelled, spelled_none, spelled_more, spelled_all, ended_length}
use Rattle.store_mount.proofs.Refusals.{entry_refuses, entry_late}
use Rattle.store_mount.proofs.replaying.replay.Goals as goal

pub loop-stored-init : goal.loop-stored-init
loop-stored-init g c = record {
  extent = c.requires.extent;
  size = refl;
  head = refl;
  loaded = c.requires.loaded;
  disk = λ told. refl;
  past = λ told. refl;
  told = λ told. told;
  honest = λ told. told;
  tree_faults = omega arith;
  device_faults = omega arith;
  ready = c.requires.ready;
  spelled = λ told. spelled_none _ _ _ _ c.requires.untold;
  gone = λ tells told.
      let S = g.S.Side in
      let set = S.set c.args.side.now in
      begun (S.image set) (S.reads set) S.number (S.laid set) (g.met.S.Side.theory set) c.args.committed c.args.ring.now.head.seq c.requires.no_gap (readable (g.D.Device.state c.args.dev.now).disk.stable)
      (g.T.FileTree.disk c.args.tree.now) (g.met.T.FileTree.sound c.args.tree.now tells) (c.args.ring.now.head.seq + c.args.ring.now.count) (omega (arith, c.requires.untold, c.requires.no_gap));
}

pub returns-in-Ok-None-clause-keeps : goal.returns-in-Ok-None-clause-keeps
returns-in-Ok-None-clause-keeps g c = λ tells told before txns spells here. (c.loop-stored.invariant.gone tells (search rules) before txns spells here).keeps

pub returns-in-Err-Dev-clause-keeps : goal.returns-in-Err-Dev-clause-keeps
returns-in-Err-Dev-clause-keeps g c = λ tells told before txns spells here. (c.loop-stored.invariant.gone tells (search rules) before txns spells here).keeps

if_some : (P : Stored → Type 0) (o : Option Stored) (x : Stored) → o ≡ Some x → IfSome o P → P x
if_some P o x e h = subst (λ (a : Option Stored). IfSome a P) e h

if_none : (P : Type 0) (o : Option Stored) → o ≡ None → IfNone o P → P
if_none P o e h = subst (λ (a : Option Stored). IfNone a P) e h

pub returns-in-Ok-None-clause-done : goal.returns-in-Ok-None-clause-done
returns-in-Ok-None-clause-done g c = λ tells told.
    let S = g.S.Side in
    let set = S.set c.args.side.now in
    let inv = c.loop-stored.invariant in
    let es = readable (g.D.Device.state c.args.dev.now).disk.stable in
    let l = ended_length _ _ (if_none _ _ c.in-Ok-None.field-0-is (c.in-Ok-None.ensures.ended told)) in
    let same : c.next.new.self ≡ c.loop-stored.ring = if_none _ _ c.in-Ok-None.field-0-is c.in-Ok-None.ensures.at_end in
    let back = ap (λ (d : Disk). length (readable d.stable)) (c.next.ensures.disk told ∙ inv.disk (search rules)) in
    finished (S.image set) (S.reads set) S.number (S.laid set) (g.met.S.Side.theory set) c.args.committed c.args.ring.now.head.seq c.requires.no_gap es (g.T.FileTree.disk c.args.tree.now) (g.T.FileTree.disk c.loop-stored.tree) c.loop-stored.ring.count
    (sym back ∙ l ∙ ap (λ (s : State). s.count) same) (inv.gone tells (search rules))

pub returns-in-Ok-None-clause-spelled : goal.returns-in-Ok-None-clause-spelled
returns-in-Ok-None-clause-spelled g c = λ told.
    let inv = c.loop-stored.invariant in
    let es = readable (g.D.Device.state c.args.dev.now).disk.stable in
    let l = ended_length _ _ (if_none _ _ c.in-Ok-None.field-0-is (c.in-Ok-None.ensures.ended told)) in
    let same : c.next.new.self ≡ c.loop-stored.ring = if_none _ _ c.in-Ok-None.field-0-is c.in-Ok-None.ensures.at_end in
    let back = ap (λ (d : Disk). length (readable d.stable)) (c.next.ensures.disk told ∙ inv.disk (search rules)) in
    spelled_all g.S.Side.fits (c.args.committed + 1 - c.args.ring.now.head.seq) es c.loop-stored.ring.count (sym back ∙ l ∙ ap (λ (s : State). s.count) same) (inv.spelled (search rules))

pub returns-in-Err : goal.returns-in-Err
returns-in-Err g c =
    let inv = c.loop-stored.invariant in
    let next = c.next.ensures in
    record {
      keeps = λ tells told before txns spells here. (inv.gone tells (search rules) before txns spells here).keeps;
      done = λ tells told before txns spells here. tt;
      spelled = λ told. tt;
      ended = λ told. tt;
      ready = λ tells. tt;
      head = next.head ∙ inv.head;
      disk = λ told. next.disk told ∙ inv.disk (search rules);
      past = λ told. next.past told ∙ inv.past (search rules);
      refused = λ told. tt;
      late = λ tells first. first;
      undamaged = λ tells p e. absurd (cc);
      told = inv.told;
      honest = search rules;
      extent = next.extent ∙ inv.size;
      tree = λ e. absurd (cc);
      device = λ e. absurd (cc);
      tree_faults = inv.tree_faults;
      device_faults = omega (arith, inv.device_faults, next.faults);
    }

pub returns-in-Err-redo_entry-clause-keeps : goal.returns-in-Err-redo_entry-clause-keeps
returns-in-Err-redo_entry-clause-keeps g c = λ tells told.
    let S = g.S.Side in
    let set = S.set c.args.side.now in
    let inv = c.loop-stored.invariant in
    let stored = c.in-Ok-Some.stored in
    let es = readable (g.D.Device.state c.args.dev.now).disk.stable in
    let number = if_some _ _ _ c.in-Ok-Some.field-0-is c.in-Ok-Some.ensures.number in
    let seq : c.loop-stored.ring.head.seq ≡ c.args.ring.now.head.seq = ap (λ (h : Head). h.seq) inv.head in
    let one : told_first (drop c.loop-stored.ring.count es) ≡ Some stored =
    sym (sym c.in-Ok-Some.field-0-is ∙ c.in-Ok-Some.ensures.told told ∙ ap (λ (d : Disk). told_first (drop c.loop-stored.ring.count (readable d.stable))) (inv.disk (search rules))) in
    keeps_on (S.image set) (S.reads set) S.number (S.laid set) (g.met.S.Side.theory set) c.args.committed c.args.ring.now.head.seq c.requires.no_gap es g.T.FileTree.disk c.loop-stored.tree c.redo_entry.new.tree (g.T.FileTree.disk c.args.tree.now)
    (g.met.T.FileTree.sound c.loop-stored.tree (search rules)) c.loop-stored.ring.count stored one (omega (arith, number.0, seq)) (inv.gone (search rules) (search rules)) c.redo_entry.ensures.skipped (c.redo_entry.ensures.keeps tells)

pub returns-in-Err-redo_entry-clause-refused : goal.returns-in-Err-redo_entry-clause-refused
returns-in-Err-redo_entry-clause-refused g c = λ told.
    let inv = c.loop-stored.invariant in
    let stored = c.in-Ok-Some.stored in
    let es = readable (g.D.Device.state c.args.dev.now).disk.stable in
    let number = if_some _ _ _ c.in-Ok-Some.field-0-is c.in-Ok-Some.ensures.number in
    let seq : c.loop-stored.ring.head.seq ≡ c.args.ring.now.head.seq = ap (λ (h : Head). h.seq) inv.head in
    let one : told_first (drop c.loop-stored.ring.count es) ≡ Some stored =
    sym (sym c.in-Ok-Some.field-0-is ∙ c.in-Ok-Some.ensures.told told ∙ ap (λ (d : Disk). told_first (drop c.loop-stored.ring.count (readable d.stable))) (inv.disk (search rules))) in
    entry_refuses g.S.Side.fits c.args.committed c.args.ring.now.head.seq c.loop-stored.ring.count es stored one (omega (arith, number.0, seq)) (inv.spelled (search rules))
    c.in-Err-redo_entry.fault c.in-Err-redo_entry.ensures.refused

pub returns-in-Err-redo_entry-clause-late : goal.returns-in-Err-redo_entry-clause-late
returns-in-Err-redo_entry-clause-late g c = λ tells.
    entry_late g.S.Side.fits c.args.committed c.in-Ok-Some.stored c.in-Err-redo_entry.fault (λ p e. c.in-Err-redo_entry.ensures.undamaged tells p (ap Err e)) c.in-Err-redo_entry.ensures.refused

pub loop-stored-smaller : goal.loop-stored-smaller
loop-stored-smaller g c =
    let number = if_some _ _ _ c.in-Ok-Some.field-0-is c.in-Ok-Some.ensures.number in
    let same : c.next.new.self.head.seq ≡ c.loop-stored.ring.head.seq = ap (λ (h : Head). h.seq) c.next.ensures.head in
    omega (arith, number.1, same, c.next.ensures.last)

pub loop-stored-preserved : goal.loop-stored-preserved
loop-stored-preserved g c =
    let S = g.S.Side in
    let set = S.set c.args.side.now in
    let inv = c.loop-stored.invariant in
    let next = c.next.ensures in
    let stored = c.in-Ok-Some.stored in
    let es = readable (g.D.Device.state c.args.dev.now).disk.stable in
    let first = c.args.ring.now.head.seq in
    let number = if_some _ _ _ c.in-Ok-Some.field-0-is c.in-Ok-Some.ensures.number in
    let seq : c.loop-stored.ring.head.seq ≡ first = ap (λ (h : Head). h.seq) inv.head in
    record {
      extent = next.extent ∙ inv.extent ∙ ap (λ (h : Head). h.size) (sym next.head);
      size = next.extent ∙ inv.size;
      head = next.head ∙ inv.head;
      loaded = λ told. if_some _ _ _ c.in-Ok-Some.field-0-is (c.in-Ok-Some.ensures.more told);
      disk = λ told. next.disk told ∙ inv.disk (search rules);
      past = λ told. next.past told ∙ inv.past (search rules);
      told = search rules;
      honest = search rules;
      tree_faults = omega (arith, inv.tree_faults, c.redo_entry.ensures.faults);
      device_faults = omega (arith, inv.device_faults, next.faults);
      ready = c.in-Ok.ensures.ready;
      spelled = λ told.
          let one : told_first (drop c.loop-stored.ring.count es) ≡ Some stored =
          sym (sym c.in-Ok-Some.field-0-is ∙ c.in-Ok-Some.ensures.told told ∙ ap (λ (d : Disk). told_first (drop c.loop-stored.ring.count (readable d.stable))) (inv.disk (search rules))) in
          subst (λ (i : ℕ). Spelled S.fits (c.args.committed + 1 - first) es i) (sym number.1)
          (spelled_more S.fits (c.args.committed + 1 - first) es c.loop-stored.ring.count stored one (λ le. c.in-Ok.ensures.spelled (omega (arith, le, number.0, seq, c.requires.no_gap))) (inv.spelled (search rules)));
      gone = λ tells told.
          let one : told_first (drop c.loop-stored.ring.count es) ≡ Some stored =
          sym (sym c.in-Ok-Some.field-0-is ∙ c.in-Ok-Some.ensures.told told ∙ ap (λ (d : Disk). told_first (drop c.loop-stored.ring.count (readable d.stable))) (inv.disk (search rules))) in
          goes_on (S.image set) (S.reads set) S.number (S.laid set) (g.met.S.Side.theory set) c.args.committed first c.requires.no_gap es g.T.FileTree.disk c.loop-stored.tree c.redo_entry.new.tree (g.T.FileTree.disk c.args.tree.now)
          (g.met.T.FileTree.sound c.loop-stored.tree (search rules)) c.loop-stored.ring.count stored one (omega (arith, number.0, seq)) (inv.gone (search rules) (search rules)) c.redo_entry.ensures.skipped (c.redo_entry.ensures.keeps tells)
          (first + c.next.new.self.count) (omega (arith, number.0, number.1, seq)) (c.in-Ok.ensures.done tells);
    }
