use Rattle.std.proofs.Common.{rules, ◌∙◌, ap, Err, refl, arith}
use Rattle.filestore_cli.specs.Seen.{sides}
use Rattle.filestore_cli.proofs.Runs.{going_first, going_more, going_halted, has_run}
use Rattle.filestore_cli.specs.Opened.{held_by}
use Rattle.filestore_cli.proofs.Stopping.{caused_since, stepped_free}
use Rattle.filestore_cli.proofs.run.run_lines.Goals as goal

pub loop-line-init : goal.loop-line-init
loop-line-init g c = record {
  going = λ told heard id s opens. going_first _ id s c.args.script c.args.store _ _ opens;
  works = c.requires.works;
  is_tree = c.requires.tree;
  is_device = c.requires.device;
  same = record { identity = refl; size = refl };
  later = omega arith;
  tree_faults = omega arith;
  faults = omega arith;
  extent = refl;
  told = λ told. told;
  honest = λ told. told;
  heard = λ told. told;
}

pub returns-in-Err-clause-halts : goal.returns-in-Err-clause-halts
returns-in-Err-clause-halts g c = λ told id s opens.
    let going = c.loop-line.invariant.going (c.answer.ensures.told told.0) (c.answer.ensures.honest told.1) id s opens in
    let h = held_by s going.drained.txns in
    going_halted (g.K.Sink.tells c.loop-line.sink) (g.K.Sink.tells c.answer.new.sink) id s c.args.script _ _ c.loop-line.store c.in-Some.line _ _ _ _ (sides (g.T.FileTree.disk c.answer.new.tree) (g.D.Device.state c.answer.new.dev)) going c.in-Some.ensures.first c.answer.ensures.honest_sink
    c.in-Err.stop (c.in-Err.ensures.only told) opens.fresh (λ no. ap (g.K.Sink.out) (c.in-Err.ensures.silent no)) (λ is. c.in-Err.ensures.part told h going.drained.holds (ap Err is))
    (c.in-Err.ensures.left told h going.drained.holds) (λ is. c.in-Err.ensures.left_part told h going.drained.holds (ap Err is))

pub returns-in-Err-clause-free : goal.returns-in-Err-clause-free
returns-in-Err-clause-free g c = λ told. stepped_free c.in-Err.stop (c.in-Err.ensures.only told)

pub returns-in-Err-clause-cause : goal.returns-in-Err-clause-cause
returns-in-Err-clause-cause g c =
    let before = sides (g.T.FileTree.disk c.args.tree.now) (g.D.Device.state c.args.dev.now) in
    let mid = sides (g.T.FileTree.disk c.loop-line.tree) (g.D.Device.state c.loop-line.dev) in
    let now = sides (g.T.FileTree.disk c.answer.new.tree) (g.D.Device.state c.answer.new.dev) in
    caused_since (g.T.FileTree.tells c.answer.new.tree × g.D.Device.tells c.answer.new.dev) (g.K.Sink.tells c.answer.new.sink) (g.K.Sink.tells c.answer.new.sink) before mid now (g.K.Sink.out c.args.sink.now) (g.K.Sink.out c.loop-line.sink) (g.K.Sink.out c.answer.new.sink) c.in-Err.stop c.loop-line.invariant.tree_faults c.loop-line.invariant.faults c.loop-line.invariant.later c.in-Err.ensures.cause

pub loop-line-preserved : goal.loop-line-preserved
loop-line-preserved g c =
    let inv = c.loop-line.invariant in
    record {
      going = λ tells told id s opens.
          let going = inv.going (c.answer.ensures.told tells) (c.answer.ensures.honest told) id s opens in
          let h = held_by s going.drained.txns in
          going_more (g.K.Sink.tells c.loop-line.sink) (g.K.Sink.tells c.answer.new.sink) id s c.args.script _ _ c.loop-line.store c.in-Some.line _ _ _ _ (sides (g.T.FileTree.disk c.answer.new.tree) (g.D.Device.state c.answer.new.dev)) going c.in-Some.ensures.first c.answer.ensures.honest_sink
          c.in-Ok.store c.in-Ok.ensures.same.identity (c.in-Ok.ensures.after (tells, told) h going.drained.holds) (c.in-Ok.ensures.written (tells, told) h going.drained.holds) (c.in-Ok.ensures.holds (tells, told) h going.drained.holds);
      works = c.in-Ok.ensures.works;
      is_tree = c.in-Ok.ensures.tree;
      is_device = c.in-Ok.ensures.device;
      same = record { identity = c.in-Ok.ensures.same.identity ∙ inv.same.identity; size = c.in-Ok.ensures.same.size ∙ inv.same.size };
      later = omega (arith, inv.later, c.answer.ensures.later);
      tree_faults = omega (arith, inv.tree_faults, c.answer.ensures.tree_faults);
      faults = omega (arith, inv.faults, c.answer.ensures.faults);
      extent = c.answer.ensures.extent ∙ inv.extent;
      told = search rules;
      honest = search rules;
      heard = search rules;
    }

pub returns-clause-ran : goal.returns-clause-ran
returns-clause-ran g c = λ told id s opens. has_run id s c.args.script _ c.loop-line.store _ _ (c.loop-line.invariant.going told.0 told.1 id s opens) c.in_default.ensures.none opens.fresh
