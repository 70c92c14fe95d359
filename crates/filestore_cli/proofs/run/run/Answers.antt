use Rattle.std.proofs.Common.{◌≡◌, inr, sym, subst, arith}
use Rattle.filestore_cli.specs.declared.command.Command.{Command}
use Rattle.filestore_cli.specs.Seen.{scene as on, moves, turns, sides}
use Rattle.filestore_cli.specs.Stop.{line_of}
use Rattle.filestore_cli.specs.Run.{Answers, RunStops, CanStart}
use Rattle.filestore_cli.proofs.Stopping.{usage_ended, not_usage, ran, only_memory}
use Rattle.filestore_cli.proofs.run.run.Goals as goal

pub returns-in_default-clause-usage_line : goal.returns-in_default-clause-usage_line
returns-in_default-clause-usage_line g c = λ one. (usage_ended _ _ c.end.ensures.ends).1

pub returns-in-Ok-clause-done : goal.returns-in-Ok-clause-done
returns-in-Ok-clause-done g c = λ command is zero.
    let same : command ≡ c.in-Some.command = cc in
    let w = turns (g.T.FileTree.tells c.run_command.new.tree × g.D.Device.tells c.run_command.new.dev) (sides (g.T.FileTree.disk c.args.tree.now) (g.D.Device.state c.args.device.now)) (sides (g.T.FileTree.disk c.run_command.new.tree) (g.D.Device.state c.run_command.new.dev)) in
    let i = moves (g.S.Source.tells c.run_command.new.source) (g.S.Source.inflow c.args.source.now) (g.S.Source.inflow c.run_command.new.source) in
    let k = moves (g.K.Sink.tells c.run_command.new.sink) (g.K.Sink.out c.args.sink.now) (g.K.Sink.out c.run_command.new.sink) in
    subst (λ (x : Command). Answers x (on w i k)) (sym same) c.in-Ok.ensures.done

pub returns-in-Err-clause-usage_line : goal.returns-in-Err-clause-usage_line
returns-in-Err-clause-usage_line g c = λ one.
    let w = turns (g.T.FileTree.tells c.run_command.new.tree × g.D.Device.tells c.run_command.new.dev) (sides (g.T.FileTree.disk c.args.tree.now) (g.D.Device.state c.args.device.now)) (sides (g.T.FileTree.disk c.run_command.new.tree) (g.D.Device.state c.run_command.new.dev)) in
    let i = moves (g.S.Source.tells c.run_command.new.source) (g.S.Source.inflow c.args.source.now) (g.S.Source.inflow c.run_command.new.source) in
    let k = moves (g.K.Sink.tells c.run_command.new.sink) (g.K.Sink.out c.args.sink.now) (g.K.Sink.out c.run_command.new.sink) in
    absurd (not_usage w i k _ c.in-Err.stop _ 1 (omega arith) c.in-Err.ensures.cause c.end-in-Err.ensures.ends one)

pub returns-in-Err-clause-untouched : goal.returns-in-Err-clause-untouched
returns-in-Err-clause-untouched g c = λ one.
    let w = turns (g.T.FileTree.tells c.run_command.new.tree × g.D.Device.tells c.run_command.new.dev) (sides (g.T.FileTree.disk c.args.tree.now) (g.D.Device.state c.args.device.now)) (sides (g.T.FileTree.disk c.run_command.new.tree) (g.D.Device.state c.run_command.new.dev)) in
    let i = moves (g.S.Source.tells c.run_command.new.source) (g.S.Source.inflow c.args.source.now) (g.S.Source.inflow c.run_command.new.source) in
    let k = moves (g.K.Sink.tells c.run_command.new.sink) (g.K.Sink.out c.args.sink.now) (g.K.Sink.out c.run_command.new.sink) in
    absurd (not_usage w i k _ c.in-Err.stop _ 1 (omega arith) c.in-Err.ensures.cause c.end-in-Err.ensures.ends one)

pub returns-in-Err-clause-done : goal.returns-in-Err-clause-done
returns-in-Err-clause-done g c = λ command is zero.
    let w = turns (g.T.FileTree.tells c.run_command.new.tree × g.D.Device.tells c.run_command.new.dev) (sides (g.T.FileTree.disk c.args.tree.now) (g.D.Device.state c.args.device.now)) (sides (g.T.FileTree.disk c.run_command.new.tree) (g.D.Device.state c.run_command.new.dev)) in
    let i = moves (g.S.Source.tells c.run_command.new.source) (g.S.Source.inflow c.args.source.now) (g.S.Source.inflow c.run_command.new.source) in
    let k = moves (g.K.Sink.tells c.run_command.new.sink) (g.K.Sink.out c.args.sink.now) (g.K.Sink.out c.run_command.new.sink) in
    absurd (not_usage w i k _ c.in-Err.stop _ 0 (omega arith) c.in-Err.ensures.cause c.end-in-Err.ensures.ends zero)

pub returns-in-Err-clause-stopped : goal.returns-in-Err-clause-stopped
returns-in-Err-clause-stopped g c = λ command is not.
    let same : command ≡ c.in-Some.command = cc in
    let w = turns (g.T.FileTree.tells c.run_command.new.tree × g.D.Device.tells c.run_command.new.dev) (sides (g.T.FileTree.disk c.args.tree.now) (g.D.Device.state c.args.device.now)) (sides (g.T.FileTree.disk c.run_command.new.tree) (g.D.Device.state c.run_command.new.dev)) in
    let i = moves (g.S.Source.tells c.run_command.new.source) (g.S.Source.inflow c.args.source.now) (g.S.Source.inflow c.run_command.new.source) in
    let k = moves (g.K.Sink.tells c.end-in-Err.new.sink) (g.K.Sink.out c.args.sink.now) (g.K.Sink.out c.end-in-Err.new.sink) in
    let all = ran c.in-Some.command w i _ _ _ _ _ c.end-in-Err.ensures.honest c.run_command.ensures.later c.end-in-Err.ensures.later c.in-Err.stop _ c.in-Err.ensures.stops c.in-Err.ensures.cause c.end-in-Err.ensures.ends in
    (all.0, all.1, subst (λ (x : Command). RunStops x (on w i k) all.0 (line_of all.0)) (sym same) all.2)

pub returns-in-Err-clause-complete : goal.returns-in-Err-clause-complete
returns-in-Err-clause-complete g c = λ command is free.
    let same : command ≡ c.in-Some.command = cc in
    let w = turns (g.T.FileTree.tells c.run_command.new.tree × g.D.Device.tells c.run_command.new.dev) (sides (g.T.FileTree.disk c.args.tree.now) (g.D.Device.state c.args.device.now)) (sides (g.T.FileTree.disk c.run_command.new.tree) (g.D.Device.state c.run_command.new.dev)) in
    let i = moves (g.S.Source.tells c.run_command.new.source) (g.S.Source.inflow c.args.source.now) (g.S.Source.inflow c.run_command.new.source) in
    let k = moves (g.K.Sink.tells c.end-in-Err.new.sink) (g.K.Sink.out c.args.sink.now) (g.K.Sink.out c.end-in-Err.new.sink) in
    let could = subst (λ (x : Command). CanStart x w.old) same free.can in
    inr (only_memory w i (g.K.Sink.tells c.run_command.new.sink) (g.K.Sink.tells c.end-in-Err.new.sink) (g.K.Sink.out c.args.sink.now) (g.K.Sink.out c.run_command.new.sink) (g.K.Sink.out c.end-in-Err.new.sink) c.in-Err.stop _ c.end-in-Err.ensures.later (c.in-Err.ensures.free free.told free.heard could free.script free.said) c.in-Err.ensures.cause c.end-in-Err.ensures.ends free.read free.kept free.saved free.written)
