use Rattle.std.proofs.Common.{rules, ◌≡◌, ℕ, ◌+◌, length, take, drop, subst, sym}
use Rattle.std.proofs.lemmas.List.{places}
use Rattle.ring_images.specs.Turned.{turned}
use Rattle.dev_api.specs.Disk.{Disk}
use Rattle.dev_api.proofs.Run.{keeps_same, keeps_then}
use Rattle.ring_images.specs.Held.{Leaves}
use Rattle.ring_images.specs.Cleaning.{Cleared}
use Rattle.ring_journal.specs.Swept.{Sweeps}
use Rattle.ring_journal.proofs.Clears.{cleared_leaves, as_long}
use Rattle.ring_journal.proofs.clear.clear_next.Goals as goal

pub returns-in_err-read_span-clause-crash : goal.returns-in_err-read_span-clause-crash
returns-in_err-read_span-clause-crash g c = λ told h heads es was.
    let d : Disk = (g.D.Device.state c.args.dev.now).disk in
    keeps_same (Leaves h es es) d (g.D.Device.state c.read_span.new.dev).disk (g.D.Device.state c.args.dev.now).past (g.D.Device.state c.read_span.new.dev).past
    (c.read_span.ensures.disk (search rules)) (c.read_span.ensures.past (search rules)) (cleared_leaves h c.args.size heads es c.args.offset d was.clean)

pub returns-in_err-clear_piece-clause-crash : goal.returns-in_err-clear_piece-clause-crash
returns-in_err-clear_piece-clause-crash g c = λ told h heads es was.
    let disk = λ (k : g.row.D.Denot). (g.D.Device.state k).disk in
    let past = λ (k : g.row.D.Denot). (g.D.Device.state k).past in
    let d : Disk = disk c.args.dev.now in
    let into = c.read_span.new.into in
    let same : disk c.read_span.new.dev ≡ d = c.in_ok-read_span.ensures.disk (search rules) in
    let here = subst (Sweeps h c.args.start c.args.size heads es c.args.offset) (sym same) was in
    let cut = as_long into (drop c.args.offset (turned c.args.start d.reads)) _ (c.in_ok-read_span.ensures.bytes (search rules)) in
    let is = subst (λ (x : Disk). into ≡ take (length into) (drop c.args.offset (turned c.args.start x.reads))) (sym same) cut in
    keeps_then (Leaves h es es) (disk c.read_span.new.dev) (disk c.clear_piece.new.dev) (past c.args.dev.now) (past c.read_span.new.dev) (past c.clear_piece.new.dev)
    (keeps_same (Leaves h es es) d (disk c.read_span.new.dev) (past c.args.dev.now) (past c.read_span.new.dev) same (c.in_ok-read_span.ensures.past (search rules)) (cleared_leaves h c.args.size heads es c.args.offset d was.clean))
    (c.clear_piece.ensures.crash (search rules) h heads es here is)

pub returns-clause-crash : goal.returns-clause-crash
returns-clause-crash g c = λ told h heads es was.
    let disk = λ (k : g.row.D.Denot). (g.D.Device.state k).disk in
    let past = λ (k : g.row.D.Denot). (g.D.Device.state k).past in
    let d : Disk = disk c.args.dev.now in
    let into = c.read_span.new.into in
    let same : disk c.read_span.new.dev ≡ d = c.in_ok-read_span.ensures.disk (search rules) in
    let here = subst (Sweeps h c.args.start c.args.size heads es c.args.offset) (sym same) was in
    let cut = as_long into (drop c.args.offset (turned c.args.start d.reads)) _ (c.in_ok-read_span.ensures.bytes (search rules)) in
    let is = subst (λ (x : Disk). into ≡ take (length into) (drop c.args.offset (turned c.args.start x.reads))) (sym same) cut in
    keeps_then (Leaves h es es) (disk c.read_span.new.dev) (disk c.clear_piece.new.dev) (past c.args.dev.now) (past c.read_span.new.dev) (past c.clear_piece.new.dev)
    (keeps_same (Leaves h es es) d (disk c.read_span.new.dev) (past c.args.dev.now) (past c.read_span.new.dev) same (c.in_ok-read_span.ensures.past (search rules)) (cleared_leaves h c.args.size heads es c.args.offset d was.clean))
    (c.clear_piece.ensures.crash (search rules) h heads es here is)

pub returns-clause-done : goal.returns-clause-done
returns-clause-done g c = λ told h heads es was.
    let disk = λ (k : g.row.D.Denot). (g.D.Device.state k).disk in
    let past = λ (k : g.row.D.Denot). (g.D.Device.state k).past in
    let d : Disk = disk c.args.dev.now in
    let into = c.read_span.new.into in
    let same : disk c.read_span.new.dev ≡ d = c.in_ok-read_span.ensures.disk (search rules) in
    let here = subst (Sweeps h c.args.start c.args.size heads es c.args.offset) (sym same) was in
    let cut = as_long into (drop c.args.offset (turned c.args.start d.reads)) _ (c.in_ok-read_span.ensures.bytes (search rules)) in
    let is = subst (λ (x : Disk). into ≡ take (length into) (drop c.args.offset (turned c.args.start x.reads))) (sym same) cut in
    let n : length into ≡ c.if-left-piece.len = search (rules, places) in
    subst (λ (k : ℕ). Cleared h c.args.size heads es (c.args.offset + k) (disk c.clear_piece.new.dev)) n (c.in_ok-clear_piece.ensures.done (search rules) h heads es here is)
