use Rattle.std.proofs.Common.{rules, ◌≢◌, ◌∙◌, ◌+◌, ℕ, take, drop, refl, sym, ap, arith}
use Rattle.dev_api.specs.Disk.{Disk, Goes, wrote}
use Rattle.dev_api.proofs.Run.{keeps_none, on_ok_map}
use Rattle.ring_frame.specs.Frame.{entry_magic}
use Rattle.ring_images.specs.Turned.{turned}
use Rattle.ring_images.specs.Held.{Leaves}
use Rattle.ring_journal.specs.Swept.{Swept}
use Rattle.ring_journal.proofs.Clears.{clear_keeps, clear_goes, cleared_leaves, cleared_past}
use Rattle.ring_journal.proofs.clear.clear_block.Goals as goal

pub returns-then-ne-clause-done : goal.returns-then-ne-clause-done
returns-then-ne-clause-done g c = λ told h heads es was is.
    let d : Disk = (g.D.Device.state c.args.dev.now).disk in
    let off = c.args.offset in
    let ne : c.args.front.now ≢ entry_magic = search rules in
    record {
      clean = cleared_past h c.args.size heads es d off c.requires.blocks.2 (λ e. ne (is ∙ ap (λ (s : ℕ). take 8 (drop off (turned s d.reads))) (sym was.start_is) ∙ e)) was.clean;
      rest = refl;
    }

pub returns-then-ne-clause-crash : goal.returns-then-ne-clause-crash
returns-then-ne-clause-crash g c = λ told h heads es was.
    keeps_none (Leaves h es es) (g.D.Device.state c.args.dev.now).disk (g.D.Device.state c.args.dev.now).past (cleared_leaves h c.args.size heads es c.args.offset (g.D.Device.state c.args.dev.now).disk was.clean)

pub returns-clause-done : goal.returns-clause-done
returns-clause-done g c = λ told h heads es was is.
    let disk = λ (k : g.row.D.Denot). (g.D.Device.state k).disk in
    let past = λ (k : g.row.D.Denot). (g.D.Device.state k).past in
    let w = c.write_at in
    let b = c.requires.blocks in
    on_ok_map _ _ w.result
    (clear_goes h c.args.size c.args.start heads es (disk c.args.dev.now) (disk w.new.self) (past c.args.dev.now) (past w.new.self) c.place.result c.args.offset _ was.start_is c.place.ensures (search rules)
    b.0 b.1 b.2 was.behind c.requires.within was.clean c.requires.high c.requires.low)
    (w.ensures.done (search rules))

pub returns-clause-crash : goal.returns-clause-crash
returns-clause-crash g c = λ told h heads es was.
    let disk = λ (k : g.row.D.Denot). (g.D.Device.state k).disk in
    let past = λ (k : g.row.D.Denot). (g.D.Device.state k).past in
    let w = c.write_at in
    let b = c.requires.blocks in
    clear_keeps h c.args.size c.args.start heads es (disk c.args.dev.now) (disk w.new.self) (past c.args.dev.now) (past w.new.self) c.place.result c.args.offset _ was.start_is c.place.ensures (search rules)
    b.0 b.1 b.2 was.behind c.requires.within was.clean w.result (w.ensures.done (search rules)) (w.ensures.refused (search rules)) (w.ensures.memory (search rules))
