use Rattle.std.proofs.Common.{rules, ◌≡◌, ℕ, ◌+◌, ◌-◌, ◌*◌, ◌≤◌, length, take, drop, refl, sym, ap, subst, arith, ◌∙◌}
use Rattle.dev_api.specs.Disk.{Disk}
use Rattle.dev_api.proofs.Run.{keeps_none, keeps_then}
use Rattle.ring_images.specs.Turned.{turned}
use Rattle.ring_images.specs.Held.{Leaves}
use Rattle.ring_images.specs.Cleaning.{Cleared}
use Rattle.ring_journal.specs.Swept.{Swept, Sweeps}
use Rattle.ring_journal.proofs.Clears.{cleared_leaves, swept_more, front_there}
use Rattle.ring_journal.proofs.clear.clear_piece.Goals as goal

pub loop-block-init : goal.loop-block-init
loop-block-init g c =
    let disk = λ (k : g.row.D.Denot). (g.D.Device.state k).disk in
    let d = disk c.args.dev.now in
    record {
      honest = λ told. told;
      extent = refl;
      later = omega arith;
      swept = λ told h heads es was is. record {
        clean = subst (λ (k : ℕ). Cleared h c.args.size heads es k d) (let e : c.args.offset ≡ c.args.offset + 0 = omega arith in e) was.clean;
        rest = refl;
      };
      keeps = λ told h heads es was is. keeps_none (Leaves h es es) d (g.D.Device.state c.args.dev.now).past (cleared_leaves h c.args.size heads es c.args.offset d was.clean);
    }

pub returns-in_err-clear_block-clause-crash : goal.returns-in_err-clear_block-clause-crash
returns-in_err-clear_block-clause-crash g c = λ told h heads es was is.
    let disk = λ (k : g.row.D.Denot). (g.D.Device.state k).disk in
    let past = λ (k : g.row.D.Denot). (g.D.Device.state k).past in
    let l = c.loop-block in
    let w = c.clear_block in
    let at = l.block * 4096 in
    let off = c.args.offset + at in
    let swept = l.invariant.swept (search rules) h heads es was is in
    let here : Sweeps h c.args.start c.args.size heads es off (disk l.dev) = record { start_is = was.start_is; behind = omega (arith, was.behind); clean = swept.clean } in
    keeps_then (Leaves h es es) (disk l.dev) (disk w.new.dev) (past c.args.dev.now) (past l.dev) (past w.new.dev) (l.invariant.keeps (search rules) h heads es was is)
    (w.ensures.crash (search rules) h heads es here)

pub loop-block-preserved : goal.loop-block-preserved
loop-block-preserved g c =
    let disk = λ (k : g.row.D.Denot). (g.D.Device.state k).disk in
    let past = λ (k : g.row.D.Denot). (g.D.Device.state k).past in
    let l = c.loop-block in
    let w = c.clear_block in
    let at = l.block * 4096 in
    let off = c.args.offset + at in
    let fits : at + 8 ≤ length c.args.bytes.now = omega (arith, c.loop-block-test.true) in
    record {
      honest = search rules;
      extent = c.in_ok-clear_block.ensures.extent ∙ l.invariant.extent;
      later = omega (arith, l.invariant.later, c.in_ok-clear_block.ensures.faults);
      swept = λ told h heads es was is.
          let swept = l.invariant.swept (search rules) h heads es was is in
          let here : Sweeps h c.args.start c.args.size heads es off (disk l.dev) = record { start_is = was.start_is; behind = omega (arith, was.behind); clean = swept.clean } in
          let rest : drop off (turned c.args.start (disk l.dev).reads) ≡ drop off (turned c.args.start (disk c.args.dev.now).reads) =
          subst (λ (s : ℕ). drop off (turned s (disk l.dev).reads) ≡ drop off (turned s (disk c.args.dev.now).reads)) was.start_is swept.rest in
          let there = front_there (turned c.args.start (disk c.args.dev.now).reads) (turned c.args.start (disk l.dev).reads) c.args.bytes.now c.args.offset at (length c.args.bytes.now) fits is rest in
          let front : take (at + 8 - at) (drop at c.args.bytes.now) ≡ take 8 (drop at c.args.bytes.now) = ap (λ (n : ℕ). take n (drop at c.args.bytes.now)) (let e : at + 8 - at ≡ 8 = omega arith in e) in
          let one = c.in_ok-clear_block.ensures.done (search rules) h heads es here (front ∙ there) in
          subst (λ (k : ℕ). Swept h c.args.size heads es k (disk c.args.dev.now) (disk w.new.dev)) (let e : off + 4096 ≡ c.args.offset + (l.block + 1) * 4096 = omega arith in e)
          (swept_more h c.args.size heads es off (off + 4096) (disk c.args.dev.now) (disk l.dev) (disk w.new.dev) (omega arith) swept one);
      keeps = λ told h heads es was is.
          let swept = l.invariant.swept (search rules) h heads es was is in
          let here : Sweeps h c.args.start c.args.size heads es off (disk l.dev) = record { start_is = was.start_is; behind = omega (arith, was.behind); clean = swept.clean } in
          keeps_then (Leaves h es es) (disk l.dev) (disk w.new.dev) (past c.args.dev.now) (past l.dev) (past w.new.dev) (l.invariant.keeps (search rules) h heads es was is)
          (c.in_ok-clear_block.ensures.crash (search rules) h heads es here);
    }

pub returns-clause-done : goal.returns-clause-done
returns-clause-done g c = λ told h heads es was is.
    let l = c.loop-block in
    let end : c.args.offset + l.block * 4096 ≡ c.args.offset + length c.args.bytes.now = omega (arith, c.loop-block-test.false, l.auto.block-end, c.requires.blocks.3) in
    subst (λ (k : ℕ). Cleared h c.args.size heads es k (g.D.Device.state l.dev).disk) end (l.invariant.swept (search rules) h heads es was is).clean
