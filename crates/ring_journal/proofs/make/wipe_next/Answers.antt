use Rattle.std.proofs.Common.{rules, ◌≡◌, ◌+◌, ◌-◌, ◌++◌, ◌≤◌, ℕ, List, length, take, replicate, ap, subst, sym, ◌∙◌, arith}
use Rattle.std.proofs.lemmas.List.{take-replicate, length-replicate}
use Rattle.dev_api.specs.Disk.{Disk, put}
use Rattle.dev_api.proofs.Run.{keeps_write}
use Rattle.ring_journal.specs.Making.{WrittenIn}
use Rattle.ring_journal.proofs.Wipes.{since_wrote, pending_after}
use Rattle.ring_journal.proofs.Makes.{written_self, written_wrote, written_part, zeros_more}
use Rattle.ring_journal.proofs.make.wipe_next.Goals as goal

pub returns-in_err-write_at-clause-keeps : goal.returns-in_err-write_at-clause-keeps
returns-in_err-write_at-clause-keeps g c = λ told.
    let w = c.write_at in
    let d : Disk = (g.D.Device.state c.args.dev.now).disk in
    let len = c.if-left-zeros.len in
    let most : len ≤ length c.args.zeros.now = search rules in
    let left : c.args.at + len ≤ c.args.to = search rules in
    let piece : take len c.args.zeros.now ≡ replicate len 0 = ap (take len) c.requires.zeros ∙ take-replicate len (length c.args.zeros.now) 0 most in
    let long : length (take len c.args.zeros.now) ≡ len = ap length piece ∙ length-replicate {A = ℕ} len 0 in
    let fits : c.args.at + length (take len c.args.zeros.now) ≤ c.args.to = omega (arith, long, left) in
    keeps_write (WrittenIn c.args.at c.args.to d) w.result d (g.D.Device.state w.new.self).disk (g.D.Device.state c.args.dev.now).past (g.D.Device.state w.new.self).past c.args.at (take len c.args.zeros.now)
    (w.ensures.done (search rules)) (w.ensures.refused (search rules)) (w.ensures.memory (search rules)) (written_self c.args.at c.args.to d)
    (written_wrote c.args.at c.args.to c.args.at (take len c.args.zeros.now) d d (omega arith) fits (written_self c.args.at c.args.to d))
    (λ r. written_part c.args.at c.args.to c.args.at (take len c.args.zeros.now) r d d (omega arith) fits (written_self c.args.at c.args.to d))

pub returns-in_err-write_at-clause-since : goal.returns-in_err-write_at-clause-since
returns-in_err-write_at-clause-since g c = λ told.
    let w = c.write_at in
    since_wrote w.result (g.D.Device.state c.args.dev.now).disk (g.D.Device.state w.new.self).disk (g.D.Device.state c.args.dev.now).past (g.D.Device.state w.new.self).past _ _ (w.ensures.done (search rules)) (w.ensures.refused (search rules)) (w.ensures.memory (search rules))

pub returns-clause-keeps : goal.returns-clause-keeps
returns-clause-keeps g c = λ told.
    let w = c.write_at in
    let d : Disk = (g.D.Device.state c.args.dev.now).disk in
    let len = c.if-left-zeros.len in
    let most : len ≤ length c.args.zeros.now = search rules in
    let left : c.args.at + len ≤ c.args.to = search rules in
    let piece : take len c.args.zeros.now ≡ replicate len 0 = ap (take len) c.requires.zeros ∙ take-replicate len (length c.args.zeros.now) 0 most in
    let long : length (take len c.args.zeros.now) ≡ len = ap length piece ∙ length-replicate {A = ℕ} len 0 in
    let fits : c.args.at + length (take len c.args.zeros.now) ≤ c.args.to = omega (arith, long, left) in
    keeps_write (WrittenIn c.args.at c.args.to d) w.result d (g.D.Device.state w.new.self).disk (g.D.Device.state c.args.dev.now).past (g.D.Device.state w.new.self).past c.args.at (take len c.args.zeros.now)
    (w.ensures.done (search rules)) (w.ensures.refused (search rules)) (w.ensures.memory (search rules)) (written_self c.args.at c.args.to d)
    (written_wrote c.args.at c.args.to c.args.at (take len c.args.zeros.now) d d (omega arith) fits (written_self c.args.at c.args.to d))
    (λ r. written_part c.args.at c.args.to c.args.at (take len c.args.zeros.now) r d d (omega arith) fits (written_self c.args.at c.args.to d))

pub returns-clause-since : goal.returns-clause-since
returns-clause-since g c = λ told.
    let w = c.write_at in
    since_wrote w.result (g.D.Device.state c.args.dev.now).disk (g.D.Device.state w.new.self).disk (g.D.Device.state c.args.dev.now).past (g.D.Device.state w.new.self).past _ _ (w.ensures.done (search rules)) (w.ensures.refused (search rules)) (w.ensures.memory (search rules))

pub returns-clause-zeros : goal.returns-clause-zeros
returns-clause-zeros g c = λ told.
    let w = c.write_at in
    let d : Disk = (g.D.Device.state c.args.dev.now).disk in
    let len = c.if-left-zeros.len in
    let most : len ≤ length c.args.zeros.now = search rules in
    let left : c.args.at + len ≤ c.args.to = search rules in
    let piece : take len c.args.zeros.now ≡ replicate len 0 = ap (take len) c.requires.zeros ∙ take-replicate len (length c.args.zeros.now) 0 most in
    let long : length (take len c.args.zeros.now) ≡ len = ap length piece ∙ length-replicate {A = ℕ} len 0 in
    let fits : c.args.at + length (take len c.args.zeros.now) ≤ c.args.to = omega (arith, long, left) in
    let sized = g.met.D.Device.has_size c.args.dev.now (search rules) in
    let room : c.args.at + len ≤ length d.reads = omega (arith, left, c.requires.within, sized.reads) in
    let back : c.args.at + len - c.args.at ≡ len = omega arith in
    ap (λ (x : Disk). take (c.args.at + len) x.reads) (c.in_ok-write_at.ensures.done (search rules)).is ∙ zeros_more d.reads (take len c.args.zeros.now) c.args.at len room piece
    ∙ ap (λ (n : ℕ). take c.args.at d.reads ++ replicate n 0) (sym back)

pub returns-clause-pending : goal.returns-clause-pending
returns-clause-pending g c = λ told.
    pending_after (g.D.Device.state c.args.dev.now).disk (g.D.Device.state c.write_at.new.self).disk c.args.at _ (c.in_ok-write_at.ensures.done (search rules)).is
