use Rattle.std.proofs.Common.{rules, ◌≡◌, ◌≢◌, ◌⊎◌, ℕ, ◌≤◌, List, [], take, replicate, ap, subst, sym, ◌∙◌}
use Rattle.std.specs.Prelude.{None}
use Rattle.dev_api.specs.Disk.{Disk, put, wrote, settled}
use Rattle.dev_api.proofs.Run.{since_then}
use Rattle.ring_frame.specs.Heads.{Head, head_of}
use Rattle.ring_images.specs.Held.{Left}
use Rattle.ring_journal.specs.Making.{Remains}
use Rattle.ring_journal.proofs.Wipes.{step_write, step_both, since_wrote, others_pending, since_zeros, pending_after}
use Rattle.ring_journal.proofs.Makes.{making_before, making_heads, making_none, heads_wiped}
use Rattle.ring_journal.proofs.make.zero_heads.Goals as goal

pub returns-in_err-write_at-clause-making : goal.returns-in_err-write_at-clause-making
returns-in_err-write_at-clause-making g c = λ told h.
    let w = c.write_at in
    let d : Disk = (g.D.Device.state c.args.dev.now).disk in
    let sized = g.met.D.Device.has_size c.args.dev.now (search rules) in
    step_write (λ (x : List ℕ). (head_of x ≡ None) ⊎ (Left h [] [] x ⊎ Remains d x)) w.result d (g.D.Device.state w.new.self).disk (g.D.Device.state c.args.dev.now).past (g.D.Device.state w.new.self).past
    0 c.args.zeros.now (replicate 8192 0) c.requires.zeros (w.ensures.done (search rules)) (w.ensures.refused (search rules)) (w.ensures.memory (search rules)) (making_before d h) (making_heads d h _ sized c.requires.least)

pub returns-in_err-sync-clause-making : goal.returns-in_err-sync-clause-making
returns-in_err-sync-clause-making g c = λ told h.
    let d : Disk = (g.D.Device.state c.args.dev.now).disk in
    let sized = g.met.D.Device.has_size c.args.dev.now (search rules) in
    step_both (λ (x : List ℕ). (head_of x ≡ None) ⊎ (Left h [] [] x ⊎ Remains d x)) c.sync.result d (g.D.Device.state c.write_at.new.self).disk (g.D.Device.state c.sync.new.self).disk (g.D.Device.state c.args.dev.now).past (g.D.Device.state c.write_at.new.self).past (g.D.Device.state c.sync.new.self).past
    0 c.args.zeros.now (replicate 8192 0) c.requires.zeros (c.in_ok-write_at.ensures.done (search rules)) (c.sync.ensures.done (search rules)) (c.sync.ensures.refused (search rules)) (making_heads d h _ sized c.requires.least)
    (making_none d h (put d.reads 0 (replicate 8192 0)) (heads_wiped d.reads (subst (λ (n : ℕ). 8192 ≤ n) (sym sized.reads) c.requires.least)))

pub returns-clause-making : goal.returns-clause-making
returns-clause-making g c = λ told h.
    let d : Disk = (g.D.Device.state c.args.dev.now).disk in
    let sized = g.met.D.Device.has_size c.args.dev.now (search rules) in
    step_both (λ (x : List ℕ). (head_of x ≡ None) ⊎ (Left h [] [] x ⊎ Remains d x)) c.sync.result d (g.D.Device.state c.write_at.new.self).disk (g.D.Device.state c.sync.new.self).disk (g.D.Device.state c.args.dev.now).past (g.D.Device.state c.write_at.new.self).past (g.D.Device.state c.sync.new.self).past
    0 c.args.zeros.now (replicate 8192 0) c.requires.zeros (c.in_ok-write_at.ensures.done (search rules)) (c.sync.ensures.done (search rules)) (c.sync.ensures.refused (search rules)) (making_heads d h _ sized c.requires.least)
    (making_none d h (put d.reads 0 (replicate 8192 0)) (heads_wiped d.reads (subst (λ (n : ℕ). 8192 ≤ n) (sym sized.reads) c.requires.least)))

pub returns-in_err-write_at-clause-others : goal.returns-in_err-write_at-clause-others
returns-in_err-write_at-clause-others g c = λ told bytes ne.
    let w = c.write_at in
    others_pending bytes _ _ (since_wrote w.result (g.D.Device.state c.args.dev.now).disk (g.D.Device.state w.new.self).disk (g.D.Device.state c.args.dev.now).past (g.D.Device.state w.new.self).past 0 c.args.zeros.now (w.ensures.done (search rules)) (w.ensures.refused (search rules)) (w.ensures.memory (search rules)))

pub returns-in_err-sync-clause-others : goal.returns-in_err-sync-clause-others
returns-in_err-sync-clause-others g c = λ told bytes ne.
    let w = c.write_at in
    let there = c.sync.ensures.told told in
    let goes = c.in_ok-write_at.ensures.done there in
    let d : Disk = (g.D.Device.state c.args.dev.now).disk in
    let mid : Disk = (g.D.Device.state w.new.self).disk in
    let sized = g.met.D.Device.has_size c.args.dev.now (search rules) in
    let zeros : List ℕ = replicate 8192 0 in
    let reads : mid.reads ≡ put d.reads 0 zeros = ap (λ (x : Disk). x.reads) goes.is ∙ ap (put d.reads 0) c.requires.zeros in
    let wiped = heads_wiped d.reads (subst (λ (n : ℕ). 8192 ≤ n) (sym sized.reads) c.requires.least) in
    since_then (λ x. x ≢ settled bytes) _ _ _
    (others_pending bytes _ _ (since_wrote w.result d mid (g.D.Device.state c.args.dev.now).past (g.D.Device.state w.new.self).past 0 c.args.zeros.now (w.ensures.done there) (w.ensures.refused there) (w.ensures.memory there)))
    (since_zeros c.sync.result mid (g.D.Device.state c.sync.new.self).disk (g.D.Device.state w.new.self).past (g.D.Device.state c.sync.new.self).past (put d.reads 0 zeros) bytes (pending_after d mid 0 c.args.zeros.now goes.is) reads
    (λ e. ne (ap (take 8192) e ∙ wiped)) (c.sync.ensures.done (search rules)) (c.sync.ensures.refused (search rules)))

pub returns-clause-others : goal.returns-clause-others
returns-clause-others g c = λ told bytes ne.
    let w = c.write_at in
    let there = c.sync.ensures.told told in
    let goes = c.in_ok-write_at.ensures.done there in
    let d : Disk = (g.D.Device.state c.args.dev.now).disk in
    let mid : Disk = (g.D.Device.state w.new.self).disk in
    let sized = g.met.D.Device.has_size c.args.dev.now (search rules) in
    let zeros : List ℕ = replicate 8192 0 in
    let reads : mid.reads ≡ put d.reads 0 zeros = ap (λ (x : Disk). x.reads) goes.is ∙ ap (put d.reads 0) c.requires.zeros in
    let wiped = heads_wiped d.reads (subst (λ (n : ℕ). 8192 ≤ n) (sym sized.reads) c.requires.least) in
    since_then (λ x. x ≢ settled bytes) _ _ _
    (others_pending bytes _ _ (since_wrote w.result d mid (g.D.Device.state c.args.dev.now).past (g.D.Device.state w.new.self).past 0 c.args.zeros.now (w.ensures.done there) (w.ensures.refused there) (w.ensures.memory there)))
    (since_zeros c.sync.result mid (g.D.Device.state c.sync.new.self).disk (g.D.Device.state w.new.self).past (g.D.Device.state c.sync.new.self).past (put d.reads 0 zeros) bytes (pending_after d mid 0 c.args.zeros.now goes.is) reads
    (λ e. ne (ap (take 8192) e ∙ wiped)) (c.sync.ensures.done (search rules)) (c.sync.ensures.refused (search rules)))

pub returns-clause-done : goal.returns-clause-done
returns-clause-done g c = λ told.
    let d : Disk = (g.D.Device.state c.args.dev.now).disk in
    (c.in_ok-sync.ensures.done (search rules)).is
    ∙ ap settled (ap (λ (x : Disk). x.reads) (c.in_ok-write_at.ensures.done (search rules)).is ∙ ap (put d.reads 0) c.requires.zeros)
