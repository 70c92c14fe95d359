use Rattle.std.proofs.Common.{◌≡◌, ◌++◌, ◌+◌, ℕ, List, take, drop, replicate, refl, sym, ap, arith, ◌∙◌}
use Rattle.fs_model.specs.Rows.{overwrite}
use Rattle.fs_model.proofs.Writes.{put_zeros}
use Rattle.fs_model.proofs.blob.Blob.zero_at.Goals as goal

pub returns-clause-ok : goal.returns-clause-ok
returns-clause-ok c =
    let at = c.args.at in
    let len = c.args.len in
    c.zero_part.ensures
    ∙ ap (λ (l : List ℕ). take at l ++ replicate len 0 ++ drop (at + len) l) c.in_ok-lengthen.ensures.ok
    ∙ put_zeros c.self.inside.bytes.items at len (λ h. omega (arith, h, c.if-len-eq0.false))
    ∙ ap (λ (old : List ℕ). overwrite old at (replicate len 0)) c.self.view_is
