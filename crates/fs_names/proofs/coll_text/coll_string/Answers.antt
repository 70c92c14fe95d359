use Rattle.std.proofs.Common.{sym, ap, ◌∙◌}
use Rattle.std.proofs.lemmas.Result.{IfOk-weaker}
use Rattle.fs_names.specs.declared.coll.Coll.TheVariants.{Pg}
use Rattle.fs_names.specs.Text.{coll_text}
use Rattle.fs_names.proofs.Colls.{head_text, temp_text}
use Rattle.fs_names.proofs.coll_text.coll_string.Goals as goal

pub returns-then-temp : goal.returns-then-temp
returns-then-temp c =
    let pool = c.in-Pg.pool in
    let seed = c.in-Pg.seed in
    IfOk-weaker c.pg_string.result _ _ (λ s h. h ∙ sym (ap coll_text (c.in-Pg.is ∙ ap (Pg pool seed) c.if-temp.true) ∙ temp_text pool seed)) c.pg_string.ensures

pub returns-else-temp : goal.returns-else-temp
returns-else-temp c =
    let pool = c.in-Pg.pool in
    let seed = c.in-Pg.seed in
    IfOk-weaker c.pg_string-else-temp.result _ _ (λ s h. h ∙ sym (ap coll_text (c.in-Pg.is ∙ ap (Pg pool seed) c.if-temp.false) ∙ head_text pool seed)) c.pg_string-else-temp.ensures
