use Rattle.std.proofs.Common.{sym, ◌∙◌}
use Rattle.fs_names.proofs.Colls.{has_kind, no_kind}
use Rattle.fs_names.proofs.coll_reading.read_pg.Goals as goal

pub returns-in_err-seed : goal.returns-in_err-seed
returns-in_err-seed c =
    let first = c.in_ok-pool.ensures in
    c.from_residual-in_err-seed.ensures ∙ sym (no_kind c.args.text.now c.in_ok-pool.group.now first.2 c.in_err-seed.ensures)

pub returns : goal.returns
returns c =
    let first = c.in_ok-pool.ensures in
    let second = c.in_ok-seed.ensures in
    c.pg_from.ensures
    ∙ sym (has_kind c.args.text.now c.in_ok-pool.group.now c.in_ok-pool.pool.now c.in_ok-seed.seed.now c.in_ok-seed.kind.now first.2 first.1 second.1 second.2)
