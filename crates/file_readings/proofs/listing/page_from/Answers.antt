use Rattle.std.proofs.Common.{◌≡◌, true, List, length, Some, None, refl, ap, ◌∙◌, arith}
use Rattle.std.specs.Option.{option_copied}
use Rattle.fs_names.specs.declared.oid.Oid.{Oid}
use Rattle.fs_model.specs.Listing.{at_or_after}
use Rattle.file_readings.proofs.Gathered.{emptied, page_full, page_last}
use Rattle.file_readings.proofs.listing.page_from.Goals as goal

pub returns-then-len-max : goal.returns-then-len-max
returns-then-len-max c =
    let p = at_or_after (option_copied c.args.from) in
    let passes : p c.in-Some.oid ≡ true = grind (arith, c.is_from.ensures, c.if-not-is_from.false) in
    ap (λ (l : List Oid). record { oids = l; next = Some c.in-Some.oid }) c.from_vec.ensures
    ∙ page_full p c.args.oids.keys c.loop-oid.page.items c.loop-oid.left.keys c.loop-oid.invariant.are c.in-Some.oid c.pop_first.new.self.keys c.args.max c.in-Some.ensures.removal passes
    (omega (arith, c.len.ensures, c.if-len-max.true, c.loop-oid.page.ok.0))

pub returns : goal.returns
returns c =
    ap (λ (l : List Oid). record { oids = l; next = None }) c.from_vec-2.ensures
    ∙ page_last (at_or_after (option_copied c.args.from)) c.args.oids.keys c.loop-oid.page.items c.loop-oid.left.keys c.loop-oid.invariant.are c.args.max
    (emptied c.loop-oid.left.keys (length c.loop-oid.left.keys) c.pop_first.result refl c.pop_first.ensures.variant c.in_default.not-Some) c.loop-oid.invariant.few
