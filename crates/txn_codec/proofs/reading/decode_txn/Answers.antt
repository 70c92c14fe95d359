use Rattle.std.proofs.Common.{◌≡◌, Ok, arith, ap, sym, ◌∙◌}
use Rattle.txn_codec.specs.Reading.{decoded}
use Rattle.txn_codec.proofs.Payload.{payload_takes}
use Rattle.txn_codec.proofs.reading.decode_txn.Goals as goal

pub returns-clause-spelled : goal.returns-clause-spelled
returns-clause-spelled c =
    let read : decoded c.args.bytes.now ≡ Ok c.from_vec-ops.result = c.in_ok-decode.ensures ∙ ap Ok (sym c.from_vec-ops.ensures) in
    (payload_takes c.args.bytes.now c.from_vec-ops.result (λ i. omega (arith, c.type_inv.bytes i)) read).0

pub returns-clause-fits : goal.returns-clause-fits
returns-clause-fits c =
    let read : decoded c.args.bytes.now ≡ Ok c.from_vec-ops.result = c.in_ok-decode.ensures ∙ ap Ok (sym c.from_vec-ops.ensures) in
    (payload_takes c.args.bytes.now c.from_vec-ops.result (λ i. omega (arith, c.type_inv.bytes i)) read).1
