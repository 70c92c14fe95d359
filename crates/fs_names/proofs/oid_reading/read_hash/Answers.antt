use Rattle.std.proofs.Common.{◌+◌, ◌*◌, get_or, ap, sym, ◌∙◌, arith}
use Rattle.fs_names.specs.Numbers.{is_upper_digit}
use Rattle.fs_names.proofs.Digits.{read_first, read_more}
use Rattle.fs_names.proofs.Hashes.{hash_of-length, hash_of-stops, hash_of-read, room_left, room_kept, upper_value-lt}
use Rattle.fs_names.proofs.oid_reading.read_hash.Goals as goal

pub returns-then-text-ne8 : goal.returns-then-text-ne8
returns-then-text-ne8 c = sym (hash_of-length c.args.text.now c.if-text-ne8.true)

pub loop-byte-init : goal.loop-byte-init
loop-byte-init c = record { small = omega arith; read = read_first 16 is_upper_digit c.args.text.now }

pub loop-byte-preserved : goal.loop-byte-preserved
loop-byte-preserved c =
    let text = c.args.text.now in
    let at = c.loop-byte.byte-index in
    let hash = c.loop-byte.hash in
    let digit = upper_value-lt (get_or text at 0) c.in-Some.digit (sym c.upper_value.ensures ∙ c.in-Some.is) in
    record {
      small = room_kept at hash c.in-Some.digit c.loop-byte.invariant.small digit.2;
      read = read_more 16 is_upper_digit text at hash (hash * 16 + c.in-Some.digit) c.loop-byte-test.true digit.0
          (ap (λ v. hash * 16 + v) (sym digit.1)) c.loop-byte.invariant.read;
    }

pub returns-in_default : goal.returns-in_default
returns-in_default c =
    sym (hash_of-stops c.args.text.now c.loop-byte.byte-index c.loop-byte-test.true (sym c.upper_value.ensures ∙ c.in_default.is))

pub overflow_mul-hash : goal.overflow_mul-hash
overflow_mul-hash c =
    let room = room_left c.loop-byte.byte-index c.loop-byte.hash c.loop-byte.invariant.small (omega arith) in
    omega arith

pub overflow_add-hash : goal.overflow_add-hash
overflow_add-hash c =
    let room = room_left c.loop-byte.byte-index c.loop-byte.hash c.loop-byte.invariant.small (omega arith) in
    let digit = upper_value-lt (get_or c.args.text.now c.loop-byte.byte-index 0) c.in-Some.digit (sym c.upper_value.ensures ∙ c.in-Some.is) in
    omega (arith, digit.2)

pub returns : goal.returns
returns c =
    hash_of-read c.args.text.now c.loop-byte.byte-index c.loop-byte.hash (omega arith) c.loop-byte-test.false (omega arith) c.loop-byte.invariant.read
