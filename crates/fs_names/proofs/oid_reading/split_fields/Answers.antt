use Rattle.std.proofs.Common.{◌≡◌, Option, Some, None, MatchOption, true, false, sym, ◌∙◌}
use Rattle.std.specs.Option.{is_some}
use Rattle.fs_names.proofs.Fields.{one_field, two_fields, three_fields, four_fields, five_fields, six_fields, more_fields}
use Rattle.fs_names.proofs.oid_reading.split_fields.Goals as goal

-- what an optional value tells by whether it is there
there : {A : Type 0} (o : Option A) (P : Type 0) (Q : A → Type 0) → MatchOption o P Q → is_some o ≡ true → (x : A) × Q x
there (Some x) P Q h e = (x, h)
there None P Q h e = cc

not_there : {A : Type 0} (o : Option A) (P : Type 0) (Q : A → Type 0) → MatchOption o P Q → is_some o ≡ false → P
not_there (Some x) P Q h e = cc
not_there None P Q h e = h

pub returns-in_err-name-clause-none : goal.returns-in_err-name-clause-none
returns-in_err-name-clause-none c = rw c.from_residual.ensures (one_field c.args.text.now c.in_err-name.ensures)

pub returns-in_err-key-clause-none : goal.returns-in_err-key-clause-none
returns-in_err-key-clause-none c =
    let name = c.in_ok-name in
    rw c.from_residual-in_err-key.ensures (two_fields c.args.text.now name.name.now name.rest.now name.ensures c.in_err-key.ensures)

pub returns-in_err-snap-clause-none : goal.returns-in_err-snap-clause-none
returns-in_err-snap-clause-none c =
    let name = c.in_ok-name in
    let key = c.in_ok-key in
    rw c.from_residual-in_err-snap.ensures
    (three_fields c.args.text.now name.name.now name.rest.now name.ensures key.key.now key.rest.now key.ensures c.in_err-snap.ensures)

pub returns-in_err-hash-clause-none : goal.returns-in_err-hash-clause-none
returns-in_err-hash-clause-none c =
    let name = c.in_ok-name in
    let key = c.in_ok-key in
    let snap = c.in_ok-snap in
    rw c.from_residual-in_err-hash.ensures
    (four_fields c.args.text.now name.name.now name.rest.now name.ensures key.key.now key.rest.now key.ensures
    snap.snap.now snap.rest.now snap.ensures c.in_err-hash.ensures)

pub returns-in_err-nspace-clause-none : goal.returns-in_err-nspace-clause-none
returns-in_err-nspace-clause-none c =
    let name = c.in_ok-name in
    let key = c.in_ok-key in
    let snap = c.in_ok-snap in
    let hash = c.in_ok-hash in
    rw c.from_residual-in_err-nspace.ensures
    (five_fields c.args.text.now name.name.now name.rest.now name.ensures key.key.now key.rest.now key.ensures
    snap.snap.now snap.rest.now snap.ensures hash.hash.now hash.rest.now hash.ensures c.in_err-nspace.ensures)

pub returns-then-is_some-clause-none : goal.returns-then-is_some-clause-none
returns-then-is_some-clause-none c =
    let name = c.in_ok-name in
    let key = c.in_ok-key in
    let snap = c.in_ok-snap in
    let hash = c.in_ok-hash in
    let nspace = c.in_ok-nspace in
    let more = there c.split_once-6.result _ _ c.split_once-6.ensures (sym c.is_some.ensures ∙ c.if-is_some.true) in
    more_fields c.args.text.now name.name.now name.rest.now name.ensures key.key.now key.rest.now key.ensures
    snap.snap.now snap.rest.now snap.ensures hash.hash.now hash.rest.now hash.ensures
    nspace.nspace.now nspace.pool.now nspace.ensures more.0.0.now more.0.1.now more.1

pub returns-clause-six : goal.returns-clause-six
returns-clause-six c =
    let name = c.in_ok-name in
    let key = c.in_ok-key in
    let snap = c.in_ok-snap in
    let hash = c.in_ok-hash in
    let nspace = c.in_ok-nspace in
    let last = not_there c.split_once-6.result _ _ c.split_once-6.ensures (sym c.is_some.ensures ∙ c.if-is_some.false) in
    six_fields c.args.text.now name.name.now name.rest.now name.ensures key.key.now key.rest.now key.ensures
    snap.snap.now snap.rest.now snap.ensures hash.hash.now hash.rest.now hash.ensures
    nspace.nspace.now nspace.pool.now nspace.ensures last
