use Rattle.std.proofs.Common.{◌≡◌, ◌≤◌, length, Err, sym, ap, subst, ◌∙◌}
use Rattle.std.specs.Result.{IsOkAnd}
use Rattle.fs_names.specs.declared.fault.NameFault.TheVariants.{Memory}
use Rattle.fs_names.proofs.ReadLaws.{field_moved}
use Rattle.fs_names.proofs.Six.{some_names, names_are, six_fault, six_snap, six_hash, six_pool, six_read}
use Rattle.fs_names.proofs.oid_reading.read_values.Goals as goal

pub returns-in-Err-clause-fault : goal.returns-in-Err-clause-fault
returns-in-Err-clause-fault c =
    let f = c.args.fields.now in
    six_fault f.name.now f.key.now f.snap.now f.hash.now f.nspace.now f.pool.now c.in-Err.fault c.in-Err.ensures.fault

pub returns-in-Err-clause-never : goal.returns-in-Err-clause-never
returns-in-Err-clause-never c = λ e.
    let same : c.in-Err.fault ≡ Memory = cc in
    c.in-Err.ensures.never (ap Err same)

pub returns-in_default-clause-fault : goal.returns-in_default-clause-fault
returns-in_default-clause-fault c =
    let f = c.args.fields.now in
    six_snap f.name.now f.key.now f.snap.now f.hash.now f.nspace.now f.pool.now c.in-Ok.ensures.ok (sym c.read_snap.ensures ∙ c.in_default.is)

pub returns-in_default-read_hash-clause-fault : goal.returns-in_default-read_hash-clause-fault
returns-in_default-read_hash-clause-fault c =
    let f = c.args.fields.now in
    six_hash f.name.now f.key.now f.snap.now f.hash.now f.nspace.now f.pool.now c.in-Some.snap c.in-Ok.ensures.ok
    (sym c.read_snap.ensures ∙ c.in-Some.is) (sym c.read_hash.ensures ∙ c.in_default-read_hash.is)

pub returns-in_default-read_pool-clause-fault : goal.returns-in_default-read_pool-clause-fault
returns-in_default-read_pool-clause-fault c =
    let f = c.args.fields.now in
    six_pool f.name.now f.key.now f.snap.now f.hash.now f.nspace.now f.pool.now c.in-Some.snap c.in-Some-read_hash.hash c.in-Ok.ensures.ok
    (sym c.read_snap.ensures ∙ c.in-Some.is) (sym c.read_hash.ensures ∙ c.in-Some-read_hash.is) (sym c.read_pool.ensures ∙ c.in_default-read_pool.is)

pub returns-clause-ok : goal.returns-clause-ok
returns-clause-ok c = λ n k z name key nspace.
    let f = c.args.fields.now in
    six_read f.name.now f.key.now f.snap.now f.hash.now f.nspace.now f.pool.now n k z c.in-Some.snap c.in-Some-read_hash.hash c.in-Some-read_pool.pool c.in-Ok.ensures.ok
    (sym c.read_snap.ensures ∙ c.in-Some.is) (sym c.read_hash.ensures ∙ c.in-Some-read_hash.is) (sym c.read_pool.ensures ∙ c.in-Some-read_pool.is) name key nspace

pub returns-clause-name : goal.returns-clause-name
returns-clause-name c =
    let f = c.args.fields.now in
    let names = some_names f.name.now f.key.now f.snap.now f.hash.now f.nspace.now c.in-Ok.ensures.ok in
    let are = names_are f.name.now f.key.now f.snap.now f.hash.now f.nspace.now names.0 names.1 in
    subst (λ r. IsOkAnd r (λ x. length x ≤ 1024)) (sym are.read.name_is) are.name_short

pub returns-clause-key : goal.returns-clause-key
returns-clause-key c =
    let f = c.args.fields.now in
    let names = some_names f.name.now f.key.now f.snap.now f.hash.now f.nspace.now c.in-Ok.ensures.ok in
    let are = names_are f.name.now f.key.now f.snap.now f.hash.now f.nspace.now names.0 names.1 in
    subst (λ r. IsOkAnd r (λ x. length x ≤ 1024)) (sym (field_moved _ 0 f.key.now names.0.1 are.read.key_is)) are.key_short

pub returns-clause-nspace : goal.returns-clause-nspace
returns-clause-nspace c =
    let f = c.args.fields.now in
    let names = some_names f.name.now f.key.now f.snap.now f.hash.now f.nspace.now c.in-Ok.ensures.ok in
    let are = names_are f.name.now f.key.now f.snap.now f.hash.now f.nspace.now names.0 names.1 in
    subst (λ r. IsOkAnd r (λ x. length x ≤ 1024)) (sym (field_moved _ 0 f.nspace.now names.0.2 are.read.nspace_is)) are.nspace_short
