-- Names are decided.
use Rattle.std.proofs.Common.{◌≡◌, ◌≢◌, ◌⊎◌, inl, inr, ⊎_elim, Bool, true, false, ◌&&◌, refl, ◌∙◌, ap, subst, Option, Some, None, Result, Ok, Err}
use Rattle.std.proofs.lemmas.Bool.{cases_Bool, and_from}
use Rattle.std.specs.Ordering.{eq_by_cmp}
use Rattle.std.specs.Cmp.{eq_by_cmp_equiv}
use Rattle.fs_names.specs.declared.coll.Coll.{Coll}
use Rattle.fs_names.specs.declared.oid.Oid.{Oid}
use Rattle.fs_names.specs.declared.fault.NameFault.{NameFault}
use Rattle.fs_names.specs.Order.{oid_cmp, coll_cmp, oid_cmp_total, coll_cmp_total}
use Rattle.fs_names.specs.Reading.{OidFits, CollFits, oid_of, coll_of}
use Rattle.fs_names.specs.Text.{oid_text, coll_text}
use Rattle.fs_names.proofs.CollLaw.{coll_texts_are_read, colls_read_are_spelled}
use Rattle.fs_names.proofs.OidLaw.{oid_texts_are_read, oids_read_are_spelled}
use Rattle.fs_cells.proofs.Looks.{is_coll, is_oid}
use Rattle.tree_stands.specs.Names.{Name, NameFits, same_name, oid_reads_as, coll_reads_as, oid_fits, coll_fits, name_fits}

pub both : (a b : Bool) → (a && b) ≡ true → (a ≡ true) × (b ≡ true)
both true b e = (refl, e)
both false b e = cc

pub coll_itself : (a : Coll) → eq_by_cmp coll_cmp a a ≡ true
coll_itself a = (eq_by_cmp_equiv coll_cmp_total).refl a

pub oid_itself : (a : Oid) → eq_by_cmp oid_cmp a a ≡ true
oid_itself a = (eq_by_cmp_equiv oid_cmp_total).refl a

pub is_name : (a b : Name) → same_name a b ≡ true → a ≡ b
is_name a b e =
    let two = both (eq_by_cmp coll_cmp a.coll b.coll) (eq_by_cmp oid_cmp a.oid b.oid) e in
    let colls : a.coll ≡ b.coll = is_coll a.coll b.coll two.0 in
    let oids : a.oid ≡ b.oid = is_oid a.oid b.oid two.1 in
    λ i. record { coll = colls i; oid = oids i }

pub name_itself : (a : Name) → same_name a a ≡ true
name_itself a = and_from (eq_by_cmp coll_cmp a.coll a.coll) (eq_by_cmp oid_cmp a.oid a.oid) (coll_itself a.coll) (oid_itself a.oid)

pub true_not_false : (b : Bool) → b ≡ true → b ≡ false → ⊥
true_not_false true t f = cc
true_not_false false t f = cc

pub name_cases : (a b : Name) → ((same_name a b ≡ true) × (a ≡ b)) ⊎ ((same_name a b ≡ false) × (a ≢ b))
name_cases a b = ⊎_elim (λ t. inl (t, is_name a b t)) (λ f. inr (f, λ same. true_not_false (same_name a b) (subst (λ (c : Name). same_name a c ≡ true) same (name_itself a)) f)) (cases_Bool (same_name a b))

pub oid_is_fit : (o : Oid) → OidFits o → oid_fits o ≡ true
oid_is_fit o fits = ap (oid_reads_as o) (oid_texts_are_read o fits) ∙ oid_itself o

pub coll_is_fit : (c : Coll) → CollFits c → coll_fits c ≡ true
coll_is_fit c fits = ap (coll_reads_as c) (coll_texts_are_read c fits) ∙ coll_itself c

oid_read : (o : Oid) (r : Result Oid NameFault) → oid_of (oid_text o) ≡ r → oid_reads_as o r ≡ true → OidFits o
oid_read o (Ok p) is e = subst OidFits (is_oid p o e) ((oids_read_are_spelled (oid_text o) p is).1)
oid_read o (Err f) is e = cc

coll_read : (c : Coll) (r : Option Coll) → coll_of (coll_text c) ≡ r → coll_reads_as c r ≡ true → CollFits c
coll_read c (Some d) is e = subst CollFits (is_coll d c e) ((colls_read_are_spelled (coll_text c) d is).1)
coll_read c None is e = cc

pub fit_oid : (o : Oid) → oid_fits o ≡ true → OidFits o
fit_oid o e = oid_read o (oid_of (oid_text o)) refl e

pub fit_coll : (c : Coll) → coll_fits c ≡ true → CollFits c
fit_coll c e = coll_read c (coll_of (coll_text c)) refl e

pub name_is_fit : (n : Name) → NameFits n → name_fits n ≡ true
name_is_fit n fits = and_from (coll_fits n.coll) (oid_fits n.oid) (coll_is_fit n.coll fits.coll) (oid_is_fit n.oid fits.oid)

pub fit_name : (n : Name) → name_fits n ≡ true → NameFits n
fit_name n e = let two = both (coll_fits n.coll) (oid_fits n.oid) e in record { coll = fit_coll n.coll two.0; oid = fit_oid n.oid two.1 }

pub fit_cases : (n : Name) → ((name_fits n ≡ true) × NameFits n) ⊎ (name_fits n ≡ false)
fit_cases n = ⊎_elim (λ t. inl (t, fit_name n t)) (λ f. inr f) (cases_Bool (name_fits n))

pub coll_cases : (c : Coll) → CollFits c ⊎ (CollFits c → ⊥)
coll_cases c = ⊎_elim (λ t. inl (fit_coll c t)) (λ f. inr (λ fits. true_not_false (coll_fits c) (coll_is_fit c fits) f)) (cases_Bool (coll_fits c))
