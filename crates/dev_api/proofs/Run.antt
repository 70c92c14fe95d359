-- How facts of all contents of a device since some moment go on from call to call.
--
use Rattle.std.proofs.Common.{◌≡◌, ⊎_elim, ℕ, List, [], ◌∷◌, ◌++◌, ◌≤◌, arith, refl, sym, ◌∙◌, ap, subst, append_assoc}
use Rattle.std.specs.Prelude.{Result, Ok, Err, OnOk, OnErr, IsErrOf}
use Rattle.std.specs.List.{AllByRecursion}
use Rattle.dev_api.specs.declared.device.DevError.{DevError}
use Rattle.dev_api.specs.declared.device.DevError.TheVariants.{Memory, Refused}
use Rattle.dev_api.specs.declared.device.DevFailed.{DevFailed}
use Rattle.fault_count.specs.Counted.{Counted}
use Rattle.dev_api.specs.Disk.{Disk, Goes, wrote, wrote_in_part, settled, reading}
use Rattle.dev_api.specs.Run.{Since, Keeps}

all_append : (P : Disk → Type 0) (xs ys : List Disk) → AllByRecursion P xs → AllByRecursion P ys → AllByRecursion P (xs ++ ys)
all_append P [] ys h k = k
all_append P (x ∷ xs) ys h k = (h.0, all_append P xs ys h.1 k)

all_map : (P Q : Disk → Type 0) → ((d : Disk) → P d → Q d) → (xs : List Disk) → AllByRecursion P xs → AllByRecursion Q xs
all_map P Q f [] h = tt
all_map P Q f (x ∷ xs) h = (f x h.0, all_map P Q f xs h.1)

-- no call
pub since_none : (P : Disk → Type 0) (past : List Disk) → Since P past past
since_none P past = ([], refl, tt)

-- no call that changes anything
pub since_same : (P : Disk → Type 0) (past so_far : List Disk) → so_far ≡ past → Since P past so_far
since_same P past so_far e = ([], e, tt)

-- one call
pub since_one : (P : Disk → Type 0) (past so_far : List Disk) (d : Disk) → so_far ≡ d ∷ past → P d → Since P past so_far
since_one P past so_far d e h = (d ∷ [], e, (h, tt))

pub since_goes : (P : Disk → Type 0) (before now : Disk) (past so_far : List Disk) (next : Disk) → Goes before now past so_far next → P next → Since P past so_far
since_goes P before now past so_far next g h = ⊎_elim (λ e. since_one P past so_far next e h) (λ k. since_same P past so_far k.0) g.history

-- one run after another
pub since_then : (P : Disk → Type 0) (a b c : List Disk) → Since P a b → Since P b c → Since P a c
since_then P a b c h k = (k.0 ++ h.0, k.1 ∙ ap (λ (l : List Disk). k.0 ++ l) h.1 ∙ sym (append_assoc k.0 h.0 a), all_append P k.0 h.0 k.2 h.2)

-- a weaker property
pub since_weaker : (P Q : Disk → Type 0) → ((d : Disk) → P d → Q d) → (a b : List Disk) → Since P a b → Since Q a b
since_weaker P Q f a b h = (h.0, h.1, all_map P Q f h.0 h.2)

-- the same, with the content now
pub keeps_none : (P : Disk → Type 0) (d : Disk) (past : List Disk) → P d → Keeps P d past past
keeps_none P d past h = record { has = h; since = since_none P past }

pub keeps_same : (P : Disk → Type 0) (old new : Disk) (past so_far : List Disk) → new ≡ old → so_far ≡ past → P old → Keeps P new past so_far
keeps_same P old new past so_far e k h = record { has = subst P (sym e) h; since = since_same P past so_far k }

pub keeps_goes : (P : Disk → Type 0) (before now : Disk) (past so_far : List Disk) (next : Disk) → Goes before now past so_far next → P next → Keeps P now past so_far
keeps_goes P before now past so_far next g h = record { has = subst P (sym g.is) h; since = since_goes P before now past so_far next g h }

pub keeps_then : (P : Disk → Type 0) (d e : Disk) (a b c : List Disk) → Keeps P d a b → Keeps P e b c → Keeps P e a c
keeps_then P d e a b c h k = record { has = k.has; since = since_then P a b c h.since k.since }

-- one round of a loop, which carries on what has P
pub keeps_round : (P : Disk → Type 0) (d e : Disk) (a b c : List Disk) → Keeps P d a b → (P d → Keeps P e b c) → Keeps P e a c
keeps_round P d e a b c h step = keeps_then P d e a b c h (step h.has)

pub keeps_weaker : (P Q : Disk → Type 0) → ((d : Disk) → P d → Q d) → (d : Disk) (a b : List Disk) → Keeps P d a b → Keeps Q d a b
keeps_weaker P Q f d a b h = record { has = f d h.has; since = since_weaker P Q f a b h.since }

-- what a write's clauses say of the contents since
pub keeps_write : {T : Type 0} (P : Disk → Type 0) (result : Result T DevError) (old new : Disk) (past so_far : List Disk) (at : ℕ) (bytes : List ℕ)
    → OnOk result (Goes old new past so_far (wrote old at bytes))
    → (IsErrOf result Refused → (r : List ℕ) × Goes old new past so_far (wrote_in_part old at bytes r))
    → (IsErrOf result Memory → (new ≡ old) × (so_far ≡ past))
    → P old → P (wrote old at bytes) → ((r : List ℕ) → P (wrote_in_part old at bytes r)) → Keeps P new past so_far
keeps_write P (Ok u) old new past so_far at bytes done refused memory h p q = keeps_goes P old new past so_far (wrote old at bytes) done p
keeps_write P (Err Memory) old new past so_far at bytes done refused memory h p q =
    let same = memory refl in keeps_same P old new past so_far same.0 same.1 h
keeps_write P (Err Refused) old new past so_far at bytes done refused memory h p q =
    let r = refused refl in keeps_goes P old new past so_far (wrote_in_part old at bytes r.0) r.1 (q r.0)

-- and what a sync's clauses say
pub keeps_sync : {T : Type 0} (P : Disk → Type 0) (result : Result T DevFailed) (old new : Disk) (past so_far : List Disk)
    → OnOk result (Goes old new past so_far (settled old.reads))
    → OnErr result ((r : List ℕ) × Goes old new past so_far (reading old r))
    → P (settled old.reads) → ((r : List ℕ) → P (reading old r)) → Keeps P new past so_far
keeps_sync P (Ok u) old new past so_far done refused p q = keeps_goes P old new past so_far (settled old.reads) done p
keeps_sync P (Err e) old new past so_far done refused p q = keeps_goes P old new past so_far (reading old refused.0) refused.1 (q refused.0)

-- what holds of the content after a write or a sync that was done
pub on_ok_map : {T E : Type 0} (P Q : Type 0) (r : Result T E) → (P → Q) → OnOk r P → OnOk r Q
on_ok_map P Q (Ok x) f h = f h
on_ok_map P Q (Err e) f h = h

pub written : {T : Type 0} (P : Disk → Type 0) (result : Result T DevError) (old new : Disk) (past so_far : List Disk) (at : ℕ) (bytes : List ℕ)
    → OnOk result (Goes old new past so_far (wrote old at bytes)) → P (wrote old at bytes) → OnOk result (P new)
written P result old new past so_far at bytes done p =
    on_ok_map (Goes old new past so_far (wrote old at bytes)) (P new) result (λ g. subst P (sym g.is) p) done

pub synced : {T : Type 0} (P : Disk → Type 0) (result : Result T DevFailed) (old new : Disk) (past so_far : List Disk)
    → OnOk result (Goes old new past so_far (settled old.reads)) → P (settled old.reads) → OnOk result (P new)
synced P result old new past so_far done p =
    on_ok_map (Goes old new past so_far (settled old.reads)) (P new) result (λ g. subst P (sym g.is) p) done

-- a fault that was counted in one of several calls was counted in all of them
pub counted_before : (a b c : ℕ) → a ≤ b → Counted b c → Counted a c
counted_before a b c le h = omega (arith, le, h)

pub counted_after : (a b c : ℕ) → Counted a b → b ≤ c → Counted a c
counted_after a b c h le = omega (arith, le, h)
