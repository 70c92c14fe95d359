-- Where there is no damage none is answered; and what holds of a call's answer.
use Rattle.std.proofs.Common.{◌≡◌, ◌≢◌, ⊎_elim, ℕ, ◌+◌, ◌≤◌, List, [], ◌∷◌, ◌++◌, length, codes, refl, sym, ◌∙◌, ap, arith, Some, Result, Ok, Err, OnOk, IfOk, IsOk}
use Rattle.std.proofs.lemmas.List.{length-append}
use Rattle.fs_names.specs.declared.oid.Oid.{Oid}
use Rattle.fs_names.specs.declared.settings.Settings.{Settings}
use Rattle.fs_names.specs.Text.{field_text, name_text, snap_text, hash_text, pool_text, oid_text}
use Rattle.tree_api.specs.Tree.{Path, Tree}
use Rattle.index_fault.specs.declared.IndexFault.{IndexFault}
use Rattle.index_fault.specs.declared.IndexFault.TheVariants.{Memory, Damaged, Tree as Refused}
use Rattle.lfn_index.specs.Directory.{entry, IsBlocked}
use Rattle.lfn_index.specs.Maps.{Map, IsMap}
use Rattle.lfn_index.proofs.Once.{dir_no_file}
use Rattle.object_file.specs.Counts.{IsFileAnswer}

after : (a b : List ℕ) (k : ℕ) → k ≤ length b → k ≤ length (a ++ b)
after a b k le = let e : length (a ++ b) ≡ length a + length b = length-append a b in omega (arith, e, le)

front : (a b : List ℕ) (k : ℕ) → k ≤ length a → k ≤ length (a ++ b)
front a b k le = let e : length (a ++ b) ≡ length a + length b = length-append a b in omega (arith, e, le)

long_enough : (o : Oid) → 8 ≤ length (oid_text o)
unfolding oid_text
long_enough o =
    let c = (name_text o.name ++ (95 ∷ field_text o.key)) ++ (95 ∷ snap_text o.snap) in
    let b = c ++ (95 ∷ hash_text o.hash) in
    front (b ++ (95 ∷ field_text o.nspace)) (95 ∷ pool_text o.pool) 8 (front b (95 ∷ field_text o.nspace) 8 (after c (95 ∷ hash_text o.hash) 8 (omega arith)))

never_subdir : (o : Oid) (digit : ℕ) → oid_text o ≢ codes "DIR_" ++ digit ∷ []
never_subdir o digit same = let e : length (oid_text o) ≡ 5 = ap length same in absurd (omega (arith, e, long_enough o))

-- no directory stands at an object's name
pub unblocked : (set : Settings) (t : Tree) (dir : Path) (o : Oid) (m : Map) → IsMap set t dir m → (p : Path) → IsBlocked t dir (oid_text o) p → ⊥
unblocked set t dir o m is p blocked =
    let here : t.at (entry dir (oid_text o)) ≡ Some blocked.2.0 = ap t.at (sym blocked.1) ∙ blocked.2.1 in
    ⊎_elim
    (λ file. dir_no_file set t dir file.0 (oid_text o) blocked.2.0 file.1 (blocked.2.0, here, blocked.2.2))
    (λ sub. never_subdir o sub.1.0 sub.1.2)
    (is.known (oid_text o) blocked.2.0 here)

-- a call on a file alone
pub not_damaged : {T : Type 0} (r : Result T IndexFault) → IsFileAnswer r → (p : Path) → r ≢ Err (Damaged p)
not_damaged (Ok v) only p is = cc
not_damaged (Err e) only p is = ⊎_elim (λ memory. memory_not memory) (λ tree. tree_not tree) only
  where
    e_is : e ≡ Damaged p
    e_is = cc

    memory_not : e ≡ Memory → ⊥
    memory_not same = let z : Memory ≡ Damaged p = sym same ∙ e_is in cc

    tree_not : e ≡ Refused → ⊥
    tree_not same = let z : Refused ≡ Damaged p = sym same ∙ e_is in cc

pub on_made : {T E : Type 0} (A : T → Type 0) (D : Type 0) (r : Result T E) → IfOk r A → ((v : T) → A v → D) → OnOk r D
on_made A D (Ok v) a f = f v a
on_made A D (Err e) a f = tt

pub if_made : {T E : Type 0} (A B : T → Type 0) (r : Result T E) → IfOk r A → ((v : T) → A v → B v) → IfOk r B
if_made A B (Ok v) a f = f v a
if_made A B (Err e) a f = tt

pub on_made3 : {T E : Type 0} (A : T → Type 0) (B C D : Type 0) (r : Result T E) → IfOk r A → OnOk r B → OnOk r C → ((v : T) → A v → B → C → D) → OnOk r D
on_made3 A B C D (Ok v) a b c f = f v a b c
on_made3 A B C D (Err e) a b c f = tt

pub when_done : {T E : Type 0} (D : Type 0) (r : Result T E) → (IsOk r → D) → OnOk r D
when_done D (Ok v) f = f refl
when_done D (Err e) f = tt

pub on_ok_is : {T E : Type 0} (A B : Type 0) (r : Result T E) → OnOk r A → (A → B) → OnOk r B
on_ok_is A B (Ok v) a f = f a
on_ok_is A B (Err e) a f = tt
