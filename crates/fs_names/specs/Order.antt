-- The orders of object names and of collections, by which finite maps are kept.
use Rattle.std.specs.Prelude.{◌≡◌, ℕ, Bool, true, false, cond, nat_eq, codes, List, [], ◌∷◌, ◌++◌, drop, slice_get, Option, None, Some, refl}
use Rattle.std.specs.List.{starts_with}
use Rattle.std.specs.Option.{option_map_or}
use Rattle.std.specs.declared.cmp.Ordering.{Ordering}
use Rattle.std.specs.declared.cmp.Ordering.TheVariants.{Less, Equal, Greater}
use Rattle.std.specs.Ordering.{nat_cmp, on, ordering_then, is_eq, eq_by_cmp}
use Rattle.std.specs.Cmp.{IsTotalOrder, on_total, tied_itself}
use Rattle.std.specs.Cmp.Derive.{one_truth}
use Rattle.std.proofs.Common.{ap, sym, ◌∙◌}
use Rattle.fs_names.specs.Text.{hash_digits, spelled, field_text, snap_text, pool_text, oid_text, coll_text}
use Rattle.std.specs.Cmp.Lexicographic.{slice_cmp, lists_total, nat_list_cmp_total}
use Rattle.std.specs.FinMap.{IsAntisymmetric, nat_cmp-IsAntisymmetric, slice_cmp-IsAntisymmetric}
use Rattle.fs_names.specs.declared.oid.Snap.{Snap}
use Rattle.fs_names.specs.declared.oid.Snap.TheVariants.{Head, Dir, Id}
use Rattle.fs_names.specs.declared.oid.Oid.{Oid}
use Rattle.fs_names.specs.declared.coll.Coll.{Coll}
use Rattle.fs_names.specs.declared.coll.Coll.TheVariants.{Meta, Pg}

abbrev pub snap_key : Snap → List ℕ
snap_key Head = []
snap_key Dir = 0 ∷ []
snap_key (Id n) = 1 ∷ n ∷ []

abbrev pub pool_key : Option ℕ → List ℕ
pool_key None = []
pool_key (Some p) = p ∷ []

abbrev pub temp_key : Bool → ℕ
temp_key true = 1
temp_key false = 0

abbrev pub oid_key : Oid → List (List ℕ)
oid_key o = o.name ∷ o.key ∷ o.nspace ∷ snap_key o.snap ∷ (o.hash ∷ []) ∷ pool_key o.pool ∷ []

abbrev pub coll_key : Coll → List ℕ
coll_key Meta = []
coll_key (Pg pool seed temp) = pool ∷ seed ∷ temp_key temp ∷ []

-- the order by fields, by which `Ord` of collections goes
unfoldable pub coll_field_cmp : Coll → Coll → Ordering
coll_field_cmp = on coll_key (slice_cmp nat_cmp)

-- The hash order: the digits of the hash, the least significant first, then the bytes of the text.
-- Two names have two texts, so the fields never decide between names. They stand here for lists that no name has.
unfoldable pub oid_cmp : Oid → Oid → Ordering
oid_cmp = on (λ o. hash_digits o.hash ∷ oid_text o ∷ oid_key o) (slice_cmp (slice_cmp nat_cmp))

-- the order of the texts
unfoldable pub coll_cmp : Coll → Coll → Ordering
coll_cmp = on (λ c. coll_text c ∷ coll_key c ∷ []) (slice_cmp (slice_cmp nat_cmp))

pub coll_field_cmp_total : IsTotalOrder coll_field_cmp
unfolding coll_field_cmp
coll_field_cmp_total = on_total coll_key nat_list_cmp_total

pub oid_cmp_total : IsTotalOrder oid_cmp
unfolding oid_cmp
oid_cmp_total = on_total (λ o. hash_digits o.hash ∷ oid_text o ∷ oid_key o) (lists_total nat_list_cmp_total)

pub coll_cmp_total : IsTotalOrder coll_cmp
unfolding coll_cmp
coll_cmp_total = on_total (λ c. coll_text c ∷ coll_key c ∷ []) (lists_total nat_list_cmp_total)

-- what a key gives back

pub snap_key-same : (a b : Snap) → snap_key a ≡ snap_key b → a ≡ b
snap_key-same Head Head e = refl
snap_key-same Head Dir e = cc
snap_key-same Head (Id n) e = cc
snap_key-same Dir Head e = cc
snap_key-same Dir Dir e = refl
snap_key-same Dir (Id n) e = cc
snap_key-same (Id m) Head e = cc
snap_key-same (Id m) Dir e = cc
snap_key-same (Id m) (Id n) e = cc

pub pool_key-same : (a b : Option ℕ) → pool_key a ≡ pool_key b → a ≡ b
pool_key-same None None e = refl
pool_key-same None (Some q) e = cc
pool_key-same (Some p) None e = cc
pool_key-same (Some p) (Some q) e = cc

pub temp_key-same : (s t : Bool) → temp_key s ≡ temp_key t → s ≡ t
temp_key-same true true e = refl
temp_key-same false false e = refl
temp_key-same true false e = cc
temp_key-same false true e = cc

pub coll_key-same : (a b : Coll) → coll_key a ≡ coll_key b → a ≡ b
coll_key-same Meta Meta e = refl
coll_key-same Meta (Pg p s t) e = cc
coll_key-same (Pg p s t) Meta e = cc
coll_key-same (Pg p s t) (Pg q z u) e =
    let temps : temp_key t ≡ temp_key u = cc in
    let same : t ≡ u = temp_key-same t u temps in
    cc

pub oid_key-same : (a b : Oid) → oid_key a ≡ oid_key b → a ≡ b
oid_key-same a b e =
    let snaps : snap_key a.snap ≡ snap_key b.snap = cc in
    let pools : pool_key a.pool ≡ pool_key b.pool = cc in
    let names : a.name ≡ b.name = cc in
    let keys : a.key ≡ b.key = cc in
    let spaces : a.nspace ≡ b.nspace = cc in
    let hashes : a.hash ≡ b.hash = cc in
    let snap : a.snap ≡ b.snap = snap_key-same a.snap b.snap snaps in
    let pool : a.pool ≡ b.pool = pool_key-same a.pool b.pool pools in
    λ i. record { name = names i; key = keys i; nspace = spaces i; snap = snap i; hash = hashes i; pool = pool i }

tie : (r : Ordering) → is_eq r ≡ true → r ≡ Equal
tie Less e = cc
tie Equal e = refl
tie Greater e = cc

lists_same : IsAntisymmetric (slice_cmp (slice_cmp nat_cmp))
lists_same = slice_cmp-IsAntisymmetric (slice_cmp-IsAntisymmetric nat_cmp-IsAntisymmetric)

pub coll_field_cmp-IsAntisymmetric : IsAntisymmetric coll_field_cmp
unfolding coll_field_cmp
coll_field_cmp-IsAntisymmetric a b e = coll_key-same a b (slice_cmp-IsAntisymmetric nat_cmp-IsAntisymmetric (coll_key a) (coll_key b) e)

pub oid_cmp-IsAntisymmetric : IsAntisymmetric oid_cmp
unfolding oid_cmp
oid_cmp-IsAntisymmetric a b e =
    oid_key-same a b (ap (drop 2) (lists_same (hash_digits a.hash ∷ oid_text a ∷ oid_key a) (hash_digits b.hash ∷ oid_text b ∷ oid_key b) e))

head_or : List (List ℕ) → List ℕ
head_or [] = []
head_or (x ∷ xs) = x

pub coll_cmp-IsAntisymmetric : IsAntisymmetric coll_cmp
unfolding coll_cmp head_or
coll_cmp-IsAntisymmetric a b e =
    coll_key-same a b (ap (λ k. head_or (drop 1 k)) (lists_same (coll_text a ∷ coll_key a ∷ []) (coll_text b ∷ coll_key b ∷ []) e))

-- two orders in which only equal keys tie have the same ties
pub same_ties : {K : Type 0} {R S : K → K → Ordering} → IsTotalOrder R → IsTotalOrder S → IsAntisymmetric R → IsAntisymmetric S
    → (x y : K) → eq_by_cmp R x y ≡ eq_by_cmp S x y
same_ties {R = R} {S = S} r s same_r same_s x y =
    one_truth (eq_by_cmp R x y) (eq_by_cmp S x y)
    (λ t. ap (λ z. eq_by_cmp S x z) (sym (same_r x y (tie _ t))) ∙ ap is_eq (tied_itself s x))
    (λ t. ap (λ z. eq_by_cmp R x z) (sym (same_s x y (tie _ t))) ∙ ap is_eq (tied_itself r x))

-- The order of texts, piece by piece.

-- two pieces, each ended by `_`
abbrev pub ended_cmp : List ℕ → List ℕ → Ordering
ended_cmp s t = slice_cmp nat_cmp (s ++ 95 ∷ []) (t ++ 95 ∷ [])

-- what follows the key, but for the hash
abbrev pub ends_cmp : Oid → Oid → Ordering
ends_cmp a b =
    ordering_then (ended_cmp (snap_text a.snap) (snap_text b.snap))
    (ordering_then (ended_cmp (field_text a.nspace) (field_text b.nspace)) (slice_cmp nat_cmp (pool_text a.pool) (pool_text b.pool)))

-- the spelling of the byte at a place, or `_` at the end
abbrev pub unit_at : List ℕ → ℕ → List ℕ
unit_at bytes place = option_map_or spelled (slice_get bytes place) (95 ∷ [])

-- the first unit of a name's spelling, or `_`
abbrev pub name_unit : List ℕ → List ℕ
name_unit name =
    cond (starts_with nat_eq name (codes "DIR_")) (92 ∷ 100 ∷ []) (cond (starts_with nat_eq name (codes ".")) (92 ∷ 46 ∷ []) (unit_at name 0))
