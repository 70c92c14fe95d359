-- Which operations a transaction may hold, and the collections after them.
use Rattle.std.specs.Prelude.{◌≡◌, ◌≢◌, ℕ, ◌+◌, ◌<◌, Bool, false, if◌then◌else◌, not, ◌&&◌, ◌||◌, ◌==◌, nat_lt, List, [], ◌∷◌, length, take, slice_get, Option, None, Some}
use Rattle.std.specs.List.{fold, list_any}
use Rattle.std.specs.Option.{option_or, option_map, option_and_then, unwrap_or}
use Rattle.std.specs.Ordering.{eq_by_cmp}
use Rattle.std.specs.FinSet as set
use Rattle.fs_names.specs.declared.coll.Coll.{Coll}
use Rattle.fs_names.specs.Order.{oid_cmp, coll_cmp}
use Rattle.fs_model.specs.declared.op.Op.{Op}
use Rattle.fs_model.specs.declared.op.Op.TheVariants.{Write, Zero, Truncate, SetAttrs, RmAttr, Clone, CloneRange, MoveRename, OmapSet, OmapRemove, OmapRange}
use Rattle.fs_model.specs.declared.op.Why.{Why}
use Rattle.fs_model.specs.declared.op.Why.TheVariants.{Empty, NoCollection, CollectionExists, SameObject, TooBig, TooMany}
use Rattle.fs_model.specs.declared.pair.Pair.{Pair}
use Rattle.fs_model.specs.Colls.{CollSet}
use Rattle.fs_model.specs.Limits.{object_limit, write_limit, ops_limit, attr_name_limit, value_limit, omap_key_limit, pairs_limit}
use Rattle.fs_model.specs.Named.{needed, made, gone}

-- the collections after an operation, and after several
abbrev pub op_colls : CollSet → Op → CollSet
op_colls S op = fold set.remove (fold set.insert S (made op)) (gone op)

abbrev pub colls_after : CollSet → List Op → CollSet
colls_after = fold op_colls

abbrev pub is_missing : CollSet → Coll → Bool
is_missing S c = not (set.contains S c)

-- the operation needs a collection that is not there
abbrev pub lacks : CollSet → Op → Bool
lacks S op = list_any (is_missing S) (needed op)

-- the operation makes a collection that is there
abbrev pub remakes : CollSet → Op → Bool
remakes S op = list_any (set.contains S) (made op)

-- the operation copies or moves an object onto itself
abbrev pub same_object : Op → Bool
same_object (Clone c o c2 o2) = eq_by_cmp coll_cmp c c2 && eq_by_cmp oid_cmp o o2
same_object (CloneRange c o c2 o2 from len to) = eq_by_cmp coll_cmp c c2 && eq_by_cmp oid_cmp o o2
same_object (MoveRename c o c2 o2) = eq_by_cmp coll_cmp c c2 && eq_by_cmp oid_cmp o o2
same_object _ = false

abbrev pub bad_attr_name : List ℕ → Bool
bad_attr_name name = (length name == 0) || nat_lt attr_name_limit (length name)

abbrev pub bad_attr : Pair → Bool
bad_attr p = bad_attr_name p.key || nat_lt value_limit (length p.value)

abbrev pub big_key : List ℕ → Bool
big_key key = nat_lt omap_key_limit (length key)

abbrev pub big_pair : Pair → Bool
big_pair p = big_key p.key || nat_lt value_limit (length p.value)

-- a quantity of the operation is above its limit, or an attribute's name is empty
abbrev pub too_big : Op → Bool
too_big (Write c o at bytes) = nat_lt object_limit (at + length bytes) || nat_lt write_limit (length bytes)
too_big (Zero c o at len) = nat_lt object_limit (at + len)
too_big (Truncate c o len) = nat_lt object_limit len
too_big (SetAttrs c o pairs) = nat_lt pairs_limit (length pairs) || list_any bad_attr pairs
too_big (RmAttr c o name) = bad_attr_name name
too_big (CloneRange c o c2 o2 from len to) = nat_lt object_limit (from + len) || nat_lt object_limit (to + len)
too_big (OmapSet c o header pairs) =
    nat_lt value_limit (length (unwrap_or header [])) || nat_lt pairs_limit (length pairs) || list_any big_pair pairs
too_big (OmapRemove c o keys) = nat_lt pairs_limit (length keys) || list_any big_key keys
too_big (OmapRange c o from to) = big_key from || big_key to
too_big _ = false

-- the operation has a fault of its own, whatever is there
abbrev pub is_unfit : Op → Bool
is_unfit op = same_object op || too_big op

-- what `apply` needs of an operation
abbrev pub IsWithinLimits : Op → Type 0
IsWithinLimits op = is_unfit op ≡ false

-- the first reason against an operation, whatever its place
abbrev pub refusal : CollSet → Op → Option Why
refusal S op =
    if lacks S op then Some NoCollection else (
    if remakes S op then Some CollectionExists else (
    if same_object op then Some SameObject else (
    if too_big op then Some TooBig else None)))

-- the first reason against an operation at place k
abbrev pub refusal_at : CollSet → ℕ → Op → Option Why
refusal_at S k op = option_or (refusal S op) (if k == ops_limit then Some TooMany else None)

-- the first refused operation and its reason, where the first operation stands at place k
abbrev pub refusal_from : CollSet → ℕ → List Op → Option (ℕ × Why)
refusal_from S k [] = None
refusal_from S k (op ∷ ops) = option_or (option_map (λ why. (k, why)) (refusal_at S k op)) (refusal_from (op_colls S op) (k + 1) ops)

-- the lowest refused operation of a transaction and its reason; an empty one is refused at place 0
abbrev pub txn_refusal : CollSet → List Op → Option (ℕ × Why)
txn_refusal S [] = Some (0, Empty)
txn_refusal S (op ∷ ops) = refusal_from S 0 (op ∷ ops)

-- The same, place by place: the reason against the operation at place k, after those before it. None where there is no operation.
abbrev pub fault_at : CollSet → List Op → ℕ → Option Why
fault_at S ops k = option_and_then (refusal_at (colls_after S (take k ops)) k) (slice_get ops k)

-- the lowest place with a reason
pub record IsFirstFault (S : CollSet) (ops : List Op) (k : ℕ) (why : Why) : Type 0 where
  pub here : fault_at S ops k ≡ Some why
  pub none_below : (j : ℕ) → j < k → fault_at S ops j ≡ None

abbrev pub IsFirstRefused : CollSet → List Op → ℕ → Why → Type 0
IsFirstRefused S [] k why = (k ≡ 0) × (why ≡ Empty)
IsFirstRefused S (op ∷ ops) k why = IsFirstFault S (op ∷ ops) k why

abbrev pub IsAccepted : CollSet → List Op → Type 0
IsAccepted S ops = (ops ≢ []) × ((k : ℕ) → fault_at S ops k ≡ None)
