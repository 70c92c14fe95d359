-- Operations within their limits have a spelling.
use Rattle.std.proofs.Common.{◌≡◌, ◌+◌, ◌||◌, ℕ, Bool, true, false, ltb, eqb, List, [], ◌∷◌, length, Option, Some, None, refl, ap, ◌∙◌, arith}
use Rattle.std.specs.List.{AllByRecursion, list_any}
use Rattle.std.proofs.lemmas.Bool.{ltb-false}
use Rattle.fs_model.specs.declared.op.Op.{Op}
use Rattle.fs_model.specs.declared.op.Op.TheVariants.{Touch, Write, Zero, Truncate, Remove, SetAttrs, RmAttr, RmAttrs, Clone, CloneRange, MoveRename, MkColl, RmColl, OmapClear, OmapSet, OmapRemove, OmapRange}
use Rattle.fs_model.specs.declared.pair.Pair.{Pair}
use Rattle.std.specs.Option.{unwrap_or}
use Rattle.fs_model.specs.Check.{IsWithinLimits, same_object, too_big, bad_attr, bad_attr_name, big_key, big_pair}
use Rattle.txn_codec.specs.Spelling.{IsShort, BlobFits, PairFits, AllFit, HeaderFits, OpFits}

first : (a b : Bool) → (a || b) ≡ false → a ≡ false
first true b e = absurd (cc)
first false b e = refl

second : (a b : Bool) → (a || b) ≡ false → b ≡ false
second true b e = absurd (cc)
second false b e = e

key_fits : (key : List ℕ) → big_key key ≡ false → BlobFits key
key_fits key h = omega (arith, ltb-false 1024 (length key) h)

value_fits : (value : List ℕ) → ltb 65536 (length value) ≡ false → BlobFits value
value_fits value h = omega (arith, ltb-false 65536 (length value) h)

name_fits : (name : List ℕ) → bad_attr_name name ≡ false → BlobFits name
name_fits name h = omega (arith, ltb-false 255 (length name) (second (eqb (length name) 0) _ h))

attr_fits : (p : Pair) → bad_attr p ≡ false → PairFits p
attr_fits p h = (name_fits p.key (first _ _ h), value_fits p.value (second (bad_attr_name p.key) _ h))

pair_fits : (p : Pair) → big_pair p ≡ false → PairFits p
pair_fits p h = (key_fits p.key (first _ _ h), value_fits p.value (second (big_key p.key) _ h))

all_short : {A : Type 0} (bad : A → Bool) (fits : A → Type 0) → ((x : A) → bad x ≡ false → fits x) → (xs : List A) → list_any bad xs ≡ false → AllByRecursion fits xs
all_short bad fits by [] h = tt
all_short bad fits by (x ∷ xs) h = (by x (first _ _ h), all_short bad fits by xs (second (bad x) _ h))

all_fit : {A : Type 0} (bad : A → Bool) (fits : A → Type 0) → ((x : A) → bad x ≡ false → fits x) → (xs : List A)
    → (ltb 65536 (length xs) || list_any bad xs) ≡ false → AllFit fits xs
all_fit bad fits by xs h =
    (omega (arith, ltb-false 65536 (length xs) (first _ _ h)), all_short bad fits by xs (second (ltb 65536 (length xs)) _ h))

header_fits : (h : Option (List ℕ)) → ltb 65536 (length (unwrap_or h [])) ≡ false → HeaderFits h
header_fits None e = tt
header_fits (Some h) e = value_fits h e

small_op : (op : Op) → too_big op ≡ false → IsShort op
small_op (Touch c o) h = tt
small_op (Write c o at bytes) h = omega (arith, ltb-false 4194304 (length bytes) (second (ltb 16777216 (at + length bytes)) _ h))
small_op (Zero c o at len) h = tt
small_op (Truncate c o len) h = tt
small_op (Remove c o) h = tt
small_op (SetAttrs c o pairs) h = all_fit bad_attr PairFits attr_fits pairs h
small_op (RmAttr c o name) h = name_fits name h
small_op (RmAttrs c o) h = tt
small_op (Clone c o c2 o2) h = tt
small_op (CloneRange c o c2 o2 from len to) h = tt
small_op (MoveRename c o c2 o2) h = tt
small_op (MkColl c) h = tt
small_op (RmColl c) h = tt
small_op (OmapClear c o) h = tt
small_op (OmapSet c o head pairs) h =
    let big_head = ltb 65536 (length (unwrap_or head [])) in
    let many = ltb 65536 (length pairs) in
    let any = list_any big_pair pairs in
    let front : (big_head || many) ≡ false = first (big_head || many) any h in
    let rest : (many || any) ≡ false = ap (λ b. b || any) (second big_head many front) ∙ second (big_head || many) any h in
    (header_fits head (first big_head many front), all_fit big_pair PairFits pair_fits pairs rest)
small_op (OmapRemove c o keys) h = all_fit big_key BlobFits key_fits keys h
small_op (OmapRange c o from to) h = (key_fits from (first _ _ h), key_fits to (second (big_key from) _ h))

pub short_op : (op : Op) → IsWithinLimits op → IsShort op
short_op op h = small_op op (second (same_object op) (too_big op) h)

pub short_ops : (ops : List Op) → AllByRecursion IsWithinLimits ops → AllByRecursion IsShort ops
short_ops [] h = tt
short_ops (op ∷ ops) h = (short_op op h.0, short_ops ops h.1)

-- what has a spelling is short enough
fits : (op : Op) → OpFits op → IsShort op
fits (Touch c o) h = tt
fits (Write c o at bytes) h = h.1.1
fits (Zero c o at len) h = tt
fits (Truncate c o len) h = tt
fits (Remove c o) h = tt
fits (SetAttrs c o pairs) h = h.1
fits (RmAttr c o name) h = h.1
fits (RmAttrs c o) h = tt
fits (Clone c o c2 o2) h = tt
fits (CloneRange c o c2 o2 from len to) h = tt
fits (MoveRename c o c2 o2) h = tt
fits (MkColl c) h = tt
fits (RmColl c) h = tt
fits (OmapClear c o) h = tt
fits (OmapSet c o head pairs) h = h.1
fits (OmapRemove c o keys) h = h.1
fits (OmapRange c o from to) h = h.1

pub fits_short : (ops : List Op) → AllByRecursion OpFits ops → AllByRecursion IsShort ops
fits_short [] h = tt
fits_short (op ∷ ops) h = (fits op h.0, fits_short ops h.1)
