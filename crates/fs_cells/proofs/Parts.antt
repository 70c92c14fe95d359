-- What a change of one object does to each of its parts.
use Rattle.std.proofs.Common.{◌≡◌, ◌⊎◌, inl, inr, ℕ, ◌+◌, ◌-◌, ◌<◌, ◌≤◌, zero, suc, Bool, true, false, cond, not, ◌||◌, List, [], ◌∷◌, length, replicate, get_or, refl, sym, ◌∙◌, ap, subst, arith, Option, Some, None}
use Rattle.std.proofs.Math.Path.{fun_ext}
use Rattle.std.proofs.lemmas.Bool.Decides.{nat_tests}
use Rattle.std.proofs.lemmas.Grind.{common_steps}
use Rattle.std.specs.Prelude.{nat_lt, nat_le}
use Rattle.std.specs.List.{list_any}
use Rattle.std.specs.Option.{option_or, unwrap_or}
use Rattle.std.specs.Ordering.{nat_cmp}
use Rattle.std.specs.Cmp.Lexicographic.{slice_cmp, nat_list_cmp_total}
use Rattle.std.specs.FinMap as map
use Rattle.std.specs.FinMap.{nat_cmp-IsAntisymmetric, slice_cmp-IsAntisymmetric}
use Rattle.fs_names.specs.declared.coll.Coll.{Coll}
use Rattle.fs_names.specs.declared.oid.Oid.{Oid}
use Rattle.fs_model.specs.declared.pair.Pair.{Pair}
use Rattle.fs_model.specs.Objects.{ByteMap, Object, Objects, look, read_object, empty_object}
use Rattle.fs_model.specs.Rows.{overwrite, resize, set_pairs, take_keys, take_range, is_between, written, zeroed, truncated, with_attrs, without_attr, without_attrs, without_omap, with_omap, without_keys, without_range, part}
use Rattle.fs_model.proofs.ByteCells.{byte-before, byte-within, byte-after, length-overwrite}
use Rattle.replay_laws.specs.Replay.{Effect, stays, becomes, rises, leaves, sets, raises, copies, effect, moved}
use Rattle.fs_cells.specs.declared.cell.Cell.{Cell}
use Rattle.fs_cells.specs.declared.cell.Part.{Part}
use Rattle.fs_cells.specs.declared.cell.Part.TheVariants.{Exists, Length, Byte, Attr, OmapHeader, OmapKey}
use Rattle.fs_cells.specs.Values.{Value, flag, number, content, raise, part_of, value_at, cells_of}
use Rattle.fs_cells.specs.Parts.{CellAct, touched, is_within, overwritten, resized, same_bytes, value_in, set_to, gone_if, attrs_set, attr_removed, attrs_removed, omap_cleared, omap_set, omap_removed, omap_range_removed, part_at, copied, bytes_there, rises_by_source, byte_of_source, range_copied}

-- what a change makes of each part of an object that is there, where the cells are s
abbrev pub Row : (Object → Object) → (Part → CellAct) → (Cell → Value) → Type 0
Row f act s = (x : Object) (p : Part) → part_of (f x) p ≡ moved raise (effect (act p) s) (part_of x p)

-- a missing object reads as empty, but for its existence
pub reads_as : (m : Option Object) (p : Part) → (p ≡ Exists → ⊥) → part_of (unwrap_or m empty_object) p ≡ value_at m p
reads_as m Exists isnt = absurd (isnt refl)
reads_as None Length isnt = refl
reads_as None (Byte i) isnt = refl
reads_as None (Attr k) isnt = ap content (map.get-empty (slice_cmp nat_cmp) k)
reads_as None OmapHeader isnt = refl
reads_as None (OmapKey k) isnt = ap content (map.get-empty (slice_cmp nat_cmp) k)
reads_as (Some x) Length isnt = refl
reads_as (Some x) (Byte i) isnt = refl
reads_as (Some x) (Attr k) isnt = refl
reads_as (Some x) OmapHeader isnt = refl
reads_as (Some x) (OmapKey k) isnt = refl

-- so a change that makes the object does to a missing one what it does to an empty one
pub made_row : (f : Object → Object) (act : Part → CellAct) (s : Cell → Value) → act Exists ≡ sets (flag true) → Row f act s → (m : Option Object) (p : Part) → part_of (f (unwrap_or m empty_object)) p ≡ moved raise (effect (act p) s) (value_at m p)
made_row f act s makes row m Exists = sym (ap (λ (a : CellAct). moved raise (effect a s) (value_at m Exists)) makes)
made_row f act s makes row m Length = row (unwrap_or m empty_object) Length ∙ ap (moved raise (effect (act Length) s)) (reads_as m Length (λ e. cc))
made_row f act s makes row m (Byte i) = row (unwrap_or m empty_object) (Byte i) ∙ ap (moved raise (effect (act (Byte i)) s)) (reads_as m (Byte i) (λ e. cc))
made_row f act s makes row m (Attr k) = row (unwrap_or m empty_object) (Attr k) ∙ ap (moved raise (effect (act (Attr k)) s)) (reads_as m (Attr k) (λ e. cc))
made_row f act s makes row m OmapHeader = row (unwrap_or m empty_object) OmapHeader ∙ ap (moved raise (effect (act OmapHeader) s)) (reads_as m OmapHeader (λ e. cc))
made_row f act s makes row m (OmapKey k) = row (unwrap_or m empty_object) (OmapKey k) ∙ ap (moved raise (effect (act (OmapKey k)) s)) (reads_as m (OmapKey k) (λ e. cc))

-- an action by a test
abbrev pub if_so : Bool → CellAct → CellAct
if_so t a = cond t a leaves

within_or_not : (at n i : ℕ) → ((is_within at n i ≡ true) × (at ≤ i) × (i < at + n)) ⊎ ((is_within at n i ≡ false) × ((i < at) ⊎ (at + n ≤ i)))
within_or_not at n i = grind (arith, nat_tests)

is_some_bytes : (n : ℕ) → 0 < n → nat_lt 0 n ≡ true
is_some_bytes n lt = grind (arith, nat_tests)

size_is : (old : List ℕ) (at : ℕ) (bytes : List ℕ) (s : Cell → Value) → number (length (overwrite old at bytes)) ≡ moved raise (effect (cond (nat_lt 0 (length bytes)) (raises (at + length bytes)) leaves) s) (number (length old))
size_is old at [] s = refl
size_is old at (b ∷ bs) s =
    ap number (length-overwrite old at (b ∷ bs) (λ e. cc))
    ∙ sym (ap (λ (t : Bool). moved raise (effect (if_so t (raises (at + length (b ∷ bs)))) s) (number (length old))) (is_some_bytes (length (b ∷ bs)) (omega arith)))

byte_is : (old : List ℕ) (at : ℕ) (bytes : List ℕ) (i : ℕ) (s : Cell → Value) → number (get_or (overwrite old at bytes) i 0) ≡ moved raise (effect (cond (is_within at (length bytes) i) (sets (number (get_or bytes (i - at) 0))) leaves) s) (number (get_or old i 0))
byte_is old at bytes i s = by (within_or_not at (length bytes) i)
  where
    under : (t : Bool) → is_within at (length bytes) i ≡ t → moved raise (effect (if_so t (sets (number (get_or bytes (i - at) 0)))) s) (number (get_or old i 0)) ≡ moved raise (effect (if_so (is_within at (length bytes) i) (sets (number (get_or bytes (i - at) 0)))) s) (number (get_or old i 0))
    under t is = sym (ap (λ (u : Bool). moved raise (effect (if_so u (sets (number (get_or bytes (i - at) 0)))) s) (number (get_or old i 0))) is)

    by : ((is_within at (length bytes) i ≡ true) × (at ≤ i) × (i < at + length bytes)) ⊎ ((is_within at (length bytes) i ≡ false) × ((i < at) ⊎ (at + length bytes ≤ i))) → number (get_or (overwrite old at bytes) i 0) ≡ moved raise (effect (if_so (is_within at (length bytes) i) (sets (number (get_or bytes (i - at) 0)))) s) (number (get_or old i 0))
    by (inl (is, le, lt)) = ap number (byte-within old at bytes i le lt) ∙ under true is
    by (inr (is, inl lt)) = ap number (byte-before old at bytes i lt) ∙ under false is
    by (inr (is, inr le)) = ap number (byte-after old at bytes i le) ∙ under false is

pub touch_row : (s : Cell → Value) → Row (λ x. x) touched s
touch_row s x Exists = refl
touch_row s x Length = refl
touch_row s x (Byte i) = refl
touch_row s x (Attr k) = refl
touch_row s x OmapHeader = refl
touch_row s x (OmapKey k) = refl

pub write_row : (at : ℕ) (bytes : List ℕ) (s : Cell → Value) → Row (λ x. written x at bytes) (overwritten at (length bytes) (λ i. get_or bytes i 0)) s
write_row at bytes s x Exists = refl
write_row at bytes s x Length = size_is x.bytes at bytes s
write_row at bytes s x (Byte i) = byte_is x.bytes at bytes i s
write_row at bytes s x (Attr k) = refl
write_row at bytes s x OmapHeader = refl
write_row at bytes s x (OmapKey k) = refl

zero_at : (len i : ℕ) → ◌≡◌ {A = ℕ} (get_or (replicate len 0) i 0) 0
zero_at zero i = refl
zero_at (suc len) zero = refl
zero_at (suc len) (suc i) = zero_at len i

zeros : (len : ℕ) → length (replicate {A = ℕ} len 0) ≡ len
zeros zero = refl
zeros (suc len) = ap suc (zeros len)

pub zero_row : (at len : ℕ) (s : Cell → Value) → Row (λ x. zeroed x at len) (overwritten at len (λ i. 0)) s
zero_row at len s =
    let all : ◌≡◌ {A = ℕ → ℕ} (λ i. get_or (replicate len 0) i 0) (λ i. 0) = fun_ext (λ i. zero_at len i) in
    subst (λ n. Row (λ x. zeroed x at len) (overwritten at n (λ i. 0)) s) (zeros len)
    (subst (λ (b : ℕ → ℕ). Row (λ x. zeroed x at len) (overwritten at (length (replicate {A = ℕ} len 0)) b) s) all (write_row at (replicate {A = ℕ} len 0) s))

length-resize : (old : List ℕ) (n : ℕ) → length (resize old n) ≡ n
length-resize old n = grind (arith, common_steps)

byte_kept : (old : List ℕ) (n i : ℕ) → i < n → get_or (resize old n) i 0 ≡ get_or old i 0
byte_kept old n i lt = grind (arith, common_steps)

past_the_end : (xs : List ℕ) (i : ℕ) → length xs ≤ i → get_or xs i 0 ≡ 0
past_the_end xs i le = grind (arith, common_steps)

up_to_or_not : (n i : ℕ) → ((nat_le n i ≡ true) × (n ≤ i)) ⊎ ((nat_le n i ≡ false) × (i < n))
up_to_or_not n i = grind (arith, nat_tests)

resized_byte : (old : List ℕ) (n i : ℕ) (s : Cell → Value) → number (get_or (resize old n) i 0) ≡ moved raise (effect (cond (nat_le n i) (sets (number 0)) leaves) s) (number (get_or old i 0))
resized_byte old n i s = by (up_to_or_not n i)
  where
    under : (t : Bool) → nat_le n i ≡ t → moved raise (effect (if_so t (sets (number 0))) s) (number (get_or old i 0)) ≡ moved raise (effect (if_so (nat_le n i) (sets (number 0))) s) (number (get_or old i 0))
    under t is = sym (ap (λ (u : Bool). moved raise (effect (if_so u (sets (number 0))) s) (number (get_or old i 0))) is)

    by : ((nat_le n i ≡ true) × (n ≤ i)) ⊎ ((nat_le n i ≡ false) × (i < n)) → number (get_or (resize old n) i 0) ≡ moved raise (effect (if_so (nat_le n i) (sets (number 0))) s) (number (get_or old i 0))
    by (inl (is, le)) = ap number (past_the_end (resize old n) i (subst (λ m. m ≤ i) (sym (length-resize old n)) le)) ∙ under true is
    by (inr (is, lt)) = ap number (byte_kept old n i lt) ∙ under false is

pub truncate_row : (n : ℕ) (s : Cell → Value) → Row (λ x. truncated x n) (resized n) s
truncate_row n s x Exists = refl
truncate_row n s x Length = ap number (length-resize x.bytes n)
truncate_row n s x (Byte i) = resized_byte x.bytes n i s
truncate_row n s x (Attr k) = refl
truncate_row n s x OmapHeader = refl
truncate_row n s x (OmapKey k) = refl

pub or_else_twice : {A : Type 0} (a : Option A) (t : Bool) (v : A) (c : Option A) → option_or a (cond t (Some v) c) ≡ option_or (option_or a (cond t (Some v) None)) c
or_else_twice None true v c = refl
or_else_twice None false v c = refl
or_else_twice (Some x) t v c = refl

-- the last pair of a key counts
get-set_pairs : (m : ByteMap) (pairs : List Pair) (k : List ℕ) → map.get (set_pairs m pairs) k ≡ option_or (value_in pairs k) (map.get m k)
get-set_pairs m [] k = refl
get-set_pairs m (p ∷ pairs) k =
    get-set_pairs (map.insert m p.key p.value) pairs k
    ∙ ap (option_or (value_in pairs k)) (map.get-insert nat_list_cmp_total m p.key p.value k)
    ∙ or_else_twice (value_in pairs k) (same_bytes k p.key) p.value (map.get m k)

pub set_cell : (v was : Option (List ℕ)) (s : Cell → Value) → content (option_or v was) ≡ moved raise (effect (set_to v) s) (content was)
set_cell None was s = refl
set_cell (Some v) was s = refl

set_header : (v : Option (List ℕ)) (was : List ℕ) (s : Cell → Value) → content (Some (unwrap_or v was)) ≡ moved raise (effect (set_to v) s) (content (Some was))
set_header None was s = refl
set_header (Some v) was s = refl

pub gone_cell : (t : Bool) (was : Option (List ℕ)) (s : Cell → Value) → content (cond t None was) ≡ moved raise (effect (gone_if t) s) (content was)
gone_cell true was s = refl
gone_cell false was s = refl

pub set_attrs_row : (pairs : List Pair) (s : Cell → Value) → Row (λ x. with_attrs x pairs) (attrs_set pairs) s
set_attrs_row pairs s x Exists = refl
set_attrs_row pairs s x Length = refl
set_attrs_row pairs s x (Byte i) = refl
set_attrs_row pairs s x (Attr k) = ap content (get-set_pairs x.attrs pairs k) ∙ set_cell (value_in pairs k) (map.get x.attrs k) s
set_attrs_row pairs s x OmapHeader = refl
set_attrs_row pairs s x (OmapKey k) = refl

pub rm_attr_row : (name : List ℕ) (s : Cell → Value) → Row (λ x. without_attr x name) (attr_removed name) s
rm_attr_row name s x Exists = refl
rm_attr_row name s x Length = refl
rm_attr_row name s x (Byte i) = refl
rm_attr_row name s x (Attr k) = ap content (map.get-remove nat_list_cmp_total x.attrs name k) ∙ gone_cell (same_bytes k name) (map.get x.attrs k) s
rm_attr_row name s x OmapHeader = refl
rm_attr_row name s x (OmapKey k) = refl

pub rm_attrs_row : (s : Cell → Value) → Row (λ x. without_attrs x) attrs_removed s
rm_attrs_row s x Exists = refl
rm_attrs_row s x Length = refl
rm_attrs_row s x (Byte i) = refl
rm_attrs_row s x (Attr k) = ap content (map.get-empty (slice_cmp nat_cmp) k)
rm_attrs_row s x OmapHeader = refl
rm_attrs_row s x (OmapKey k) = refl

pub clear_row : (s : Cell → Value) → Row (λ x. without_omap x) omap_cleared s
clear_row s x Exists = refl
clear_row s x Length = refl
clear_row s x (Byte i) = refl
clear_row s x (Attr k) = refl
clear_row s x OmapHeader = refl
clear_row s x (OmapKey k) = ap content (map.get-empty (slice_cmp nat_cmp) k)

pub omap_set_row : (header : Option (List ℕ)) (pairs : List Pair) (s : Cell → Value) → Row (λ x. with_omap x header pairs) (omap_set header pairs) s
omap_set_row header pairs s x Exists = refl
omap_set_row header pairs s x Length = refl
omap_set_row header pairs s x (Byte i) = refl
omap_set_row header pairs s x (Attr k) = refl
omap_set_row header pairs s x OmapHeader = set_header header x.header s
omap_set_row header pairs s x (OmapKey k) = ap content (get-set_pairs x.omap pairs k) ∙ set_cell (value_in pairs k) (map.get x.omap k) s

either_gone : (a b : Bool) (v : Option (List ℕ)) → cond b None (cond a None v) ≡ cond (a || b) None v
either_gone true true v = refl
either_gone true false v = refl
either_gone false b v = refl

get-take_keys : (m : ByteMap) (keys : List (List ℕ)) (k : List ℕ) → map.get (take_keys m keys) k ≡ cond (list_any (same_bytes k) keys) None (map.get m k)
get-take_keys m [] k = refl
get-take_keys m (l ∷ keys) k =
    get-take_keys (map.remove m l) keys k
    ∙ ap (cond (list_any (same_bytes k) keys) None) (map.get-remove nat_list_cmp_total m l k)
    ∙ either_gone (same_bytes k l) (list_any (same_bytes k) keys) (map.get m k)

pub omap_remove_row : (keys : List (List ℕ)) (s : Cell → Value) → Row (λ x. without_keys x keys) (omap_removed keys) s
omap_remove_row keys s x Exists = refl
omap_remove_row keys s x Length = refl
omap_remove_row keys s x (Byte i) = refl
omap_remove_row keys s x (Attr k) = refl
omap_remove_row keys s x OmapHeader = refl
omap_remove_row keys s x (OmapKey k) = ap content (get-take_keys x.omap keys k) ∙ gone_cell (list_any (same_bytes k) keys) (map.get x.omap k) s

turned : (b : Bool) (v : Option (List ℕ)) → cond (not b) v None ≡ cond b None v
turned true v = refl
turned false v = refl

get-take_range : (m : ByteMap) (from to k : List ℕ) → map.get (take_range m from to) k ≡ cond (is_between from to k) None (map.get m k)
get-take_range m from to k =
    map.get-retain_keys m (λ key. not (is_between from to key)) k (λ x tied. ap (λ key. not (is_between from to key)) (sym (slice_cmp-IsAntisymmetric nat_cmp-IsAntisymmetric k x tied)))
    ∙ turned (is_between from to k) (map.get m k)

pub omap_range_row : (from to : List ℕ) (s : Cell → Value) → Row (λ x. without_range x from to) (omap_range_removed from to) s
omap_range_row from to s x Exists = refl
omap_range_row from to s x Length = refl
omap_range_row from to s x (Byte i) = refl
omap_range_row from to s x (Attr k) = refl
omap_range_row from to s x OmapHeader = refl
omap_range_row from to s x (OmapKey k) = ap content (get-take_range x.omap from to k) ∙ gone_cell (is_between from to k) (map.get x.omap k) s

-- a copy gives every part of the source, whatever was there
pub copied_part : (O : Objects) (c : Coll) (o : Oid) (p : Part) (v : Value) → part_of (read_object O c o) p ≡ moved raise (effect (copied c o p) (cells_of O)) v
copied_part O c o Exists v = refl
copied_part O c o Length v = reads_as (look O c o) Length (λ e. cc)
copied_part O c o (Byte i) v = reads_as (look O c o) (Byte i) (λ e. cc)
copied_part O c o (Attr k) v = reads_as (look O c o) (Attr k) (λ e. cc)
copied_part O c o OmapHeader v = reads_as (look O c o) OmapHeader (λ e. cc)
copied_part O c o (OmapKey k) v = reads_as (look O c o) (OmapKey k) (λ e. cc)

pub copy_row : (O : Objects) (c : Coll) (o : Oid) → Row (λ x. read_object O c o) (copied c o) (cells_of O)
copy_row O c o x p = copied_part O c o p (part_of x p)

length-part : (y : Object) (from n : ℕ) → length (part y from n) ≡ bytes_there from n (length y.bytes)
length-part y from n = grind (arith, common_steps)

byte_of_part : (y : Object) (from n i : ℕ) → i < n → get_or (part y from n) i 0 ≡ get_or y.bytes (from + i) 0
byte_of_part y from n i lt = grind (arith, common_steps)

effect_of_test : (t : Bool) (k : ℕ) (s : Cell → Value) → effect (if_so t (raises k)) s ≡ cond t (rises k) stays
effect_of_test true k s = refl
effect_of_test false k s = refl

-- what the length becomes, by the source's length
range_length : (old : List ℕ) (y : Object) (from n to : ℕ) (s : Cell → Value) → number (length (overwrite old to (part y from n))) ≡ moved raise (rises_by_source from n to (number (length y.bytes) ∷ [])) (number (length old))
range_length old y from n to s =
    size_is old to (part y from n) s
    ∙ ap (λ k. moved raise (effect (if_so (nat_lt 0 k) (raises (to + k))) s) (number (length old))) (length-part y from n)
    ∙ ap (λ (f : Effect Value). moved raise f (number (length old))) (effect_of_test (nat_lt 0 (bytes_there from n (length y.bytes))) (to + bytes_there from n (length y.bytes)) s)

below_or_not : (i n : ℕ) → ((nat_lt i n ≡ true) × (i < n)) ⊎ ((nat_lt i n ≡ false) × (n ≤ i))
below_or_not i n = grind (arith, nat_tests)

-- what a byte of the range becomes
range_byte : (old : List ℕ) (y : Object) (from n to i : ℕ) → to ≤ i → i < to + n
    → number (get_or (overwrite old to (part y from n)) i 0) ≡ moved raise (byte_of_source (from + (i - to)) (number (length y.bytes) ∷ number (get_or y.bytes (from + (i - to)) 0) ∷ [])) (number (get_or old i 0))
range_byte old y from n to i le lt = by (below_or_not j (length y.bytes))
  where
    j : ℕ
    j = from + (i - to)

    under : (t : Bool) → nat_lt j (length y.bytes) ≡ t → moved raise (cond t (becomes (number (get_or y.bytes j 0))) stays) (number (get_or old i 0)) ≡ moved raise (cond (nat_lt j (length y.bytes)) (becomes (number (get_or y.bytes j 0))) stays) (number (get_or old i 0))
    under t is = sym (ap (λ (u : Bool). moved raise (cond u (becomes (number (get_or y.bytes j 0))) stays) (number (get_or old i 0))) is)

    by : ((nat_lt j (length y.bytes) ≡ true) × (j < length y.bytes)) ⊎ ((nat_lt j (length y.bytes) ≡ false) × (length y.bytes ≤ j))
        → number (get_or (overwrite old to (part y from n)) i 0) ≡ moved raise (cond (nat_lt j (length y.bytes)) (becomes (number (get_or y.bytes j 0))) stays) (number (get_or old i 0))
    by (inl (is, there)) = ap number (byte-within old to (part y from n) i le (omega (arith, length-part y from n)) ∙ byte_of_part y from n (i - to) (omega arith)) ∙ under true is
    by (inr (is, past)) = ap number (byte-after old to (part y from n) i (omega (arith, length-part y from n))) ∙ under false is

pub range_row : (O : Objects) (c : Coll) (o : Oid) (from n to : ℕ) → Row (λ x. written x to (part (read_object O c o) from n)) (range_copied c o from n to) (cells_of O)
range_row O c o from n to x Exists = refl
range_row O c o from n to x Length =
    range_length x.bytes (read_object O c o) from n to (cells_of O)
    ∙ ap (λ (v : Value). moved raise (rises_by_source from n to (v ∷ [])) (number (length x.bytes))) (reads_as (look O c o) Length (λ e. cc))
range_row O c o from n to x (Byte i) = by (within_or_not to n i)
  where
    y : Object
    y = read_object O c o

    j : ℕ
    j = from + (i - to)

    copy : CellAct
    copy = copies (part_at c o Length ∷ part_at c o (Byte j) ∷ []) (byte_of_source j)

    under : (t : Bool) → is_within to n i ≡ t → moved raise (effect (if_so t copy) (cells_of O)) (number (get_or x.bytes i 0)) ≡ moved raise (effect (if_so (is_within to n i) copy) (cells_of O)) (number (get_or x.bytes i 0))
    under t is = sym (ap (λ (u : Bool). moved raise (effect (if_so u copy) (cells_of O)) (number (get_or x.bytes i 0))) is)

    read : moved raise (byte_of_source j (number (length y.bytes) ∷ number (get_or y.bytes j 0) ∷ [])) (number (get_or x.bytes i 0)) ≡ moved raise (effect copy (cells_of O)) (number (get_or x.bytes i 0))
    read =
        ap (λ (v : Value). moved raise (byte_of_source j (v ∷ number (get_or y.bytes j 0) ∷ [])) (number (get_or x.bytes i 0))) (reads_as (look O c o) Length (λ e. cc))
        ∙ ap (λ (v : Value). moved raise (byte_of_source j (value_at (look O c o) Length ∷ v ∷ [])) (number (get_or x.bytes i 0))) (reads_as (look O c o) (Byte j) (λ e. cc))

    by : ((is_within to n i ≡ true) × (to ≤ i) × (i < to + n)) ⊎ ((is_within to n i ≡ false) × ((i < to) ⊎ (to + n ≤ i))) → number (get_or (overwrite x.bytes to (part y from n)) i 0) ≡ moved raise (effect (if_so (is_within to n i) copy) (cells_of O)) (number (get_or x.bytes i 0))
    by (inl (is, le, lt)) = range_byte x.bytes y from n to i le lt ∙ read ∙ under true is
    by (inr (is, inl before)) = ap number (byte-before x.bytes to (part y from n) i before) ∙ under false is
    by (inr (is, inr after)) = ap number (byte-after x.bytes to (part y from n) i (omega (arith, length-part y from n))) ∙ under false is
range_row O c o from n to x (Attr k) = refl
range_row O c o from n to x OmapHeader = refl
range_row O c o from n to x (OmapKey k) = refl
