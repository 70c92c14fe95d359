-- What an operation reads and changes.
use Rattle.std.proofs.Common.{◌≡◌, ◌⊎◌, inl, inr, ℕ, ◌+◌, ◌-◌, Bool, true, false, cond, ◌&&◌, ◌||◌, List, length, get_or, Option, Some, None, refl, sym, ◌∙◌, ap, subst}
use Rattle.std.specs.Prelude.{nat_lt, nat_le}
use Rattle.std.specs.List.{list_any}
use Rattle.std.specs.Ordering.{eq_by_cmp}
use Rattle.std.specs.Cmp.{eq_by_cmp_equiv}
use Rattle.fs_names.specs.declared.coll.Coll.{Coll}
use Rattle.fs_names.specs.declared.oid.Oid.{Oid}
use Rattle.fs_names.specs.Order.{coll_cmp, coll_cmp_total}
use Rattle.fs_model.specs.declared.op.Op.{Op}
use Rattle.fs_model.specs.declared.op.Op.TheVariants.{Touch, Write, Zero, Truncate, Remove, SetAttrs, RmAttr, RmAttrs, Clone, CloneRange, MoveRename, MkColl, RmColl, OmapClear, OmapSet, OmapRemove, OmapRange}
use Rattle.fs_model.specs.declared.pair.Pair.{Pair}
use Rattle.fs_model.specs.Rows.{is_between}
use Rattle.fs_model.proofs.Cells.{same_oid}
use Rattle.replay_laws.specs.Replay.{leaves, Source}
use Rattle.fs_cells.specs.declared.cell.Cell.{Cell}
use Rattle.fs_cells.specs.declared.cell.Part.{Part}
use Rattle.fs_cells.specs.declared.cell.Part.TheVariants.{Exists, Length, Byte, Attr, OmapHeader, OmapKey}
use Rattle.fs_cells.specs.Values.{is_omap}
use Rattle.fs_cells.specs.Parts.{CellAct, touched, is_within, overwritten, resized, removed, same_bytes, value_in, set_to, gone_if, attrs_set, attr_removed, attrs_removed, omap_cleared, omap_set, omap_removed, omap_range_removed, copied, range_copied}
use Rattle.fs_cells.specs.Actions.{in_coll, is_of, on_object, act_of}
use Rattle.fs_cells.specs.Laws.{is_named, LeavesOthers, ReadsOwn, OmapApart}

-- no part reads a cell
abbrev pub Plain : (Part → CellAct) → Type 0
Plain act = (p : Part) (y : Cell) → Source (act p) y → ⊥

unless_chosen : (t : Bool) (a : CellAct) (y : Cell) → (Source a y → ⊥) → Source (cond t a leaves) y → ⊥
unless_chosen true a y none s = none s
unless_chosen false a y none s = s

no_set : (v : Option (List ℕ)) (y : Cell) → Source (set_to v) y → ⊥
no_set None y s = s
no_set (Some v) y s = s

no_gone : (t : Bool) (y : Cell) → Source (gone_if t) y → ⊥
no_gone true y s = s
no_gone false y s = s

pub touched_plain : Plain touched
touched_plain Exists y s = s
touched_plain Length y s = s
touched_plain (Byte i) y s = s
touched_plain (Attr k) y s = s
touched_plain OmapHeader y s = s
touched_plain (OmapKey k) y s = s

pub overwritten_plain : (at n : ℕ) (byte : ℕ → ℕ) → Plain (overwritten at n byte)
overwritten_plain at n byte Exists y s = s
overwritten_plain at n byte Length y s = unless_chosen (nat_lt 0 n) _ y (λ none. none) s
overwritten_plain at n byte (Byte i) y s = unless_chosen (is_within at n i) _ y (λ none. none) s
overwritten_plain at n byte (Attr k) y s = s
overwritten_plain at n byte OmapHeader y s = s
overwritten_plain at n byte (OmapKey k) y s = s

pub resized_plain : (n : ℕ) → Plain (resized n)
resized_plain n Exists y s = s
resized_plain n Length y s = s
resized_plain n (Byte i) y s = unless_chosen (nat_le n i) _ y (λ none. none) s
resized_plain n (Attr k) y s = s
resized_plain n OmapHeader y s = s
resized_plain n (OmapKey k) y s = s

pub attrs_set_plain : (pairs : List Pair) → Plain (attrs_set pairs)
attrs_set_plain pairs Exists y s = s
attrs_set_plain pairs Length y s = s
attrs_set_plain pairs (Byte i) y s = s
attrs_set_plain pairs (Attr k) y s = no_set (value_in pairs k) y s
attrs_set_plain pairs OmapHeader y s = s
attrs_set_plain pairs (OmapKey k) y s = s

pub attr_removed_plain : (name : List ℕ) → Plain (attr_removed name)
attr_removed_plain name Exists y s = s
attr_removed_plain name Length y s = s
attr_removed_plain name (Byte i) y s = s
attr_removed_plain name (Attr k) y s = no_gone (same_bytes k name) y s
attr_removed_plain name OmapHeader y s = s
attr_removed_plain name (OmapKey k) y s = s

pub attrs_removed_plain : Plain attrs_removed
attrs_removed_plain Exists y s = s
attrs_removed_plain Length y s = s
attrs_removed_plain (Byte i) y s = s
attrs_removed_plain (Attr k) y s = s
attrs_removed_plain OmapHeader y s = s
attrs_removed_plain (OmapKey k) y s = s

omap_cleared_plain : Plain omap_cleared
omap_cleared_plain Exists y s = s
omap_cleared_plain Length y s = s
omap_cleared_plain (Byte i) y s = s
omap_cleared_plain (Attr k) y s = s
omap_cleared_plain OmapHeader y s = s
omap_cleared_plain (OmapKey k) y s = s

omap_set_plain : (header : Option (List ℕ)) (pairs : List Pair) → Plain (omap_set header pairs)
omap_set_plain header pairs Exists y s = s
omap_set_plain header pairs Length y s = s
omap_set_plain header pairs (Byte i) y s = s
omap_set_plain header pairs (Attr k) y s = s
omap_set_plain header pairs OmapHeader y s = no_set header y s
omap_set_plain header pairs (OmapKey k) y s = no_set (value_in pairs k) y s

omap_removed_plain : (keys : List (List ℕ)) → Plain (omap_removed keys)
omap_removed_plain keys Exists y s = s
omap_removed_plain keys Length y s = s
omap_removed_plain keys (Byte i) y s = s
omap_removed_plain keys (Attr k) y s = s
omap_removed_plain keys OmapHeader y s = s
omap_removed_plain keys (OmapKey k) y s = no_gone (list_any (same_bytes k) keys) y s

omap_range_removed_plain : (from to : List ℕ) → Plain (omap_range_removed from to)
omap_range_removed_plain from to Exists y s = s
omap_range_removed_plain from to Length y s = s
omap_range_removed_plain from to (Byte i) y s = s
omap_range_removed_plain from to (Attr k) y s = s
omap_range_removed_plain from to OmapHeader y s = s
omap_range_removed_plain from to (OmapKey k) y s = no_gone (is_between from to k) y s

-- a copy reads cells of one object, and on its own side of the omap
record ReadsOf (c : Coll) (p : Part) (y : Cell) : Type 0 where
  from : y.c ≡ c
  side : is_omap p ≡ is_omap y.part

abbrev ReadsFrom : Coll → (Part → CellAct) → Type 0
ReadsFrom c act = (p : Part) (y : Cell) → Source (act p) y → ReadsOf c p y

same_part : (c : Coll) (o : Oid) (p : Part) (y : Cell) → (y ≡ record { c = c; o = o; part = p }) → ReadsOf c p y
same_part c o p y is = record { from = ap (λ (z : Cell). z.c) is; side = sym (ap (λ (z : Cell). is_omap z.part) is) }

one_cell : {P : Type 0} (y z : Cell) → (y ≡ z → P) → (y ≡ z) ⊎ ⊥ → P
one_cell y z then (inl is) = then is
one_cell y z then (inr none) = absurd none

copied_reads : (c : Coll) (o : Oid) → ReadsFrom c (copied c o)
copied_reads c o Exists y s = absurd s
copied_reads c o Length y s = one_cell y _ (same_part c o Length y) s
copied_reads c o (Byte i) y s = one_cell y _ (same_part c o (Byte i) y) s
copied_reads c o (Attr k) y s = one_cell y _ (same_part c o (Attr k) y) s
copied_reads c o OmapHeader y s = one_cell y _ (same_part c o OmapHeader y) s
copied_reads c o (OmapKey k) y s = one_cell y _ (same_part c o (OmapKey k) y) s

if_chosen : {P : Type 0} (t : Bool) (a : CellAct) (y : Cell) → (Source a y → P) → Source (cond t a leaves) y → P
if_chosen true a y then s = then s
if_chosen false a y then s = absurd s

-- a byte reads the length and one byte
of_bytes : (c : Coll) (o : Oid) (i j : ℕ) (y : Cell) → (y ≡ record { c = c; o = o; part = Length }) ⊎ ((y ≡ record { c = c; o = o; part = Byte j }) ⊎ ⊥) → ReadsOf c (Byte i) y
of_bytes c o i j y (inl is) = record { from = ap (λ (z : Cell). z.c) is; side = sym (ap (λ (z : Cell). is_omap z.part) is) }
of_bytes c o i j y (inr (inl is)) = record { from = ap (λ (z : Cell). z.c) is; side = sym (ap (λ (z : Cell). is_omap z.part) is) }
of_bytes c o i j y (inr (inr none)) = absurd none

range_reads : (c : Coll) (o : Oid) (from n to : ℕ) → ReadsFrom c (range_copied c o from n to)
range_reads c o from n to Exists y s = absurd s
range_reads c o from n to Length y s = one_cell y _ (same_part c o Length y) s
range_reads c o from n to (Byte i) y s = if_chosen (is_within to n i) _ y (of_bytes c o i (from + (i - to)) y) s
range_reads c o from n to (Attr k) y s = absurd s
range_reads c o from n to OmapHeader y s = absurd s
range_reads c o from n to (OmapKey k) y s = absurd s

off : {P : Type 0} (c : Coll) (o : Oid) (act : Part → CellAct) (x y : Cell) → Plain act → Source (on_object c o act x) y → P
off c o act x y plain s = absurd (unless_chosen (is_of c o x) (act x.part) y (plain x.part y) s)

-- an operation that copies names its source's collection first
abbrev Reads : Op → Cell → Cell → Type 0
Reads op x y = (is_named op y ≡ true) × (is_omap x.part ≡ is_omap y.part)

itself : (c d : Coll) → d ≡ c → eq_by_cmp coll_cmp d c ≡ true
itself c d is = subst (λ (e : Coll). eq_by_cmp coll_cmp e c ≡ true) (sym is) ((eq_by_cmp_equiv coll_cmp_total).refl c)

first_named : (a b : Bool) → a ≡ true → (a || (b || false)) ≡ true
first_named true b e = refl
first_named false b e = cc

read_first : (c c2 : Coll) (p : Part) (y : Cell) → ReadsOf c p y → ((in_coll c y || (in_coll c2 y || false)) ≡ true) × (is_omap p ≡ is_omap y.part)
read_first c c2 p y reads = (first_named (in_coll c y) (in_coll c2 y) (itself c y.c reads.from), reads.side)

moved_reads : {P : Type 0} (c : Coll) (o : Oid) (t : Bool) (x y : Cell) → (Source (copied c o x.part) y → P) → Source (cond t (copied c o x.part) (on_object c o removed x)) y → P
moved_reads c o true x y then s = then s
moved_reads c o false x y then s = off c o removed x y (λ p z none. none) s

no_taken : {P : Type 0} (t : Bool) (x y : Cell) → Source (cond t (removed x.part) leaves) y → P
no_taken true x y s = absurd s
no_taken false x y s = absurd s

reads : (op : Op) (x y : Cell) → Source (act_of op x) y → Reads op x y
reads (Touch c o) x y s = off c o touched x y touched_plain s
reads (Write c o at bytes) x y s = off c o (overwritten at (length bytes) (λ i. get_or bytes i 0)) x y (overwritten_plain at (length bytes) (λ i. get_or bytes i 0)) s
reads (Zero c o at len) x y s = off c o (overwritten at len (λ i. 0)) x y (overwritten_plain at len (λ i. 0)) s
reads (Truncate c o len) x y s = off c o (resized len) x y (resized_plain len) s
reads (Remove c o) x y s = off c o removed x y (λ p z none. none) s
reads (SetAttrs c o pairs) x y s = off c o (attrs_set pairs) x y (attrs_set_plain pairs) s
reads (RmAttr c o name) x y s = off c o (attr_removed name) x y (attr_removed_plain name) s
reads (RmAttrs c o) x y s = off c o attrs_removed x y attrs_removed_plain s
reads (Clone c o c2 o2) x y s = if_chosen (is_of c2 o2 x) (copied c o x.part) y (λ r. read_first c c2 x.part y (copied_reads c o x.part y r)) s
reads (CloneRange c o c2 o2 from len to) x y s = if_chosen (is_of c2 o2 x) (range_copied c o from len to x.part) y (λ r. read_first c c2 x.part y (range_reads c o from len to x.part y r)) s
reads (MoveRename c o c2 o2) x y s = moved_reads c o (is_of c2 o2 x) x y (λ r. read_first c c2 x.part y (copied_reads c o x.part y r)) s
reads (MkColl c) x y s = absurd s
reads (RmColl c) x y s = no_taken (in_coll c x) x y s
reads (OmapClear c o) x y s = off c o omap_cleared x y omap_cleared_plain s
reads (OmapSet c o header pairs) x y s = off c o (omap_set header pairs) x y (omap_set_plain header pairs) s
reads (OmapRemove c o keys) x y s = off c o (omap_removed keys) x y (omap_removed_plain keys) s
reads (OmapRange c o from to) x y s = off c o (omap_range_removed from to) x y (omap_range_removed_plain from to) s

pub reads_own : ReadsOwn
reads_own op x y s = (reads op x y s).0

pub omap_apart : OmapApart
omap_apart op x y s = (reads op x y s).1

one_off : (a : Bool) → (a || false) ≡ false → a ≡ false
one_off true e = cc
one_off false e = refl

two_off : (a b : Bool) → (a || (b || false)) ≡ false → (a ≡ false) × (b ≡ false)
two_off true b e = cc
two_off false true e = cc
two_off false false e = (refl, refl)

other_coll : (c : Coll) (o : Oid) (act : Part → CellAct) (x : Cell) → in_coll c x ≡ false → on_object c o act x ≡ leaves
other_coll c o act x isnt = ap (λ (t : Bool). chosen (t && same_oid x.o o)) isnt
  where
    chosen : Bool → CellAct
    chosen t = cond t (act x.part) leaves

pub leaves_others : LeavesOthers
leaves_others (Touch c o) x e = other_coll c o touched x (one_off _ e)
leaves_others (Write c o at bytes) x e = other_coll c o (overwritten at (length bytes) (λ i. get_or bytes i 0)) x (one_off _ e)
leaves_others (Zero c o at len) x e = other_coll c o (overwritten at len (λ i. 0)) x (one_off _ e)
leaves_others (Truncate c o len) x e = other_coll c o (resized len) x (one_off _ e)
leaves_others (Remove c o) x e = other_coll c o removed x (one_off _ e)
leaves_others (SetAttrs c o pairs) x e = other_coll c o (attrs_set pairs) x (one_off _ e)
leaves_others (RmAttr c o name) x e = other_coll c o (attr_removed name) x (one_off _ e)
leaves_others (RmAttrs c o) x e = other_coll c o attrs_removed x (one_off _ e)
leaves_others (Clone c o c2 o2) x e = other_coll c2 o2 (copied c o) x (two_off (in_coll c x) (in_coll c2 x) e).1
leaves_others (CloneRange c o c2 o2 from len to) x e = other_coll c2 o2 (range_copied c o from len to) x (two_off (in_coll c x) (in_coll c2 x) e).1
leaves_others (MoveRename c o c2 o2) x e =
    let two = two_off (in_coll c x) (in_coll c2 x) e in
    ap (λ (t : Bool). chosen (t && same_oid x.o o2)) two.1 ∙ other_coll c o removed x two.0
  where
    chosen : Bool → CellAct
    chosen t = cond t (copied c o x.part) (on_object c o removed x)
leaves_others (MkColl c) x e = refl
leaves_others (RmColl c) x e = ap (λ (t : Bool). chosen t) (one_off (in_coll c x) e)
  where
    chosen : Bool → CellAct
    chosen t = cond t (removed x.part) leaves
leaves_others (OmapClear c o) x e = other_coll c o omap_cleared x (one_off _ e)
leaves_others (OmapSet c o header pairs) x e = other_coll c o (omap_set header pairs) x (one_off _ e)
leaves_others (OmapRemove c o keys) x e = other_coll c o (omap_removed keys) x (one_off _ e)
leaves_others (OmapRange c o from to) x e = other_coll c o (omap_range_removed from to) x (one_off _ e)
