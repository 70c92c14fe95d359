-- Each operation means for each cell what its action says.
use Rattle.std.proofs.Common.{◌≡◌, ℕ, Bool, true, false, cond, ◌&&◌, List, [], ◌∷◌, length, map as map_list, get_or, refl, sym, ◌∙◌, ap, Option, Some, None}
use Rattle.std.specs.FinMap as map
use Rattle.fs_names.specs.declared.coll.Coll.{Coll}
use Rattle.fs_names.specs.declared.oid.Oid.{Oid}
use Rattle.fs_model.specs.declared.op.Op.{Op}
use Rattle.fs_model.specs.declared.op.Op.TheVariants.{Touch, Write, Zero, Truncate, Remove, SetAttrs, RmAttr, RmAttrs, Clone, CloneRange, MoveRename, MkColl, RmColl, OmapClear, OmapSet, OmapRemove, OmapRange}
use Rattle.fs_model.specs.Objects.{Object, Objects, look, read_object, with_object, without_object}
use Rattle.fs_model.specs.Rows.{written, zeroed, truncated, with_attrs, without_attr, without_attrs, without_omap, with_omap, without_keys, without_range, part, row, fold_ops}
use Rattle.fs_model.proofs.Cells.{same_oid, look-with_object, look-without_object, there-without_object}
use Rattle.replay_laws.specs.Replay.{leaves, sets, effect, moved, fold}
use Rattle.fs_cells.specs.declared.cell.Cell.{Cell}
use Rattle.fs_cells.specs.declared.cell.Part.{Part}
use Rattle.fs_cells.specs.declared.cell.Part.TheVariants.{Exists}
use Rattle.fs_cells.specs.Values.{Value, flag, raise, value_at, cells_of}
use Rattle.fs_cells.specs.Parts.{CellAct, touched, overwritten, resized, removed, attrs_set, attr_removed, attrs_removed, omap_cleared, omap_set, omap_removed, omap_range_removed, copied, range_copied}
use Rattle.fs_cells.specs.Actions.{in_coll, is_of, on_object, act_of}
use Rattle.fs_cells.specs.Laws.{AreAllowed, RowLaw, FoldLaw}
use Rattle.fs_cells.proofs.Looks.{is_coll, is_oid, look-remove, look-made}
use Rattle.fs_cells.proofs.Parts.{Row, made_row, touch_row, write_row, zero_row, truncate_row, set_attrs_row, rm_attr_row, rm_attrs_row, clear_row, omap_set_row, omap_remove_row, omap_range_row, copied_part, range_row}

one_there : (a : Bool) → (a && true) ≡ true → a ≡ true
one_there true e = refl
one_there false e = cc

two_there : (a b : Bool) → (a && (b && true)) ≡ true → (a ≡ true) × (b ≡ true)
two_there true true e = (refl, refl)
two_there true false e = cc
two_there false b e = cc

both_there_is : (a b : Bool) → a ≡ true → b ≡ true → (a && b) ≡ true
both_there_is true b one two = two
both_there_is false b one two = cc

both_from : (a b : Bool) → (a && b) ≡ true → (a ≡ true) × (b ≡ true)
both_from true b e = (refl, e)
both_from false b e = cc

-- a cell of an object is at its name
same_look : (O : Objects) (c : Coll) (o : Oid) (x : Cell) → is_of c o x ≡ true → look O x.c x.o ≡ look O c o
same_look O c o x e =
    let two = both_from (in_coll c x) (same_oid x.o o) e in
    ap (λ (q : Coll). look O q x.o) (is_coll x.c c two.0) ∙ ap (look O c) (is_oid x.o o two.1)

-- the object that an operation puts, where its collection is there
look_put : (O : Objects) (c : Coll) (o : Oid) (y : Object) → map.contains_key O c ≡ true → (x : Cell) → look (with_object O c o y) x.c x.o ≡ cond (is_of c o x) (Some y) (look O x.c x.o)
look_put O c o y there x = look-with_object O c o y x.c x.o ∙ ap (λ (b : Bool). cond (b && is_of c o x) (Some y) (look O x.c x.o)) there

look_taken : (O : Objects) (c : Coll) (o : Oid) → map.contains_key O c ≡ true → (x : Cell) → look (without_object O c o) x.c x.o ≡ cond (is_of c o x) None (look O x.c x.o)
look_taken O c o there x = look-without_object O c o x.c x.o ∙ ap (λ (b : Bool). cond (b && is_of c o x) None (look O x.c x.o)) there

-- a change of one object, which makes it
changed_cell : (O : Objects) (c : Coll) (o : Oid) (f : Object → Object) (act : Part → CellAct) → map.contains_key O c ≡ true → act Exists ≡ sets (flag true) → Row f act (cells_of O)
    → (x : Cell) → cells_of (with_object O c o (f (read_object O c o))) x ≡ moved raise (effect (on_object c o act x) (cells_of O)) (cells_of O x)
changed_cell O c o f act there makes does x = ap (λ (v : Option Object). value_at v x.part) (look_put O c o (f (read_object O c o)) there x) ∙ by (is_of c o x) refl
  where
    by : (t : Bool) → is_of c o x ≡ t → value_at (cond t (Some (f (read_object O c o))) (look O x.c x.o)) x.part ≡ moved raise (effect (cond t (act x.part) leaves) (cells_of O)) (value_at (look O x.c x.o) x.part)
    by true is = made_row f act (cells_of O) makes does (look O c o) x.part ∙ ap (λ (v : Option Object). moved raise (effect (act x.part) (cells_of O)) (value_at v x.part)) (sym (same_look O c o x is))
    by false is = refl

removed_cell : (O : Objects) (c : Coll) (o : Oid) → map.contains_key O c ≡ true → (x : Cell) → cells_of (without_object O c o) x ≡ moved raise (effect (on_object c o removed x) (cells_of O)) (cells_of O x)
removed_cell O c o there x = ap (λ (v : Option Object). value_at v x.part) (look_taken O c o there x) ∙ by (is_of c o x)
  where
    by : (t : Bool) → value_at (cond t None (look O x.c x.o)) x.part ≡ moved raise (effect (cond t (removed x.part) leaves) (cells_of O)) (value_at (look O x.c x.o) x.part)
    by true = refl
    by false = refl

copied_cell : (O : Objects) (c : Coll) (o : Oid) (c2 : Coll) (o2 : Oid) → map.contains_key O c2 ≡ true → (x : Cell) → cells_of (with_object O c2 o2 (read_object O c o)) x ≡ moved raise (effect (on_object c2 o2 (copied c o) x) (cells_of O)) (cells_of O x)
copied_cell O c o c2 o2 there x = ap (λ (v : Option Object). value_at v x.part) (look_put O c2 o2 (read_object O c o) there x) ∙ by (is_of c2 o2 x)
  where
    by : (t : Bool) → value_at (cond t (Some (read_object O c o)) (look O x.c x.o)) x.part ≡ moved raise (effect (cond t (copied c o x.part) leaves) (cells_of O)) (value_at (look O x.c x.o) x.part)
    by true = copied_part O c o x.part (value_at (look O x.c x.o) x.part)
    by false = refl

-- the bytes of a range come into an object, which it makes
range_cell : (O : Objects) (c : Coll) (o : Oid) (c2 : Coll) (o2 : Oid) (from len to : ℕ) → map.contains_key O c2 ≡ true
    → (x : Cell) → cells_of (with_object O c2 o2 (written (read_object O c2 o2) to (part (read_object O c o) from len))) x ≡ moved raise (effect (on_object c2 o2 (range_copied c o from len to) x) (cells_of O)) (cells_of O x)
range_cell O c o c2 o2 from len to there x = changed_cell O c2 o2 (λ y. written y to (part (read_object O c o) from len)) (range_copied c o from len to) there refl (range_row O c o from len to) x

-- the source goes first and the destination comes then, so that a move onto itself leaves the object
moved_cell : (O : Objects) (c : Coll) (o : Oid) (c2 : Coll) (o2 : Oid) → map.contains_key O c ≡ true → map.contains_key O c2 ≡ true
    → (x : Cell) → cells_of (with_object (without_object O c o) c2 o2 (read_object O c o)) x ≡ moved raise (effect (act_of (MoveRename c o c2 o2) x) (cells_of O)) (cells_of O x)
moved_cell O c o c2 o2 from to x =
    ap (λ (v : Option Object). value_at v x.part) (look_put (without_object O c o) c2 o2 (read_object O c o) (there-without_object O c o c2 ∙ to) x)
    ∙ by (is_of c2 o2 x)
  where
    by : (t : Bool) → value_at (cond t (Some (read_object O c o)) (look (without_object O c o) x.c x.o)) x.part ≡ moved raise (effect (cond t (copied c o x.part) (on_object c o removed x)) (cells_of O)) (value_at (look O x.c x.o) x.part)
    by true = copied_part O c o x.part (value_at (look O x.c x.o) x.part)
    by false = removed_cell O c o from x

made_cell : (O : Objects) (c : Coll) (x : Cell) → cells_of (row O (MkColl c)) x ≡ cells_of O x
made_cell O c x = by (map.contains_key O c) refl
  where
    by : (t : Bool) → map.contains_key O c ≡ t → cells_of (cond t O (map.insert O c map.empty)) x ≡ cells_of O x
    by true is = refl
    by false is = ap (λ (v : Option Object). value_at v x.part) (look-made O c is x.c x.o)

taken_cell : (O : Objects) (c : Coll) (x : Cell) → cells_of (map.remove O c) x ≡ moved raise (effect (act_of (RmColl c) x) (cells_of O)) (cells_of O x)
taken_cell O c x = ap (λ (v : Option Object). value_at v x.part) (look-remove O c x.c x.o) ∙ by (in_coll c x)
  where
    by : (t : Bool) → value_at (cond t None (look O x.c x.o)) x.part ≡ moved raise (effect (cond t (removed x.part) leaves) (cells_of O)) (value_at (look O x.c x.o) x.part)
    by true = refl
    by false = refl

pub row_cell : RowLaw
row_cell O (Touch c o) named x = changed_cell O c o (λ y. y) touched (one_there _ named) refl (touch_row (cells_of O)) x
row_cell O (Write c o at bytes) named x = changed_cell O c o (λ y. written y at bytes) (overwritten at (length bytes) (λ i. get_or bytes i 0)) (one_there _ named) refl (write_row at bytes (cells_of O)) x
row_cell O (Zero c o at len) named x = changed_cell O c o (λ y. zeroed y at len) (overwritten at len (λ i. 0)) (one_there _ named) refl (zero_row at len (cells_of O)) x
row_cell O (Truncate c o len) named x = changed_cell O c o (λ y. truncated y len) (resized len) (one_there _ named) refl (truncate_row len (cells_of O)) x
row_cell O (Remove c o) named x = removed_cell O c o (one_there _ named) x
row_cell O (SetAttrs c o pairs) named x = changed_cell O c o (λ y. with_attrs y pairs) (attrs_set pairs) (one_there _ named) refl (set_attrs_row pairs (cells_of O)) x
row_cell O (RmAttr c o name) named x = changed_cell O c o (λ y. without_attr y name) (attr_removed name) (one_there _ named) refl (rm_attr_row name (cells_of O)) x
row_cell O (RmAttrs c o) named x = changed_cell O c o (λ y. without_attrs y) attrs_removed (one_there _ named) refl (rm_attrs_row (cells_of O)) x
row_cell O (Clone c o c2 o2) named x =
    let two = two_there (map.contains_key O c) (map.contains_key O c2) named in
    ap (λ (t : Bool). cells_of (cond t (with_object O c2 o2 (read_object O c o)) O) x) (both_there_is _ _ two.0 two.1) ∙ copied_cell O c o c2 o2 two.1 x
row_cell O (CloneRange c o c2 o2 from len to) named x =
    let two = two_there (map.contains_key O c) (map.contains_key O c2) named in
    ap (λ (t : Bool). cells_of (cond t (with_object O c2 o2 (written (read_object O c2 o2) to (part (read_object O c o) from len))) O) x) (both_there_is _ _ two.0 two.1) ∙ range_cell O c o c2 o2 from len to two.1 x
row_cell O (MoveRename c o c2 o2) named x =
    let two = two_there (map.contains_key O c) (map.contains_key O c2) named in
    ap (λ (t : Bool). cells_of (cond t (with_object (without_object O c o) c2 o2 (read_object O c o)) O) x) (both_there_is _ _ two.0 two.1) ∙ moved_cell O c o c2 o2 two.0 two.1 x
row_cell O (MkColl c) named x = made_cell O c x
row_cell O (RmColl c) named x = taken_cell O c x
row_cell O (OmapClear c o) named x = changed_cell O c o (λ y. without_omap y) omap_cleared (one_there _ named) refl (clear_row (cells_of O)) x
row_cell O (OmapSet c o header pairs) named x = changed_cell O c o (λ y. with_omap y header pairs) (omap_set header pairs) (one_there _ named) refl (omap_set_row header pairs (cells_of O)) x
row_cell O (OmapRemove c o keys) named x = changed_cell O c o (λ y. without_keys y keys) (omap_removed keys) (one_there _ named) refl (omap_remove_row keys (cells_of O)) x
row_cell O (OmapRange c o from to) named x = changed_cell O c o (λ y. without_range y from to) (omap_range_removed from to) (one_there _ named) refl (omap_range_row from to (cells_of O)) x

pub folds_are : (O : Objects) (ops : List Op) → AreAllowed O ops → cells_of (fold_ops O ops) ≡ fold raise (map_list act_of ops) (cells_of O)
folds_are O [] allowed = refl
folds_are O (op ∷ ops) (here, rest) = folds_are (row O op) ops rest ∙ ap (λ (s : Cell → Value). fold raise (map_list act_of ops) s) (λ i x. row_cell O op here x i)

pub fold_law : FoldLaw
fold_law O ops allowed x = ap (λ (s : Cell → Value). s x) (folds_are O ops allowed)
