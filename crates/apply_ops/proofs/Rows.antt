-- What each operation on one object does, as a row of the theory of replay.
use Rattle.std.proofs.Common.{◌≡◌, ◌≢◌, List, [], ◌∷◌, length, refl, sym, ◌∙◌, ap, subst, Option, Some, None, ◌⊎◌, inl, inr, ℕ}
use Rattle.std.specs.Prelude.{slice_index_or}
use Rattle.fs_names.specs.Text.{oid_text}
use Rattle.fs_names.specs.declared.coll.Coll.{Coll}
use Rattle.fs_names.specs.declared.oid.Oid.{Oid}
use Rattle.fs_model.specs.declared.pair.Pair.{Pair}
use Rattle.fs_model.specs.declared.op.Op.{Op}
use Rattle.fs_model.specs.declared.op.Op.TheVariants.{Touch, Write, Zero, Truncate, Remove, SetAttrs, RmAttr, RmAttrs, Clone, CloneRange, MoveRename, MkColl, RmColl, OmapClear, OmapSet, OmapRemove, OmapRange}
use Rattle.fs_model.specs.Named.{colls_named, made, few, first_and_second}
use Rattle.tree_api.specs.Tree.{Version, Tree}
use Rattle.replay_laws.specs.Replay.{leaves}
use Rattle.fs_cells.specs.declared.cell.Part.{Part}
use Rattle.fs_cells.specs.Parts.{CellAct, touched, overwritten, resized, removed, attrs_set, attr_removed, attrs_removed}
use Rattle.tree_stands.specs.Names.{Name, NameFits}
use Rattle.tree_stands.specs.Trees.{dir_guard, name_at}
use Rattle.tree_stands.specs.Edits.{IsOn, Edits}
use Rattle.tree_stands.proofs.Files.{files_law}
use Rattle.op_places.specs.Line.{KeepsColls}
use Rattle.op_places.specs.Laws.{EditsOne}
use Rattle.apply_ops.specs.Editing.{edited, file_after}

abbrev pub row_of : Op → Part → CellAct
row_of (Touch c o) part = touched part
row_of (Write c o at bytes) part = overwritten at (length bytes) (λ i. slice_index_or bytes i 0) part
row_of (Zero c o at len) part = overwritten at len (λ i. 0) part
row_of (Truncate c o len) part = resized len part
row_of (Remove c o) part = removed part
row_of (SetAttrs c o pairs) part = attrs_set pairs part
row_of (RmAttr c o name) part = attr_removed name part
row_of (RmAttrs c o) part = attrs_removed part
row_of _ part = leaves

none_is : {A : Type 0} (x : A) → None ≡ Some x → ⊥
none_is x e = cc

-- what is said of the object that an operation names
carried : (P : Name → Type 0) (m n : Name) → Some m ≡ Some n → P m → P n
carried P m n is p = subst P (one m n is) p
  where
    one : (a b : Name) → Some a ≡ Some b → a ≡ b
    one a b e = cc

-- what is said of an operation's object and its file is said in other words
pub on_its_name : (op same : Op) (m n : Name) → op ≡ same → edited same ≡ Some m → edited op ≡ Some n
    → (P : Name → (Option Version → Option Version) → Type 0) → P m (file_after same) → P n (file_after op)
on_its_name op same m n is here there P p = carried (λ o. P o (file_after op)) m n (sym here ∙ sym (ap edited is) ∙ there) (subst (λ o. P m (file_after o)) (sym is) p)

-- the collection is there, and the name can be
abbrev Wants : Op → Tree → Name → Type 0
Wants op t n = NameFits n → dir_guard t n.coll ≢ None → EditsOne op n (row_of op) (file_after op) t

wants : (op : Op) (t : Tree) (n : Name) → IsOn op n (row_of op) → KeepsColls op → ((a : Option Version) → Edits (row_of op) a (file_after op a)) → Wants op t n
wants op t n on keeps edits fits there = record { is_on = on; keeps_colls = keeps; edits = edits; fits = fits; there = there }

pub edits_one : (op : Op) (t : Tree) (n : Name) → edited op ≡ Some n → Wants op t n
edits_one (Touch c o) t n is = carried (Wants (Touch c o) t) (name_at c o) n is (wants (Touch c o) t (name_at c o) (files_law.touch c o) (λ d. (refl, refl)) (files_law.touches (oid_text o)))
edits_one (Write c o at bytes) t n is = carried (Wants (Write c o at bytes) t) (name_at c o) n is (wants (Write c o at bytes) t (name_at c o) (files_law.write c o at bytes) (λ d. (refl, refl)) (files_law.writes (oid_text o) at bytes))
edits_one (Zero c o at len) t n is = carried (Wants (Zero c o at len) t) (name_at c o) n is (wants (Zero c o at len) t (name_at c o) (files_law.zero c o at len) (λ d. (refl, refl)) (files_law.zeroes (oid_text o) at len))
edits_one (Truncate c o len) t n is = carried (Wants (Truncate c o len) t) (name_at c o) n is (wants (Truncate c o len) t (name_at c o) (files_law.truncate c o len) (λ d. (refl, refl)) (files_law.truncates (oid_text o) len))
edits_one (Remove c o) t n is = carried (Wants (Remove c o) t) (name_at c o) n is (wants (Remove c o) t (name_at c o) (files_law.remove c o) (λ d. (refl, refl)) files_law.removes)
edits_one (SetAttrs c o pairs) t n is = carried (Wants (SetAttrs c o pairs) t) (name_at c o) n is (wants (SetAttrs c o pairs) t (name_at c o) (files_law.set_attrs c o pairs) (λ d. (refl, refl)) (files_law.sets_attrs (oid_text o) pairs))
edits_one (RmAttr c o name) t n is = carried (Wants (RmAttr c o name) t) (name_at c o) n is (wants (RmAttr c o name) t (name_at c o) (files_law.rm_attr c o name) (λ d. (refl, refl)) (files_law.removes_attr (oid_text o) name))
edits_one (RmAttrs c o) t n is = carried (Wants (RmAttrs c o) t) (name_at c o) n is (wants (RmAttrs c o) t (name_at c o) (files_law.rm_attrs c o) (λ d. (refl, refl)) (files_law.removes_attrs (oid_text o)))
edits_one (Clone c o c2 o2) t n is = absurd (none_is n is)
edits_one (CloneRange c o c2 o2 from len to) t n is = absurd (none_is n is)
edits_one (MoveRename c o c2 o2) t n is = absurd (none_is n is)
edits_one (MkColl c) t n is = absurd (none_is n is)
edits_one (RmColl c) t n is = absurd (none_is n is)
edits_one (OmapClear c o) t n is = absurd (none_is n is)
edits_one (OmapSet c o header pairs) t n is = absurd (none_is n is)
edits_one (OmapRemove c o keys) t n is = absurd (none_is n is)
edits_one (OmapRange c o from to) t n is = absurd (none_is n is)

-- it names the object's collection alone, and makes none
abbrev NamesOne : Op → Name → Type 0
NamesOne op n = (colls_named op ≡ n.coll ∷ []) × (made op ≡ [])

pub names_one : (op : Op) (n : Name) → edited op ≡ Some n → NamesOne op n
names_one (Touch c o) n is = carried (NamesOne (Touch c o)) (name_at c o) n is (refl, refl)
names_one (Write c o at bytes) n is = carried (NamesOne (Write c o at bytes)) (name_at c o) n is (refl, refl)
names_one (Zero c o at len) n is = carried (NamesOne (Zero c o at len)) (name_at c o) n is (refl, refl)
names_one (Truncate c o len) n is = carried (NamesOne (Truncate c o len)) (name_at c o) n is (refl, refl)
names_one (Remove c o) n is = carried (NamesOne (Remove c o)) (name_at c o) n is (refl, refl)
names_one (SetAttrs c o pairs) n is = carried (NamesOne (SetAttrs c o pairs)) (name_at c o) n is (refl, refl)
names_one (RmAttr c o name) n is = carried (NamesOne (RmAttr c o name)) (name_at c o) n is (refl, refl)
names_one (RmAttrs c o) n is = carried (NamesOne (RmAttrs c o)) (name_at c o) n is (refl, refl)
names_one (Clone c o c2 o2) n is = absurd (none_is n is)
names_one (CloneRange c o c2 o2 from len to) n is = absurd (none_is n is)
names_one (MoveRename c o c2 o2) n is = absurd (none_is n is)
names_one (MkColl c) n is = absurd (none_is n is)
names_one (RmColl c) n is = absurd (none_is n is)
names_one (OmapClear c o) n is = absurd (none_is n is)
names_one (OmapSet c o header pairs) n is = absurd (none_is n is)
names_one (OmapRemove c o keys) n is = absurd (none_is n is)
names_one (OmapRange c o from to) n is = absurd (none_is n is)

-- the collection that it names first is the object's
pub named_coll : (op : Op) (n : Name) → edited op ≡ Some n → (r : Coll × Option Coll) → first_and_second r ≡ colls_named op → r.0 ≡ n.coll
named_coll op n is r named = head r.0 n.coll (few r.1) [] (named ∙ (names_one op n is).0)
  where
    head : (a b : Coll) (more rest : List Coll) → a ∷ more ≡ b ∷ rest → a ≡ b
    head a b more rest e = cc

-- one of the eight operations on an object is on that object
abbrev IsOneOf : Op → Type 0
IsOneOf op =
    ((c : Coll) × (o : Oid) × (op ≡ Touch c o))
    ⊎ ((c : Coll) × (o : Oid) × (at : ℕ) × (bytes : List ℕ) × (op ≡ Write c o at bytes))
    ⊎ ((c : Coll) × (o : Oid) × (at : ℕ) × (len : ℕ) × (op ≡ Zero c o at len))
    ⊎ ((c : Coll) × (o : Oid) × (len : ℕ) × (op ≡ Truncate c o len))
    ⊎ ((c : Coll) × (o : Oid) × (op ≡ Remove c o))
    ⊎ ((c : Coll) × (o : Oid) × (pairs : List Pair) × (op ≡ SetAttrs c o pairs))
    ⊎ ((c : Coll) × (o : Oid) × (name : List ℕ) × (op ≡ RmAttr c o name))
    ⊎ ((c : Coll) × (o : Oid) × (op ≡ RmAttrs c o))

pub edits_of : (op : Op) → IsOneOf op → (n : Name) × (edited op ≡ Some n)
edits_of op (inl t) = (name_at t.0 t.1, ap edited t.2)
edits_of op (inr (inl t)) = (name_at t.0 t.1, ap edited t.4)
edits_of op (inr (inr (inl t))) = (name_at t.0 t.1, ap edited t.4)
edits_of op (inr (inr (inr (inl t)))) = (name_at t.0 t.1, ap edited t.3)
edits_of op (inr (inr (inr (inr (inl t))))) = (name_at t.0 t.1, ap edited t.2)
edits_of op (inr (inr (inr (inr (inr (inl t)))))) = (name_at t.0 t.1, ap edited t.3)
edits_of op (inr (inr (inr (inr (inr (inr (inl t))))))) = (name_at t.0 t.1, ap edited t.3)
edits_of op (inr (inr (inr (inr (inr (inr (inr t))))))) = (name_at t.0 t.1, ap edited t.2)
