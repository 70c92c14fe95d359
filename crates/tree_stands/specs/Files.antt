-- What operations make of an object's file.
use Rattle.std.specs.Prelude.{ℕ, ◌-◌, List, length, take, ◌++◌, slice_index_or, Option, Some, None}
use Rattle.std.specs.List.{fold}
use Rattle.fs_names.specs.declared.coll.Coll.{Coll}
use Rattle.fs_names.specs.declared.oid.Oid.{Oid}
use Rattle.fs_model.specs.declared.op.Op.TheVariants.{Touch, Write, Zero, Truncate, Remove, SetAttrs, RmAttr, RmAttrs}
use Rattle.fs_model.specs.declared.pair.Pair.{Pair}
use Rattle.tree_api.specs.Tree.{Version, written, zeros}
use Rattle.tree_api.specs.Passing.{with_attr}
use Rattle.object_file.specs.Attrs.{attr_name, object_part}
use Rattle.lfn_index.specs.Changes.{new_file}
use Rattle.fs_cells.specs.Parts.{touched, overwritten, resized, removed, attrs_set, attr_removed, attrs_removed}
use Rattle.tree_stands.specs.Trees.{name_at}
use Rattle.tree_stands.specs.Edits.{IsOn, Edits}

-- the file of an object with this text, made where there is none
abbrev pub or_new : List ℕ → Option Version → Version
or_new text None = new_file text
or_new text (Some v) = v

abbrev pub with_bytes : (List ℕ → List ℕ) → Version → Version
with_bytes f v = record v { bytes = f v.bytes }

abbrev pub cut : ℕ → List ℕ → List ℕ
cut len bytes = take len bytes ++ zeros (len - length bytes)

abbrev pub touched_file : List ℕ → Option Version → Option Version
touched_file text x = Some (or_new text x)

abbrev pub written_file : List ℕ → ℕ → List ℕ → Option Version → Option Version
written_file text at bytes x = Some (with_bytes (λ old. written old at bytes) (or_new text x))

abbrev pub cut_file : List ℕ → ℕ → Option Version → Option Version
cut_file text len x = Some (with_bytes (cut len) (or_new text x))

-- an object's attributes stand among its file's
abbrev pub set_pair : Version → Pair → Version
set_pair v p = with_attr (attr_name p.key) (Some p.value) v

abbrev pub attrs_file : List ℕ → List Pair → Option Version → Option Version
attrs_file text pairs x = Some (fold set_pair (or_new text x) pairs)

abbrev pub attr_gone_file : List ℕ → List ℕ → Option Version → Option Version
attr_gone_file text name x = Some (with_attr (attr_name name) None (or_new text x))

abbrev pub unless_ours : Option (List ℕ) → Option (List ℕ) → Option (List ℕ)
unless_ours None value = value
unless_ours (Some name) value = None

abbrev pub without_ours : Version → Version
without_ours v = record v { attr = λ k. unless_ours (object_part k) (v.attr k) }

abbrev pub attrs_gone_file : List ℕ → Option Version → Option Version
attrs_gone_file text x = Some (without_ours (or_new text x))

abbrev pub no_file : Option Version → Option Version
no_file x = None

pub record FilesLaw : Type 0 where
  -- which operations are on one object, and what they do to its parts
  pub touch : (c : Coll) (o : Oid) → IsOn (Touch c o) (name_at c o) touched
  pub write : (c : Coll) (o : Oid) (at : ℕ) (bytes : List ℕ)
      → IsOn (Write c o at bytes) (name_at c o) (overwritten at (length bytes) (λ i. slice_index_or bytes i 0))
  pub zero : (c : Coll) (o : Oid) (at len : ℕ) → IsOn (Zero c o at len) (name_at c o) (overwritten at len (λ i. 0))
  pub truncate : (c : Coll) (o : Oid) (len : ℕ) → IsOn (Truncate c o len) (name_at c o) (resized len)
  pub set_attrs : (c : Coll) (o : Oid) (pairs : List Pair) → IsOn (SetAttrs c o pairs) (name_at c o) (attrs_set pairs)
  pub rm_attr : (c : Coll) (o : Oid) (name : List ℕ) → IsOn (RmAttr c o name) (name_at c o) (attr_removed name)
  pub rm_attrs : (c : Coll) (o : Oid) → IsOn (RmAttrs c o) (name_at c o) attrs_removed
  pub remove : (c : Coll) (o : Oid) → IsOn (Remove c o) (name_at c o) removed
  -- what they make of its file
  pub touches : (text : List ℕ) (a : Option Version) → Edits touched a (touched_file text a)
  pub writes : (text : List ℕ) (at : ℕ) (bytes : List ℕ) (a : Option Version)
      → Edits (overwritten at (length bytes) (λ i. slice_index_or bytes i 0)) a (written_file text at bytes a)
  pub zeroes : (text : List ℕ) (at len : ℕ) (a : Option Version) → Edits (overwritten at len (λ i. 0)) a (written_file text at (zeros len) a)
  pub truncates : (text : List ℕ) (len : ℕ) (a : Option Version) → Edits (resized len) a (cut_file text len a)
  pub sets_attrs : (text : List ℕ) (pairs : List Pair) (a : Option Version) → Edits (attrs_set pairs) a (attrs_file text pairs a)
  pub removes_attr : (text name : List ℕ) (a : Option Version) → Edits (attr_removed name) a (attr_gone_file text name a)
  pub removes_attrs : (text : List ℕ) (a : Option Version) → Edits attrs_removed a (attrs_gone_file text a)
  pub removes : (a : Option Version) → Edits removed a (no_file a)
