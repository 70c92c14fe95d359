-- What operations make of an object's file is what they mean.
use Rattle.std.proofs.Common.{◌≡◌, inl, inr, ℕ, ◌-◌, Bool, true, false, cond, ◌||◌, List, [], ◌∷◌, length, get_or, refl, sym, ◌∙◌, ap, Option, Some, None}
use Rattle.std.specs.Prelude.{nat_le}
use Rattle.std.specs.List.{fold}
use Rattle.std.specs.Option.{option_or}
use Rattle.std.specs.Str.{bytes_eq}
use Rattle.std.proofs.lemmas.Map.Text.{is_eq-slice_cmp}
use Rattle.std.specs.FinMap as fin
use Rattle.fs_names.specs.declared.coll.Coll.{Coll}
use Rattle.fs_model.specs.declared.pair.Pair.{Pair}
use Rattle.fs_model.specs.Objects.{Object}
use Rattle.fs_model.specs.Rows.{overwrite}
use Rattle.tree_api.specs.Tree.{Version, written, zeros, file_of}
use Rattle.tree_api.specs.Passing.{with_attr}
use Rattle.lfn_index.specs.Changes.{new_file, long_file}
use Rattle.object_file.specs.Attrs.{attr_name}
use Rattle.replay_guard.specs.Guards.{guard_name}
use Rattle.replay_laws.specs.Replay.{sets, effect, moved}
use Rattle.fs_cells.specs.declared.cell.Cell.{Cell}
use Rattle.fs_cells.specs.declared.cell.Part.{Part}
use Rattle.fs_cells.specs.declared.cell.Part.TheVariants.{Exists, Length, Byte, Attr, OmapHeader, OmapKey}
use Rattle.fs_cells.specs.Values.{Value, flag, number, content, raise, absent}
use Rattle.fs_cells.specs.Parts.{CellAct, same_bytes, value_in as pair_value, touched, overwritten, resized, attrs_set, attr_removed, attrs_removed}
use Rattle.fs_cells.proofs.Parts.{write_row, zero_row, truncate_row, set_cell, gone_cell, or_else_twice}
use Rattle.fs_cells.proofs.Reading.{touched_plain, overwritten_plain, resized_plain, attrs_set_plain, attr_removed_plain, attrs_removed_plain}
use Rattle.tree_stands.specs.Shown.{part_in, value_in, guard_in}
use Rattle.tree_stands.specs.Files.{or_new, with_bytes, cut, set_pair, without_ours, FilesLaw}
use Rattle.tree_stands.proofs.Names.{coll_itself}

-- a new file has the cells of none, but for its existence, and no guard
pub record IsNew (v : Version) : Type 0 where
  pub bytes : v.bytes ≡ []
  pub attr : (k : List ℕ) → v.attr (attr_name k) ≡ None
  pub guard : v.attr guard_name ≡ None

short_is_new : IsNew (file_of [])
short_is_new = record { bytes = refl; attr = λ k. refl; guard = refl }

long_is_new : (text : List ℕ) → IsNew (long_file text)
long_is_new text = record { bytes = refl; attr = λ k. refl; guard = refl }

pub new_is_new : (text : List ℕ) → IsNew (new_file text)
new_is_new text = by (nat_le (length text) 200)
  where
    by : (b : Bool) → IsNew (cond b (file_of []) (long_file text))
    by true = short_is_new
    by false = long_is_new text

new_reads : (v : Version) → IsNew v → (p : Part) → (p ≡ Exists → ⊥) → part_in v p ≡ absent p
new_reads v new Exists isnt = absurd (isnt refl)
new_reads v new Length isnt = ap (λ (l : List ℕ). number (length l)) new.bytes
new_reads v new (Byte i) isnt = ap (λ (l : List ℕ). number (get_or l i 0)) new.bytes
new_reads v new (Attr k) isnt = ap content (new.attr k)
new_reads v new OmapHeader isnt = refl
new_reads v new (OmapKey k) isnt = refl

-- what a change makes of each part of a file that is there, where the cells are s
abbrev FileRow : (Version → Version) → (Part → CellAct) → (Cell → Value) → Type 0
FileRow f act s = (v : Version) (p : Part) → part_in (f v) p ≡ moved raise (effect (act p) s) (part_in v p)

-- and of a missing one, which it makes
made_file : (text : List ℕ) (f : Version → Version) (act : Part → CellAct) (s : Cell → Value) → act Exists ≡ sets (flag true) → FileRow f act s → (m : Option Version) (p : Part) → part_in (f (or_new text m)) p ≡ moved raise (effect (act p) s) (value_in m p)
made_file text f act s makes row (Some v) p = row v p
made_file text f act s makes row None Exists = sym (ap (λ (a : CellAct). moved raise (effect a s) (absent Exists)) makes)
made_file text f act s makes row None Length = row (new_file text) Length ∙ ap (moved raise (effect (act Length) s)) (new_reads (new_file text) (new_is_new text) Length (λ e. cc))
made_file text f act s makes row None (Byte i) = row (new_file text) (Byte i) ∙ ap (moved raise (effect (act (Byte i)) s)) (new_reads (new_file text) (new_is_new text) (Byte i) (λ e. cc))
made_file text f act s makes row None (Attr k) = row (new_file text) (Attr k) ∙ ap (moved raise (effect (act (Attr k)) s)) (new_reads (new_file text) (new_is_new text) (Attr k) (λ e. cc))
made_file text f act s makes row None OmapHeader = row (new_file text) OmapHeader
made_file text f act s makes row None (OmapKey k) = row (new_file text) (OmapKey k)

-- the bytes of a file as an object
abbrev bytes_object : Version → Object
bytes_object v = record { bytes = v.bytes; attrs = fin.empty; header = []; omap = fin.empty }

same_written : (old : List ℕ) (at : ℕ) (bytes : List ℕ) → written old at bytes ≡ overwrite old at bytes
same_written old at [] = refl
same_written old at (b ∷ bs) = refl

touch_file : (s : Cell → Value) → FileRow (λ v. v) touched s
touch_file s v Exists = refl
touch_file s v Length = refl
touch_file s v (Byte i) = refl
touch_file s v (Attr k) = refl
touch_file s v OmapHeader = refl
touch_file s v (OmapKey k) = refl

write_file : (at : ℕ) (bytes : List ℕ) (s : Cell → Value) → FileRow (with_bytes (λ old. written old at bytes)) (overwritten at (length bytes) (λ i. get_or bytes i 0)) s
write_file at bytes s v Exists = refl
write_file at bytes s v Length = ap (λ (l : List ℕ). number (length l)) (same_written v.bytes at bytes) ∙ write_row at bytes s (bytes_object v) Length
write_file at bytes s v (Byte i) = ap (λ (l : List ℕ). number (get_or l i 0)) (same_written v.bytes at bytes) ∙ write_row at bytes s (bytes_object v) (Byte i)
write_file at bytes s v (Attr k) = refl
write_file at bytes s v OmapHeader = refl
write_file at bytes s v (OmapKey k) = refl

zero_file : (at len : ℕ) (s : Cell → Value) → FileRow (with_bytes (λ old. written old at (zeros len))) (overwritten at len (λ i. 0)) s
zero_file at len s v Exists = refl
zero_file at len s v Length = ap (λ (l : List ℕ). number (length l)) (same_written v.bytes at (zeros len)) ∙ zero_row at len s (bytes_object v) Length
zero_file at len s v (Byte i) = ap (λ (l : List ℕ). number (get_or l i 0)) (same_written v.bytes at (zeros len)) ∙ zero_row at len s (bytes_object v) (Byte i)
zero_file at len s v (Attr k) = refl
zero_file at len s v OmapHeader = refl
zero_file at len s v (OmapKey k) = refl

cut_row : (len : ℕ) (s : Cell → Value) → FileRow (with_bytes (cut len)) (resized len) s
cut_row len s v Exists = refl
cut_row len s v Length = truncate_row len s (bytes_object v) Length
cut_row len s v (Byte i) = truncate_row len s (bytes_object v) (Byte i)
cut_row len s v (Attr k) = refl
cut_row len s v OmapHeader = refl
cut_row len s v (OmapKey k) = refl

text_same : (k name : List ℕ) → bytes_eq k name ≡ same_bytes k name
text_same k name = sym (is_eq-slice_cmp k name)

-- the last pair of a name counts
get_set : (v : Version) (pairs : List Pair) (k : List ℕ) → (fold set_pair v pairs).attr (attr_name k) ≡ option_or (pair_value pairs k) (v.attr (attr_name k))
get_set v [] k = refl
get_set v (p ∷ pairs) k =
    get_set (set_pair v p) pairs k
    ∙ ap (λ (t : Bool). option_or (pair_value pairs k) (cond t (Some p.value) (v.attr (attr_name k)))) (text_same k p.key)
    ∙ or_else_twice (pair_value pairs k) (same_bytes k p.key) p.value (v.attr (attr_name k))

set_bytes : (v : Version) (pairs : List Pair) → (fold set_pair v pairs).bytes ≡ v.bytes
set_bytes v [] = refl
set_bytes v (p ∷ pairs) = set_bytes (set_pair v p) pairs

set_guard : (v : Version) (pairs : List Pair) → (fold set_pair v pairs).attr guard_name ≡ v.attr guard_name
set_guard v [] = refl
set_guard v (p ∷ pairs) = set_guard (set_pair v p) pairs

set_attrs_file : (pairs : List Pair) (s : Cell → Value) → FileRow (λ v. fold set_pair v pairs) (attrs_set pairs) s
set_attrs_file pairs s v Exists = refl
set_attrs_file pairs s v Length = ap (λ (l : List ℕ). number (length l)) (set_bytes v pairs)
set_attrs_file pairs s v (Byte i) = ap (λ (l : List ℕ). number (get_or l i 0)) (set_bytes v pairs)
set_attrs_file pairs s v (Attr k) = ap content (get_set v pairs k) ∙ set_cell (pair_value pairs k) (v.attr (attr_name k)) s
set_attrs_file pairs s v OmapHeader = refl
set_attrs_file pairs s v (OmapKey k) = refl

rm_attr_file : (name : List ℕ) (s : Cell → Value) → FileRow (with_attr (attr_name name) None) (attr_removed name) s
rm_attr_file name s v Exists = refl
rm_attr_file name s v Length = refl
rm_attr_file name s v (Byte i) = refl
rm_attr_file name s v (Attr k) = ap (λ (t : Bool). content (cond t None (v.attr (attr_name k)))) (text_same k name) ∙ gone_cell (same_bytes k name) (v.attr (attr_name k)) s
rm_attr_file name s v OmapHeader = refl
rm_attr_file name s v (OmapKey k) = refl

rm_attrs_file : (s : Cell → Value) → FileRow without_ours attrs_removed s
rm_attrs_file s v Exists = refl
rm_attrs_file s v Length = refl
rm_attrs_file s v (Byte i) = refl
rm_attrs_file s v (Attr k) = refl
rm_attrs_file s v OmapHeader = refl
rm_attrs_file s v (OmapKey k) = refl

attrs_guard : (text : List ℕ) (f : Version → Version) → ((v : Version) → (f v).attr guard_name ≡ v.attr guard_name) → (a : Option Version) → guard_in (Some (f (or_new text a))) ≡ guard_in a
attrs_guard text f stays None = stays (new_file text) ∙ (new_is_new text).guard
attrs_guard text f stays (Some v) = stays v

guard_kept : (text : List ℕ) (f : List ℕ → List ℕ) (a : Option Version) → guard_in (Some (with_bytes f (or_new text a))) ≡ guard_in a
guard_kept text f None = (new_is_new text).guard
guard_kept text f (Some v) = refl

itself : (c : Coll) → (coll_is : Bool) → coll_is ≡ true → (coll_is || false) ≡ true
itself c coll_is is = ap (λ (t : Bool). t || false) is

pub files_law : FilesLaw
files_law = record {
  touch = λ c o. record { named = λ part. itself c _ (coll_itself c); acts = λ x. refl };
  write = λ c o at bytes. record { named = λ part. itself c _ (coll_itself c); acts = λ x. refl };
  zero = λ c o at len. record { named = λ part. itself c _ (coll_itself c); acts = λ x. refl };
  truncate = λ c o len. record { named = λ part. itself c _ (coll_itself c); acts = λ x. refl };
  set_attrs = λ c o pairs. record { named = λ part. itself c _ (coll_itself c); acts = λ x. refl };
  rm_attr = λ c o name. record { named = λ part. itself c _ (coll_itself c); acts = λ x. refl };
  rm_attrs = λ c o. record { named = λ part. itself c _ (coll_itself c); acts = λ x. refl };
  remove = λ c o. record { named = λ part. itself c _ (coll_itself c); acts = λ x. refl };
  touches = λ text a. record { no_copy = touched_plain; gives = λ part s. made_file text (λ v. v) touched s refl (touch_file s) a part; guard = inl (guard_kept text (λ l. l) a) };
  writes = λ text at bytes a. record {
    no_copy = overwritten_plain at (length bytes) (λ i. get_or bytes i 0);
    gives = λ part s. made_file text (with_bytes (λ old. written old at bytes)) (overwritten at (length bytes) (λ i. get_or bytes i 0)) s refl (write_file at bytes s) a part;
    guard = inl (guard_kept text (λ old. written old at bytes) a);
  };
  zeroes = λ text at len a. record {
    no_copy = overwritten_plain at len (λ i. 0);
    gives = λ part s. made_file text (with_bytes (λ old. written old at (zeros len))) (overwritten at len (λ i. 0)) s refl (zero_file at len s) a part;
    guard = inl (guard_kept text (λ old. written old at (zeros len)) a);
  };
  truncates = λ text len a. record {
    no_copy = resized_plain len;
    gives = λ part s. made_file text (with_bytes (cut len)) (resized len) s refl (cut_row len s) a part;
    guard = inl (guard_kept text (cut len) a);
  };
  sets_attrs = λ text pairs a. record {
    no_copy = attrs_set_plain pairs;
    gives = λ part s. made_file text (λ v. fold set_pair v pairs) (attrs_set pairs) s refl (set_attrs_file pairs s) a part;
    guard = inl (attrs_guard text (λ v. fold set_pair v pairs) (λ v. set_guard v pairs) a);
  };
  removes_attr = λ text name a. record {
    no_copy = attr_removed_plain name;
    gives = λ part s. made_file text (with_attr (attr_name name) None) (attr_removed name) s refl (rm_attr_file name s) a part;
    guard = inl (attrs_guard text (with_attr (attr_name name) None) (λ v. refl) a);
  };
  removes_attrs = λ text a. record {
    no_copy = attrs_removed_plain;
    gives = λ part s. made_file text without_ours attrs_removed s refl (rm_attrs_file s) a part;
    guard = inl (attrs_guard text without_ours (λ v. refl) a);
  };
  removes = λ a. record { no_copy = λ part y is. is; gives = λ part s. refl; guard = inr (refl, λ part. (absent part, refl)) };
}
