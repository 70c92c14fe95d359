-- What the statements of operations say, by the words after the first.
use Rattle.std.specs.Prelude.{ℕ, List, Ok}
use Rattle.fs_model.specs.declared.op.Op.{Op}
use Rattle.fs_model.specs.declared.op.Op.TheVariants.{Touch, Write, Zero, Truncate, Remove, SetAttrs, RmAttr, RmAttrs, Clone, CloneRange, MoveRename, MkColl, RmColl, OmapClear, OmapSet, OmapRemove, OmapRange}
use Rattle.fs_script.specs.Reading.{Reading, ◌>>=◌}
use Rattle.fs_script.specs.Fields.{coll_field, object_field, number_field, bytes_field, header_field, key_fields, pair_fields}
use Rattle.fs_script.specs.Words.{one_word, two_words, three_words, five_words, first_word, some_word, paired}

abbrev pub touch_said : List (List ℕ) → Reading Op
touch_said words = do
  word ← one_word words
  place ← object_field word
  Ok (Touch place.0 place.1)

abbrev pub write_said : List (List ℕ) → Reading Op
write_said words = do
  word ← three_words words
  place ← object_field word.0
  at ← number_field word.1
  bytes ← bytes_field word.2
  Ok (Write place.0 place.1 at bytes)

abbrev pub zero_said : List (List ℕ) → Reading Op
zero_said words = do
  word ← three_words words
  place ← object_field word.0
  at ← number_field word.1
  len ← number_field word.2
  Ok (Zero place.0 place.1 at len)

abbrev pub truncate_said : List (List ℕ) → Reading Op
truncate_said words = do
  word ← two_words words
  place ← object_field word.0
  len ← number_field word.1
  Ok (Truncate place.0 place.1 len)

abbrev pub remove_said : List (List ℕ) → Reading Op
remove_said words = do
  word ← one_word words
  place ← object_field word
  Ok (Remove place.0 place.1)

abbrev pub setattr_said : List (List ℕ) → Reading Op
setattr_said words = do
  word ← first_word words
  _ ← some_word word.1
  _ ← paired word.1
  place ← object_field word.0
  pairs ← pair_fields word.1
  Ok (SetAttrs place.0 place.1 pairs)

abbrev pub rmattr_said : List (List ℕ) → Reading Op
rmattr_said words = do
  word ← two_words words
  place ← object_field word.0
  name ← bytes_field word.1
  Ok (RmAttr place.0 place.1 name)

abbrev pub rmattrs_said : List (List ℕ) → Reading Op
rmattrs_said words = do
  word ← one_word words
  place ← object_field word
  Ok (RmAttrs place.0 place.1)

abbrev pub clone_said : List (List ℕ) → Reading Op
clone_said words = do
  word ← two_words words
  place ← object_field word.0
  target ← object_field word.1
  Ok (Clone place.0 place.1 target.0 target.1)

abbrev pub clonerange_said : List (List ℕ) → Reading Op
clonerange_said words = do
  word ← five_words words
  place ← object_field word.0
  target ← object_field word.1
  from ← number_field word.2
  len ← number_field word.3
  to ← number_field word.4
  Ok (CloneRange place.0 place.1 target.0 target.1 from len to)

abbrev pub move_said : List (List ℕ) → Reading Op
move_said words = do
  word ← two_words words
  place ← object_field word.0
  target ← object_field word.1
  Ok (MoveRename place.0 place.1 target.0 target.1)

abbrev pub mkcoll_said : List (List ℕ) → Reading Op
mkcoll_said words = do
  word ← one_word words
  c ← coll_field word
  Ok (MkColl c)

abbrev pub rmcoll_said : List (List ℕ) → Reading Op
rmcoll_said words = do
  word ← one_word words
  c ← coll_field word
  Ok (RmColl c)

abbrev pub omapclear_said : List (List ℕ) → Reading Op
omapclear_said words = do
  word ← one_word words
  place ← object_field word
  Ok (OmapClear place.0 place.1)

abbrev pub omapset_said : List (List ℕ) → Reading Op
omapset_said words = do
  word ← first_word words
  more ← first_word word.1
  _ ← paired more.1
  place ← object_field word.0
  header ← header_field more.0
  pairs ← pair_fields more.1
  Ok (OmapSet place.0 place.1 header pairs)

abbrev pub omaprm_said : List (List ℕ) → Reading Op
omaprm_said words = do
  word ← first_word words
  _ ← some_word word.1
  place ← object_field word.0
  keys ← key_fields word.1
  Ok (OmapRemove place.0 place.1 keys)

abbrev pub omaprange_said : List (List ℕ) → Reading Op
omaprange_said words = do
  word ← three_words words
  place ← object_field word.0
  from ← bytes_field word.1
  to ← bytes_field word.2
  Ok (OmapRange place.0 place.1 from to)
