-- What the other statements say, by the words after the first.
use Rattle.std.specs.Prelude.{ℕ, List, Ok}
use Rattle.fs_script.specs.declared.statement.Statement.{Statement}
use Rattle.fs_script.specs.declared.statement.Statement.TheVariants.{Begin, End, Drain, Read, Stat, Attrs, Omap, List as ListIn, Colls, Acked}
use Rattle.fs_script.specs.Reading.{Reading, ◌>>=◌}
use Rattle.fs_script.specs.Fields.{coll_field, object_field, number_field, small_field, cursor_field}
use Rattle.fs_script.specs.Words.{no_word, one_word, three_words}

-- a statement that is one word
abbrev pub alone_said : Statement → List (List ℕ) → Reading Statement
alone_said statement words = do
  _ ← no_word words
  Ok statement

abbrev pub begin_said : List (List ℕ) → Reading Statement
begin_said = alone_said Begin

abbrev pub end_said : List (List ℕ) → Reading Statement
end_said = alone_said End

abbrev pub drain_said : List (List ℕ) → Reading Statement
drain_said = alone_said Drain

abbrev pub read_said : List (List ℕ) → Reading Statement
read_said words = do
  word ← three_words words
  place ← object_field word.0
  at ← number_field word.1
  len ← number_field word.2
  Ok (Read place.0 place.1 at len)

abbrev pub stat_said : List (List ℕ) → Reading Statement
stat_said words = do
  word ← one_word words
  place ← object_field word
  Ok (Stat place.0 place.1)

abbrev pub attrs_said : List (List ℕ) → Reading Statement
attrs_said words = do
  word ← one_word words
  place ← object_field word
  Ok (Attrs place.0 place.1)

abbrev pub omap_said : List (List ℕ) → Reading Statement
omap_said words = do
  word ← one_word words
  place ← object_field word
  Ok (Omap place.0 place.1)

abbrev pub list_said : List (List ℕ) → Reading Statement
list_said words = do
  word ← three_words words
  c ← coll_field word.0
  cursor ← cursor_field word.1
  max ← small_field word.2
  Ok (ListIn c cursor max)

abbrev pub colls_said : List (List ℕ) → Reading Statement
colls_said = alone_said Colls

abbrev pub acked_said : List (List ℕ) → Reading Statement
acked_said = alone_said Acked
