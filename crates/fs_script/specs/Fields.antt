-- What a field of a statement says, or why it is refused.
use Rattle.std.specs.Prelude.{◌≡◌, ℕ, ◌^◌, ◌==◌, nat_lt, if◌then◌else◌, List, [], ◌∷◌, Option, None, Some, Result, Ok, Err, codes}
use Rattle.std.specs.List.{slice_split}
use Rattle.std.specs.Option.{ok_or}
use Rattle.std.specs.Result.{result_ok}
use Rattle.std.specs.Str.{bytes_eq}
use Rattle.std.specs.Borrow.{Bor}
use Rattle.fs_names.specs.declared.coll.Coll.{Coll}
use Rattle.fs_names.specs.declared.oid.Oid.{Oid}
use Rattle.fs_names.specs.Numbers.{number_of}
use Rattle.fs_names.specs.Reading.{coll_of, oid_of}
use Rattle.fs_model.specs.declared.pair.Pair.{Pair}
use Rattle.hash_order.specs.declared.cursor.Cursor.{Cursor}
use Rattle.hash_order.specs.declared.cursor.Cursor.TheVariants.{Start, At}
use Rattle.fs_script.specs.declared.fault.LineFault.{LineFault}
use Rattle.fs_script.specs.declared.fault.LineFault.TheVariants.{Bad, Memory}
use Rattle.fs_script.specs.declared.fault.ScriptWhy.TheVariants.{WrongCount, BadCollection, BadObject, BadNumber, BadBytes}
use Rattle.fs_script.specs.Bytes.{bytes_of}
use Rattle.fs_script.specs.Reading.{Reading, ◌>>=◌}
use Rattle.fs_script.specs.Words.{words_of, pieces_left}

-- the text of a collection
abbrev pub coll_field : List ℕ → Reading Coll
coll_field word = ok_or (coll_of word) BadCollection

-- the text of an object's name
abbrev pub name_field : List ℕ → Reading Oid
name_field word = ok_or (result_ok (oid_of word)) BadObject

-- the place of an object: the text of its collection, `/` and the text of its name
abbrev pub placed : Option Coll → Option Oid → Reading (Coll × Oid)
placed (Some c) (Some o) = Ok (c, o)
placed _ _ = Err BadObject

abbrev pub object_parts : List (List ℕ) → Reading (Coll × Oid)
object_parts (c ∷ o ∷ []) = placed (coll_of c) (result_ok (oid_of o))
object_parts _ = Err BadObject

abbrev pub object_field : List ℕ → Reading (Coll × Oid)
object_field word = object_parts (slice_split (λ b. b == 47) word)

abbrev pub number_field : List ℕ → Reading ℕ
number_field word = ok_or (number_of 10 word) BadNumber

abbrev pub below : ℕ → ℕ → Reading ℕ
below limit n = if nat_lt n limit then Ok n else Err BadNumber

abbrev pub small_field : List ℕ → Reading ℕ
small_field word = number_field word >>= below (2 ^ 32)

abbrev pub bytes_field : List ℕ → Reading (List ℕ)
bytes_field word = ok_or (bytes_of word) BadBytes

-- `-`, or what another field says
abbrev pub dash_or : {A : Type 0} → A → List ℕ → Reading A → Reading A
dash_or dash word said = if bytes_eq word (codes "-") then Ok dash else said

-- where a listing begins
abbrev pub cursor_field : List ℕ → Reading Cursor
cursor_field word = dash_or Start word (name_field word >>= λ oid. Ok (At oid))

-- an omap header, or none
abbrev pub header_field : List ℕ → Reading (Option (List ℕ))
header_field word = dash_or None word (bytes_field word >>= λ bytes. Ok (Some bytes))

-- one more before those of the words behind
abbrev pub before_fields : {A : Type 0} → A → Reading (List A) → Reading (List A)
before_fields x (Ok xs) = Ok (x ∷ xs)
before_fields x (Err why) = Err why

unfoldable pub key_fields : List (List ℕ) → Reading (List (List ℕ))
key_fields [] = Ok []
key_fields (word ∷ words) = bytes_field word >>= λ key. before_fields key (key_fields words)

abbrev pub pair_field : List ℕ → List ℕ → Reading Pair
pair_field first second = do
  key ← bytes_field first
  value ← bytes_field second
  Ok (record { key = key; value = value })

unfoldable pub pair_fields : List (List ℕ) → Reading (List Pair)
pair_fields [] = Ok []
pair_fields (word ∷ []) = Err WrongCount
pair_fields (first ∷ second ∷ words) = pair_field first second >>= λ pair. before_fields pair (pair_fields words)

-- what a call answers of the first field of a text, but for want of memory
abbrev pub TellsFirst : {A : Type 0} → (List (List ℕ) → Reading (List A)) → List ℕ → Result (A × Option (Bor (List ℕ))) LineFault → Type 0
TellsFirst fields text (Ok w) = fields (words_of text) ≡ before_fields w.0 (fields (pieces_left 32 w.1))
TellsFirst fields text (Err (Bad why)) = fields (words_of text) ≡ Err why
TellsFirst fields text (Err Memory) = Unit {0}
