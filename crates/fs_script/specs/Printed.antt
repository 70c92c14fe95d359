-- The lines that answers and refusals print.
use Rattle.std.specs.Prelude.{ℕ, List, [], ◌∷◌, ◌++◌, length, Option, None, Some, codes}
use Rattle.std.specs.List.{flat_map}
use Rattle.std.specs.Fmt.{decimal}
use Rattle.fs_names.specs.declared.oid.Oid.{Oid}
use Rattle.fs_names.specs.Text.{oid_text, coll_text}
use Rattle.fs_model.specs.declared.op.Why.{Why}
use Rattle.fs_model.specs.declared.op.Why.TheVariants.{Empty, NoCollection, CollectionExists, SameObject, TooBig, TooMany}
use Rattle.fs_model.specs.declared.pair.Pair.{Pair}
use Rattle.fs_script.specs.declared.answer.Answer.{Answer}
use Rattle.fs_script.specs.declared.answer.Answer.TheVariants.{Queued, RefusedOp, NotBuilt, TooLarge, QueueFull, NumbersSpent, Drained, Bytes, Size, Attrs, Omap, Listed, Colls, Acked, Missing}
use Rattle.fs_script.specs.declared.fault.ScriptWhy.{ScriptWhy}
use Rattle.fs_script.specs.declared.fault.ScriptWhy.TheVariants.{UnknownWord, NotInTransaction, EndWithoutBegin, WrongCount, BadCollection, BadObject, BadNumber, BadBytes, NoEnd, TooLong}
use Rattle.fs_script.specs.Bytes.{bytes_text}

-- the text and a newline
abbrev pub line_text : List ℕ → List ℕ
line_text text = text ++ 10 ∷ []

abbrev pub why_text : Why → List ℕ
why_text Empty = codes "empty"
why_text NoCollection = codes "no collection"
why_text CollectionExists = codes "collection exists"
why_text SameObject = codes "same object"
why_text TooBig = codes "too big"
why_text TooMany = codes "too many"

abbrev pub next_text : Option Oid → List ℕ
next_text None = codes "end"
next_text (Some oid) = codes "next " ++ oid_text oid

-- a word, then a pair
abbrev pub pair_text : List ℕ → Pair → List ℕ
pair_text word pair = word ++ bytes_text pair.key ++ codes " " ++ bytes_text pair.value

abbrev pub pairs_text : List ℕ → List Pair → List ℕ
pairs_text word pairs = flat_map (λ pair. line_text (pair_text word pair)) pairs

-- the header and the number of pairs
abbrev pub omap_text : List ℕ → ℕ → List ℕ
omap_text header count = line_text (codes "omap " ++ bytes_text header ++ codes " " ++ decimal count)

unfoldable pub answer_text : Answer → List ℕ
answer_text (Queued seq) = line_text (codes "queued " ++ decimal seq)
answer_text (RefusedOp op why) = line_text (codes "refused op " ++ decimal op ++ codes " " ++ why_text why)
answer_text NotBuilt = line_text (codes "refused not built")
answer_text (TooLarge need size) = line_text (codes "refused too large " ++ decimal need ++ codes " " ++ decimal size)
answer_text QueueFull = line_text (codes "refused queue full")
answer_text NumbersSpent = line_text (codes "refused numbers spent")
answer_text (Drained acked seq) = line_text (codes "ack " ++ decimal acked) ++ line_text (codes "drained " ++ decimal seq)
answer_text (Bytes bytes) = line_text (codes "data " ++ bytes_text bytes)
answer_text (Size size) = line_text (codes "size " ++ decimal size)
answer_text (Attrs pairs) = line_text (codes "attrs " ++ decimal (length pairs)) ++ pairs_text (codes "attr ") pairs
answer_text (Omap header pairs) = omap_text header (length pairs) ++ pairs_text (codes "pair ") pairs
answer_text (Listed oids next) =
    line_text (codes "list " ++ decimal (length oids)) ++ flat_map (λ oid. line_text (oid_text oid)) oids ++ line_text (next_text next)
answer_text (Colls colls) = line_text (codes "colls " ++ decimal (length colls)) ++ flat_map (λ c. line_text (coll_text c)) colls
answer_text (Acked acked) = line_text (codes "acked " ++ decimal acked)
answer_text Missing = line_text (codes "none")

abbrev pub script_why_text : ScriptWhy → List ℕ
script_why_text UnknownWord = codes "unknown word"
script_why_text NotInTransaction = codes "not in a transaction"
script_why_text EndWithoutBegin = codes "end without begin"
script_why_text WrongCount = codes "wrong count"
script_why_text BadCollection = codes "bad collection"
script_why_text BadObject = codes "bad object"
script_why_text BadNumber = codes "bad number"
script_why_text BadBytes = codes "bad bytes"
script_why_text NoEnd = codes "no end"
script_why_text TooLong = codes "too long"

unfoldable pub refusal_text : ℕ → ScriptWhy → List ℕ
refusal_text line why = line_text (codes "script: line " ++ decimal line ++ codes ": " ++ script_why_text why)
