-- The first words of statements, and where they may stand.
use Rattle.std.specs.Prelude.{ℕ, Bool, true, false, if◌then◌else◌, List, Option, None, Some, Ok, codes}
use Rattle.std.specs.Str.{bytes_eq}
use Rattle.fs_model.specs.declared.op.Op.{Op}
use Rattle.fs_script.specs.declared.keyword.OpWord.{OpWord}
use Rattle.fs_script.specs.declared.keyword.OpWord.TheVariants as op_word
use Rattle.fs_script.specs.declared.keyword.Keyword.{Keyword}
use Rattle.fs_script.specs.declared.keyword.Keyword.TheVariants.{Op as OpIn, Begin, End, Drain, Read, Stat, Attrs, Omap, List as ListIn, Colls, Acked}
use Rattle.fs_script.specs.declared.statement.Statement.{Statement}
use Rattle.fs_script.specs.declared.statement.Statement.TheVariants.{Do}
use Rattle.fs_script.specs.declared.fault.ScriptWhy.{ScriptWhy}
use Rattle.fs_script.specs.declared.fault.ScriptWhy.TheVariants.{NotInTransaction, EndWithoutBegin}
use Rattle.fs_script.specs.Reading.{Reading, ◌>>=◌}
use Rattle.fs_script.specs.Operations.{touch_said, write_said, zero_said, truncate_said, remove_said, setattr_said, rmattr_said, rmattrs_said, clone_said, clonerange_said, move_said, mkcoll_said, rmcoll_said, omapclear_said, omapset_said, omaprm_said, omaprange_said}
use Rattle.fs_script.specs.Statements.{begin_said, end_said, drain_said, read_said, stat_said, attrs_said, omap_said, list_said, colls_said, acked_said}

-- the operation of this word
unfoldable pub op_word_of : List ℕ → Option OpWord
op_word_of word =
    if bytes_eq word (codes "touch") then Some op_word.Touch
    else if bytes_eq word (codes "write") then Some op_word.Write
    else if bytes_eq word (codes "zero") then Some op_word.Zero
    else if bytes_eq word (codes "truncate") then Some op_word.Truncate
    else if bytes_eq word (codes "remove") then Some op_word.Remove
    else if bytes_eq word (codes "setattr") then Some op_word.SetAttr
    else if bytes_eq word (codes "rmattr") then Some op_word.RmAttr
    else if bytes_eq word (codes "rmattrs") then Some op_word.RmAttrs
    else if bytes_eq word (codes "clone") then Some op_word.Clone
    else if bytes_eq word (codes "clonerange") then Some op_word.CloneRange
    else if bytes_eq word (codes "move") then Some op_word.Move
    else if bytes_eq word (codes "mkcoll") then Some op_word.MkColl
    else if bytes_eq word (codes "rmcoll") then Some op_word.RmColl
    else if bytes_eq word (codes "omapclear") then Some op_word.OmapClear
    else if bytes_eq word (codes "omapset") then Some op_word.OmapSet
    else if bytes_eq word (codes "omaprm") then Some op_word.OmapRm
    else if bytes_eq word (codes "omaprange") then Some op_word.OmapRange
    else None

-- the statement of this word, where it is no operation
unfoldable pub other_word_of : List ℕ → Option Keyword
other_word_of word =
    if bytes_eq word (codes "begin") then Some Begin
    else if bytes_eq word (codes "end") then Some End
    else if bytes_eq word (codes "drain") then Some Drain
    else if bytes_eq word (codes "read") then Some Read
    else if bytes_eq word (codes "stat") then Some Stat
    else if bytes_eq word (codes "attrs") then Some Attrs
    else if bytes_eq word (codes "omap") then Some Omap
    else if bytes_eq word (codes "list") then Some ListIn
    else if bytes_eq word (codes "colls") then Some Colls
    else if bytes_eq word (codes "acked") then Some Acked
    else None

abbrev pub op_or : Option OpWord → Option Keyword → Option Keyword
op_or None other = other
op_or (Some op) other = Some (OpIn op)

unfoldable pub keyword_of : List ℕ → Option Keyword
keyword_of word = op_or (op_word_of word) (other_word_of word)

-- Between `begin` and `end` stand operations alone, and `end` stands nowhere else.
abbrev pub misplaced : Bool → Keyword → Option ScriptWhy
misplaced inside (OpIn op) = None
misplaced true End = None
misplaced false End = Some EndWithoutBegin
misplaced true _ = Some NotInTransaction
misplaced false _ = None

unfoldable pub op_said : OpWord → List (List ℕ) → Reading Op
op_said op_word.Touch words = touch_said words
op_said op_word.Write words = write_said words
op_said op_word.Zero words = zero_said words
op_said op_word.Truncate words = truncate_said words
op_said op_word.Remove words = remove_said words
op_said op_word.SetAttr words = setattr_said words
op_said op_word.RmAttr words = rmattr_said words
op_said op_word.RmAttrs words = rmattrs_said words
op_said op_word.Clone words = clone_said words
op_said op_word.CloneRange words = clonerange_said words
op_said op_word.Move words = move_said words
op_said op_word.MkColl words = mkcoll_said words
op_said op_word.RmColl words = rmcoll_said words
op_said op_word.OmapClear words = omapclear_said words
op_said op_word.OmapSet words = omapset_said words
op_said op_word.OmapRm words = omaprm_said words
op_said op_word.OmapRange words = omaprange_said words

-- an operation as a statement
abbrev pub done : Reading Op → Reading Statement
done said = said >>= λ op. Ok (Do op)

unfoldable pub keyword_said : Keyword → List (List ℕ) → Reading Statement
keyword_said (OpIn op) words = done (op_said op words)
keyword_said Begin words = begin_said words
keyword_said End words = end_said words
keyword_said Drain words = drain_said words
keyword_said Read words = read_said words
keyword_said Stat words = stat_said words
keyword_said Attrs words = attrs_said words
keyword_said Omap words = omap_said words
keyword_said ListIn words = list_said words
keyword_said Colls words = colls_said words
keyword_said Acked words = acked_said words
