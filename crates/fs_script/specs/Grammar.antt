-- The grammar of scripts: lines, transactions, and the first refused line.
use Rattle.std.specs.Prelude.{◌≡◌, ℕ, ◌+◌, Bool, true, ◌==◌, nat_lt, if◌then◌else◌, List, [], ◌∷◌, length, Option, None, Some, is_some, Result, Ok, Err}
use Rattle.std.specs.List.{slice_split}
use Rattle.fs_script.specs.declared.keyword.Keyword.{Keyword}
use Rattle.fs_script.specs.declared.statement.Statement.{Statement}
use Rattle.fs_script.specs.declared.statement.Statement.TheVariants.{Begin, End}
use Rattle.fs_script.specs.declared.statement.Line.{Line}
use Rattle.fs_script.specs.declared.fault.LineFault.{LineFault}
use Rattle.fs_script.specs.declared.fault.LineFault.TheVariants.{Bad, Memory}
use Rattle.fs_script.specs.declared.fault.ScriptFault.{ScriptFault}
use Rattle.fs_script.specs.declared.fault.ScriptFault.TheVariants.{Line as RefusedLine, Memory as NoMemory}
use Rattle.fs_script.specs.declared.fault.ScriptWhy.{ScriptWhy}
use Rattle.fs_script.specs.declared.fault.ScriptWhy.TheVariants.{UnknownWord, NoEnd, TooLong}
use Rattle.fs_script.specs.Reading.{Reading}
use Rattle.fs_script.specs.Words.{words_of}
use Rattle.fs_script.specs.Keywords.{keyword_of, misplaced, keyword_said}

-- lines

-- a statement, if its word may stand here
abbrev pub unless_misplaced : Option ScriptWhy → Reading Statement → Reading Statement
unless_misplaced None said = said
unless_misplaced (Some why) said = Err why

abbrev pub known_said : Bool → Option Keyword → List (List ℕ) → Reading Statement
known_said inside None words = Err UnknownWord
known_said inside (Some keyword) words = unless_misplaced (misplaced inside keyword) (keyword_said keyword words)

-- by the words of a line, inside a transaction or not
unfoldable pub statement_said : Bool → List (List ℕ) → Reading Statement
statement_said inside [] = Err UnknownWord
statement_said inside (word ∷ words) = known_said inside (keyword_of word) words

-- an empty line and one that begins with `#` say nothing
abbrev pub says_nothing : List ℕ → Bool
says_nothing [] = true
says_nothing (b ∷ _) = b == 35

abbrev pub line_said : Bool → List ℕ → Option (Reading Statement)
line_said inside line = if says_nothing line then None else Some (statement_said inside (words_of line))

-- what a call answers of a line, but for want of memory
abbrev pub TellsLine : Option (Reading Statement) → Result (Option Statement) LineFault → Type 0
TellsLine said (Ok None) = said ≡ None
TellsLine said (Ok (Some statement)) = said ≡ Some (Ok statement)
TellsLine said (Err (Bad why)) = said ≡ Some (Err why)
TellsLine said (Err Memory) = Unit {0}

-- transactions: the line of the `begin` that has no `end` yet

abbrev pub opened_by : ℕ → Option ℕ → Statement → Option ℕ
opened_by number opened Begin = Some number
opened_by number opened End = None
opened_by number opened _ = opened

abbrev pub opened_after : ℕ → Option ℕ → Option Statement → Option ℕ
opened_after number opened None = opened
opened_after number opened (Some statement) = opened_by number opened statement

-- scripts: the lines that say something, with their numbers, or the first refused line

pub record Refused : Type 0 where
  pub line : ℕ
  pub why : ScriptWhy

abbrev pub before_lines : Line → Result (List Line) Refused → Result (List Line) Refused
before_lines line (Ok lines) = Ok (line ∷ lines)
before_lines line (Err refused) = Err refused

-- the line of a statement, if there is one
abbrev pub line_if : ℕ → Option Statement → List Line
line_if number None = []
line_if number (Some statement) = record { number = number; statement = statement } ∷ []

-- what a line says, and those behind it, from the transaction on that it leaves open
abbrev pub with_line : ℕ → Option ℕ → Option (Reading Statement) → (Option ℕ → Result (List Line) Refused) → Result (List Line) Refused
with_line number opened None rest = rest opened
with_line number opened (Some (Err why)) rest = Err (record { line = number; why = why })
with_line number opened (Some (Ok statement)) rest =
    before_lines (record { number = number; statement = statement }) (rest (opened_by number opened statement))

-- behind the last line
abbrev pub ended : List Line → Option ℕ → Result (List Line) Refused
ended lines None = Ok lines
ended lines (Some begin) = Err (record { line = begin; why = NoEnd })

abbrev pub lines_said : ℕ → Option ℕ → List (List ℕ) → Result (List Line) Refused
lines_said number opened [] = ended [] opened
lines_said number opened (line ∷ lines) = with_line number opened (line_said (is_some opened) line) (λ opened. lines_said (number + 1) opened lines)

-- the most bytes of a script
abbrev pub script_limit : ℕ
script_limit = 67108864

unfoldable pub script_said : List ℕ → Result (List Line) Refused
script_said bytes =
    if nat_lt script_limit (length bytes) then Err (record { line = 0; why = TooLong })
    else lines_said 1 None (slice_split (λ b. b == 10) bytes)

-- what a call answers of a script, but for want of memory
abbrev pub TellsScript : Result (List Line) Refused → Result (List Line) ScriptFault → Type 0
TellsScript said (Ok lines) = said ≡ Ok lines
TellsScript said (Err (RefusedLine line why)) = said ≡ Err (record { line = line; why = why })
TellsScript said (Err NoMemory) = Unit {0}
