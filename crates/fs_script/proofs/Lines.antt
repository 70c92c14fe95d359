-- The lines of a script so far, and those that are left.
use Rattle.std.proofs.Common.{◌≡◌, ℕ, ◌+◌, ◌<◌, ◌≤◌, Bool, List, [], ◌∷◌, ◌++◌, length, refl, sym, ◌∙◌, ap, subst, arith, append_assoc}
use mathlib.Core.List.{append-nil}
use Rattle.std.specs.Prelude.{Result, Ok, Err, Option, None, Some, ◌==◌, IfSome, is_some}
use Rattle.std.specs.List.{slice_split}
use Rattle.std.specs.Borrow.{Bor}
use Rattle.fs_script.specs.declared.statement.Line.{Line}
use Rattle.fs_script.specs.declared.statement.Statement.{Statement}
use Rattle.fs_script.specs.Reading.{Reading}
use Rattle.fs_script.specs.Words.{pieces_left}
use Rattle.fs_script.specs.Grammar.{Refused, TellsLine, line_said, line_if, lines_said, opened_after, with_line, before_lines, ended}
use Rattle.fs_script.proofs.Cuts.{left_of}

-- the lines so far, and then what the others say
abbrev pub after_lines : List Line → Result (List Line) Refused → Result (List Line) Refused
after_lines lines (Ok more) = Ok (lines ++ more)
after_lines lines (Err refused) = Err refused

pub record SoFar (text : List ℕ) (lines : List Line) (number : ℕ) (opened : Option ℕ) (rest : Option (Bor (List ℕ))) : Type 0 where
  pub said : lines_said 1 None (slice_split (λ b. b == 10) text) ≡ after_lines lines (lines_said number opened (pieces_left 10 rest))
  pub counted : number + left_of rest ≤ length text + 2

pub before-any : (r : Result (List Line) Refused) → r ≡ after_lines [] r
before-any (Ok lines) = refl
before-any (Err refused) = refl

-- behind the last line
pub after_ended : (lines : List Line) (opened : Option ℕ) → after_lines lines (ended [] opened) ≡ ended lines opened
after_ended lines None = ap Ok (append-nil lines)
after_ended lines (Some begin) = refl

after_one_more : (lines : List Line) (line : Line) (r : Result (List Line) Refused) → after_lines lines (before_lines line r) ≡ after_lines (lines ++ line ∷ []) r
after_one_more lines line (Ok more) = ap Ok (sym (append_assoc lines (line ∷ []) more))
after_one_more lines line (Err refused) = refl

tells-line : (number : ℕ) (opened : Option ℕ) (said : Option (Reading Statement)) (o : Option Statement) → TellsLine said (Ok o)
    → (lines : List Line) (rest : Option ℕ → Result (List Line) Refused)
    → after_lines lines (with_line number opened said rest) ≡ after_lines (lines ++ line_if number o) (rest (opened_after number opened o))
tells-line number opened said None h lines rest =
    ap (λ (s : Option (Reading Statement)). after_lines lines (with_line number opened s rest)) h
    ∙ ap (λ (l : List Line). after_lines l (rest opened)) (sym (append-nil lines))
tells-line number opened said (Some statement) h lines rest =
    ap (λ (s : Option (Reading Statement)). after_lines lines (with_line number opened s rest)) h
    ∙ after_one_more lines (record { number = number; statement = statement }) (rest (opened_after number opened (Some statement)))

-- one line more was read
pub one-more : (text : List ℕ) (lines new : List Line) (number : ℕ) (opened after : Option ℕ) (old : Option (Bor (List ℕ))) (here : Bor (List ℕ)) (first : List ℕ) (rest : Option (Bor (List ℕ))) (inside : Bool) (o : Option Statement)
    → SoFar text lines number opened old → old ≡ Some here → slice_split (λ b. b == 10) here.now ≡ first ∷ pieces_left 10 rest
    → IfSome rest (λ r. length r.now < length here.now) → inside ≡ is_some opened
    → TellsLine (line_said inside first) (Ok o) → after ≡ opened_after number opened o
    → new ≡ lines ++ line_if number o → SoFar text new (number + 1) after rest
one-more text lines new number opened after old here first rest inside o s is cut short within told leaves e = record {
  said =
      s.said ∙ ap (λ (r : Option (Bor (List ℕ))). after_lines lines (lines_said number opened (pieces_left 10 r))) is
      ∙ ap (λ (ps : List (List ℕ)). after_lines lines (lines_said number opened ps)) cut
      ∙ tells-line number opened (line_said (is_some opened) first) o (subst (λ (b : Bool). TellsLine (line_said b first) (Ok o)) within told) lines (λ after. lines_said (number + 1) after (pieces_left 10 rest))
      ∙ ap (λ (a : Option ℕ). after_lines (lines ++ line_if number o) (lines_said (number + 1) a (pieces_left 10 rest))) (sym leaves)
      ∙ ap (λ (l : List Line). after_lines l (lines_said (number + 1) after (pieces_left 10 rest))) (sym e);
  counted =
      let was : number + (length here.now + 1) ≤ length text + 2 = subst (λ (r : Option (Bor (List ℕ))). number + left_of r ≤ length text + 2) is s.counted in
      less rest short was;
}
  where
    less : (rest : Option (Bor (List ℕ))) → IfSome rest (λ r. length r.now < length here.now) → number + (length here.now + 1) ≤ length text + 2 → number + 1 + left_of rest ≤ length text + 2
    less None short was = omega arith
    less (Some r) short was = omega arith
