-- What is written, call after call.
use Rattle.std.proofs.Common.{◌≡◌, inl, inr, ℕ, ◌≤◌, List, [], ◌++◌, take, refl, subst, arith}
use Rattle.std.specs.Prelude.{Result, Ok, Err, OnOk, OnErr}
use Rattle.std.proofs.lemmas.List.{append-nil}
use Rattle.io_edge.specs.Flow.{Outflow, SinkFails}
use Rattle.io_edge.specs.Pieces.{Writes, WritesFront}
use Rattle.io_edge.specs.declared.IoFailed.{IoFailed}
use Rattle.io_edge.proofs.Writing.{counted_since, writes_none, writes_then}
use Rattle.filestore_cli.specs.Seen.{moves, Says, SaysPart, EndsWith}

pub says_none : (t : Type 0) (a : Outflow) → Says (moves t a a) []
says_none t a = λ told. writes_none a

pub says_then : (t u : Type 0) (a b c : Outflow) (xs ys : List ℕ) → (u → t) → Says (moves t a b) xs → Says (moves u b c) ys → Says (moves u a c) (xs ++ ys)
says_then t u a b c xs ys back h k = λ told. writes_then a b c xs ys (h (back told)) (k told)

pub part_then : (t u : Type 0) (a b c : Outflow) (xs ys : List ℕ) → (u → t) → Says (moves t a b) xs → SaysPart (moves u b c) [] ys → SaysPart (moves u a c) xs ys
part_then t u a b c xs ys back h k = λ told. let p = k told in (p.0, writes_then a b c xs (take p.0 ys) (h (back told)) p.1)

-- what write_all answers
pub part_written : (t : Type 0) (a b : Outflow) (text line : List ℕ) → (t → WritesFront a b text) → text ≡ line → SaysPart (moves t a b) [] line
part_written t a b text line part e =
    subst (λ (l : List ℕ). SaysPart (moves t a b) [] l) e (λ told. let p = part told in (p.count, p.front))

pub ends_written : (t : Type 0) (a b : Outflow) (line : List ℕ) (r : Result (Unit {0}) IoFailed) → (t → OnOk r (Writes a b line)) → (t → OnErr r (WritesFront a b line))
    → OnErr r (SinkFails a b) → EndsWith (moves t a b) [] line
ends_written t a b line (Ok x) whole part cause = inl whole
ends_written t a b line (Err e) whole part cause = inr (cause, λ told. let p = part told in (p.count, p.front))

pub ends_then : (t u : Type 0) (a b c : Outflow) (text line : List ℕ) → (u → t) → a.faults ≤ b.faults → Says (moves t a b) text → EndsWith (moves u b c) [] line → EndsWith (moves u a c) text line
ends_then t u a b c text line back le h (inl says) = inl (says_then t u a b c text line back h says)
ends_then t u a b c text line back le h (inr failed) =
    inr (counted_since a.faults b.faults c.faults le failed.0, part_then t u a b c text line back h failed.1)

-- an empty last line
take_none : (n : ℕ) (l : List ℕ) → l ≡ [] → take n l ≡ []
take_none n l e = grind (arith, e)

no_line : (t : Type 0) (a b : Outflow) → EndsWith (moves t a b) [] [] → Says (moves t a b) []
no_line t a b (inl says) = says
no_line t a b (inr failed) = λ told. let p = failed.1 told in subst (λ (l : List ℕ). Writes a b l) (take_none p.0 [] refl) p.1

pub part_still : (t u : Type 0) (a b c : Outflow) (text next : List ℕ) → (u → t) → SaysPart (moves t a b) text next → EndsWith (moves u b c) [] [] → SaysPart (moves u a c) text next
part_still t u a b c text next back h ends = λ told.
    let p = h (back told) in
    let more = writes_then a b c (text ++ take p.0 next) [] p.1 (no_line u b c ends told) in
    (p.0, subst (λ (l : List ℕ). Writes a c l) (append-nil (text ++ take p.0 next)) more)
