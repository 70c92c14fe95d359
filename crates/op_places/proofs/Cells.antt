-- Where one cell stands along a plain line, on which no copy is for good.
use Rattle.std.proofs.Common.{◌≡◌, inl, inr, ℕ, zero, suc, ◌<◌, ◌≤◌, List, false, refl, sym, ◌∙◌, ap, subst, arith, Option}
use Rattle.std.proofs.lemmas.List.{length-map}
use Rattle.std.specs.FinMap as fin
use Rattle.fs_model.specs.declared.op.Op.{Op}
use Rattle.fs_model.specs.Objects.{Objects, Shelf, on_shelf}
use Rattle.replay_laws.specs.Settled.{Stands, Kept}
use Rattle.replay_laws.specs.Keeps.{Copied}
use Rattle.replay_laws.specs.Places.{AtEach}
use Rattle.fs_cells.specs.declared.cell.Cell.{Cell}
use Rattle.fs_cells.specs.Actions.{act_of}
use Rattle.fs_cells.specs.Values.{Value, absent, value_at, cells_of}
use Rattle.fs_cells.proofs.Looks.{none_there}
use Rattle.op_places.specs.Line.{line_of, after_ops, gone_in, IsPlain}
use Rattle.op_places.proofs.Gone.{gone_le, gone_then}
use Rattle.op_places.proofs.Line.{after_is, no_source}

-- with this guard the cell may hold v where it is past the first k operations
abbrev pub Holds : Objects → List Op → ℕ → ℕ → Cell → Value → Type 0
Holds O ops guard k x v = Stands (line_of O ops) (Copied (line_of O ops) (λ y. 0)) guard k x v

pub kept_none : (O : Objects) (ops : List Op) (guard : ℕ) (x : Cell) → Kept (line_of O ops) (Copied (line_of O ops) (λ y. 0)) guard x
kept_none O ops guard x i is op over = absurd (omega (arith, is.1))

pub at_each : (O : Objects) (ops : List Op) (place : Cell → ℕ) (cells : Cell → Value) (guards : Cell → ℕ) → ((x : Cell) → Holds O ops (guards x) (place x) x (cells x))
    → AtEach (line_of O ops) place cells guards (λ y. 0)
at_each O ops place cells guards each = record { stands = each; kept = λ x. kept_none O ops (guards x) x }

-- a guard may be lost
pub holds_lower : (O : Objects) (ops : List Op) (old new k : ℕ) (x : Cell) (v : Value) → new ≤ old → Holds O ops old k x v → Holds O ops new k x v
holds_lower O ops old new k x v le (inl alive) = inl (record { when = alive.when; from_guard = omega (arith, alive.from_guard); reached = alive.reached; by = alive.by; value = alive.value; free = alive.free })
holds_lower O ops old new k x v le (inr doom) =
    inr (record { when = doom.when; from_guard = omega (arith, doom.from_guard); reached = doom.reached; is_op = doom.is_op; value = doom.value; gives = doom.gives; free = doom.free })

pub holds_along : (O : Objects) (ops : List Op) (g h k : ℕ) (x : Cell) (v w : Value) → h ≡ g → w ≡ v → Holds O ops g k x v → Holds O ops h k x w
holds_along O ops g h k x v w guards values held =
    subst (λ (i : ℕ). Holds O ops i k x w) (sym guards) (subst (λ (u : Value). Holds O ops g k x u) (sym values) held)

-- in a missing collection nothing is there
pub missing_absent : (O : Objects) (x : Cell) → fin.contains_key O x.c ≡ false → cells_of O x ≡ absent x.part
missing_absent O x missing = ap (λ (m : Option Shelf). value_at (on_shelf m x.o) x.part) (none_there (fin.get O x.c) missing)

-- a cell of a missing collection is past the last removal of that
pub holds_gone : (O : Objects) (ops : List Op) → IsPlain O ops → (k : ℕ) (x : Cell) → k < gone_in x.c ops → Holds O ops (gone_in x.c ops) k x (absent x.part)
holds_gone O ops plain k x lt = at (gone_in x.c ops) refl lt
  where
    at : (g : ℕ) → gone_in x.c ops ≡ g → k < g → Holds O ops g k x (absent x.part)
    at zero is lt = absurd (omega (arith, lt))
    at (suc r) is lt = inl (record {
      when = suc r;
      from_guard = omega arith;
      reached = omega (arith, lt);
      by = omega (arith, length-map ops act_of, gone_le x.c ops, is);
      value = sym (missing_absent (after_ops O ops (suc r)) x (gone_then O x.c ops r is)) ∙ ap (λ (s : Cell → Value). s x) (sym (after_is O ops (suc r) plain.allowed));
      free = λ j z lt source. absurd (no_source O ops plain.built j z x source);
    })
