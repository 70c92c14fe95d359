-- How calls are noted in a record.
use Rattle.std.specs.Prelude.{ℕ, zero, suc, List, [], ◌∷◌, slice_index}
use Rattle.dev_file.specs.Calls.{Call, Asked, Wrote, Gave, Failed, Synced, NotSynced}

-- which call, a place, and bytes
abbrev pub Note : Type 0
Note = ℕ × ℕ × List ℕ

abbrev pub note_of : List ℕ → List ℕ → Note
note_of numbers bytes = (slice_index numbers 0, slice_index numbers 1, bytes)

abbrev pub call_of : ℕ → ℕ → List ℕ → Call
call_of zero at bytes = Asked at bytes
call_of (suc zero) at bytes = Wrote at bytes
call_of (suc (suc zero)) at bytes = Gave at bytes
call_of (suc (suc (suc zero))) at bytes = Failed
call_of (suc (suc (suc (suc zero)))) at bytes = Synced
call_of (suc (suc (suc (suc (suc more))))) at bytes = NotSynced

abbrev pub calls_of : List Note → List Call
calls_of [] = []
calls_of (note ∷ earlier) = call_of note.0 note.1 note.2 ∷ calls_of earlier
