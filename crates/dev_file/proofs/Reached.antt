-- A file that answers as supposed stays honest, so that a device on a file can tell, whatever the file held first.
use Rattle.std.proofs.Common.{◌≡◌, ℕ, ◌+◌, ◌≤◌, List, [], ◌∷◌, length, take, drop, refl, sym, ap, arith, length-take, length-drop}
use Rattle.dev_file.specs.Calls.{Call, Asked, Wrote, Gave, Failed, Synced, NotSynced}
use Rattle.dev_file.specs.Honest.{replay, IsHonest}
use Rattle.dev_file.proofs.Sound.{kept_if_honest}

-- a write within the file may be asked
pub honest_asked : (first : List ℕ) (h : List Call) (at : ℕ) (bytes : List ℕ) → IsHonest first h → at + length bytes ≤ length (replay first h).disk.reads
    → IsHonest first (Asked at bytes ∷ h)
honest_asked first h at bytes is fits = (is, fits)

-- whichever piece of the write asked last is taken, whatever others were taken before
pub honest_wrote : (first : List ℕ) (h : List Call) (at : ℕ) (bytes : List ℕ) (done : ℕ) (piece : List ℕ) → IsHonest first h
    → (spans : List (ℕ × ℕ)) → (replay first h).disk.written ≡ (at, length bytes) ∷ spans → done + length piece ≤ length bytes
    → IsHonest first (Wrote (at + done) piece ∷ h)
honest_wrote first h at bytes done piece is spans e fits = (is, rw e (omega arith, omega (arith, fits)))

-- whatever a sync answers, and whatever fails
pub honest_sync : (first : List ℕ) (h : List Call) → IsHonest first h → IsHonest first (Synced ∷ h) × IsHonest first (NotSynced ∷ h) × IsHonest first (Failed ∷ h)
honest_sync first h is = ((is, tt), (is, tt), (is, tt))

-- a read gives what the file holds there, or a part of it
pub honest_gave : (first : List ℕ) (h : List Call) (at n : ℕ) → IsHonest first h → at + n ≤ length (replay first h).disk.reads
    → IsHonest first (Gave at (take n (drop at (replay first h).disk.reads)) ∷ h)
honest_gave first h at n is fits =
    let file = (replay first h).disk.reads in
    let len : length (take n (drop at file)) ≡ n = omega (arith, length-take n (drop at file), length-drop at file) in
    (is, (omega (arith, len, fits), ap (λ (k : ℕ). take k (drop at file)) (sym len)))

-- What is asked of a device. An honest file answers each in one piece.
pub data Asks : Type 0 where
  Write : ℕ → List ℕ → Asks
  Read : ℕ → ℕ → Asks
  Sync : Asks

-- each lies within so many bytes
abbrev pub Fit : ℕ → List Asks → Type 0
Fit size [] = Unit {0}
Fit size (Write at bytes ∷ earlier) = (at + length bytes ≤ size) × Fit size earlier
Fit size (Read at n ∷ earlier) = (at + n ≤ size) × Fit size earlier
Fit size (Sync ∷ earlier) = Fit size earlier

-- the calls that they make, the newest first
abbrev pub record_of : List ℕ → List Asks → List Call
record_of first [] = []
record_of first (Write at bytes ∷ earlier) = Wrote at bytes ∷ Asked at bytes ∷ record_of first earlier
record_of first (Read at n ∷ earlier) = Gave at (take n (drop at (replay first (record_of first earlier)).disk.reads)) ∷ record_of first earlier
record_of first (Sync ∷ earlier) = Synced ∷ record_of first earlier

-- Every sequence of writes, reads and syncs within the file has an honest record, whatever it held first.
pub honest_record : (first : List ℕ) (asks : List Asks) → Fit (length first) asks → IsHonest first (record_of first asks)
honest_record first [] fit = tt
honest_record first (Write at bytes ∷ earlier) fit =
    let h = record_of first earlier in
    let is = honest_record first earlier fit.1 in
    let size = (kept_if_honest (length first) first h refl is).size.reads in
    ((is, omega (arith, size, fit.0)), (omega arith, omega arith))
honest_record first (Read at n ∷ earlier) fit =
    let h = record_of first earlier in
    let is = honest_record first earlier fit.1 in
    honest_gave first h at n is (omega (arith, (kept_if_honest (length first) first h refl is).size.reads, fit.0))
honest_record first (Sync ∷ earlier) fit = (honest_record first earlier fit, tt)
