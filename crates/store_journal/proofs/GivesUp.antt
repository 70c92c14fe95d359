-- A ring gives up the entries up to a number.
use Rattle.std.proofs.Common.{◌≡◌, ◌⊎◌, inl, inr, ⊎_elim, ℕ, ◌+◌, ◌-◌, ◌<◌, ◌≤◌, List, [], ◌∷◌, drop, map, refl, ◌∙◌, ap, arith, Ok}
use Rattle.std.proofs.lemmas.Bool.{lt-ltb, le-ltb, cond-true, cond-false, cases_lt}
use Rattle.dev_api.specs.Disk.{Disk}
use Rattle.ring_frame.specs.Frame.{Entry}
use Rattle.ring_frame.specs.Heads.{Head}
use Rattle.ring_images.specs.Held.{readable, Left, LeavesEither, EachSound}
use Rattle.ring_images.proofs.Crash.{each_weaker}
use Rattle.ring_journal.specs.State.{State, NowHolds, Numbered, from, first_of, trimmed_head}
use Rattle.store_history.specs.History.{History, part}
use Rattle.store_history.specs.Journal.{txn_of, Spells, IsJournal, RingSide}
use Rattle.store_history.proofs.Parts.{drop-part}
use Rattle.store_history.proofs.Entries.{left_journal, spells_drop, stable_spells, asked_spells}

-- the first entry at or above a number that isn't before them has that number
pub first_is : (seq s : ℕ) (es : List Entry) → Numbered s es → s ≤ seq → first_of seq (from seq es) ≡ seq
first_is seq s [] h le = refl
first_is seq s (e ∷ es) h le = ⊎_elim
    (λ (lt : s < seq). ap (first_of seq) (cond-true _ _ _ (lt-ltb e.seq seq (omega (arith, h.0, lt)))) ∙ first_is seq (s + 1) es h.1 (omega (arith, lt)))
    (λ (ge : seq ≤ s). ap (first_of seq) (cond-false _ _ _ (le-ltb e.seq seq (omega (arith, h.0, ge)))) ∙ omega (arith, h.0, ge, le))
    (cases_lt s seq)

module _ (fsid : List ℕ) (h : History) (p synced hi : ℕ) (s : State) (d : Disk) (side : RingSide fsid h p synced hi s d) (n : ℕ) (least : s.head.seq ≤ n + 1) (most : n ≤ hi)
    (numbered : Numbered s.head.seq (readable d.asked)) (kept_is : from (n + 1) (readable d.asked) ≡ drop (n + 1 - s.head.seq) (readable d.asked)) where
  abbrev kept : List Entry
  kept = from (n + 1) (readable d.asked)

  behind : p ≤ n
  behind = omega (arith, side.start, least)

  spelled : Spells kept (part h n hi)
  spelled =
      let k : n + 1 - s.head.seq ≡ n - p = omega (arith, side.start) in
      ap (map txn_of) (kept_is ∙ ap (λ (i : ℕ). drop i (readable d.asked)) k) ∙ spells_drop (n - p) (readable d.asked) (part h p hi) (asked_spells fsid h p synced hi s d side)
      ∙ ap (map Ok) (drop-part h p n hi side.base behind most)

  starts : (trimmed_head s n (readable d.asked)).seq ≡ n + 1
  starts = first_is (n + 1) s.head.seq (readable d.asked) numbered least

  either_journal : (c : List ℕ) → Left s.head (readable d.stable) (readable d.asked) c ⊎ Left (trimmed_head s n (readable d.asked)) kept kept c → IsJournal fsid h p synced hi c ⊎ IsJournal fsid h n hi hi c
  either_journal c (inl l) = inl (left_journal fsid h s.head p synced hi (readable d.stable) (readable d.asked) c side.fsid_is side.start side.base side.low side.high side.fits
      (stable_spells fsid h p synced hi s d side) (asked_spells fsid h p synced hi s d side) l)
  either_journal c (inr l) =
      inr (left_journal fsid h (trimmed_head s n (readable d.asked)) n hi hi kept kept c side.fsid_is starts (omega (arith, side.base, behind)) most (omega arith) side.fits spelled spelled l)

  pub give_up_crash : (e : Disk) → LeavesEither s.head (readable d.stable) (readable d.asked) (trimmed_head s n (readable d.asked)) (from (n + 1) (readable d.asked)) e
      → EachSound (λ c. IsJournal fsid h p synced hi c ⊎ IsJournal fsid h n hi hi c) e
  give_up_crash e leaves = each_weaker _ _ either_journal e leaves

  pub give_up_done : (s2 : State) (e : Disk) → s2.head ≡ trimmed_head s n (readable d.asked) → NowHolds s2 (from (n + 1) (readable d.asked)) (from (n + 1) (readable d.asked)) e → RingSide fsid h n hi hi s2 e
  give_up_done s2 e is holds = record {
    base = omega (arith, side.base, behind);
    low = most;
    high = omega arith;
    fits = side.fits;
    fs = kept;
    all = kept;
    ring = holds;
    fsid_is = ap (λ (x : Head). x.fsid) is ∙ side.fsid_is;
    start = ap (λ (x : Head). x.seq) is ∙ starts;
    stable = spelled;
    asked = spelled;
  }
