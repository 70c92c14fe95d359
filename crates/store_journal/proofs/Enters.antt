-- A ring takes one entry more, and syncs.
use Rattle.std.proofs.Common.{◌≡◌, ℕ, ◌+◌, List, [], ◌∷◌, ◌++◌, map, sym, ◌∙◌, ap, arith, Ok}
use Rattle.dev_api.specs.Disk.{Disk}
use Rattle.ring_frame.specs.Frame.{Entry}
use Rattle.ring_frame.specs.Heads.{Head}
use Rattle.ring_images.specs.Held.{readable, Left, Leaves, EachSound}
use Rattle.ring_images.proofs.Crash.{each_weaker}
use Rattle.ring_journal.specs.State.{State, NowHolds, entry_of}
use Rattle.store_history.specs.History.{History, part}
use Rattle.store_history.specs.Journal.{Spells, IsJournal, IsNext, RingSide}
use Rattle.store_history.proofs.Parts.{part_more}
use Rattle.store_history.proofs.Entries.{left_journal, spells_more, stable_spells, asked_spells}

module _ (fsid : List ℕ) (h : History) (p synced hi : ℕ) (s : State) (d : Disk) (side : RingSide fsid h p synced hi s d) where
  module _ (seq : ℕ) (payload : List ℕ) (next : IsNext h hi seq payload) where
    abbrev longer : List Entry
    longer = readable d.asked ++ entry_of s seq payload ∷ []

    asked_more : Spells longer (part h p (hi + 1))
    asked_more =
        spells_more (readable d.asked) (part h p hi) (entry_of s seq payload) next.ops (asked_spells fsid h p synced hi s d side) next.spells
        ∙ ap (map Ok) (sym (part_more h p hi next.ops side.base (omega (arith, side.low, side.high)) next.room next.is))

    pub append_crash : (e : Disk) → Leaves s.head (readable d.stable) (readable d.asked ++ entry_of s seq payload ∷ []) e → EachSound (IsJournal fsid h p synced (hi + 1)) e
    append_crash e leaves = each_weaker (Left s.head (readable d.stable) longer) (IsJournal fsid h p synced (hi + 1))
        (λ c l. left_journal fsid h s.head p synced (hi + 1) (readable d.stable) longer c side.fsid_is side.start side.base side.low (omega (arith, side.high)) (omega (arith, next.room))
        (stable_spells fsid h p synced hi s d side) asked_more l) e leaves

    pub append_done : (e : Disk) (s2 : State) → s2.head ≡ s.head → NowHolds s2 (readable d.stable) (readable d.asked ++ entry_of s seq payload ∷ []) e → RingSide fsid h p synced (hi + 1) s2 e
    append_done e s2 same holds = record {
      base = side.base;
      low = side.low;
      high = omega (arith, side.high);
      fits = omega (arith, next.room);
      fs = readable d.stable;
      all = longer;
      ring = holds;
      fsid_is = ap (λ (x : Head). x.fsid) same ∙ side.fsid_is;
      start = ap (λ (x : Head). x.seq) same ∙ side.start;
      stable = stable_spells fsid h p synced hi s d side;
      asked = asked_more;
    }

  pub sync_done : (e : Disk) (s2 : State) → s2 ≡ s → NowHolds s2 (readable d.asked) (readable d.asked) e → RingSide fsid h p hi hi s2 e
  sync_done e s2 same holds = record {
    base = side.base;
    low = omega (arith, side.low, side.high);
    high = omega arith;
    fits = side.fits;
    fs = readable d.asked;
    all = readable d.asked;
    ring = holds;
    fsid_is = ap (λ (x : State). x.head.fsid) same ∙ side.fsid_is;
    start = ap (λ (x : State). x.head.seq) same ∙ side.start;
    stable = asked_spells fsid h p synced hi s d side;
    asked = asked_spells fsid h p synced hi s d side;
  }
