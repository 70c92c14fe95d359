-- Entries of a history.
use Rattle.std.proofs.Common.{◌≡◌, ℕ, ◌+◌, ◌-◌, ◌≤◌, List, [], ◌∷◌, ◌++◌, take, drop, map, length, refl, sym, ◌∙◌, ap, subst, arith, Ok, length-append}
use Rattle.std.specs.Prelude.{Result}
use Rattle.std.proofs.lemmas.List.{take_at, take-map, drop-map, map-append, length-map}
use Rattle.fs_model.specs.declared.op.Op.{Op}
use Rattle.txn_codec.specs.declared.fault.CodecFault.{CodecFault}
use Rattle.dev_api.specs.Disk.{Disk}
use Rattle.ring_frame.specs.Frame.{Entry}
use Rattle.ring_frame.specs.Heads.{Head}
use Rattle.ring_images.specs.Held.{readable, Left, Leaves, EachSound}
use Rattle.ring_images.proofs.Crash.{each_weaker}
use Rattle.ring_journal.specs.State.{State}
use Rattle.store_history.specs.History.{History, end_of, part}
use Rattle.store_history.specs.Journal.{txn_of, Spells, IsJournal, RingSide}
use Rattle.store_history.proofs.Parts.{length-part, take-part}

pub spells_length : (es : List Entry) (ts : List (List Op)) → Spells es ts → length es ≡ length ts
spells_length es ts h = sym (length-map es txn_of) ∙ ap length h ∙ length-map ts Ok

pub spells_take : (n : ℕ) (es : List Entry) (ts : List (List Op)) → Spells es ts → Spells (take n es) (take n ts)
spells_take n es ts h = sym (take-map txn_of n es) ∙ ap (take n) h ∙ take-map Ok n ts

pub spells_drop : (n : ℕ) (es : List Entry) (ts : List (List Op)) → Spells es ts → Spells (drop n es) (drop n ts)
spells_drop n es ts h = sym (drop-map txn_of n es) ∙ ap (drop n) h ∙ drop-map Ok n ts

pub spells_more : (es : List Entry) (ts : List (List Op)) (e : Entry) (ops : List Op) → Spells es ts → txn_of e ≡ Ok ops → Spells (es ++ e ∷ []) (ts ++ ops ∷ [])
spells_more es ts e ops h k =
    map-append txn_of es (e ∷ []) ∙ ap (λ (l : List (Result (List Op) CodecFault)). l ++ txn_of e ∷ []) h ∙ ap (λ (x : Result (List Op) CodecFault). map Ok ts ++ x ∷ []) k ∙ sym (map-append Ok ts (ops ∷ []))

-- equal entries spell the same
pub spells_as : (es fs : List Entry) (ts : List (List Op)) → es ≡ fs → Spells es ts → Spells fs ts
spells_as es fs ts e h = subst (λ (l : List Entry). Spells l ts) e h

-- what is left of a history's entries is a journal of it
pub left_journal : (fsid : List ℕ) (h : History) (head : Head) (p synced hi : ℕ) (fs all : List Entry) (c : List ℕ) → head.fsid ≡ fsid → head.seq ≡ p + 1
    → h.base ≤ p → p ≤ synced → synced ≤ hi → hi ≤ end_of h → Spells fs (part h p synced) → Spells all (part h p hi) → Left head fs all c → IsJournal fsid h p synced hi c
left_journal fsid h head p synced hi fs all c f s base low le fits sf sa left =
    let r = readable c in
    let n = length r in
    let a : length r ≡ length fs + length left.has.0 = ap length left.has.1 ∙ length-append fs left.has.0 in
    let b : length all ≡ length r + length left.within.0 = ap length left.within.1 ∙ length-append r left.within.0 in
    let lf = spells_length fs (part h p synced) sf in
    let la = spells_length all (part h p hi) sa in
    let pf = length-part h p synced base low (omega arith) in
    let pa = length-part h p hi base (omega arith) fits in
    let front : r ≡ take n all = sym (ap (take n) left.within.1 ∙ take_at r left.within.0 n refl) in
    let k : n ≡ p + n - p = omega arith in
    let spelled : Spells (take n all) (take n (part h p hi)) = spells_take n all (part h p hi) sa in
    record {
      head = head;
      header = left.header;
      fsid_is = f;
      start = s;
      end = p + n;
      low = omega (arith, a, lf, pf);
      high = omega (arith, b, la, pa);
      spelled = ap (map txn_of) front ∙ spelled ∙ ap (map Ok) (ap (λ (i : ℕ). take i (part h p hi)) k ∙ take-part h p (p + n) hi (omega (arith, b, la, pa)));
    }

module _ (fsid : List ℕ) (h : History) (p synced hi : ℕ) (s : State) (d : Disk) (side : RingSide fsid h p synced hi s d) where
  -- what the ring's device has
  pub stable_spells : Spells (readable d.stable) (part h p synced)
  stable_spells = spells_as side.fs (readable d.stable) (part h p synced) (sym side.ring.stable) side.stable

  pub asked_spells : Spells (readable d.asked) (part h p hi)
  asked_spells = spells_as side.all (readable d.asked) (part h p hi) (sym side.ring.asked) side.asked

  pub now_journal : (e : Disk) → Leaves s.head (readable d.stable) (readable d.asked) e → EachSound (IsJournal fsid h p synced hi) e
  now_journal e leaves = each_weaker (Left s.head (readable d.stable) (readable d.asked)) (IsJournal fsid h p synced hi)
      (λ c l. left_journal fsid h s.head p synced hi (readable d.stable) (readable d.asked) c side.fsid_is side.start side.base side.low side.high side.fits stable_spells asked_spells l) e leaves
