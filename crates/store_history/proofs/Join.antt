-- A tree's image and a journal of the same history stand for a state of it.
use Rattle.std.proofs.Common.{◌≡◌, ℕ, ◌+◌, ◌-◌, ◌≤◌, ◌<◌, ◌^◌, List, drop, map, sym, ◌∙◌, ap, arith, Ok}
use Rattle.ring_images.specs.Held.{readable}
use Rattle.store_history.specs.History.{History, end_of, part, at}
use Rattle.store_history.specs.Journal.{txn_of, IsJournal}
use Rattle.store_history.specs.Images.{Images, ImageLaws}
use Rattle.store_history.specs.Pair.{StandsAt, StandsFor}
use Rattle.store_history.proofs.Parts.{length-part, drop-part, at_part}
use Rattle.store_history.proofs.Entries.{spells_drop}

module _ {Tree : Type 0} (image : Images Tree) (laws : ImageLaws image) (fsid : List ℕ) (h : History) (n lo hi p synced top : ℕ) (t : Tree) (c : List ℕ)
    (im : image h n lo hi t) (j : IsJournal fsid h p synced top c)
    (base : h.base ≤ p) (behind : p ≤ n) (from : n ≤ lo) (within : lo ≤ hi) (written : hi ≤ synced) (fits : top ≤ end_of h) (small : end_of h < 2 ^ 63) where
  pub pair_stands : StandsAt image fsid t c (at h j.end) n j.end
  pair_stands =
      let l = j.low in
      let u = j.high in
      let k : n + 1 - j.head.seq ≡ n - p = omega (arith, j.start) in
      record {
        head = j.head;
        header = j.header;
        fsid_is = j.fsid_is;
        no_gap = omega (arith, j.start);
        txns = part h n j.end;
        spelled = ap (λ (i : ℕ). map txn_of (drop i (readable c))) k ∙ spells_drop (n - p) (readable c) (part h p j.end) j.spelled ∙ ap (map Ok) (drop-part h p n j.end base behind (omega arith));
        last_is = omega (arith, length-part h n j.end (omega arith) (omega arith) (omega arith));
        fits = omega arith;
        before = at h n;
        good = laws.rebase h n lo hi j.end t (omega arith) from within (omega arith) (omega arith) im;
        ends = sym (at_part h n j.end (omega arith) (omega arith));
      }

  pub pair_stands_for : (acked : ℕ) → acked ≤ synced → StandsFor image fsid h acked t c
  pair_stands_for acked le = record { n = n; last = j.end; stands = pair_stands; acked_is = omega (arith, j.low); known = omega (arith, j.high) }

-- what was acknowledged later was acknowledged then
pub less : {Tree : Type 0} (image : Images Tree) (fsid : List ℕ) (h : History) (a b : ℕ) (t : Tree) (c : List ℕ) → a ≤ b → StandsFor image fsid h b t c → StandsFor image fsid h a t c
less image fsid h a b t c le s = record { n = s.n; last = s.last; stands = s.stands; acked_is = omega (arith, le, s.acked_is); known = s.known }
