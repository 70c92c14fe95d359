-- A new epoch keeps what lies above a number.
use Rattle.std.proofs.Common.{◌≡◌, ◌⊎◌, inl, inr, ℕ, ◌+◌, ◌-◌, ◌≤◌, List, drop, map, length, refl, sym, ◌∙◌, ap, subst, arith, Ok}
use Rattle.fs_model.specs.declared.op.Op.{Op}
use Rattle.fs_model.specs.Objects.{Objects}
use Rattle.dev_api.specs.Disk.{Disk}
use Rattle.ring_frame.specs.Frame.{Entry}
use Rattle.ring_frame.specs.Heads.{Head}
use Rattle.ring_images.proofs.Crash.{left_all, each_weaker}
use Rattle.ring_images.specs.Held.{readable, Left, LeavesEither, EachSound}
use Rattle.ring_journal.specs.State.{State, Ended, NowHolds, Numbered, from, first_of, next_head}
use Rattle.store_history.specs.History.{part, replay_of}
use Rattle.store_history.specs.Journal.{txn_of, Spells, above, IsAbove, RingSide}
use Rattle.store_history.proofs.Parts.{part_all}
use Rattle.store_journal.proofs.GivesUp.{first_is}

module _ (s : State) (d : Disk) (ended : Ended s d) (n : ℕ) (gap : s.head.seq ≤ n + 1)
    (numbered : Numbered s.head.seq (readable d.stable)) (kept_is : from (n + 1) (readable d.stable) ≡ above n s.head.seq (readable d.stable))
    (txns : List (List Op)) (spells : Spells (above n s.head.seq (readable d.stable)) txns) where
  abbrev es : List Entry
  es = readable d.stable

  asked_is : readable d.asked ≡ es
  asked_is = ap (λ (x : Disk). readable x.asked) ended.1.is

  seq_is : (next_head s (n + 1) es).seq ≡ n + 1
  seq_is = first_is (n + 1) s.head.seq es numbered gap

  either_above : (c : List ℕ) → Left s.head es es c ⊎ Left (next_head s (n + 1) es) (from (n + 1) es) (from (n + 1) es) c → IsAbove s.head.fsid n txns c
  either_above c (inl l) = record {
    head = s.head;
    header = l.header;
    fsid_is = refl;
    no_gap = gap;
    spelled = ap (λ (x : List Entry). map txn_of (above n s.head.seq x)) (left_all s.head es c l) ∙ spells;
  }
  either_above c (inr l) =
      let g = next_head s (n + 1) es in
      let z : n + 1 - g.seq ≡ 0 = omega (arith, seq_is) in
      record {
        head = g;
        header = l.header;
        fsid_is = refl;
        no_gap = omega (arith, seq_is);
        spelled = ap (λ (i : ℕ). map txn_of (drop i (readable c))) z ∙ ap (map txn_of) (left_all g (from (n + 1) es) c l ∙ kept_is) ∙ spells;
      }

  pub reopen_crash : (e : Disk) → LeavesEither s.head es (readable d.asked) (next_head s (n + 1) (readable d.asked)) (from (n + 1) (readable d.asked)) e → EachSound (IsAbove s.head.fsid n txns) e
  reopen_crash e leaves =
      each_weaker _ _ either_above e (subst (λ (xs : List Entry). LeavesEither s.head es xs (next_head s (n + 1) xs) (from (n + 1) xs) e) asked_is leaves)

  pub reopen_done : (before : Objects) (s2 : State) (e : Disk) → s2.head ≡ next_head s (n + 1) (readable d.asked) → NowHolds s2 (from (n + 1) (readable d.asked)) (from (n + 1) (readable d.asked)) e
      → RingSide s.head.fsid (replay_of n before txns) n (n + length txns) (n + length txns) s2 e
  reopen_done before s2 e is holds =
      let all : Spells (from (n + 1) (readable d.asked)) (part (replay_of n before txns) n (n + length txns)) =
      ap (λ (x : List Entry). map txn_of (from (n + 1) x)) asked_is ∙ ap (map txn_of) kept_is ∙ spells ∙ ap (map Ok) (sym (part_all n before txns)) in
      record {
        base = omega arith;
        low = omega arith;
        high = omega arith;
        fits = omega arith;
        fs = from (n + 1) (readable d.asked);
        all = from (n + 1) (readable d.asked);
        ring = holds;
        fsid_is = ap (λ (x : Head). x.fsid) is;
        start = ap (λ (x : Head). x.seq) is ∙ ap (λ (x : List Entry). first_of (n + 1) (from (n + 1) x)) asked_is ∙ seq_is;
        stable = all;
        asked = all;
      }
