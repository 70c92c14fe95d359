-- What both sides hold of a history they hold of a longer one.
use Rattle.std.proofs.Common.{◌≡◌, ℕ, zero, suc, ◌+◌, ◌-◌, ◌<◌, ◌≤◌, ◌^◌, List, [], ◌∷◌, take, drop, length, refl, sym, ◌∙◌, ap, subst, arith, append-nil, append_assoc, length-append, length-drop}
use Rattle.std.proofs.lemmas.List.{take-append-le, drop-append-le}
use Rattle.fs_model.specs.declared.op.Op.{Op}
use Rattle.fs_model.specs.Objects.{Objects}
use Rattle.fs_model.specs.Rows.{fold_ops}
use Rattle.fs_cells.specs.Laws.{AreAllowed}
use Rattle.fs_cells.specs.Standing.{AllAllowed}
use Rattle.built_ops.specs.Built.{CanDo}
use Rattle.tree_api.specs.Tree.{Tree}
use Rattle.tree_api.specs.Disk.{Disk as Files}
use Rattle.dev_api.specs.Disk.{Disk}
use Rattle.ring_journal.specs.State.{State}
use Rattle.store_files.specs.declared.reading.Identity.{Identity}
use Rattle.store_history.specs.History.{History, end_of, part, at}
use Rattle.store_history.specs.Journal.{Spells, RingSide}
use Rattle.store_turns.specs.declared.numbers.Numbers.{Numbers}
use Rattle.store_turns.specs.declared.numbers.Queued.{Queued}
use Rattle.store_turns.specs.State.{Holding}
use Rattle.store_turns.specs.Waiting.{AllMeet}
use Rattle.tree_places.specs.Line.{with_txn}
use Rattle.tree_places.specs.Images.{StoreImage, reads}
use Rattle.tree_places.proofs.Theory.{theory_law}
use Rattle.history_tails.specs.Tails.{with_more}
use Rattle.history_tails.proofs.Tails.{at_more}
use Rattle.history_tails.proofs.Due.{waiting_ops}

pub part_longer : (h : History) (ops : List Op) (lo hi : ℕ) → h.base ≤ lo → lo ≤ hi → hi ≤ end_of h → part (with_txn h ops) lo hi ≡ part h lo hi
part_longer h ops lo hi base order known =
    ap (take (hi - lo)) (drop-append-le (lo - h.base) h.txns (ops ∷ []) (omega (arith, base, order, known)))
    ∙ take-append-le (hi - lo) (drop (lo - h.base) h.txns) (ops ∷ []) (omega (arith, base, order, known, length-drop (lo - h.base) h.txns))

end_longer : (h : History) (ops : List Op) → end_of (with_txn h ops) ≡ end_of h + 1
end_longer h ops = omega (arith, length-append h.txns (ops ∷ []))

pub ring_longer : (fsid : List ℕ) (h : History) (ops : List Op) (p synced hi : ℕ) (s : State) (d : Disk) → RingSide fsid h p synced hi s d → RingSide fsid (with_txn h ops) p synced hi s d
ring_longer fsid h ops p synced hi s d side = record {
  base = side.base;
  low = side.low;
  high = side.high;
  fits = omega (arith, side.fits, end_longer h ops);
  fs = side.fs;
  all = side.all;
  ring = side.ring;
  fsid_is = side.fsid_is;
  start = side.start;
  stable = subst (Spells side.fs) (sym (part_longer h ops p synced side.base side.low (omega (arith, side.high, side.fits)))) side.stable;
  asked = subst (Spells side.all) (sym (part_longer h ops p hi side.base (omega (arith, side.low, side.high)) side.fits)) side.asked;
}

abbrev pub LongerLaw : Type 0
LongerLaw = (id : Identity) (h : History) (ops : List Op) (n lo hi : ℕ) (t : Tree) → AreAllowed (at h (end_of h)) ops → CanDo ops
    → lo ≤ hi → hi ≤ end_of h → StoreImage id h n lo hi t → StoreImage id (with_txn h ops) n lo hi t

module _ (longer_law : LongerLaw) (id : Identity) (fsid : List ℕ) (core : Numbers) (t : Files) (sound : t.may t.tree) (s : State) (d : Disk) where
  pub holding_one : (h : History) (ops : List Op) → AreAllowed (at h (end_of h)) ops → CanDo ops → end_of h + 1 < 2 ^ 63
      → Holding (StoreImage id) (reads id.settings) fsid h core t s d → Holding (StoreImage id) (reads id.settings) fsid (with_txn h ops) core t s d
  holding_one h ops allowed can small k =
      let n = core.committed in
      let m = core.journalled in
      let low : n ≤ m = k.ring.low in
      let now : StoreImage id h n m m t.tree = (theory_law id).whole h n n m t.tree low (k.images t.tree sound) k.reads in
      record {
        small = omega (arith, small, end_longer h ops);
        images = λ u may. longer_law id h ops n n m u allowed can low k.ring.fits (k.images u may);
        reads = (longer_law id h ops n m m t.tree allowed can (omega arith) k.ring.fits now).image.past;
        ring = ring_longer fsid h ops n m m s d k.ring;
      }

  again : (h : History) (ops : List Op) (txns : List (List Op)) → with_more (with_txn h ops) txns ≡ with_more h (ops ∷ txns)
  again h ops txns =
      ap (λ (l : List (List Op)). let longer : History = record { base = h.base; origin = h.origin; txns = l } in longer) (append_assoc h.txns (ops ∷ []) txns)

  pub holding_more : (h : History) (txns : List (List Op)) → AllAllowed (at h (end_of h)) txns → ((i : ℕ) (ops : List Op) → drop i txns ≡ ops ∷ drop (i + 1) txns → CanDo ops)
      → end_of h + length txns < 2 ^ 63 → Holding (StoreImage id) (reads id.settings) fsid h core t s d → Holding (StoreImage id) (reads id.settings) fsid (with_more h txns) core t s d
  holding_more h [] all can small k =
      subst (λ (l : List (List Op)). Holding (StoreImage id) (reads id.settings) fsid (record { base = h.base; origin = h.origin; txns = l }) core t s d) (sym (append-nil h.txns)) k
  holding_more h (ops ∷ txns) (here, all) can small k =
      let next : (j : ℕ) → suc (j + 1) ≡ suc j + 1 = λ j. omega arith in
      let one = holding_one h ops here (can 0 ops refl) (omega (arith, small)) k in
      let after : at (with_txn h ops) (end_of (with_txn h ops)) ≡ fold_ops (at h (end_of h)) ops = at_more h (ops ∷ []) in
      let rest : AllAllowed (at (with_txn h ops) (end_of (with_txn h ops))) txns = subst (λ (O : Objects). AllAllowed O txns) (sym after) all in
      subst (λ (g : History). Holding (StoreImage id) (reads id.settings) fsid g core t s d) (again h ops txns)
      (holding_more (with_txn h ops) txns rest (λ i q is. can (suc i) q (is ∙ ap (λ (k : ℕ). q ∷ drop k (ops ∷ txns)) (next i)))
      (omega (arith, small, end_longer h ops)) one)

none_here : (ops : List Op) (xs : List (List Op)) → ◌≡◌ {A = List (List Op)} [] (ops ∷ xs) → ⊥
none_here ops xs e = absurd (cc)

-- each that waits can be done
pub meets : (ws : List Queued) → AllMeet CanDo ws → (i : ℕ) (ops : List Op) → drop i (waiting_ops ws) ≡ ops ∷ drop (i + 1) (waiting_ops ws) → CanDo ops
meets [] all zero ops is = absurd (none_here ops (drop 1 []) is)
meets [] all (suc i) ops is = absurd (none_here ops (drop (suc i + 1) []) is)
meets (w ∷ ws) all zero ops is = subst CanDo (first w.txn.ops ops (waiting_ops ws) (drop 1 (waiting_ops (w ∷ ws))) is) (all 0 w refl)
  where
    first : (a b : List Op) (xs ys : List (List Op)) → a ∷ xs ≡ b ∷ ys → a ≡ b
    first a b xs ys e = cc
meets (w ∷ ws) all (suc i) ops is =
    let next : (j : ℕ) → suc (j + 1) ≡ suc j + 1 = λ j. omega arith in
    let back : suc i + 1 ≡ suc (i + 1) = omega arith in
    meets ws (λ j q here. all (suc j) q (here ∙ ap (λ (k : ℕ). q ∷ drop k (w ∷ ws)) (next j))) i ops
    (is ∙ ap (λ (k : ℕ). ops ∷ drop k (waiting_ops (w ∷ ws))) back)
