-- Why a mount gives up, by the fault of the call that it hands on.
use Rattle.std.proofs.Common.{◌≡◌, ℕ, ◌+◌, ◌-◌, ◌≤◌, List, drop, sym, ◌∙◌, ap, subst, arith, refl, Some, None}
use Rattle.fs_model.specs.declared.op.Op.{Op}
use Rattle.fs_model.specs.Objects.{Objects}
use Rattle.tree_api.specs.Tree.{Tree}
use Rattle.ring_frame.specs.Frame.{Entry}
use Rattle.ring_frame.specs.Heads.{Head, head_of}
use Rattle.ring_images.specs.Held.{readable}
use Rattle.ring_journal.specs.declared.blob.Stored.{Stored}
use Rattle.ring_journal.specs.State.{IsUnspentImage, told_first}
use Rattle.store_history.specs.Images.{Images}
use Rattle.store_history.specs.Pair.{StandsAt}
use Rattle.store_turns.specs.Theory.{Reads, Theory}
use Rattle.store_turns.proofs.Redone.{told_txn}
use Rattle.store_mount.specs.declared.fault.MountFault.{MountFault}
use Rattle.store_mount.specs.declared.fault.MountFault.TheVariants.{NoHeader, WrongFsid, Spent, BadSeq, JournalGap, Damaged, BadEntry, Tree as OfTree, Device, Memory}
use Rattle.store_mount.specs.Causes.{AreFit, IsFoundFirst, IsOutside, RefusesNumber, RefusesLook, RefusesEntry, RefusesReplay, IsBadEntry, Loads, Explains}
use Rattle.store_mount.proofs.Fit.{fit_at}
use Rattle.store_mount.proofs.Told.{Spelled}
use Rattle.store_mount.proofs.Ways.{some_head, no_gap, spelled}

-- what stops a mount before it does any entry again
module _ (fits : List Op → Type 0) (number : Tree → ℕ → Type 0) (laid : Tree → Type 0) (t : Tree) (bytes fsid : List ℕ) (loads : Loads bytes fsid) where
  pub number_explains : (f : MountFault) → RefusesNumber number t f → Explains fits number laid fsid t bytes f
  number_explains NoHeader h = absurd h
  number_explains (WrongFsid tree found) h = absurd h
  number_explains Spent h = absurd h
  number_explains BadSeq h = (loads, h)
  number_explains (JournalGap start committed) h = absurd h
  number_explains (Damaged path) h = absurd h
  number_explains (BadEntry seq) h = absurd h
  number_explains OfTree h = tt
  number_explains Device h = tt
  number_explains Memory h = tt

  pub look_explains : (m : ℕ) → number t m → loads.head.seq ≤ m + 1 → (f : MountFault) → RefusesLook laid t f → Explains fits number laid fsid t bytes f
  look_explains m is gap NoHeader h = absurd h
  look_explains m is gap (WrongFsid tree found) h = absurd h
  look_explains m is gap Spent h = absurd h
  look_explains m is gap BadSeq h = absurd h
  look_explains m is gap (JournalGap start committed) h = absurd h
  look_explains m is gap (Damaged path) h = record { loads = loads; committed = m; number_is = is; no_gap = gap; not_laid = h }
  look_explains m is gap (BadEntry seq) h = absurd h
  look_explains m is gap OfTree h = tt
  look_explains m is gap Device h = tt
  look_explains m is gap Memory h = tt

-- an entry of the ring was told and not done again
pub entry_refuses : (fits : List Op → Type 0) (n first i : ℕ) (es : List Entry) (stored : Stored) → told_first (drop i es) ≡ Some stored → stored.seq ≡ first + i
    → Spelled fits (n + 1 - first) es i → (f : MountFault) → RefusesEntry fits n stored f → RefusesReplay fits n first es f
entry_refuses fits n first i es stored told is before NoHeader h = h
entry_refuses fits n first i es stored told is before (WrongFsid tree found) h = h
entry_refuses fits n first i es stored told is before Spent h = h
entry_refuses fits n first i es stored told is before BadSeq h = h
entry_refuses fits n first i es stored told is before (JournalGap start committed) h = h
entry_refuses fits n first i es stored told is before (Damaged path) h = tt
entry_refuses fits n first i es stored told is before (BadEntry seq) h =
    record { place = i; stored = stored; told = told; number = h.0 ∙ is; above = omega (arith, h.0, h.1); spells_none = h.2; before = before }
entry_refuses fits n first i es stored told is before OfTree h = tt
entry_refuses fits n first i es stored told is before Device h = tt
entry_refuses fits n first i es stored told is before Memory h = tt

-- where it is told it comes after what is found first
pub entry_late : (fits : List Op → Type 0) (n : ℕ) (stored : Stored) (f : MountFault) → ((p : List (List ℕ)) → f ≡ Damaged p → ⊥) → RefusesEntry fits n stored f → IsFoundFirst f → ⊥
entry_late fits n stored NoHeader whole h first = h
entry_late fits n stored (WrongFsid tree found) whole h first = h
entry_late fits n stored Spent whole h first = h
entry_late fits n stored BadSeq whole h first = h
entry_late fits n stored (JournalGap start committed) whole h first = h
entry_late fits n stored (Damaged path) whole h first = whole path refl
entry_late fits n stored (BadEntry seq) whole h first = first
entry_late fits n stored OfTree whole h first = first
entry_late fits n stored Device whole h first = first
entry_late fits n stored Memory whole h first = first

module _ (fits : List Op → Type 0) (number : Tree → ℕ → Type 0) (laid : Tree → Type 0) (t : Tree) (fsid bytes : List ℕ) (loads : Loads bytes fsid) (m : ℕ) (is : number t m)
    (gap : loads.head.seq ≤ m + 1) (may : laid t) where
  pub replay_explains : (f : MountFault) → ((p : List (List ℕ)) → f ≡ Damaged p → ⊥) → RefusesReplay fits m loads.head.seq (readable bytes) f → Explains fits number laid fsid t bytes f
  replay_explains NoHeader whole h = absurd h
  replay_explains (WrongFsid tree found) whole h = absurd h
  replay_explains Spent whole h = absurd h
  replay_explains BadSeq whole h = absurd h
  replay_explains (JournalGap start committed) whole h = absurd h
  replay_explains (Damaged path) whole h = absurd (whole path refl)
  replay_explains (BadEntry seq) whole h = record { loads = loads; committed = m; number_is = is; no_gap = gap; is_laid = may; bad = h }
  replay_explains OfTree whole h = tt
  replay_explains Device whole h = tt
  replay_explains Memory whole h = tt

-- what stands refuses no mount, where its transactions can be done
module _ (fits : List Op → Type 0) (image : Images Tree) (reads : Reads) (number : Tree → ℕ → Type 0) (laid : Tree → Type 0) (theory : Theory image reads number laid)
    (fsid bytes : List ℕ) (t : Tree) (o : Objects) (n last : ℕ) (s : StandsAt image fsid t bytes o n last) (all : AreFit fits s.txns) (unspent : IsUnspentImage bytes) where
  some_none : (a : Head) → Some a ≡ None → ⊥
  some_none a e = cc

  stored_spells : (head : Head) → head_of bytes ≡ Some head → (m : ℕ) → number t m → (seq : ℕ) → IsBadEntry fits m head.seq (readable bytes) seq → ⊥
  stored_spells head header m is seq bad =
      let told = told_txn m head.seq bad.place s.before (readable bytes) s.txns bad.stored (no_gap image reads number laid theory fsid bytes head header m t is o n last s)
      (omega (arith, bad.number, bad.above)) (spelled image reads number laid theory fsid bytes head header m t is o n last s) bad.told in
      bad.spells_none told.0 told.1 (subst fits told.2 (fit_at fits s.txns _ (omega (arith, told.3, bad.number, bad.above)) all))

  pub outside : (f : MountFault) → Explains fits number laid fsid t bytes f → IsOutside f
  outside NoHeader h = some_none s.head (sym s.header ∙ h)
  outside (WrongFsid tree found) h =
      h.1.3 (sym h.1.2 ∙ ap (λ (x : Head). x.fsid) (some_head h.1.0 s.head (sym h.1.1 ∙ s.header)) ∙ s.fsid_is)
  outside Spent h = h.3 (unspent h.0 h.1)
  outside BadSeq h = h.1 n (theory.number_is _ n n last t s.good)
  outside (JournalGap start committed) h =
      let le = no_gap image reads number laid theory fsid bytes h.loads.head h.loads.header committed t h.number_is o n last s in
      absurd (omega (arith, le, h.gap, h.start_is))
  outside (Damaged path) h = h.not_laid (theory.laid_is _ n n last t s.good)
  outside (BadEntry seq) h = stored_spells h.loads.head h.loads.header h.committed h.number_is seq h.bad
  outside OfTree h = tt
  outside Device h = tt
  outside Memory h = tt
