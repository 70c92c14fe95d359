-- What a store holds, after statements.
use Rattle.std.proofs.Common.{◌≡◌, true, false, List, [], refl, sym, ◌∙◌, ap, subst}
use Rattle.std.specs.Prelude.{Option}
use Rattle.std.specs.List.{flat_map}
use Rattle.fs_model.specs.declared.op.Op.{Op}
use Rattle.fs_model.specs.Objects.{Objects}
use Rattle.fs_model.specs.Rows.{fold_ops}
use Rattle.tree_api.specs.Disk.{Disk as Files}
use Rattle.dev_api.specs.Disk.{Disk}
use Rattle.dev_api.specs.DeviceState.{DeviceState}
use Rattle.store_history.specs.History.{History, end_of, at}
use Rattle.store_turns.specs.declared.numbers.Numbers.{Numbers}
use Rattle.store_queue.specs.Waiting.{Waiting}
use Rattle.history_tails.proofs.Tails.{at_more}
use Rattle.tree_places.proofs.Flat.{fold_flat}
use Rattle.fs_script.specs.declared.statement.Statement.{Statement}
use Rattle.fs_script.specs.declared.statement.Statement.TheVariants.{Drain, Read, Stat, Attrs, Omap, List as ListIn, Colls}
use Rattle.fs_session.specs.Answers.{Session, step, after_drain}
use Rattle.file_store.specs.Store.{Store, Works, IsItsTree, IsItsDevice, IsDrained, waiting_in}
use Rattle.file_store.specs.Holds.{Holds, Waits, with_waiting}
use Rattle.script_store.specs.declared.store.ScriptStore.{ScriptStore}
use Rattle.script_store.specs.Script.{session_of, session_on, is_reading}
use Rattle.script_store.specs.Held.{with_queue, more, with_drained, IsSame}
use Rattle.script_store.proofs.Histories.{more_none, none_drained}
use Rattle.script_store.proofs.Queued.{flat_waiting}

-- a store with another queue holds what it held
pub holds_queued : (h : History) (s s2 : Store) (t : Files) (d : Disk) → s2 ≡ with_queue s s2.queue → Waits h s2 → Holds h s t d → Holds h s2 t d
holds_queued h s s2 t d is waits k =
    subst (λ (x : Store). Holds h x t d) (sym is) (record { works = k.works; long = k.long; tail = k.tail; end = k.end; on = k.on; waits = subst (Waits h) is waits })

-- a statement other than a drain adds nothing to the history
pub same_history : (h : History) (s : ScriptStore) (statement : Statement) → (statement ≡ Drain → ⊥) → h ≡ with_drained h s statement
same_history h s statement other = sym (ap (more h) (none_drained (session_on h s) statement other) ∙ more_none h)

-- what is kept of a store whose queue alone changed

pub works_queued : (s s2 : Store) → s2 ≡ with_queue s s2.queue → Works s → Works s2
works_queued s s2 is works = subst Works (sym is) works

pub same_queued : (s s2 : Store) → s2 ≡ with_queue s s2.queue → IsSame s s2
same_queued s s2 is = record { identity = ap (λ (x : Store). x.identity) is; size = ap (λ (x : Store). x.ring.head.size) is }

pub tree_queued : (s s2 : Store) (told : Type 0) (t : Files) → s2 ≡ with_queue s s2.queue → IsItsTree s told t → IsItsTree s2 told t
tree_queued s s2 told t is its = subst (λ (x : Store). IsItsTree x told t) (sym is) its

pub device_queued : (s s2 : Store) (told : Type 0) (d : DeviceState) → s2 ≡ with_queue s s2.queue → IsItsDevice s told d → IsItsDevice s2 told d
device_queued s s2 told d is its = subst (λ (x : Store). IsItsDevice x told d) (sym is) (record { extent = its.extent; ring = its.ring })

-- readings

pub no_drain : (statement : Statement) → is_reading statement ≡ true → statement ≡ Drain → ⊥
no_drain statement reading is = absurd (no (sym (ap is_reading is) ∙ reading))
  where
    no : false ≡ true → ⊥
    no e = absurd (cc)

pub reading_stays : (s : Session) (statement : Statement) → is_reading statement ≡ true → (step s statement).session ≡ s
unfolding step
reading_stays s (Read c o from len) is = refl
reading_stays s (Stat c o) is = refl
reading_stays s (Attrs c o) is = refl
reading_stays s (Omap c o) is = refl
reading_stays s (ListIn c cursor max) is = refl
reading_stays s Colls is = refl
reading_stays s _ is = absurd (cc)

-- a drain

-- the objects after all that waited
pub drained_objects : (h : History) (s : Store) → at (with_waiting h s) (end_of (with_waiting h s)) ≡ fold_ops (at h (end_of h)) (flat_map (λ txn. txn.ops) s.queue.txns)
drained_objects h s =
    let O = at h (end_of h) in
    at_more h (waiting_in s) ∙ sym (fold_flat O (waiting_in s)) ∙ sym (ap (fold_ops O) (flat_waiting s.queue.txns))

module _ (h : History) (s s2 : Store) (opened : Option (List Op)) (drained : IsDrained s s2) where
  abbrev session_with : Objects → Waiting → Numbers → Session
  session_with objects queue numbers = record {
    objects = objects;
    waiting = queue.txns;
    opened = opened;
    last = queue.last;
    acked = numbers.journalled;
    size = queue.size;
  }

  pub drained_session : session_of (with_waiting h s) s2 opened ≡ after_drain (session_of h s opened)
  drained_session =
      let after = fold_ops (at h (end_of h)) (flat_map (λ txn. txn.ops) s.queue.txns) in
      ap (λ (O : Objects). session_with O s2.queue s2.numbers) (drained_objects h s)
      ∙ ap (λ (queue : Waiting). session_with after queue s2.numbers) drained.queue
      ∙ ap (λ (numbers : Numbers). session_with after (record s.queue { txns = [] }) numbers) drained.numbers
