-- What each kind of statement leaves: a reading, a drain, any other.
use Rattle.std.proofs.Common.{◌≡◌, ℕ, ◌≤◌, true, [], ◌∷◌, refl, sym, ◌∙◌, ap, subst, arith}
use Rattle.std.specs.Prelude.{Option}
use Rattle.std.specs.Option.{option_to_list}
use Rattle.tree_api.specs.Disk.{Disk as Files, Still}
use Rattle.dev_api.specs.Disk.{Disk}
use Rattle.dev_api.specs.DeviceState.{DeviceState}
use Rattle.store_history.specs.History.{History, end_of}
use Rattle.fs_script.specs.declared.answer.Answer.{Answer}
use Rattle.fs_script.specs.declared.answer.Answer.TheVariants as answers
use Rattle.fs_script.specs.declared.statement.Statement.{Statement}
use Rattle.fs_script.specs.declared.statement.Statement.TheVariants.{Drain}
use Rattle.fs_session.specs.Answers.{step}
use Rattle.file_store.specs.Store.{Store, IsDrained, waiting_in}
use Rattle.file_store.specs.Holds.{Holds, Leaves, Waits, with_waiting}
use Rattle.file_store.proofs.Stilled.{holds_stays}
use Rattle.script_store.specs.declared.store.ScriptStore.{ScriptStore}
use Rattle.script_store.specs.Script.{session_of, session_on, IsWork, is_reading}
use Rattle.script_store.specs.Held.{HoldsOn, LeavesSome, with_drained, with_queue}
use Rattle.script_store.proofs.Histories.{JournalLaw, holds_leaves, longer, lower}
use Rattle.script_store.proofs.Holding.{drained_session, holds_queued, no_drain, reading_stays, same_history}

-- a store that nothing is done to leaves what it holds
pub left_alone : JournalLaw → (h : History) (s : Store) (t : Files) (d : Disk) → Holds h s t d → Leaves (with_waiting h s) (end_of h) s t d
left_alone law h s t d k = longer h (waiting_in s) (end_of h) s t d (holds_leaves law h s t d k)

module _ (h : History) (s s2 : ScriptStore) (st : Statement) (is : s2 ≡ s) (reading : is_reading st ≡ true) where
  pub after_reading : session_on (with_drained h s st) s2 ≡ (step (session_on h s) st).session
  after_reading =
      ap (session_on (with_drained h s st)) is
      ∙ ap (λ (g : History). session_on g s) (sym (same_history h s st (no_drain st reading)))
      ∙ sym (reading_stays (session_on h s) st reading)

  pub holds_reading : (t t2 : Files) (d : DeviceState) → Still t t2 → HoldsOn h s t d → HoldsOn (with_drained h s st) s2 t2 d
  holds_reading t t2 d still k =
      subst (λ (x : ScriptStore). HoldsOn (with_drained h s st) x t2 d) (sym is)
      (subst (λ (g : History). HoldsOn g s t2 d) (same_history h s st (no_drain st reading)) (holds_stays t t2 still.stays h s.store d.disk k))

pub left_reading : JournalLaw → (h : History) (s : ScriptStore) (t t2 : Files) (d : DeviceState) → Still t t2 → HoldsOn h s t d → LeavesSome h s t2 d
left_reading law h s t t2 d still k = left_alone law h s.store t2 d.disk (holds_stays t t2 still.stays h s.store d.disk k)

module _ (h : History) (s s2 : ScriptStore) (st : Statement) (is : st ≡ Drain) where
  pub answers_drain : (answer : Option Answer) → option_to_list answer ≡ answers.Drained s.store.queue.last s.store.queue.last ∷ []
      → option_to_list answer ≡ (step (session_on h s) st).answers
  unfolding step
  answers_drain answer told = told ∙ sym (ap (λ (x : Statement). (step (session_on h s) x).answers) is)

  pub after_drained : s2.opened ≡ s.opened → IsDrained s.store s2.store → session_on (with_drained h s st) s2 ≡ (step (session_on h s) st).session
  unfolding step
  after_drained opened drained =
      ap (λ (x : Statement). session_on (with_drained h s x) s2) is
      ∙ ap (session_of (with_waiting h s.store) s2.store) opened
      ∙ drained_session h s.store s2.store s.opened drained
      ∙ sym (ap (λ (x : Statement). (step (session_on h s) x).session) is)

  pub holds_drained : (t : Files) (d : DeviceState) → Holds (with_waiting h s.store) s2.store t d.disk → HoldsOn (with_drained h s st) s2 t d
  holds_drained t d k = subst (λ (x : Statement). HoldsOn (with_drained h s x) s2 t d) (sym is) k

-- what a drain that gave up leaves
pub left_drained : (h : History) (s : Store) (n : ℕ) (t t2 : Files) (d d2 : Disk) → s.numbers.journalled ≤ n → Holds h s t d
    → Leaves (with_waiting h s) n s t2 d2 → Leaves (with_waiting h s) (end_of h) s t2 d2
left_drained h s n t t2 d d2 le k leaves = lower (with_waiting h s) n (end_of h) s t2 d2 (omega (arith, k.end, le)) leaves

pub is_work : (st : Statement) → (st ≡ Drain → ⊥) → IsWork st
is_work Drain other = other refl
is_work _ other = tt

module _ (h : History) (s s2 : ScriptStore) (st : Statement) (other : st ≡ Drain → ⊥) where
  pub after_work : session_on h s2 ≡ (step (session_on h s) st).session → session_on (with_drained h s st) s2 ≡ (step (session_on h s) st).session
  after_work after = ap (λ (g : History). session_on g s2) (sym (same_history h s st other)) ∙ after

  pub holds_work : (t : Files) (d : DeviceState) → s2.store ≡ with_queue s.store s2.store.queue → Waits h s2.store → HoldsOn h s t d
      → HoldsOn (with_drained h s st) s2 t d
  holds_work t d is waits k =
      subst (λ (g : History). HoldsOn g s2 t d) (same_history h s st other) (holds_queued h s.store s2.store t d.disk is waits k)
