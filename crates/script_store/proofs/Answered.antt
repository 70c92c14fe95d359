-- What the result of a statement tells, by its kind.
use Rattle.std.proofs.Common.{◌≡◌, true, [], ◌∷◌, sym, ◌∙◌, ap, subst}
use Rattle.std.specs.Prelude.{Result, Ok, Err, IfOk, IfErr}
use Rattle.std.specs.Option.{option_to_list}
use Rattle.tree_api.specs.Disk.{Disk as Files, Still}
use Rattle.dev_api.specs.DeviceState.{DeviceState}
use Rattle.store_history.specs.History.{History}
use Rattle.fs_script.specs.declared.answer.Answer.TheVariants as answers
use Rattle.fs_script.specs.declared.statement.Statement.{Statement}
use Rattle.fs_script.specs.declared.statement.Statement.TheVariants.{Drain}
use Rattle.fs_session.specs.Answers.{step}
use Rattle.file_store.specs.Store.{Works, IsItsTree, IsItsDevice, IsDrained}
use Rattle.file_store.specs.Holds.{Holds, Waits, with_waiting}
use Rattle.script_store.specs.declared.fault.StepFault.{StepFault}
use Rattle.script_store.specs.declared.fault.StepFault.TheVariants as stepping
use Rattle.script_store.specs.declared.store.ScriptStore.{ScriptStore}
use Rattle.script_store.specs.declared.store.Stepped.{Stepped}
use Rattle.script_store.specs.Script.{session_on, is_reading}
use Rattle.script_store.specs.Held.{HoldsOn, IsSame, with_drained, with_queue}
use Rattle.script_store.proofs.Holding.{device_queued, same_queued, tree_queued, works_queued}
use Rattle.script_store.proofs.Stepping.{after_drained, after_reading, after_work, answers_drain, holds_drained, holds_reading, holds_work}

-- a reading gives the store back

pub read_after : (h : History) (s : ScriptStore) (st : Statement) (r : Result Stepped StepFault) → is_reading st ≡ true → IfOk r (λ x. x.store ≡ s)
    → IfOk r (λ x. session_on (with_drained h s st) x.store ≡ (step (session_on h s) st).session)
read_after h s st (Ok x) reading is = after_reading h s x.store st is reading
read_after h s st (Err e) reading is = tt

pub read_holds : (h : History) (s : ScriptStore) (st : Statement) (r : Result Stepped StepFault) (t t2 : Files) (d : DeviceState) → is_reading st ≡ true → IfOk r (λ x. x.store ≡ s)
    → Still t t2 → HoldsOn h s t d → IfOk r (λ x. HoldsOn (with_drained h s st) x.store t2 d)
read_holds h s st (Ok x) t t2 d reading is still k = holds_reading h s x.store st is reading t t2 d still k
read_holds h s st (Err e) t t2 d reading is still k = tt

pub read_works : (s : ScriptStore) (r : Result Stepped StepFault) → IfOk r (λ x. x.store ≡ s) → Works s.store → IfOk r (λ x. Works x.store.store)
read_works s (Ok x) is works = subst (λ (y : ScriptStore). Works y.store) (sym is) works
read_works s (Err e) is works = tt

pub read_same : (s : ScriptStore) (r : Result Stepped StepFault) → IfOk r (λ x. x.store ≡ s) → IfOk r (λ x. IsSame s.store x.store.store)
read_same s (Ok x) is = record { identity = ap (λ (y : ScriptStore). y.store.identity) is; size = ap (λ (y : ScriptStore). y.store.ring.head.size) is }
read_same s (Err e) is = tt

pub read_tree : (s : ScriptStore) (r : Result Stepped StepFault) (told : Type 0) (t : Files) → IfOk r (λ x. x.store ≡ s) → IsItsTree s.store told t
    → IfOk r (λ x. IsItsTree x.store.store told t)
read_tree s (Ok x) told t is its = subst (λ (y : ScriptStore). IsItsTree y.store told t) (sym is) its
read_tree s (Err e) told t is its = tt

pub read_device : (s : ScriptStore) (r : Result Stepped StepFault) (told : Type 0) (d : DeviceState) → IfOk r (λ x. x.store ≡ s) → IsItsDevice s.store told d
    → IfOk r (λ x. IsItsDevice x.store.store told d)
read_device s (Ok x) told d is its = subst (λ (y : ScriptStore). IsItsDevice y.store told d) (sym is) (record { extent = its.extent; ring = its.ring })
read_device s (Err e) told d is its = tt

-- a drain

pub drain_answers : (h : History) (s : ScriptStore) (st : Statement) (r : Result Stepped StepFault) → st ≡ Drain
    → IfOk r (λ x. option_to_list x.answer ≡ answers.Drained s.store.queue.last s.store.queue.last ∷ [])
    → IfOk r (λ x. option_to_list x.answer ≡ (step (session_on h s) st).answers)
drain_answers h s st (Ok x) is told = answers_drain h s x.store st is x.answer told
drain_answers h s st (Err e) is told = tt

pub drain_after : (h : History) (s : ScriptStore) (st : Statement) (r : Result Stepped StepFault) → st ≡ Drain
    → IfOk r (λ x. x.store.opened ≡ s.opened) → IfOk r (λ x. IsDrained s.store x.store.store)
    → IfOk r (λ x. session_on (with_drained h s st) x.store ≡ (step (session_on h s) st).session)
drain_after h s st (Ok x) is opened drained = after_drained h s x.store st is opened drained
drain_after h s st (Err e) is opened drained = tt

pub drain_holds : (h : History) (s : ScriptStore) (st : Statement) (r : Result Stepped StepFault) (t : Files) (d : DeviceState) → st ≡ Drain
    → IfOk r (λ x. Holds (with_waiting h s.store) x.store.store t d.disk) → IfOk r (λ x. HoldsOn (with_drained h s st) x.store t d)
drain_holds h s st (Ok x) t d is k = holds_drained h s x.store st is t d k
drain_holds h s st (Err e) t d is k = tt

pub drain_works : (s : ScriptStore) (r : Result Stepped StepFault) → IfOk r (λ x. IsDrained s.store x.store.store) → IfOk r (λ x. Works x.store.store)
drain_works s (Ok x) drained = drained.works
drain_works s (Err e) drained = tt

pub drain_same : (s : ScriptStore) (r : Result Stepped StepFault) → IfOk r (λ x. IsDrained s.store x.store.store) → IfOk r (λ x. IsSame s.store x.store.store)
drain_same s (Ok x) drained = record { identity = drained.identity; size = drained.size }
drain_same s (Err e) drained = tt

-- any other, which changes the queue alone

pub act_after : (h : History) (s : ScriptStore) (st : Statement) (r : Result Stepped StepFault) → (st ≡ Drain → ⊥)
    → IfOk r (λ x. session_on h x.store ≡ (step (session_on h s) st).session)
    → IfOk r (λ x. session_on (with_drained h s st) x.store ≡ (step (session_on h s) st).session)
act_after h s st (Ok x) other after = after_work h s x.store st other after
act_after h s st (Err e) other after = tt

pub act_holds : (h : History) (s : ScriptStore) (st : Statement) (r : Result Stepped StepFault) (t : Files) (d : DeviceState) → (st ≡ Drain → ⊥)
    → IfOk r (λ x. x.store.store ≡ with_queue s.store x.store.store.queue) → IfOk r (λ x. Waits h x.store.store) → HoldsOn h s t d
    → IfOk r (λ x. HoldsOn (with_drained h s st) x.store t d)
act_holds h s st (Ok x) t d other rest waits k = holds_work h s x.store st other t d rest waits k
act_holds h s st (Err e) t d other rest waits k = tt

pub act_works : (s : ScriptStore) (r : Result Stepped StepFault) → IfOk r (λ x. x.store.store ≡ with_queue s.store x.store.store.queue) → Works s.store → IfOk r (λ x. Works x.store.store)
act_works s (Ok x) rest works = works_queued s.store x.store.store rest works
act_works s (Err e) rest works = tt

pub act_same : (s : ScriptStore) (r : Result Stepped StepFault) → IfOk r (λ x. x.store.store ≡ with_queue s.store x.store.store.queue) → IfOk r (λ x. IsSame s.store x.store.store)
act_same s (Ok x) rest = same_queued s.store x.store.store rest
act_same s (Err e) rest = tt

pub act_tree : (s : ScriptStore) (r : Result Stepped StepFault) (told : Type 0) (t : Files) → IfOk r (λ x. x.store.store ≡ with_queue s.store x.store.store.queue)
    → IsItsTree s.store told t → IfOk r (λ x. IsItsTree x.store.store told t)
act_tree s (Ok x) told t rest its = tree_queued s.store x.store.store told t rest its
act_tree s (Err e) told t rest its = tt

pub act_device : (s : ScriptStore) (r : Result Stepped StepFault) (told : Type 0) (d : DeviceState) → IfOk r (λ x. x.store.store ≡ with_queue s.store x.store.store.queue)
    → IsItsDevice s.store told d → IfOk r (λ x. IsItsDevice x.store.store told d)
act_device s (Ok x) told d rest its = device_queued s.store x.store.store told d rest its
act_device s (Err e) told d rest its = tt

-- it fails for want of memory alone
pub only_memory : (r : Result Stepped StepFault) (fault : StepFault) → (stepping.Memory ≡ fault → ⊥) → IfErr r (λ e. e ≡ stepping.Memory) → r ≡ Err fault → ⊥
only_memory (Ok x) fault other memory is = absurd (cc)
only_memory (Err e) fault other memory is = other (sym memory ∙ taken e fault is)
  where
    taken : (a b : StepFault) → ◌≡◌ {A = Result Stepped StepFault} (Err a) (Err b) → a ≡ b
    taken a b same = cc
