-- Why a run stops, carried up to its end.
use Rattle.std.proofs.Common.{◌≡◌, inl, inr, ℕ, ◌≤◌, ltb, ◌<◌, cond, List, [], length, refl, sym, ◌∙◌, ap, subst, arith}
use Rattle.std.specs.Prelude.{Result, Ok, Err, OnOk, IfErr}
use Rattle.std.proofs.lemmas.Bool.Decides.{nat_tests}
use Rattle.io_edge.specs.Flow.{Inflow, Outflow, SourceFails, SinkFails}
use Rattle.io_edge.specs.Pieces.{IsPast}
use Rattle.fs_script.specs.declared.statement.Line.{Line}
use Rattle.fs_script.specs.declared.fault.ScriptWhy.TheVariants.{TooLong}
use Rattle.fs_script.specs.Grammar.{script_said, script_limit}
use Rattle.fs_session.specs.Answers.{Session, answers_text}
use Rattle.script_store.specs.declared.store.ScriptStore.{ScriptStore}
use Rattle.store_files.specs.declared.reading.Identity.{Identity}
use Rattle.filestore_cli.specs.declared.command.Command.{Command}
use Rattle.filestore_cli.specs.declared.stop.Refusal.{Refusal}
use Rattle.filestore_cli.specs.declared.stop.Refusal.TheVariants.{Script, Store, Size, NotEmpty, Damaged}
use Rattle.filestore_cli.specs.declared.stop.Stop.{Stop}
use Rattle.filestore_cli.specs.declared.stop.Stop.TheVariants.{Usage, Tree as TreeStop, Device, Source, Sink, Memory, Refused}
use Rattle.filestore_cli.specs.Seen.{Seen, SeenSides, Sides, scene as on, moves, turns, Says, SinkFailed, EndsWith, TreeFails, DeviceFails}
use Rattle.filestore_cli.specs.Opened.{Opens}
use Rattle.filestore_cli.specs.Stop.{status_of, line_of, usage_line, memory_line, TakesMemory, Ended}
use Rattle.filestore_cli.specs.Run.{Begun, Done, CouldStart, Unstarted, Cut, Stopped, Halted, Halts, Stops, StopsOn, StopsWith, AnswersAll, AnswersScript, Answers, IsCaused, IsCausedBy, IsStartCaused, IsFree, IsStepStop, IsStartStop, RunStops}
use Rattle.io_edge.proofs.Writing.{counted_since}
use Rattle.filestore_cli.proofs.Saying.{ends_then, part_still}

-- ---- causes

pub start_caused : (w : SeenSides) (k : Seen Outflow) (stop : Stop) → IsStartCaused w stop → IsCausedBy w k stop
start_caused w k Usage h = h
start_caused w k TreeStop h = h
start_caused w k Device h = h
start_caused w k Source h = h
start_caused w k Sink h = absurd h
start_caused w k Memory h = tt
start_caused w k (Refused refusal) h = tt

-- of a call behind others
pub caused_since : (t u r : Type 0) (d e f : Sides) (a b c : Outflow) (stop : Stop) → d.tree.faults ≤ e.tree.faults → d.device.faults ≤ e.device.faults → a.faults ≤ b.faults
    → IsCausedBy (turns t e f) (moves u b c) stop → IsCausedBy (turns t d f) (moves r a c) stop
caused_since t u r d e f a b c Usage lt le lf h = h
caused_since t u r d e f a b c TreeStop lt le lf h = counted_since d.tree.faults e.tree.faults f.tree.faults lt h
caused_since t u r d e f a b c Device lt le lf h = counted_since d.device.faults e.device.faults f.device.faults le h
caused_since t u r d e f a b c Source lt le lf h = h
caused_since t u r d e f a b c Sink lt le lf h = counted_since a.faults b.faults c.faults lf h
caused_since t u r d e f a b c Memory lt le lf h = tt
caused_since t u r d e f a b c (Refused refusal) lt le lf h = tt

pub caused_behind : {A : Type 0} (t u : Type 0) (d e f : Sides) (a c : Outflow) (r : Result A Stop) → d.tree.faults ≤ e.tree.faults → d.device.faults ≤ e.device.faults
    → IfErr r (IsCausedBy (turns t e f) (moves u a c)) → IfErr r (IsCausedBy (turns t d f) (moves u a c))
caused_behind t u d e f a c (Ok x) lt le h = tt
caused_behind t u d e f a c (Err stop) lt le h = caused_since t u u d e f a a c stop lt le (omega arith) h

with_source : (w : SeenSides) (i : Seen Inflow) (k : Seen Outflow) (stop : Stop) → IsCausedBy w k stop → IsCaused (on w i k) stop
with_source w i k Usage h = h
with_source w i k TreeStop h = h
with_source w i k Device h = h
with_source w i k Source h = absurd h
with_source w i k Sink h = h
with_source w i k Memory h = tt
with_source w i k (Refused refusal) h = tt

pub read_caused : {A : Type 0} (w : SeenSides) (i : Seen Inflow) (k : Seen Outflow) (r : Result A Stop) → IfErr r (IsCausedBy w k) → IfErr r (IsCaused (on w i k))
read_caused w i k (Ok x) h = tt
read_caused w i k (Err stop) h = with_source w i k stop h

-- with the last line
written_caused : (w : SeenSides) (i : Seen Inflow) (t u : Type 0) (a b c : Outflow) (stop : Stop) → b.faults ≤ c.faults → IsCaused (on w i (moves t a b)) stop → IsCaused (on w i (moves u a c)) stop
written_caused w i t u a b c Usage le h = h
written_caused w i t u a b c TreeStop le h = h
written_caused w i t u a b c Device le h = h
written_caused w i t u a b c Source le h = h
written_caused w i t u a b c Sink le h = omega (arith, le, h)
written_caused w i t u a b c Memory le h = tt
written_caused w i t u a b c (Refused refusal) le h = tt

-- ---- what can't be refused

pub stepped_free : (stop : Stop) → IsStepStop stop → IsFree stop
stepped_free TreeStop only = tt
stepped_free Device only = tt
stepped_free Memory only = tt
stepped_free Sink only = tt
stepped_free Usage only = tt
stepped_free Source only = tt
stepped_free (Refused refusal) only = absurd only

pub start_free : (stop : Stop) → IsStartStop stop → IsFree stop
start_free TreeStop only = tt
start_free Device only = tt
start_free Memory only = tt
start_free Sink only = tt
start_free Usage only = tt
start_free Source only = tt
start_free (Refused refusal) only = absurd only

-- ---- a run on a store

-- each session that the command begins with was opened in between
module _ {A : Type 0} (command : Command) (w : SeenSides) (between : Sides) (script : List Line) (k : Seen Outflow) (store : ScriptStore)
    (could : CouldStart command w.old) (opens : Begun command w (Opens store between)) where
  pub ran_all : (r : Result A Stop) → ((id : Identity) (s : Session) → Opens store between id s → OnOk r (Done id s script k w.new)) → OnOk r (AnswersScript command w script k)
  ran_all (Ok x) done = λ bytes said. record { script = script; said = said; could = could; done = λ id s starts. done id s (opens id s starts) }
  ran_all (Err stop) done = tt

  pub ran_halts : (r : Result A Stop) → ((id : Identity) (s : Session) → Opens store between id s → IfErr r (Halted id s script (Says k) k w.new)) → IfErr r (Halts command w script (Says k) k)
  ran_halts (Ok x) h = tt
  ran_halts (Err stop) h = inr (could, λ id s starts. h id s (opens id s starts))

module _ {A : Type 0} (command : Command) (w : SeenSides) (bytes : List ℕ) (script : List Line) (k : Seen Outflow) (said : script_said bytes ≡ Ok script) where
  pub text_all : (r : Result A Stop) → OnOk r (AnswersScript command w script k) → OnOk r (AnswersAll command w bytes k)
  text_all (Ok x) h = h bytes said
  text_all (Err stop) h = tt

  pub text_stops : (r : Result A Stop) → (w.told → IfErr r (Halts command w script (Says k) k)) → IfErr r (Stops command w bytes (Says k) k)
  text_stops (Ok x) h = tt
  text_stops (Err stop) h = inr (script, said, h)

module _ {A : Type 0} (command : Command) (w : SeenSides) (i : Seen Inflow) (text : List ℕ) (k : Seen Outflow)
    (whole : i.told → text ≡ i.old.left) (ended : i.told → i.new.left ≡ []) where
  pub read_all_answers : (r : Result A Stop) → (w.told → OnOk r (AnswersAll command w text k)) → OnOk r (Answers command (on w i k))
  read_all_answers (Ok x) h = λ told heard. (ended heard, subst (λ (b : List ℕ). AnswersAll command w b k) (whole heard) (h told))
  read_all_answers (Err stop) h = tt

  pub read_stops : (r : Result A Stop) → IfErr r (Stops command w text (Says k) k) → IfErr r (StopsOn command w i (Says k) k)
  read_stops (Ok x) h = tt
  read_stops (Err stop) h = inr (λ heard. (ended heard, subst (λ (b : List ℕ). Stops command w b (Says k) k stop) (whole heard) h))

chosen : {A : Type 0} (a b : ℕ) (x y : A) → a < b → cond (ltb a b) x y ≡ x
chosen a b x y h = grind (arith, nat_tests)

-- more bytes than a script may have
pub too_long : (before now : Inflow) → IsPast script_limit before now → script_said before.left ≡ Err (record { line = 0; why = TooLong })
unfolding script_said
too_long before now past = chosen script_limit (length before.left) _ _ (omega (arith, past.past, past.within))

-- what isn't a script is none
pub not_said : {X E : Type 0} (r : Result X E) (x : X) (e : E) → r ≡ Ok x → r ≡ Err e → ⊥
not_said r x e said is = absurd (no_ok (sym said ∙ is))
  where
    no_ok : Ok x ≡ Err e → ⊥
    no_ok same = absurd (cc)

-- ---- with the last line

stopped_map : (id : Identity) (s : Session) (script : List Line) (V W : List ℕ → Type 0) (w : Sides) → ((text : List ℕ) → V text → W text) → Stopped id s script V w → Stopped id s script W w
stopped_map id s script V W w f h =
    record { done = h.done; tried = h.tried; rest = h.rest; few = h.few; cut = h.cut; written = f (answers_text s h.done) h.written; survives = h.survives }

cut_map : (id : Identity) (s : Session) (script : List Line) (t u : Type 0) (a b c : Outflow) (w : Sides) → (u → t) → EndsWith (moves u b c) [] []
    → Cut id s script (moves t a b) w → Cut id s script (moves u a c) w
cut_map id s script t u a b c w heard still h =
    record { done = h.done; line = h.line; rest = h.rest; cut = h.cut; written = part_still t u a b c _ _ heard h.written still; survives = h.survives }

module _ (t u : Type 0) (a b c : Outflow) (heard : u → t) (le : a.faults ≤ b.faults) where
  halted_ends : (id : Identity) (s : Session) (script : List Line) (w : Sides) (stop : Stop) → EndsWith (moves u b c) [] (line_of stop)
      → Halted id s script (Says (moves t a b)) (moves t a b) w stop → Halted id s script (λ text. EndsWith (moves u a c) text (line_of stop)) (moves u a c) w stop
  halted_ends id s script w Usage ends h = h
  halted_ends id s script w TreeStop ends h = stopped_map id s script _ _ w (λ text says. ends_then t u a b c text _ heard le says ends) h
  halted_ends id s script w Device ends h = stopped_map id s script _ _ w (λ text says. ends_then t u a b c text _ heard le says ends) h
  halted_ends id s script w Source ends h = h
  halted_ends id s script w Sink ends h = cut_map id s script t u a b c w heard ends h
  halted_ends id s script w Memory ends h = stopped_map id s script _ _ w (λ text says. ends_then t u a b c text _ heard le says ends) h
  halted_ends id s script w (Refused refusal) ends h = h

  halts_ends : (command : Command) (w : SeenSides) (script : List Line) (stop : Stop) → EndsWith (moves u b c) [] (line_of stop)
      → Halts command w script (Says (moves t a b)) (moves t a b) stop → Halts command w script (λ text. EndsWith (moves u a c) text (line_of stop)) (moves u a c) stop
  halts_ends command w script stop ends (inl h) = inl (h.0, ends_then t u a b c [] (line_of stop) heard le h.1 ends)
  halts_ends command w script stop ends (inr h) = inr (h.0, λ id s starts. halted_ends id s script w.new stop ends (h.1 id s starts))

  stops_ends : (command : Command) (w : SeenSides) (bytes : List ℕ) (stop : Stop) → EndsWith (moves u b c) [] (line_of stop)
      → Stops command w bytes (Says (moves t a b)) (moves t a b) stop → Stops command w bytes (λ text. EndsWith (moves u a c) text (line_of stop)) (moves u a c) stop
  stops_ends command w bytes stop ends (inl h) = inl (h.0, h.1, ends_then t u a b c [] (line_of stop) heard le h.2 ends)
  stops_ends command w bytes stop ends (inr h) = inr (h.0, h.1, λ told. halts_ends command w h.0 stop ends (h.2 told))

  ends_on : (command : Command) (w : SeenSides) (i : Seen Inflow) (stop : Stop) → EndsWith (moves u b c) [] (line_of stop)
      → StopsOn command w i (Says (moves t a b)) (moves t a b) stop → StopsOn command w i (λ text. EndsWith (moves u a c) text (line_of stop)) (moves u a c) stop
  ends_on command w i stop ends (inl h) = inl (h.0, h.1, ends_then t u a b c [] (line_of stop) heard le h.2 ends)
  ends_on command w i stop ends (inr h) = inr (λ told. let k = h told in (k.0, stops_ends command w i.old.left stop ends k.1))

-- no memory for the line of a refusal: a store that works refuses nothing
module _ (W : List ℕ → Type 0) (k : Seen Outflow) (refusal : Refusal) where
  halted_lack : (id : Identity) (s : Session) (script : List Line) (w : Sides) → Halted id s script W k w (Refused refusal) → Halted id s script W k w Memory
  halted_lack id s script w h = absurd h

  halts_lack : (command : Command) (w : SeenSides) (script : List Line) → Halts command w script W k (Refused refusal) → Halts command w script W k Memory
  halts_lack command w script (inl h) = inl (lack command h.0, h.1)
    where
      lack : (c : Command) → Unstarted c w (Refused refusal) → Unstarted c w Memory
      lack c u = u.1
  halts_lack command w script (inr h) = inr (h.0, λ id s starts. halted_lack id s script w.new (h.1 id s starts))

  stops_lack : (command : Command) (w : SeenSides) (bytes : List ℕ) → Stops command w bytes W k (Refused refusal) → Stops command w bytes W k Memory
  stops_lack command w bytes (inl h) = inl (tt, h.1, h.2)
  stops_lack command w bytes (inr h) = inr (h.0, h.1, λ told. halts_lack command w h.0 (h.2 told))

  lack_on : (command : Command) (w : SeenSides) (i : Seen Inflow) → StopsOn command w i W k (Refused refusal) → StopsOn command w i W k Memory
  lack_on command w i (inl h) = inl (λ told. tt, h.1, h.2)
  lack_on command w i (inr h) = inr (λ told. let k = h told in (k.0, stops_lack command w i.old.left k.1))

-- the whole run
module _ (command : Command) (w : SeenSides) (i : Seen Inflow) (t u : Type 0) (a b c : Outflow) (heard : u → t) (le : a.faults ≤ b.faults) (lf : b.faults ≤ c.faults) where
  ran_plain : (stop : Stop) → StopsOn command w i (Says (moves t a b)) (moves t a b) stop → IsCaused (on w i (moves t a b)) stop → EndsWith (moves u b c) [] (line_of stop)
      → RunStops command (on w i (moves u a c)) stop (line_of stop)
  ran_plain stop stops caused ends =
      record { stops = ends_on t u a b c heard le command w i stop ends stops; caused = written_caused w i t u a b c stop lf caused }

  ran_lacking : (stop : Stop) → StopsOn command w i (Says (moves t a b)) (moves t a b) stop → TakesMemory stop → EndsWith (moves u b c) [] memory_line
      → RunStops command (on w i (moves u a c)) Memory memory_line
  ran_lacking (Refused refusal) stops takes ends =
      record { stops = ends_on t u a b c heard le command w i Memory ends (lack_on (Says (moves t a b)) (moves t a b) refusal command w i stops); caused = tt }
  ran_lacking Usage stops takes ends = absurd takes
  ran_lacking TreeStop stops takes ends = absurd takes
  ran_lacking Device stops takes ends = absurd takes
  ran_lacking Source stops takes ends = absurd takes
  ran_lacking Sink stops takes ends = absurd takes
  ran_lacking Memory stops takes ends = absurd takes

  pub ran : (stop : Stop) (status : ℕ) → StopsOn command w i (Says (moves t a b)) (moves t a b) stop → IsCaused (on w i (moves t a b)) stop → Ended stop (moves u b c) status
      → StopsWith command (on w i (moves u a c)) status
  ran stop status stops caused (inl ended) = (stop, ended.0, ran_plain stop stops caused ended.1)
  ran stop status stops caused (inr ended) = (Memory, ended.0, ran_lacking stop stops ended.1 ended.2)

-- words that are no command
pub usage_ended : (k : Seen Outflow) (status : ℕ) → Ended Usage k status → (status ≡ 1) × EndsWith k [] usage_line
usage_ended k status (inl ended) = (ended.0, ended.1)
usage_ended k status (inr ended) = absurd ended.1

-- a stop with this line
pub ended_as : (stop want : Stop) (k : Seen Outflow) (status : ℕ) (line : List ℕ) → stop ≡ want → status ≡ status_of want → line ≡ line_of want → EndsWith k [] line → Ended stop k status
ended_as stop want k status line e is same ends =
    subst (λ (x : Stop). Ended x k status) (sym e) (inl (is, subst (λ (l : List ℕ). EndsWith k [] l) same ends))

-- its status isn't that of words which are no command, nor that of a run that is done
pub not_usage : (w : SeenSides) (i : Seen Inflow) (k l : Seen Outflow) (stop : Stop) (status n : ℕ) → n ≤ 1 → IsCaused (on w i k) stop → Ended stop l status → status ≡ n → ⊥
not_usage w i k l stop status n le caused (inr ended) e = omega (arith, le, ended.0, e)
not_usage w i k l Usage status n le caused (inl ended) e = caused
not_usage w i k l TreeStop status n le caused (inl ended) e = omega (arith, le, ended.0, e)
not_usage w i k l Device status n le caused (inl ended) e = omega (arith, le, ended.0, e)
not_usage w i k l Source status n le caused (inl ended) e = omega (arith, le, ended.0, e)
not_usage w i k l Sink status n le caused (inl ended) e = omega (arith, le, ended.0, e)
not_usage w i k l Memory status n le caused (inl ended) e = omega (arith, le, ended.0, e)
not_usage w i k l (Refused (Script line why)) status n le caused (inl ended) e = omega (arith, le, ended.0, e)
not_usage w i k l (Refused (Store fault)) status n le caused (inl ended) e = omega (arith, le, ended.0, e)
not_usage w i k l (Refused (Size size)) status n le caused (inl ended) e = omega (arith, le, ended.0, e)
not_usage w i k l (Refused NotEmpty) status n le caused (inl ended) e = omega (arith, le, ended.0, e)
not_usage w i k l (Refused (Damaged path)) status n le caused (inl ended) e = omega (arith, le, ended.0, e)

-- ---- a run that nothing fails

-- it stops for want of memory alone
free_memory : (w : SeenSides) (i : Seen Inflow) (k : Seen Outflow) (stop : Stop) → IsFree stop → IsCaused (on w i k) stop → ¬ SourceFails i.old i.new → ¬ TreeFails w → ¬ DeviceFails w
    → ¬ SinkFailed k → stop ≡ Memory
free_memory w i k Usage free caused read tree device sink = absurd caused
free_memory w i k TreeStop free caused read tree device sink = absurd (tree caused)
free_memory w i k Device free caused read tree device sink = absurd (device caused)
free_memory w i k Source free caused read tree device sink = absurd (read caused)
free_memory w i k Sink free caused read tree device sink = absurd (sink caused)
free_memory w i k Memory free caused read tree device sink = refl
free_memory w i k (Refused refusal) free caused read tree device sink = absurd free

memory_ends : (stop : Stop) (k : Seen Outflow) (status : ℕ) → stop ≡ Memory → Ended stop k status → status ≡ 9
memory_ends stop k status e (inl ended) = ended.0 ∙ ap status_of e
memory_ends stop k status e (inr ended) = ended.0

-- the fault counts go up to the last line
pub only_memory : (w : SeenSides) (i : Seen Inflow) (t u : Type 0) (a b c : Outflow) (stop : Stop) (status : ℕ) → b.faults ≤ c.faults → IsFree stop → IsCaused (on w i (moves t a b)) stop
    → Ended stop (moves u b c) status → ¬ SourceFails i.old i.new → ¬ TreeFails w → ¬ DeviceFails w → ¬ SinkFails a c → status ≡ 9
only_memory w i t u a b c stop status le free caused ended read tree device sink =
    memory_ends stop (moves u b c) status (free_memory w i (moves u a c) stop free (written_caused w i t u a b c stop le caused) read tree device sink) ended
