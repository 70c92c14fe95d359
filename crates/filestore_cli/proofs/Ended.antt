-- A store that is closed behind the last line.
use Rattle.std.proofs.Common.{◌≡◌, ◌+◌, List, [], ◌++◌, length, refl, sym, ◌∙◌, ap, subst, arith}
use mathlib.Core.List.{append-nil}
use Rattle.std.specs.Prelude.{Result, Err}
use Rattle.tree_api.specs.Tree.{Path}
use Rattle.tree_api.specs.Disk.{Everywhere}
use Rattle.io_edge.specs.Flow.{Outflow}
use Rattle.fs_script.specs.declared.statement.Line.{Line}
use Rattle.fs_session.specs.Answers.{Session, queued_by}
use Rattle.store_files.specs.declared.reading.Identity.{Identity}
use Rattle.store_history.specs.History.{History, end_of, at}
use Rattle.store_history.specs.Journal.{EachImage}
use Rattle.store_history.specs.Pair.{Closed, PairsStand}
use Rattle.tree_places.specs.Images.{StoreImage}
use Rattle.file_store.specs.Holds.{Leaves, LeavesClosed, IsSwept, with_waiting}
use Rattle.script_store.specs.declared.store.ScriptStore.{ScriptStore}
use Rattle.script_store.specs.declared.fault.StepFault.{StepFault}
use Rattle.script_store.specs.declared.fault.StepFault.TheVariants as stepping
use Rattle.script_store.specs.Script.{OpLists}
use Rattle.filestore_cli.specs.declared.stop.Stop.{Stop}
use Rattle.filestore_cli.specs.declared.stop.Stop.TheVariants.{Usage, Tree, Device, Source, Sink, Memory, Refused}
use Rattle.filestore_cli.specs.Seen.{Seen, SeenSides, Sides, Says, TreeFails, DeviceFails}
use Rattle.filestore_cli.specs.Opened.{HasRun, held_by}
use Rattle.filestore_cli.specs.Stop.{step_stop}
use Rattle.filestore_cli.specs.Run.{Survives, IsClosed, Done, Stopped, Halted, IsCausedBy, IsStartStop, IsStepStop, history}

module _ (id : Identity) (s : Session) (script : List Line) (store : ScriptStore) (sink : Seen Outflow) (w v : Sides) (run : HasRun id s script store w sink) where
  abbrev pub h : History
  h = held_by s run.txns

  survive : (tried : List Line) → tried ≡ script → Leaves (with_waiting h store.store) (end_of h) store.store v.tree v.device.disk → Survives id s script tried v
  survive tried e leaves = record {
    low = s.last + length run.txns;
    leaves =
        subst (λ (i : Identity). PairsStand (StoreImage i) i.fsid (history s tried) (s.last + length run.txns) v.tree.may v.device.disk) run.is
        (subst (λ (l : OpLists). Leaves (held_by s l) (end_of h) store.store v.tree v.device.disk) (sym run.split ∙ ap (queued_by s) (sym e)) leaves);
    acked = run.acked;
  }

  closed_all : LeavesClosed (with_waiting h store.store) store.store v.tree v.device.disk → IsClosed id s script v
  closed_all closed =
      subst (λ (i : Identity). Everywhere v.tree (λ t. EachImage (λ c. Closed (StoreImage i) i.fsid t c (at (history s script) (end_of (history s script)))) v.device.disk)) run.is
      (subst (λ (l : OpLists). LeavesClosed (held_by s l) store.store v.tree v.device.disk) (sym run.split) closed)

  pub all_done : LeavesClosed (with_waiting h store.store) store.store v.tree v.device.disk → IsSwept v.tree
      → Leaves (with_waiting h store.store) (end_of h) store.store v.tree v.device.disk → Done id s script sink v
  all_done closed swept leaves = record { written = run.written; survives = survive script refl leaves; closed = closed_all closed; swept = swept }

  stopped : Leaves (with_waiting h store.store) (end_of h) store.store v.tree v.device.disk → Stopped id s script (Says sink) v
  stopped leaves = record {
    done = script;
    tried = [];
    rest = [];
    few = omega arith;
    cut = sym (append-nil script);
    written = run.written;
    survives = survive (script ++ []) (append-nil script) leaves;
  }

  pub all_halted : (stop : Stop) → IsStartStop stop → Leaves (with_waiting h store.store) (end_of h) store.store v.tree v.device.disk → Halted id s script (Says sink) sink v stop
  all_halted Tree only leaves = stopped leaves
  all_halted Device only leaves = stopped leaves
  all_halted Memory only leaves = stopped leaves
  all_halted Usage only leaves = absurd only
  all_halted Source only leaves = absurd only
  all_halted Sink only leaves = absurd only
  all_halted (Refused refusal) only leaves = absurd only

-- a fault, whatever else the answer might have been
pub err_is : {T : Type 0} (stop other : Stop) → ◌≡◌ {A = Result T Stop} (Err stop) (Err other) → stop ≡ other
err_is stop other e = cc

-- ---- what a statement stops for

step_caused : (w : SeenSides) (k : Seen Outflow) (fault : StepFault) → (fault ≡ stepping.Tree → TreeFails w) → (fault ≡ stepping.Device → DeviceFails w) → IsCausedBy w k (step_stop fault)
step_caused w k stepping.Tree tree device = tree refl
step_caused w k stepping.Device tree device = device refl
step_caused w k stepping.Memory tree device = tt
step_caused w k (stepping.Damaged path) tree device = tt

pub stepped_caused : (w : SeenSides) (k : Seen Outflow) (stop : Stop) (fault : StepFault) → stop ≡ step_stop fault → (fault ≡ stepping.Tree → TreeFails w) → (fault ≡ stepping.Device → DeviceFails w)
    → IsCausedBy w k stop
stepped_caused w k stop fault e tree device = subst (IsCausedBy w k) (sym e) (step_caused w k fault tree device)

step_only : (fault : StepFault) → ((p : Path) → fault ≡ stepping.Damaged p → ⊥) → IsStepStop (step_stop fault)
step_only stepping.Tree sound = tt
step_only stepping.Device sound = tt
step_only stepping.Memory sound = tt
step_only (stepping.Damaged path) sound = absurd (sound path refl)

pub stepped_only : (stop : Stop) (fault : StepFault) → stop ≡ step_stop fault → ((p : Path) → fault ≡ stepping.Damaged p → ⊥) → IsStepStop stop
stepped_only stop fault e sound = subst IsStepStop (sym e) (step_only fault sound)

-- nothing was written then
step_silent : (fault : StepFault) → step_stop fault ≡ Sink → ⊥
step_silent stepping.Tree e = absurd (cc)
step_silent stepping.Device e = absurd (cc)
step_silent stepping.Memory e = absurd (cc)
step_silent (stepping.Damaged path) e = absurd (cc)

pub stepped_silent : (stop : Stop) (fault : StepFault) → stop ≡ step_stop fault → stop ≡ Sink → ⊥
stepped_silent stop fault e is = step_silent fault (sym e ∙ is)
