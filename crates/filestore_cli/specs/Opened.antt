-- A store that a run has opened, and closes.
use Rattle.std.specs.Prelude.{◌≡◌, ℕ, ◌+◌, ◌≤◌, ◌++◌, List, length, Contains}
use Rattle.io_edge.specs.Flow.{Outflow}
use Rattle.store_files.specs.declared.reading.Identity.{Identity}
use Rattle.store_history.specs.History.{History, replay_of}
use Rattle.history_tails.specs.Tails.{begun}
use Rattle.fs_script.specs.declared.statement.Line.{Line}
use Rattle.fs_script.specs.declared.answer.Answer.TheVariants.{Drained}
use Rattle.fs_session.specs.Answers.{Session, answers, queued_by, answers_text}
use Rattle.file_store.specs.Store.{waiting_in}
use Rattle.script_store.specs.declared.store.ScriptStore.{ScriptStore}
use Rattle.script_store.specs.Script.{OpLists, session_on}
use Rattle.script_store.specs.Held.{HoldsOn}
use Rattle.filestore_cli.specs.Seen.{Seen, Sides, SeenSides, Says}
use Rattle.filestore_cli.specs.Run.{IsFresh}

-- It is this store, and both sides hold the objects of the session, which statements see first.
pub record Opens (store : ScriptStore) (w : Sides) (id : Identity) (s : Session) : Type 0 where
  pub is : store.store.identity ≡ id
  pub holds : HoldsOn (begun s.last s.objects) store w.tree w.device
  pub session : session_on (begun s.last s.objects) store ≡ s
  pub fresh : IsFresh s

-- of each history that the store holds
abbrev pub OfHeld : SeenSides → ScriptStore → (History → Type 0) → Type 0
OfHeld w store Says = w.told → (h : History) → HoldsOn h store w.old.tree w.old.device → Says h

-- of each session that was opened
abbrev pub OfOpened : SeenSides → ScriptStore → (Identity → Session → Type 0) → Type 0
OfOpened w store Says = w.told → (id : Identity) (s : Session) → Opens store w.old id s → Says id s

-- the session's objects, and these transactions since
abbrev pub held_by : Session → OpLists → History
held_by s txns = replay_of s.last s.objects txns

-- All lines of the script were done: the store holds some of the transactions that they queued, and the others wait.
pub record HasRun (id : Identity) (s : Session) (script : List Line) (store : ScriptStore) (w : Sides) (sink : Seen Outflow) : Type 0 where
  pub is : store.store.identity ≡ id
  pub txns : OpLists
  pub split : queued_by s script ≡ txns ++ waiting_in store.store
  pub holds : HoldsOn (held_by s txns) store w.tree w.device
  pub acked : (n seq : ℕ) → Contains (answers s script) (Drained n seq) → n ≤ s.last + length txns
  pub written : Says sink (answers_text s script)
