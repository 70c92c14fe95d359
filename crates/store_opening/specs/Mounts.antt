-- What a mount gives, and why it is refused.
use Rattle.std.specs.Prelude.{◌≡◌, ◌≢◌, ℕ, List, [], Result, Ok, Err}
use Rattle.fs_model.specs.Objects.{Objects}
use Rattle.tree_api.specs.Tree.{Tree}
use Rattle.tree_api.specs.Disk.{Disk as Files}
use Rattle.dev_api.specs.Disk.{Disk}
use Rattle.commit_point.specs.Number.{HasNumber}
use Rattle.built_ops.specs.Built.{CanDo}
use Rattle.store_files.specs.Stores.{IsStore, Lacks, Versioned, HasNone, HasSettings}
use Rattle.store_files.specs.declared.reading.Identity.{Identity}
use Rattle.store_mount.specs.Causes.{Explains}
use Rattle.store_mount.specs.declared.fault.MountFault.TheVariants as below
use Rattle.tree_places.specs.Images.{IsLaid}
use Rattle.store_opening.specs.declared.fault.MountFault.{MountFault}
use Rattle.store_opening.specs.declared.fault.MountFault.TheVariants.{NotAStore, WrongVersion, BadSettings, NoHeader, WrongFsid, Spent, BadSeq, JournalGap, Damaged, BadEntry, Tree as OfTree, Device, Memory}
use Rattle.file_store.specs.Store.{Store, Works}
use Rattle.history_tails.specs.Tails.{begun}
use Rattle.file_store.specs.Holds.{Holds}

-- It holds the objects o after its last number, and its tree has the committed number n. Nothing waits.
pub record MountsAs (o : Objects) (n last : ℕ) (s : Store) (t : Files) (d : Disk) : Type 0 where
  pub numbers : s.numbers ≡ record { journalled = last; committed = n }
  pub none : s.queue.txns ≡ []
  pub holds : Holds (begun last o) s t d

-- of a tree that is a store
abbrev pub OfStore : Tree → (Identity → Type 0) → Type 0
OfStore t Says = (id : Identity) → IsStore t id.fsid id.settings → Says id

-- the tree is a store, with this to say of it
abbrev pub AsStore : Tree → (Identity → Type 0) → Type 0
AsStore t Says = (id : Identity) × IsStore t id.fsid id.settings × Says id

-- No fault was met, and nothing waits.
pub record IsFresh (s : Store) : Type 0 where
  pub works : Works s
  pub none : s.queue.txns ≡ []
  pub last : s.queue.last ≡ s.numbers.journalled

-- why this store is refused
abbrev pub ExplainsOf : Identity → Tree → List ℕ → MountFault → Type 0
ExplainsOf id t bytes NotAStore = ⊥
ExplainsOf id t bytes (WrongVersion n) = ⊥
ExplainsOf id t bytes BadSettings = ⊥
ExplainsOf id t bytes NoHeader = Explains CanDo HasNumber (IsLaid id.settings) id.fsid t bytes below.NoHeader
ExplainsOf id t bytes (WrongFsid tree ring) = Explains CanDo HasNumber (IsLaid id.settings) id.fsid t bytes (below.WrongFsid tree ring)
ExplainsOf id t bytes Spent = Explains CanDo HasNumber (IsLaid id.settings) id.fsid t bytes below.Spent
ExplainsOf id t bytes BadSeq = Explains CanDo HasNumber (IsLaid id.settings) id.fsid t bytes below.BadSeq
ExplainsOf id t bytes (JournalGap start committed) = Explains CanDo HasNumber (IsLaid id.settings) id.fsid t bytes (below.JournalGap start committed)
ExplainsOf id t bytes (Damaged path) = Explains CanDo HasNumber (IsLaid id.settings) id.fsid t bytes (below.Damaged path)
ExplainsOf id t bytes (BadEntry seq) = Explains CanDo HasNumber (IsLaid id.settings) id.fsid t bytes (below.BadEntry seq)
ExplainsOf id t bytes OfTree = Unit {0}
ExplainsOf id t bytes Device = Unit {0}
ExplainsOf id t bytes Memory = Unit {0}

-- why the two as they read are refused
abbrev pub Refuses : Tree → List ℕ → MountFault → Type 0
Refuses t bytes NotAStore = Lacks t
Refuses t bytes (WrongVersion n) = Versioned t n × (n ≢ 1)
Refuses t bytes BadSettings = Versioned t 1 × HasNone (HasSettings t)
Refuses t bytes NoHeader = AsStore t (λ id. ExplainsOf id t bytes NoHeader)
Refuses t bytes (WrongFsid tree ring) = AsStore t (λ id. ExplainsOf id t bytes (WrongFsid tree ring))
Refuses t bytes Spent = AsStore t (λ id. ExplainsOf id t bytes Spent)
Refuses t bytes BadSeq = AsStore t (λ id. ExplainsOf id t bytes BadSeq)
Refuses t bytes (JournalGap start committed) = AsStore t (λ id. ExplainsOf id t bytes (JournalGap start committed))
Refuses t bytes (Damaged path) = AsStore t (λ id. ExplainsOf id t bytes (Damaged path))
Refuses t bytes (BadEntry seq) = AsStore t (λ id. ExplainsOf id t bytes (BadEntry seq))
Refuses t bytes OfTree = Unit {0}
Refuses t bytes Device = Unit {0}
Refuses t bytes Memory = Unit {0}

-- it says nothing of what stands there
abbrev pub IsOutside : MountFault → Type 0
IsOutside OfTree = Unit {0}
IsOutside Device = Unit {0}
IsOutside Memory = Unit {0}
IsOutside NotAStore = ⊥
IsOutside (WrongVersion found) = ⊥
IsOutside BadSettings = ⊥
IsOutside NoHeader = ⊥
IsOutside (WrongFsid tree ring) = ⊥
IsOutside Spent = ⊥
IsOutside BadSeq = ⊥
IsOutside (JournalGap start committed) = ⊥
IsOutside (Damaged path) = ⊥
IsOutside (BadEntry seq) = ⊥

-- the tree is no store that can be used
abbrev pub IsNoStore : MountFault → Type 0
IsNoStore NotAStore = Unit {0}
IsNoStore (WrongVersion found) = Unit {0}
IsNoStore BadSettings = Unit {0}
IsNoStore NoHeader = ⊥
IsNoStore (WrongFsid tree ring) = ⊥
IsNoStore Spent = ⊥
IsNoStore BadSeq = ⊥
IsNoStore (JournalGap start committed) = ⊥
IsNoStore (Damaged path) = ⊥
IsNoStore (BadEntry seq) = ⊥
IsNoStore OfTree = ⊥
IsNoStore Device = ⊥
IsNoStore Memory = ⊥

-- it comes before any entry is done again
abbrev pub IsFoundFirst : MountFault → Type 0
IsFoundFirst NotAStore = Unit {0}
IsFoundFirst (WrongVersion found) = Unit {0}
IsFoundFirst BadSettings = Unit {0}
IsFoundFirst NoHeader = Unit {0}
IsFoundFirst (WrongFsid tree ring) = Unit {0}
IsFoundFirst Spent = Unit {0}
IsFoundFirst BadSeq = Unit {0}
IsFoundFirst (JournalGap start committed) = Unit {0}
IsFoundFirst (Damaged path) = Unit {0}
IsFoundFirst (BadEntry seq) = ⊥
IsFoundFirst OfTree = ⊥
IsFoundFirst Device = ⊥
IsFoundFirst Memory = ⊥

-- what reading a tree as a store answers, but for a fault of the tree and want of memory
abbrev pub TellsStore : Tree → Result Identity MountFault → Type 0
TellsStore t (Ok x) = IsStore t x.fsid x.settings
TellsStore t (Err NotAStore) = Lacks t
TellsStore t (Err (WrongVersion n)) = Versioned t n × (n ≢ 1)
TellsStore t (Err BadSettings) = Versioned t 1 × HasNone (HasSettings t)
TellsStore t (Err NoHeader) = ⊥
TellsStore t (Err (WrongFsid tree ring)) = ⊥
TellsStore t (Err Spent) = ⊥
TellsStore t (Err BadSeq) = ⊥
TellsStore t (Err (JournalGap start committed)) = ⊥
TellsStore t (Err (Damaged path)) = ⊥
TellsStore t (Err (BadEntry seq)) = ⊥
TellsStore t (Err OfTree) = Unit {0}
TellsStore t (Err Device) = ⊥
TellsStore t (Err Memory) = Unit {0}
