-- What a mount makes of what it finds.
use Rattle.std.specs.Prelude.{◌≡◌, ◌⊎◌, ℕ, List}
use Rattle.fs_model.specs.Objects.{Objects}
use Rattle.tree_api.specs.Tree.{Tree}
use Rattle.tree_api.specs.Disk.{Disk as Files}
use Rattle.dev_api.specs.Disk.{Disk, IsImage}
use Rattle.ring_images.specs.Held.{IsSound}
use Rattle.ring_journal.specs.State.{IsUnspentImage}
use Rattle.store_history.specs.History.{History, end_of, at}
use Rattle.store_history.specs.Images.{Images}
use Rattle.store_history.specs.Journal.{EachImage}
use Rattle.store_history.specs.Pair.{StandsAt}
use Rattle.store_turns.specs.State.{Holding}
use Rattle.store_turns.specs.Theory.{Reads}
use Rattle.store_mount.specs.declared.mounting.Mounted.{Mounted}

-- The pair stands for whatever some pair of before stood for, with the same numbers: a tree that might be left then,
-- and a sound unspent image of the device's content then.
pub record Carries (image : Images Tree) (fsid : List ℕ) (may : Tree → Type 0) (d : Disk) (t : Tree) (c : List ℕ) : Type 0 where
  pub tree : Tree
  pub bytes : List ℕ
  pub may_be : may tree
  pub is_image : IsImage d bytes
  pub sound : IsSound d bytes
  pub unspent : IsUnspentImage bytes
  pub same : (o : Objects) (n last : ℕ) → StandsAt image fsid tree bytes o n last → StandsAt image fsid t c o n last

-- each pair of what a crash may leave of the two does
abbrev pub PairsCarry : Images Tree → List ℕ → (Tree → Type 0) → Disk → (Tree → Type 0) → Disk → Type 0
PairsCarry image fsid may d may_now now = (t : Tree) → may_now t → EachImage (Carries image fsid may d t) now

-- the pair as it reads stands for o, with these numbers
abbrev pub StandsNow : Images Tree → List ℕ → Files → Disk → Objects → ℕ → ℕ → Type 0
StandsNow image fsid t d o n last = StandsAt image fsid t.tree d.reads o n last

-- What was mounted holds the objects o after its last number: both sides hold one history, which begins at the committed
-- number n.
pub record MountedAs (image : Images Tree) (reads : Reads) (fsid : List ℕ) (o : Objects) (n last : ℕ) (m : Mounted) (t : Files) (d : Disk) : Type 0 where
  pub committed : m.numbers.committed ≡ n
  pub journalled : m.numbers.journalled ≡ last
  pub history : History
  pub base : history.base ≡ n
  pub end : end_of history ≡ last
  pub objects : at history last ≡ o
  pub holding : Holding image reads fsid history m.numbers t m.ring d

-- a tree that might be left before, or one that stands for o with the bytes of before
abbrev pub WasOrStands : Images Tree → List ℕ → (Tree → Type 0) → List ℕ → Objects → ℕ → ℕ → Tree → Type 0
WasOrStands image fsid may bytes o n last t = may t ⊎ StandsAt image fsid t bytes o n last

-- a sound image of before, or bytes with which each tree stands for o that did with those that were read
abbrev pub WasOrServes : Images Tree → List ℕ → Disk → Objects → ℕ → ℕ → List ℕ → Type 0
WasOrServes image fsid d o n last c =
    (IsImage d c × IsSound d c) ⊎ ((t : Tree) → StandsAt image fsid t d.reads o n last → StandsAt image fsid t c o n last)

-- each pair of a tree that might be left and a sound unspent image stands for o, with these numbers
abbrev pub AllStand : Images Tree → List ℕ → Objects → ℕ → ℕ → (Tree → Type 0) → Disk → Type 0
AllStand image fsid o n last may d = (t : Tree) → may t → EachImage (λ c. StandsAt image fsid t c o n last) d
