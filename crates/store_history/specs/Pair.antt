-- What a tree and the bytes of a device stand for.
use Rattle.std.specs.Prelude.{◌≡◌, ℕ, ◌+◌, ◌≤◌, ◌<◌, ◌^◌, List, [], length, Some}
use Rattle.fs_model.specs.declared.op.Op.{Op}
use Rattle.fs_model.specs.Objects.{Objects}
use Rattle.fs_model.specs.Rows.{fold_txns}
use Rattle.dev_api.specs.Disk.{Disk}
use Rattle.ring_frame.specs.Heads.{Head, head_of}
use Rattle.ring_images.specs.Held.{readable}
use Rattle.store_history.specs.History.{History, end_of, at, replay_of}
use Rattle.store_history.specs.Journal.{Spells, above, EachImage}
use Rattle.store_history.specs.Images.{Images}

-- The pair's committed number is n, the last number of its journal is `last`, and it stands for the objects o: the tree is
-- on its way through the journal's transactions above n, and o is where that way ends.
pub record StandsAt {Tree : Type 0} (image : Images Tree) (fsid : List ℕ) (t : Tree) (c : List ℕ) (o : Objects) (n last : ℕ) : Type 0 where
  pub head : Head
  pub header : head_of c ≡ Some head
  pub fsid_is : head.fsid ≡ fsid
  pub no_gap : head.seq ≤ n + 1
  pub txns : List (List Op)
  pub spelled : Spells (above n head.seq (readable c)) txns
  pub last_is : last ≡ n + length txns
  pub fits : last < 2 ^ 63
  pub before : Objects
  pub good : image (replay_of n before txns) n n last t
  pub ends : o ≡ fold_txns before txns

-- it stands for them
abbrev pub Stands : {Tree : Type 0} → Images Tree → List ℕ → Tree → List ℕ → Objects → Type 0
Stands image fsid t c o = (n : ℕ) × (last : ℕ) × StandsAt image fsid t c o n last

-- It stands for the history's objects after its own last number, which is no less than what was acknowledged.
pub record StandsFor {Tree : Type 0} (image : Images Tree) (fsid : List ℕ) (h : History) (acked : ℕ) (t : Tree) (c : List ℕ) : Type 0 where
  pub n : ℕ
  pub last : ℕ
  pub stands : StandsAt image fsid t c (at h last) n last
  pub acked_is : acked ≤ last
  pub known : last ≤ end_of h

-- each pair does of what a crash may leave of the two
abbrev pub PairsStand : {Tree : Type 0} → Images Tree → List ℕ → History → ℕ → (Tree → Type 0) → Disk → Type 0
PairsStand {Tree = Tree} image fsid h acked may d = (t : Tree) → may t → EachImage (StandsFor image fsid h acked t) d

-- What stands in a store that was closed: nothing is left to replay.
pub record Closed {Tree : Type 0} (image : Images Tree) (fsid : List ℕ) (t : Tree) (c : List ℕ) (o : Objects) : Type 0 where
  pub n : ℕ
  pub head : Head
  pub header : head_of c ≡ Some head
  pub fsid_is : head.fsid ≡ fsid
  pub start : head.seq ≡ n + 1
  pub none : readable c ≡ []
  pub fits : n < 2 ^ 63
  pub good : image (replay_of n o []) n n n t
