-- A transaction whose operations are done one after the other, on a disk.
use Rattle.std.specs.Prelude.{ℕ, ◌+◌, ◌-◌, ◌<◌, ◌≤◌, List}
use Rattle.fs_names.specs.declared.settings.Settings.{Settings}
use Rattle.fs_model.specs.declared.op.Op.{Op}
use Rattle.tree_api.specs.Tree.{Tree}
use Rattle.tree_api.specs.Disk.{Disk, Everywhere, Keeps}
use Rattle.commit_point.specs.Number.{HasNumber}
use Rattle.store_history.specs.History.{History, end_of, IsTxn}
use Rattle.store_turns.specs.declared.numbers.How.{How}
use Rattle.store_turns.specs.declared.numbers.How.TheVariants.{Live, Replay}
use Rattle.tree_places.specs.Line.{count_to, At}
use Rattle.tree_places.specs.Images.{IsOwn, Image}

-- what reads meanwhile is past no transaction above this number
abbrev pub last_of : How → History → ℕ → ℕ
last_of Live h seq = seq
last_of Replay h seq = end_of h

-- these are the operations of the transaction seq; images may be past all that reads may be past, and needn't be past this one
pub record IsTurn (how : How) (h : History) (lo hi seq : ℕ) (ops : List Op) : Type 0 where
  pub low : lo < seq
  pub high : seq ≤ hi
  pub known : last_of how h seq ≤ hi
  pub is : IsTxn h seq ops

-- Since entry a crash left images alone, and leaves them now. What reads is past the first i operations of the transaction.
pub record Underway (set : Settings) (how : How) (h : History) (n lo hi seq i : ℕ) (entry now : Disk) : Type 0 where
  pub keeps : Keeps (Image set h n lo hi) entry now
  pub images : Everywhere now (Image set h n lo hi)
  pub reads : At set h (count_to h (seq - 1) + i) (last_of how h seq) now.tree

-- the store's own directories stand, and this number
abbrev pub OwnIs : ℕ → Tree → Type 0
OwnIs n t = IsOwn t × HasNumber t n
