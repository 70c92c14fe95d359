-- What a tree in memory tells.
use Rattle.std.specs.Prelude.{◌≡◌, ◌<◌, ℕ, List, [], ◌∷◌, length, take, Bool, true, Some, None}
use Rattle.tree_api.specs.Tree.{Path, Names, Tree, new_dir}
use Rattle.tree_memory.specs.History.{State}
use Rattle.tree_memory.specs.Names.{names_at}
use Rattle.tree_memory.specs.Nodes.{node_of}
use Rattle.tree_memory.specs.Snaps.{snaps_of}
use Rattle.tree_memory.specs.Log.{flush, replay, start, all_suit, nodes_after}
use Rattle.tree_memory.specs.Valid.{IsValid}
use Rattle.tree_memory.specs.declared.event.Call.{Call}
use Rattle.tree_memory.specs.declared.store.Store.{Store}

-- the tree that data stands for
abbrev pub tree_of : Store → Tree
tree_of s = record { at = names_at s.names; node = node_of s.nodes.items; snap = snaps_of s.snaps }

-- a root directory alone
abbrev pub root_names : Names
root_names [] = Some 0
root_names (s ∷ p) = None

abbrev pub empty_tree : Tree
empty_tree = record { at = root_names; node = λ n. new_dir; snap = λ k. None }

abbrev pub count_of : Store → ℕ
count_of s = length s.nodes.items

-- all names lead to nodes
abbrev pub IsLow : Store → Type 0
IsLow s = (p : Path) (n : ℕ) → names_at s.names p ≡ Some n → n < count_of s

-- a tree's state, from what it was at first and its calls
abbrev pub state : Store → List Call → Bool → State
state origin log synced = flush synced (replay log (start (tree_of origin)))

-- what the fields of a tree keep
pub record IsTied (origin store : Store) (log : List Call) (synced : Bool) : Type 0 where
  pub reads : (state origin log synced).now.tree ≡ tree_of store
  pub valid : IsValid (count_of store) (state origin log synced).now
  -- and was so after each call
  pub past : (i : ℕ) → IsValid (nodes_after (count_of origin) (take i log)) (replay (take i log) (start (tree_of origin))).now
  pub suit : all_suit (count_of origin) log ≡ true
  pub count : nodes_after (count_of origin) log ≡ count_of store
