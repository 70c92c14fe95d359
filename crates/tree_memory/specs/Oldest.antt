-- The oldest image that a crash may leave.
use Rattle.std.specs.Prelude.{◌≡◌, List, [], ◌∷◌}
use Rattle.tree_api.specs.Tree.{Tree}
use Rattle.tree_memory.specs.History.{History}
use Rattle.tree_memory.specs.Names.{names_at}
use Rattle.tree_memory.specs.Nodes.{node_of}
use Rattle.tree_memory.specs.declared.store.Store.{Store}

-- the oldest of what is now and what was, the newest of these first
abbrev pub oldest_of : {A : Type 0} → A → List A → A
oldest_of now [] = now
oldest_of now (was ∷ older) = oldest_of was older

-- the oldest names since names were last synced, and of each node the oldest version since its last sync
abbrev pub oldest : History → Tree
oldest h = record { at = oldest_of h.tree.at h.names; node = λ n. oldest_of (h.tree.node n) (h.older n); snap = h.tree.snap }

-- the names and nodes are the oldest
pub record IsOldest (h : History) (s : Store) : Type 0 where
  pub names : names_at s.names ≡ (oldest h).at
  pub nodes : node_of s.nodes.items ≡ (oldest h).node
