-- What a list of calls has made of a tree.
use Rattle.std.specs.Prelude.{◌==◌, ◌&&◌, ℕ, ◌+◌, List, [], ◌∷◌, map, length, Bool, true, false, Some, None, nat_lt}
use Rattle.tree_api.specs.Tree.{Tree, content}
use Rattle.tree_memory.specs.History.{History, State, next, settled, renamed, wrote, made, synced, synced_names, synced_all, snapped, rolled}
use Rattle.tree_memory.specs.Names.{put_at, gone_at, edited, links_below}
use Rattle.tree_memory.specs.Nodes.{version, fresh, changed, fits}
use Rattle.tree_memory.specs.declared.event.Event.{Event}
use Rattle.tree_memory.specs.declared.event.Event.TheVariants.{Make, Remove, Move, MoveAll, Change, SyncFile, SyncNames, Snapshot, DropSnapshot, Rollback}
use Rattle.tree_memory.specs.declared.event.Call.{Call}

-- after one event
abbrev pub run : Event → History → History
run (Make p n dir) h = made n (fresh dir) (put_at p n h.tree.at) h
run (Remove p) h = renamed (gone_at p h.tree.at) h
run (Move from to n) h = renamed (gone_at from (put_at to n h.tree.at)) h
run (MoveAll edits) h = renamed (edited edits.items h.tree.at) h
run (Change n c) h = wrote n (changed c (h.tree.node n)) h
run (SyncFile n) h = synced n h
run SyncNames h = synced_names h
run (Snapshot seq) h = snapped seq (Some (content h.tree)) h
run (DropSnapshot seq) h = snapped seq None h
run (Rollback first nodes edits) h = rolled first (map version nodes.items) (edited edits.items h.tree.at) h

-- what an event does to a tree as it reads
abbrev pub ran : Event → Tree → Tree
ran e t = (run e (settled t)).tree

-- with a whole sync, where there was one
abbrev pub flush : Bool → State → State
flush true s = next (synced_all s.now) s
flush false s = s

abbrev pub step : Call → State → State
step c s = let t = flush c.synced s in next (run c.event t.now) t

abbrev pub replay : List Call → State → State
replay [] s = s
replay (c ∷ cs) s = replay cs (step c s)

-- a tree that was never called
abbrev pub start : Tree → State
start t = record { past = []; now = settled t }

-- the nodes that an event adds
abbrev pub adds : Event → ℕ
adds (Make p n dir) = 1
adds (Rollback first nodes edits) = length nodes.items
adds _ = 0

-- whether an event suits a tree of so many nodes
abbrev pub suits : ℕ → Event → Bool
suits k (Make p n dir) = n == k
suits k (Move from to n) = nat_lt n k
suits k (MoveAll edits) = links_below k edits.items
suits k (Change n c) = nat_lt n k && fits c
suits k (SyncFile n) = nat_lt n k
suits k (Rollback first nodes edits) = (first == k) && links_below (k + length nodes.items) edits.items
suits k _ = true

abbrev pub all_suit : ℕ → List Call → Bool
all_suit k [] = true
all_suit k (c ∷ cs) = suits k c.event && all_suit (k + adds c.event) cs

-- how many nodes there are after all these
abbrev pub nodes_after : ℕ → List Call → ℕ
nodes_after k [] = k
nodes_after k (c ∷ cs) = nodes_after (k + adds c.event) cs
