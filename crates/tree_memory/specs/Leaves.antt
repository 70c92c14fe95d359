-- Images that are followed from call to call.
use Rattle.std.specs.Prelude.{ℕ, Bool, true, false, Option}
use Rattle.tree_api.specs.Tree.{Tree, Content}
use Rattle.tree_memory.specs.History.{History, IsImage, synced_all}
use Rattle.tree_memory.specs.Told.{tree_of}
use Rattle.tree_memory.specs.declared.store.Store.{Store}

-- a tree as data, with these snapshots
abbrev pub seen : Store → (ℕ → Option Content) → Tree
seen s snap = record (tree_of s) { snap = snap }

-- after a whole sync, where there was one
abbrev pub settle : Bool → History → History
settle true h = synced_all h
settle false h = h

-- the names and nodes are those of an image
abbrev pub IsLeft : History → Store → Type 0
IsLeft h s = IsImage h (seen s h.tree.snap)
