-- A tree with what it has had since its last syncs, and the images that a crash may leave.
use Rattle.std.specs.Prelude.{◌≡◌, ◌⊎◌, ◌<◌, ◌==◌, if◌then◌else◌, ℕ, suc, List, [], ◌∷◌, ◌++◌, length, drop, slice_index, true, Option}
use Rattle.tree_api.specs.Tree.{Version, Names, Content, Tree}
use Rattle.tree_api.specs.Disk.{Disk}

pub record History : Type 0 where
  -- as it reads
  pub tree : Tree
  -- the other name maps since names were last synced, the newest first
  pub names : List Names
  -- the other versions of each node since its last sync, the newest first
  pub older : ℕ → List Version

abbrev pub Among : {A : Type 0} → List A → A → Type 0
Among [] u = ⊥
Among (v ∷ vs) u = (u ≡ v) ⊎ Among vs u

-- each length, byte and attribute is that of one of these; a byte past an end counts as 0
pub record IsMix (first : Version) (older : List Version) (v : Version) : Type 0 where
  pub dir : v.dir ≡ first.dir
  pub len : (u : Version) × Among (first ∷ older) u × (length v.bytes ≡ length u.bytes)
  pub byte : (i : ℕ) → i < length v.bytes → (u : Version) × Among (first ∷ older) u × (slice_index v.bytes i ≡ slice_index u.bytes i)
  pub attr : (name : List ℕ) → (u : Version) × Among (first ∷ older) u × (v.attr name ≡ u.attr name)

pub record IsImage (h : History) (c : Tree) : Type 0 where
  pub names : Among (h.tree.at ∷ h.names) c.at
  pub snaps : c.snap ≡ h.tree.snap
  pub nodes : (n : ℕ) → IsMix (h.tree.node n) (h.older n) (c.node n)

-- a tree that is stable as it reads
abbrev pub settled : Tree → History
settled t = record { tree = t; names = []; older = λ n. [] }

-- a function with one value changed
abbrev pub put : {A : Type 0} → (ℕ → A) → ℕ → A → ℕ → A
put f n v m = if m == n then v else f m

-- after a change of names
abbrev pub renamed : Names → History → History
renamed at h = record { tree = record (h.tree) { at = at }; names = h.tree.at ∷ h.names; older = h.older }

-- after a change of a node
abbrev pub wrote : ℕ → Version → History → History
wrote n v h = record { tree = record (h.tree) { node = put h.tree.node n v }; names = h.names; older = put h.older n (h.tree.node n ∷ h.older n) }

-- after a new node, whose number had no versions
abbrev pub made : ℕ → Version → Names → History → History
made n v at h = record { tree = record (h.tree) { at = at; node = put h.tree.node n v }; names = h.tree.at ∷ h.names; older = put h.older n [] }

-- after a sync of a node and of names, of names, and of all
abbrev pub synced : ℕ → History → History
synced n h = record { tree = h.tree; names = []; older = put h.older n [] }

abbrev pub synced_names : History → History
synced_names h = record { tree = h.tree; names = []; older = h.older }

abbrev pub synced_all : History → History
synced_all h = settled h.tree

-- after a snapshot, or without one
abbrev pub snapped : ℕ → Option Content → History → History
snapped seq to h = record { tree = record (h.tree) { snap = put h.tree.snap seq to }; names = h.names; older = h.older }

-- nodes of these numbers and of those after it
abbrev pub fill : {A : Type 0} → ℕ → List A → (ℕ → A) → ℕ → A
fill first [] f = f
fill first (v ∷ vs) f = fill (suc first) vs (put f first v)

abbrev pub unchanged : List Version → List (List Version)
unchanged [] = []
unchanged (v ∷ vs) = [] ∷ unchanged vs

-- after a rollback: new nodes, and names that are stable
abbrev pub rolled : ℕ → List Version → Names → History → History
rolled first vs at h = record {
  tree = record (h.tree) { at = at; node = fill first vs h.tree.node };
  names = [];
  older = fill first (unchanged vs) h.older;
}

-- one of these had this image
abbrev pub HadImage : List History → Tree → Type 0
HadImage [] c = ⊥
HadImage (h ∷ past) c = IsImage h c ⊎ HadImage past c

-- a history with all before it, the oldest first
pub record State : Type 0 where
  pub past : List History
  pub now : History

abbrev pub next : History → State → State
next h s = record { past = s.past ++ s.now ∷ []; now = h }

-- what is told
abbrev pub disk : State → ℕ → ℕ → ℕ → Disk
disk s faults syncs looks = record {
  tree = s.now.tree;
  may = IsImage s.now;
  moment = length s.past;
  since = λ t c. IsImage s.now c ⊎ HadImage (drop t s.past) c;
  faults = faults;
  syncs = syncs;
  looks = looks;
  checkpoints = true;
}
