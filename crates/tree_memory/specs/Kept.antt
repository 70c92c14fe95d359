-- What a snapshot keeps, as data.
use Rattle.std.specs.Prelude.{◌≡◌, ◌<◌, ℕ, List, [], ◌∷◌, length, map, slice_index_or, if◌then◌else◌, Some, None}
use Rattle.tree_api.specs.Tree.{Path, Version, Content}
use Rattle.tree_memory.specs.Paths.{same_path}
use Rattle.tree_memory.specs.Names.{find_name, numbered}
use Rattle.tree_memory.specs.Nodes.{version}
use Rattle.tree_memory.specs.declared.snap.Kept.{Kept}

-- what the list keeps at a path
abbrev pub content_of : List Kept → Content
content_of [] r = None
content_of (x ∷ xs) r = if same_path r x.rest then Some (version x.node) else content_of xs r

-- no path comes twice
abbrev pub IsEach : List Path → Type 0
IsEach rests = (k : ℕ) (d : Path) → k < length rests → find_name (numbered 0 rests) (slice_index_or rests k d) ≡ Some k

abbrev pub rests_of : List Kept → List Path
rests_of kept = map (λ x. x.rest) kept

-- a path with what it leads to
abbrev pub pair : Kept → Path × Version
pair x = (x.rest, version x.node)
