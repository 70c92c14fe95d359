-- Where the things of a tree lie below its root, as texts.
use Rattle.std.specs.Prelude.{◌≢◌, ℕ, zero, suc, ◌-◌, ◌*◌, ◌/◌, List, [], ◌∷◌, ◌++◌, length, take, drop, flat_map, codes}
use Rattle.std.specs.Option.{unwrap_or}
use Rattle.std.specs.Path.{path_parent}
use Rattle.std.specs.Str.{IsUtf8}
use Rattle.hex.specs.Hex.{encode_lower}
use Rattle.tree_api.specs.Tree.{Path}

-- a path with one more name
abbrev pub joined : List ℕ → List ℕ → List ℕ
joined dir name = dir ++ (47 ∷ name)

-- the folder in which a path stands: `.` where the path is a name alone
abbrev pub named : List ℕ → List ℕ
named [] = codes "."
named (byte ∷ dir) = byte ∷ dir

abbrev pub above : List ℕ → List ℕ
above path = named (unwrap_or (path_parent path) [])

-- a step that may be a file's name
abbrev pub IsFileName : List ℕ → Type 0
IsFileName step = IsUtf8 step × (step ≢ codes ".") × (step ≢ codes "..")

-- each step after this
abbrev pub along : List ℕ → Path → List ℕ
along front steps = flat_map (λ step. front ++ step) steps

-- where a node lies, and its side folder
abbrev pub node_at : List ℕ → Path → List ℕ
node_at root path = joined root (codes "tree") ++ along (codes "/") path

abbrev pub side_at : List ℕ → Path → List ℕ
side_at root path = joined root (codes "side") ++ along (codes "/c/") path

-- the folders of the first pieces of a name
abbrev pub pieces : ℕ → List ℕ → List ℕ
pieces zero name = []
pieces (suc k) name = pieces k name ++ (codes "/-" ++ encode_lower (take 100 (drop (k * 100) name)))

-- the file of an attribute, from the node's side folder on
abbrev pub attr_file : List ℕ → List ℕ
attr_file name =
    let count = (length name - 1) / 100 in
    pieces count name ++ (codes "/_" ++ encode_lower (drop (count * 100) name))

-- the note of a move: the node, its new place, its side folder or nothing, and where that comes to stand
abbrev pub note_text : List ℕ → List ℕ → List ℕ → List ℕ → List ℕ
note_text node to side aim = (node ++ codes "\n") ++ (to ++ codes "\n") ++ (side ++ codes "\n") ++ (aim ++ codes "\n")
