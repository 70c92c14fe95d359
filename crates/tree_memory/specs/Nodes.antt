-- Nodes, and changes of them.
use Rattle.std.specs.Prelude.{ℕ, ◌+◌, ◌-◌, ◌^◌, List, [], ◌++◌, length, take, slice_index_or, map, Bool, true, if◌then◌else◌, Option, nat_lt}
use Rattle.std.specs.BTreeMap.{get}
use Rattle.std.specs.Ordering.{nat_cmp}
use Rattle.std.specs.Cmp.Lexicographic.{slice_cmp}
use Rattle.tree_api.specs.Tree.{Version, no_attr, new_dir, written, zeros}
use Rattle.tree_memory.specs.Paths.{same_step}
use Rattle.tree_memory.specs.declared.node.Node.{Node}
use Rattle.tree_memory.specs.declared.node.Change.{Change}
use Rattle.tree_memory.specs.declared.node.Change.TheVariants.{Write, Cut, Attr}

-- what a node holds
abbrev pub version : Node → Version
version n = record { dir = n.dir; bytes = n.bytes.items; attr = λ k. get (slice_cmp nat_cmp) n.attrs k }

-- what a new node holds
abbrev pub fresh : Bool → Version
fresh dir = record { dir = dir; bytes = []; attr = no_attr }

-- what the numbers stand for
abbrev pub node_of : List Node → ℕ → Version
node_of nodes n = slice_index_or (map version nodes) n new_dir

abbrev pub written_in : Version → ℕ → List ℕ → Version
written_in v at bytes = record v { bytes = written v.bytes at bytes }

abbrev pub cut_to : Version → ℕ → Version
cut_to v len = record v { bytes = take len v.bytes ++ zeros (len - length v.bytes) }

abbrev pub with_attr : Version → List ℕ → Option (List ℕ) → Version
with_attr v name value = record v { attr = λ k. if same_step name k then value else v.attr k }

abbrev pub changed : Change → Version → Version
changed (Write at bytes) v = written_in v at bytes.items
changed (Cut len) v = cut_to v len
changed (Attr name value) v = with_attr v name value

-- the node stays shorter than 2 ^ 63 bytes
abbrev pub fits : Change → Bool
fits (Write at bytes) = nat_lt (at + length bytes.items) (2 ^ 63)
fits (Cut len) = nat_lt len (2 ^ 63)
fits (Attr name value) = true
