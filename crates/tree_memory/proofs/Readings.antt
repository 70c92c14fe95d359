-- What the readings answer of a tree.
use Rattle.std.proofs.Common.{◌≡◌, ℕ, ◌<◌, ◌-◌, ◌++◌, List, length, take, drop, slice_index_or, min, Option, Some, Vec, sym, ap, subst, ◌∙◌}
use Rattle.std.specs.declared.alloc.Global.{Global}
use Rattle.tree_api.specs.Tree.{Path, Version, Tree, held, look}
use Rattle.tree_api.specs.Disk.{ReadAt}
use Rattle.tree_api.specs.Answer.{HasAttr, HasAttrs, AreAttrs, bytes_of}
use Rattle.tree_api.specs.declared.path.AttrName.{AttrName}
use Rattle.tree_memory.specs.Names.{names_at}
use Rattle.tree_memory.specs.Nodes.{version, node_of}
use Rattle.tree_memory.specs.Told.{tree_of, count_of}
use Rattle.tree_memory.specs.declared.node.Node.{Node}
use Rattle.tree_memory.specs.declared.store.Store.{Store}
use Rattle.tree_memory.proofs.Stores.{node_read}

module _ (store : Store) (t : Tree) (reads : t ≡ tree_of store) (p : Path) (n : ℕ) (here : names_at store.names p ≡ Some n) (low : n < count_of store) (x : Node) (read : x ≡ slice_index_or store.nodes.items n x) where
  held_now : held (names_at store.names p) (node_of store.nodes.items) ≡ Some (version x)
  held_now = ap (λ (o : Option ℕ). held o (node_of store.nodes.items)) here ∙ ap Some (sym (node_read store.nodes.items n x low read))

  looked : look t p ≡ Some (version x)
  looked = ap (λ (u : Tree). look u p) reads ∙ held_now

  pub reads_attr : (name : List ℕ) (v : Option (Vec ℕ Global)) → (version x).attr name ≡ bytes_of v → HasAttr (look t p) name v
  reads_attr name v is = subst (λ (o : Option Version). HasAttr o name v) (sym looked) is

  pub reads_attrs : (names : List AttrName) → AreAttrs (version x) names → HasAttrs (look t p) names
  reads_attrs names are = subst (λ (o : Option Version). HasAttrs o names) (sym looked) are

  pub reads_bytes : (at : ℕ) (into new : List ℕ) (count : ℕ) → count ≡ min (length into) (length x.bytes.items - at) → new ≡ take count (drop at x.bytes.items) ++ drop count into → ReadAt t p at into count new
  reads_bytes at into new count many is =
      let bytes : x.bytes.items ≡ (t.node n).bytes = ap (λ (v : Version). v.bytes) (node_read store.nodes.items n x low read) ∙ ap (λ (u : Tree). (u.node n).bytes) (sym reads) in
      record {
        node = n;
        here = ap (λ (u : Tree). u.at p) reads ∙ here;
        count = many ∙ ap (λ (l : List ℕ). min (length into) (length l - at)) bytes;
        bytes = is ∙ ap (λ (l : List ℕ). take count (drop at l) ++ drop count into) bytes;
      }
