-- An image, as data, after an event.
use Rattle.std.proofs.Common.{◌≡◌, ◌⊎◌, inl, inr, ⊎_elim, ℕ, ◌<◌, List, [], ◌∷◌, ◌++◌, set, map, Bool, Option, Vec, refl, sym, ◌∙◌, ap, subst}
use Rattle.std.specs.declared.alloc.Global.{Global}
use Rattle.tree_api.specs.Tree.{Path, Version, Names, Content, Tree, Mix}
use Rattle.tree_memory.specs.History.{History, put, renamed, wrote, made, synced, synced_names, snapped, rolled, fill}
use Rattle.tree_memory.specs.Names.{names_at, put_at}
use Rattle.tree_memory.specs.Nodes.{version, node_of, fresh, changed}
use Rattle.tree_memory.specs.Told.{tree_of, count_of}
use Rattle.tree_memory.specs.Leaves.{seen, IsLeft}
use Rattle.tree_memory.specs.Images.{put_here}
use Rattle.tree_memory.specs.declared.node.Node.{Node}
use Rattle.tree_memory.specs.declared.node.Change.{Change}
use Rattle.tree_memory.specs.declared.node.Change.TheVariants.{Write, Cut, Attr}
use Rattle.tree_memory.specs.declared.store.Store.{Store}
use Rattle.tree_memory.proofs.Stores.{node_push, node_added, node_set}
use Rattle.tree_memory.proofs.Lefts.{left_renamed, left_made, left_wrote, left_synced, left_synced_names, left_snapped, left_rolled}

-- the names are those now, or the image's own
abbrev pub NowOrOld : Store → Store → Store → Type 0
NowOrOld now old new = (names_at new.names ≡ names_at now.names) ⊎ (names_at new.names ≡ names_at old.names)

chosen_names : (at : Names) (now old new : Store) → at ≡ names_at now.names → NowOrOld now old new → (names_at new.names ≡ at) ⊎ (names_at new.names ≡ names_at old.names)
chosen_names at now old new is names = ⊎_elim (λ e. inl (e ∙ sym is)) (λ e. inr e) names

same_kind : (c : Change) (v : Version) → (changed c v).dir ≡ v.dir
same_kind (Write at bytes) v = refl
same_kind (Cut len) v = refl
same_kind (Attr name value) v = refl

-- the nodes after a new one, after a sync of one, and after a rollback
pub made_nodes : (h : History) (old new now : Store) (p : Path) (n : ℕ) (dir : Bool) (x : Node) → (made n (fresh dir) (put_at p n h.tree.at) h).tree ≡ tree_of now → n ≡ count_of old → version x ≡ node_of now.nodes.items n
    → new.nodes.items ≡ old.nodes.items ++ x ∷ [] → node_of new.nodes.items ≡ put (node_of old.nodes.items) n (fresh dir)
made_nodes h old new now p n dir x reads count held nodes =
    let v_is : version x ≡ fresh dir = held ∙ ap (λ (t : Tree). t.node n) (sym reads) ∙ put_here h.tree.node n (fresh dir) in
    ap node_of nodes ∙ node_push old.nodes.items x ∙ (λ i. put (node_of old.nodes.items) (sym count i) (v_is i))

pub synced_nodes : (h : History) (old new now : Store) (n : ℕ) (x : Node) → h.tree ≡ tree_of now → n < count_of old → version x ≡ node_of now.nodes.items n → new.nodes.items ≡ set old.nodes.items n x
    → node_of new.nodes.items ≡ put (node_of old.nodes.items) n (h.tree.node n)
synced_nodes h old new now n x reads low held nodes =
    ap node_of nodes ∙ node_set old.nodes.items n x low ∙ ap (put (node_of old.nodes.items) n) (held ∙ ap (λ (t : Tree). t.node n) (sym reads))

pub rolled_nodes : (old new : Store) (first : ℕ) (nodes : List Node) → first ≡ count_of old → map version new.nodes.items ≡ map version old.nodes.items ++ map version nodes
    → node_of new.nodes.items ≡ fill first (map version nodes) (node_of old.nodes.items)
rolled_nodes old new first nodes count added =
    node_added old.nodes.items new.nodes.items (map version nodes) added ∙ ap (λ (k : ℕ). fill k (map version nodes) (node_of old.nodes.items)) (sym count)

module _ (h : History) (old new now : Store) (left : IsLeft h old) where
  pub names_left : (at : Names) → (renamed at h).tree ≡ tree_of now → NowOrOld now old new → new.nodes ≡ old.nodes → IsLeft (renamed at h) new
  names_left at reads names nodes =
      left_renamed h (seen old h.tree.snap) left at (seen new h.tree.snap) (chosen_names at now old new (ap (λ (t : Tree). t.at) reads) names) (ap (λ (v : Vec Node Global). node_of v.items) nodes) refl

  pub make_left : (p : Path) (n : ℕ) (dir : Bool) (x : Node) → (made n (fresh dir) (put_at p n h.tree.at) h).tree ≡ tree_of now → n ≡ count_of old → version x ≡ node_of now.nodes.items n
      → new.nodes.items ≡ old.nodes.items ++ x ∷ [] → NowOrOld now old new → IsLeft (made n (fresh dir) (put_at p n h.tree.at) h) new
  make_left p n dir x reads count held nodes names =
      left_made h (seen old h.tree.snap) left n (fresh dir) (put_at p n h.tree.at) (seen new h.tree.snap) (chosen_names (put_at p n h.tree.at) now old new (ap (λ (t : Tree). t.at) reads) names)
      (made_nodes h old new now p n dir x reads count held nodes) refl

  pub change_left : (n : ℕ) (c : Change) (w : Version) → (wrote n (changed c (h.tree.node n)) h).tree ≡ tree_of now → Mix (node_of old.nodes.items n) (node_of now.nodes.items n) w
      → new.names ≡ old.names → node_of new.nodes.items ≡ put (node_of old.nodes.items) n w → IsLeft (wrote n (changed c (h.tree.node n)) h) new
  change_left n c w reads mix names nodes =
      let is : node_of now.nodes.items n ≡ changed c (h.tree.node n) = ap (λ (t : Tree). t.node n) (sym reads) ∙ put_here h.tree.node n (changed c (h.tree.node n)) in
      left_wrote h (seen old h.tree.snap) left n (changed c (h.tree.node n)) w (seen new h.tree.snap) (same_kind c (h.tree.node n)) (subst (λ (v : Version). Mix (node_of old.nodes.items n) v w) is mix)
      (ap names_at names) nodes refl

  pub sync_left : (n : ℕ) (x : Node) → h.tree ≡ tree_of now → n < count_of old → version x ≡ node_of now.nodes.items n → names_at new.names ≡ names_at now.names → new.nodes.items ≡ set old.nodes.items n x → IsLeft (synced n h) new
  sync_left n x reads low held names nodes =
      left_synced h (seen old h.tree.snap) left n (seen new h.tree.snap) (names ∙ ap (λ (t : Tree). t.at) (sym reads)) (synced_nodes h old new now n x reads low held nodes) refl

  pub sync_names_left : h.tree ≡ tree_of now → names_at new.names ≡ names_at now.names → new.nodes ≡ old.nodes → IsLeft (synced_names h) new
  sync_names_left reads names nodes = left_synced_names h (seen old h.tree.snap) left (seen new h.tree.snap) (names ∙ ap (λ (t : Tree). t.at) (sym reads)) (ap (λ (v : Vec Node Global). node_of v.items) nodes) refl

  pub roll_left : (first : ℕ) (nodes : List Node) (at : Names) → (rolled first (map version nodes) at h).tree ≡ tree_of now → first ≡ count_of old → map version new.nodes.items ≡ map version old.nodes.items ++ map version nodes
      → names_at new.names ≡ names_at now.names → IsLeft (rolled first (map version nodes) at h) new
  roll_left first nodes at reads count added names =
      left_rolled h (seen old h.tree.snap) left first (map version nodes) at (seen new h.tree.snap) (names ∙ ap (λ (t : Tree). t.at) (sym reads)) (rolled_nodes old new first nodes count added) refl

pub snap_left : (h : History) (old : Store) (seq : ℕ) (to : Option Content) → IsLeft h old → IsLeft (snapped seq to h) old
snap_left h old seq to left = left_snapped h (seen old h.tree.snap) left seq to (seen old (snapped seq to h).tree.snap) refl refl refl
