-- The oldest image after an event.
use Rattle.std.proofs.Common.{◌≡◌, ◌⊎◌, inl, inr, ◌==◌, ℕ, suc, ◌<◌, List, [], ◌∷◌, ◌++◌, set, map, Bool, true, false, cond, Option, Vec, refl, sym, ◌∙◌, ap, subst}
use Rattle.std.specs.declared.alloc.Global.{Global}
use Rattle.tree_api.specs.Tree.{Path, Version, Names, Content, Tree}
use Rattle.tree_memory.specs.History.{History, settled, put, renamed, wrote, made, synced, synced_names, rolled, fill, unchanged}
use Rattle.tree_memory.specs.Names.{names_at, put_at}
use Rattle.tree_memory.specs.Nodes.{version, node_of, fresh}
use Rattle.tree_memory.specs.Log.{run}
use Rattle.tree_memory.specs.Told.{tree_of, count_of}
use Rattle.tree_memory.specs.Leaves.{settle}
use Rattle.tree_memory.specs.Oldest.{oldest_of, oldest, IsOldest}
use Rattle.tree_memory.specs.declared.event.Event.{Event}
use Rattle.tree_memory.specs.declared.event.Event.TheVariants.{Snapshot, DropSnapshot}
use Rattle.tree_memory.specs.declared.node.Node.{Node}
use Rattle.tree_memory.specs.declared.store.Store.{Store}
use Rattle.tree_memory.proofs.Stores.{put_same}
use Rattle.tree_memory.proofs.Follows.{made_nodes, synced_nodes, rolled_nodes}

-- a function of numbers, changed at one
one_of : (b : Bool) (v w : Version) (vs ws : List Version) → oldest_of (cond b v w) (cond b vs ws) ≡ cond b (oldest_of v vs) (oldest_of w ws)
one_of true v w vs ws = refl
one_of false v w vs ws = refl

oldest_put : (f : ℕ → Version) (g : ℕ → List Version) (n : ℕ) (v : Version) (vs : List Version) → (λ m. oldest_of (put f n v m) (put g n vs m)) ≡ put (λ m. oldest_of (f m) (g m)) n (oldest_of v vs)
oldest_put f g n v vs = λ i m. one_of (m == n) v (f m) vs (g m) i

oldest_fill : (j : ℕ) (vs : List Version) (f : ℕ → Version) (g : ℕ → List Version) → (λ m. oldest_of (fill j vs f m) (fill j (unchanged vs) g m)) ≡ fill j vs (λ m. oldest_of (f m) (g m))
oldest_fill j [] f g = refl
oldest_fill j (v ∷ vs) f g = oldest_fill (suc j) vs (put f j v) (put g j []) ∙ ap (fill (suc j) vs) (oldest_put f g j v [])

module _ (h : History) (old new now : Store) (was : IsOldest h old) where
  pub names_oldest : (at : Names) → names_at new.names ≡ names_at old.names → new.nodes ≡ old.nodes → IsOldest (renamed at h) new
  names_oldest at names nodes = record { names = names ∙ was.names; nodes = ap (λ (v : Vec Node Global). node_of v.items) nodes ∙ was.nodes }

  pub make_oldest : (p : Path) (n : ℕ) (dir : Bool) (x : Node) → (made n (fresh dir) (put_at p n h.tree.at) h).tree ≡ tree_of now → n ≡ count_of old → version x ≡ node_of now.nodes.items n
      → new.nodes.items ≡ old.nodes.items ++ x ∷ [] → names_at new.names ≡ names_at old.names → IsOldest (made n (fresh dir) (put_at p n h.tree.at) h) new
  make_oldest p n dir x reads count held nodes names = record {
    names = names ∙ was.names;
    nodes = made_nodes h old new now p n dir x reads count held nodes ∙ ap (λ (f : ℕ → Version). put f n (fresh dir)) was.nodes ∙ sym (oldest_put h.tree.node h.older n (fresh dir) []);
  }

  pub change_oldest : (n : ℕ) (v : Version) → names_at new.names ≡ names_at old.names → node_of new.nodes.items ≡ node_of old.nodes.items → IsOldest (wrote n v h) new
  change_oldest n v names nodes = record {
    names = names ∙ was.names;
    nodes = nodes ∙ was.nodes ∙ sym (oldest_put h.tree.node h.older n v (h.tree.node n ∷ h.older n) ∙ put_same (oldest h).node n ((oldest h).node n) refl);
  }

  pub sync_oldest : (n : ℕ) (x : Node) → h.tree ≡ tree_of now → n < count_of old → version x ≡ node_of now.nodes.items n → names_at new.names ≡ names_at now.names → new.nodes.items ≡ set old.nodes.items n x → IsOldest (synced n h) new
  sync_oldest n x reads low held names nodes = record {
    names = names ∙ ap (λ (t : Tree). t.at) (sym reads);
    nodes = synced_nodes h old new now n x reads low held nodes ∙ ap (λ (f : ℕ → Version). put f n (h.tree.node n)) was.nodes ∙ sym (put_oldest n);
  }
    where
      put_oldest : (n : ℕ) → (oldest (synced n h)).node ≡ put (oldest h).node n (h.tree.node n)
      put_oldest n = ap (λ (f : ℕ → Version). λ m. oldest_of (f m) (put h.older n [] m)) (sym (put_same h.tree.node n (h.tree.node n) refl)) ∙ oldest_put h.tree.node h.older n (h.tree.node n) []

  pub sync_names_oldest : h.tree ≡ tree_of now → names_at new.names ≡ names_at now.names → new.nodes ≡ old.nodes → IsOldest (synced_names h) new
  sync_names_oldest reads names nodes = record { names = names ∙ ap (λ (t : Tree). t.at) (sym reads); nodes = ap (λ (v : Vec Node Global). node_of v.items) nodes ∙ was.nodes }

  pub roll_oldest : (first : ℕ) (nodes : List Node) (at : Names) → (rolled first (map version nodes) at h).tree ≡ tree_of now → first ≡ count_of old → map version new.nodes.items ≡ map version old.nodes.items ++ map version nodes
      → names_at new.names ≡ names_at now.names → IsOldest (rolled first (map version nodes) at h) new
  roll_oldest first nodes at reads count added names = record {
    names = names ∙ ap (λ (t : Tree). t.at) (sym reads);
    nodes = rolled_nodes old new first nodes count added ∙ ap (fill first (map version nodes)) was.nodes ∙ sym (oldest_fill first (map version nodes) h.tree.node h.older);
  }

-- a snapshot comes or goes
pub snap_oldest : (h : History) (s : Store) (e : Event) → IsOldest h s → ((seq : ℕ) × (e ≡ Snapshot seq)) ⊎ ((seq : ℕ) × (e ≡ DropSnapshot seq)) → IsOldest (run e h) s
snap_oldest h s e was (inl one) = subst (λ (x : Event). IsOldest (run x h) s) (sym one.1) (record { names = was.names; nodes = was.nodes })
snap_oldest h s e was (inr one) = subst (λ (x : Event). IsOldest (run x h) s) (sym one.1) (record { names = was.names; nodes = was.nodes })

-- after a whole sync, or as before
pub settled_oldest : (synced : Bool) (h : History) (now old new : Store) → h.tree ≡ tree_of now → IsOldest h old → (synced ≡ true → tree_of new ≡ tree_of now) → (synced ≡ false → tree_of new ≡ tree_of old) → IsOldest (settle synced h) new
settled_oldest true h now old new reads was copied same =
    let is : tree_of new ≡ h.tree = copied refl ∙ sym reads in
    record { names = ap (λ (t : Tree). t.at) is; nodes = ap (λ (t : Tree). t.node) is }
settled_oldest false h now old new reads was copied same = record { names = ap (λ (t : Tree). t.at) (same refl) ∙ was.names; nodes = ap (λ (t : Tree). t.node) (same refl) ∙ was.nodes }

-- a tree that was never called
pub start_oldest : (origin image : Store) → tree_of image ≡ tree_of origin → IsOldest (settled (tree_of origin)) image
start_oldest origin image e = record { names = ap (λ (t : Tree). t.at) e; nodes = ap (λ (t : Tree). t.node) e }

-- with the snapshots as they are
pub oldest_tree : (h : History) (s : Store) (snap : ℕ → Option Content) → IsOldest h s → snap ≡ h.tree.snap → record (tree_of s) { snap = snap } ≡ oldest h
oldest_tree h s snap is snaps = λ i. record { at = is.names i; node = is.nodes i; snap = snaps i }
