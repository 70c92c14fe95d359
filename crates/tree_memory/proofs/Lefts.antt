-- An image after an event.
use Rattle.std.proofs.Common.{◌≡◌, ◌⊎◌, inl, inr, ⊎_elim, ℕ, suc, List, [], ◌∷◌, Bool, true, false, cond, Option, refl, sym, ◌∙◌, ap, subst}
use Rattle.std.proofs.lemmas.Bool.{cases_eq}
use Rattle.tree_api.specs.Tree.{Version, Names, Content, Tree, Mix}
use Rattle.tree_memory.specs.History.{History, Among, IsMix, IsImage, put, renamed, wrote, made, synced, synced_names, synced_all, snapped, rolled, fill, unchanged}
use Rattle.tree_memory.specs.Paths.{same_step}
use Rattle.tree_memory.proofs.Orders.{same_step_is}
use Rattle.tree_memory.specs.Nodes.{with_attr}
use Rattle.tree_memory.specs.Told.{tree_of}
use Rattle.tree_memory.specs.Leaves.{settle, IsLeft}
use Rattle.tree_memory.specs.Mixes.{mix_first}
use Rattle.tree_memory.specs.Images.{put_here, put_other, self_mix, now_image}
use Rattle.tree_memory.specs.declared.store.Store.{Store}

-- what is a mix without a newer version is one with it
pub older_mix : (v first : Version) (older : List Version) (c : Version) → first.dir ≡ v.dir → IsMix first older c → IsMix v (first ∷ older) c
older_mix v first older c dir mix = record {
  dir = mix.dir ∙ dir;
  len = (mix.len.0, inr mix.len.1, mix.len.2);
  byte = λ i lt. let from = mix.byte i lt in (from.0, inr from.1, from.2);
  attr = λ name. let from = mix.attr name in (from.0, inr from.1, from.2);
}

-- a function of numbers, changed at one
put_mix : (f : ℕ → Version) (g : ℕ → List Version) (c : ℕ → Version) (n : ℕ) (v w : Version) (vs : List Version) → ((m : ℕ) → IsMix (f m) (g m) (c m)) → IsMix v vs w → (m : ℕ) → IsMix (put f n v m) (put g n vs m) (put c n w m)
put_mix f g c n v w vs mixes here m = elim (cases_eq m n) [
  | inl same ↦ subst (λ (j : ℕ). IsMix (put f n v j) (put g n vs j) (put c n w j)) (sym same)
      (subst (λ (x : Version). IsMix x (put g n vs n) (put c n w n)) (sym (put_here f n v))
      (subst (λ (x : List Version). IsMix v x (put c n w n)) (sym (put_here g n vs))
      (subst (λ (x : Version). IsMix v vs x) (sym (put_here c n w)) here)))
  | inr not ↦
      subst (λ (x : Version). IsMix x (put g n vs m) (put c n w m)) (sym (put_other f n v m not))
      (subst (λ (x : List Version). IsMix (f m) x (put c n w m)) (sym (put_other g n vs m not))
      (subst (λ (x : Version). IsMix (f m) (g m) x) (sym (put_other c n w m not)) (mixes m)))
]

fill_mix : (j : ℕ) (vs : List Version) (f : ℕ → Version) (g : ℕ → List Version) (c : ℕ → Version) → ((m : ℕ) → IsMix (f m) (g m) (c m)) → (m : ℕ) → IsMix (fill j vs f m) (fill j (unchanged vs) g m) (fill j vs c m)
fill_mix j [] f g c mixes m = mixes m
fill_mix j (v ∷ vs) f g c mixes m = fill_mix (suc j) vs (put f j v) (put g j []) (put c j v) (put_mix f g c j v v [] mixes (self_mix v [])) m

module _ (h : History) (c : Tree) (may : IsImage h c) where
  pub left_renamed : (at : Names) (d : Tree) → (d.at ≡ at) ⊎ (d.at ≡ c.at) → d.node ≡ c.node → d.snap ≡ h.tree.snap → IsImage (renamed at h) d
  left_renamed at d names nodes snaps = record {
    names = ⊎_elim (λ e. inl e) (λ e. inr (subst (Among (h.tree.at ∷ h.names)) (sym e) may.names)) names;
    snaps = snaps;
    nodes = λ n. subst (λ (f : ℕ → Version). IsMix (h.tree.node n) (h.older n) (f n)) (sym nodes) (may.nodes n);
  }

  pub left_made : (n : ℕ) (v : Version) (at : Names) (d : Tree) → (d.at ≡ at) ⊎ (d.at ≡ c.at) → d.node ≡ put c.node n v → d.snap ≡ h.tree.snap → IsImage (made n v at h) d
  left_made n v at d names nodes snaps = record {
    names = ⊎_elim (λ e. inl e) (λ e. inr (subst (Among (h.tree.at ∷ h.names)) (sym e) may.names)) names;
    snaps = snaps;
    nodes = λ m. subst (λ (f : ℕ → Version). IsMix (put h.tree.node n v m) (put h.older n [] m) (f m)) (sym nodes) (put_mix h.tree.node h.older c.node n v v [] may.nodes (self_mix v []) m);
  }

  pub left_wrote : (n : ℕ) (v w : Version) (d : Tree) → v.dir ≡ (h.tree.node n).dir → Mix (c.node n) v w → d.at ≡ c.at → d.node ≡ put c.node n w → d.snap ≡ h.tree.snap → IsImage (wrote n v h) d
  left_wrote n v w d dir mix names nodes snaps = record {
    names = subst (Among (h.tree.at ∷ h.names)) (sym names) may.names;
    snaps = snaps;
    nodes = λ m. subst (λ (f : ℕ → Version). IsMix (put h.tree.node n v m) (put h.older n (h.tree.node n ∷ h.older n) m) (f m)) (sym nodes)
        (put_mix h.tree.node h.older c.node n v w (h.tree.node n ∷ h.older n) may.nodes
        (mix_first v (h.tree.node n ∷ h.older n) (c.node n) w (older_mix v (h.tree.node n) (h.older n) (c.node n) (sym dir) (may.nodes n)) mix) m);
  }

  pub left_synced_names : (d : Tree) → d.at ≡ h.tree.at → d.node ≡ c.node → d.snap ≡ h.tree.snap → IsImage (synced_names h) d
  left_synced_names d names nodes snaps = record {
    names = inl names;
    snaps = snaps;
    nodes = λ n. subst (λ (f : ℕ → Version). IsMix (h.tree.node n) (h.older n) (f n)) (sym nodes) (may.nodes n);
  }

  pub left_synced : (n : ℕ) (d : Tree) → d.at ≡ h.tree.at → d.node ≡ put c.node n (h.tree.node n) → d.snap ≡ h.tree.snap → IsImage (synced n h) d
  left_synced n d names nodes snaps = record {
    names = inl names;
    snaps = snaps;
    nodes = λ m. subst (λ (f : ℕ → Version). IsMix (h.tree.node m) (put h.older n [] m) (f m)) (sym nodes)
        (subst (λ (f : ℕ → Version). IsMix (f m) (put h.older n [] m) (put c.node n (h.tree.node n) m)) (same_put n)
        (put_mix h.tree.node h.older c.node n (h.tree.node n) (h.tree.node n) [] may.nodes (self_mix (h.tree.node n) []) m));
  }
    where
      same_at : (n m : ℕ) → put h.tree.node n (h.tree.node n) m ≡ h.tree.node m
      same_at n m = elim (cases_eq m n) [
        | inl same ↦ ap (put h.tree.node n (h.tree.node n)) same ∙ put_here h.tree.node n (h.tree.node n) ∙ ap h.tree.node (sym same)
        | inr not ↦ put_other h.tree.node n (h.tree.node n) m not
      ]

      same_put : (n : ℕ) → put h.tree.node n (h.tree.node n) ≡ h.tree.node
      same_put n = λ i m. same_at n m i

  pub left_snapped : (seq : ℕ) (to : Option Content) (d : Tree) → d.at ≡ c.at → d.node ≡ c.node → d.snap ≡ (snapped seq to h).tree.snap → IsImage (snapped seq to h) d
  left_snapped seq to d names nodes snaps = record {
    names = subst (Among (h.tree.at ∷ h.names)) (sym names) may.names;
    snaps = snaps;
    nodes = λ n. subst (λ (f : ℕ → Version). IsMix (h.tree.node n) (h.older n) (f n)) (sym nodes) (may.nodes n);
  }

  pub left_rolled : (first : ℕ) (vs : List Version) (at : Names) (d : Tree) → d.at ≡ at → d.node ≡ fill first vs c.node → d.snap ≡ h.tree.snap → IsImage (rolled first vs at h) d
  left_rolled first vs at d names nodes snaps = record {
    names = inl names;
    snaps = snaps;
    nodes = λ m. subst (λ (f : ℕ → Version). IsMix (fill first vs h.tree.node m) (fill first (unchanged vs) h.older m) (f m)) (sym nodes) (fill_mix first vs h.tree.node h.older c.node may.nodes m);
  }

-- after a whole sync, or as before
pub left_settled : (synced : Bool) (h : History) (now old new : Store) → h.tree ≡ tree_of now → IsLeft h old → (synced ≡ true → tree_of new ≡ tree_of now) → (synced ≡ false → tree_of new ≡ tree_of old) → IsLeft (settle synced h) new
left_settled true h now old new reads left copied same =
    subst (IsImage (synced_all h)) (λ i. record (tree_at i) { snap = h.tree.snap }) (now_image (synced_all h))
  where
    tree_at : h.tree ≡ tree_of new
    tree_at = reads ∙ sym (copied refl)
left_settled false h now old new reads left copied same = subst (λ (t : Tree). IsImage h (record t { snap = h.tree.snap })) (sym (same refl)) left

-- an attribute is taken over
pub attr_mix : (a b v : Version) (name : List ℕ) (value : Option (List ℕ)) → v ≡ with_attr a name value → value ≡ b.attr name → Mix a b v
attr_mix a b v name value is from = subst (Mix a b) (sym is) (record {
  dir = refl;
  len = inl refl;
  byte = λ i lt. inl refl;
  attr = λ k. by (same_step name k) k (λ e. from ∙ ap b.attr (same_step_is name k e));
})
  where
    by : (t : Bool) (k : List ℕ) → (t ≡ true → value ≡ b.attr k) → (cond t value (a.attr k) ≡ a.attr k) ⊎ (cond t value (a.attr k) ≡ b.attr k)
    by true k same = inr (same refl)
    by false k same = inl refl
