-- Histories stay valid.
use Rattle.std.proofs.Common.{◌≡◌, ◌≢◌, inl, inr, ℕ, suc, ◌<◌, ◌^◌, List, [], ◌∷◌, ◌++◌, length, Bool, true, Option, Some, None, refl, sym, ◌∙◌, ap, subst, append_assoc, arith, lit<}
use Rattle.std.proofs.lemmas.Bool.{cases_eq}
use Rattle.tree_api.specs.Tree.{Path, Version, Names, Content, Tree, held, current, content}
use Rattle.tree_memory.specs.History.{History, Among, IsImage, put, settled, renamed, wrote, made, synced, synced_names, synced_all, snapped}
use Rattle.tree_memory.specs.Valid.{dir_at, kept_dir, IsGood, IsWhole, IsValid}
use Rattle.tree_memory.specs.Images.{put_here, put_other}
use Rattle.tree_memory.proofs.Goods.{good_wider, good_put}

abbrev pub dirs : Tree → ℕ → Bool
dirs t n = (t.node n).dir

pub valid_renamed : (k : ℕ) (at : Names) (h : History) → IsValid k h → IsGood k (dirs h.tree) at → IsValid k (renamed at h)
valid_renamed k at h valid good = record {
  maps = λ m is. elim is [ inl e ↦ subst (IsGood k (dirs h.tree)) (sym e) good | inr was ↦ valid.maps m was ];
  kinds = valid.kinds;
  short = valid.short;
  whole = valid.whole;
}

-- one node has other versions
module _ (h : History) (n : ℕ) (v : Version) (vs : List Version) where
  changed_vers : (P : Version → Version → Type 0) → ((u : Version) → Among (v ∷ vs) u → P v u) → ((m : ℕ) (u : Version) → Among (h.tree.node m ∷ h.older m) u → P (h.tree.node m) u)
      → (m : ℕ) (u : Version) → Among (put h.tree.node n v m ∷ put h.older n vs m) u → P (put h.tree.node n v m) u
  changed_vers P here others m u is = elim (cases_eq m n) [
    | inl same ↦
        let at_n : Among (put h.tree.node n v n ∷ put h.older n vs n) u = subst (λ (j : ℕ). Among (put h.tree.node n v j ∷ put h.older n vs j) u) same is in
        let there : Among (v ∷ vs) u = subst (λ (l : List Version). Among (v ∷ l) u) (put_here h.older n vs) (subst (λ (w : Version). Among (w ∷ put h.older n vs n) u) (put_here h.tree.node n v) at_n) in
        subst (λ (j : ℕ). P (put h.tree.node n v j) u) (sym same) (subst (λ (w : Version). P w u) (sym (put_here h.tree.node n v)) (here u there))
    | inr not ↦
        let there : Among (h.tree.node m ∷ h.older m) u = subst (λ (l : List Version). Among (h.tree.node m ∷ l) u) (put_other h.older n vs m not) (subst (λ (w : Version). Among (w ∷ put h.older n vs m) u) (put_other h.tree.node n v m not) is) in
        subst (λ (w : Version). P w u) (sym (put_other h.tree.node n v m not)) (others m u there)
  ]

pub valid_wrote : (k n : ℕ) (v : Version) (h : History) → IsValid k h → v.dir ≡ (h.tree.node n).dir → length v.bytes < 2 ^ 63 → IsValid k (wrote n v h)
valid_wrote k n v h valid dir short = record {
  maps = λ at is. subst (λ (f : ℕ → Bool). IsGood k f at) (sym same_dirs) (valid.maps at is);
  kinds = changed_vers h n v (h.tree.node n ∷ h.older n) (λ w u. u.dir ≡ w.dir) (λ u is. elim is [ inl e ↦ ap (λ (w : Version). w.dir) e | inr was ↦ valid.kinds n u was ∙ sym dir ]) valid.kinds;
  short = changed_vers h n v (h.tree.node n ∷ h.older n) (λ w u. length u.bytes < 2 ^ 63) (λ u is. elim is [ inl e ↦ subst (λ (w : Version). length w.bytes < 2 ^ 63) (sym e) short | inr was ↦ valid.short n u was ]) valid.short;
  whole = valid.whole;
}
  where
    same_at : (m : ℕ) → (put h.tree.node n v m).dir ≡ (h.tree.node m).dir
    same_at m = elim (cases_eq m n) [
      | inl same ↦ ap (λ (j : ℕ). (put h.tree.node n v j).dir) same ∙ ap (λ (w : Version). w.dir) (put_here h.tree.node n v) ∙ dir ∙ ap (λ (j : ℕ). (h.tree.node j).dir) (sym same)
      | inr not ↦ ap (λ (w : Version). w.dir) (put_other h.tree.node n v m not)
    ]

    same_dirs : dirs (wrote n v h).tree ≡ dirs h.tree
    same_dirs = λ i m. same_at m i

-- a new node at a free path
pub valid_made : (k : ℕ) (v : Version) (at : Names) (h : History) (p d : Path) (step : List ℕ) → IsValid k h → length v.bytes < 2 ^ 63 → p ≡ d ++ step ∷ [] → dir_at (dirs h.tree) (h.tree.at d) ≡ true → h.tree.at p ≡ None
    → at p ≡ Some k → ((q : Path) → q ≢ p → at q ≡ h.tree.at q) → IsValid (suc k) (made k v at h)
valid_made k v at h p d step valid short is_p dir_d free here others = record {
  maps = λ m is. elim is [
    | inl e ↦ subst (IsGood (suc k) (dirs (made k v at h).tree)) (sym e) (good_put k (dirs (made k v at h).tree) h.tree.at at p d step (wider h.tree.at (inl refl)) (λ q e. fresh q e) is_p (keeps_dir (h.tree.at d) (λ n. now.low d n) dir_d) free here others)
    | inr was ↦ wider m was
  ];
  kinds = changed_vers h k v [] (λ w u. u.dir ≡ w.dir) (λ u is. elim is [ inl e ↦ ap (λ (w : Version). w.dir) e | inr none ↦ absurd none ]) valid.kinds;
  short = changed_vers h k v [] (λ w u. length u.bytes < 2 ^ 63) (λ u is. elim is [ inl e ↦ subst (λ (w : Version). length w.bytes < 2 ^ 63) (sym e) short | inr none ↦ absurd none ]) valid.short;
  whole = valid.whole;
}
  where
    now : IsGood k (dirs h.tree) h.tree.at
    now = valid.maps h.tree.at (inl refl)

    fresh : (q : Path) → h.tree.at q ≢ Some k
    fresh q e = let lt = now.low q k e in absurd (omega arith)

    same_below : (n : ℕ) → n < k → dirs (made k v at h).tree n ≡ dirs h.tree n
    same_below n lt = ap (λ (w : Version). w.dir) (put_other h.tree.node k v n (λ e. absurd (omega arith)))

    keeps_dir : (o : Option ℕ) → ((n : ℕ) → o ≡ Some n → n < k) → dir_at (dirs h.tree) o ≡ true → dir_at (dirs (made k v at h).tree) o ≡ true
    keeps_dir None low e = e
    keeps_dir (Some n) low e = same_below n (low n refl) ∙ e

    wider : (m : Names) → Among (h.tree.at ∷ h.names) m → IsGood (suc k) (dirs (made k v at h).tree) m
    wider m is = let good = valid.maps m is in good_wider k (suc k) (dirs h.tree) (dirs (made k v at h).tree) m (omega arith) (let z = good.low [] 0 good.root in omega arith) same_below good

one_map : (k : ℕ) (h : History) → IsValid k h → (at : Names) → Among (h.tree.at ∷ []) at → IsGood k (dirs h.tree) at
one_map k h valid at is = elim is [ inl e ↦ valid.maps at (inl e) | inr none ↦ absurd none ]

pub valid_synced : (k n : ℕ) (h : History) → IsValid k h → IsValid k (synced n h)
valid_synced k n h valid = record {
  maps = one_map k h valid;
  kinds = λ m u is. valid.kinds m u (fewer m u is);
  short = λ m u is. valid.short m u (fewer m u is);
  whole = valid.whole;
}
  where
    fewer : (m : ℕ) (u : Version) → Among (h.tree.node m ∷ put h.older n [] m) u → Among (h.tree.node m ∷ h.older m) u
    fewer m u is = elim (cases_eq m n) [
      | inl same ↦ elim is [
        | inl e ↦ inl e
        | inr there ↦ absurd (subst (λ (l : List Version). Among l u) (ap (put h.older n []) same ∙ put_here h.older n []) there)
      ]
      | inr not ↦ subst (λ (l : List Version). Among (h.tree.node m ∷ l) u) (put_other h.older n [] m not) is
    ]

pub valid_synced_names : (k : ℕ) (h : History) → IsValid k h → IsValid k (synced_names h)
valid_synced_names k h valid = record { maps = one_map k h valid; kinds = valid.kinds; short = valid.short; whole = valid.whole }

pub valid_synced_all : (k : ℕ) (h : History) → IsValid k h → IsValid k (synced_all h)
valid_synced_all k h valid = record {
  maps = one_map k h valid;
  kinds = λ m u is. elim is [ inl e ↦ ap (λ (w : Version). w.dir) e | inr none ↦ absurd none ];
  short = λ m u is. elim is [ inl e ↦ valid.short m u (inl e) | inr none ↦ absurd none ];
  whole = valid.whole;
}

-- an image of a valid history, when it is stable
pub valid_image : (k : ℕ) (h : History) (c : Tree) → IsValid k h → IsImage h c → IsValid k (settled c)
valid_image k h c valid may = record {
  maps = λ at is. elim is [ inl e ↦ subst (IsGood k (dirs c)) (sym e) (subst (λ (f : ℕ → Bool). IsGood k f c.at) (λ i n. sym (may.nodes n).dir i) (valid.maps c.at may.names)) | inr none ↦ absurd none ];
  kinds = λ m u is. elim is [ inl e ↦ ap (λ (w : Version). w.dir) e | inr none ↦ absurd none ];
  short = λ m u is. elim is [
    | inl e ↦ let from = (may.nodes m).len in subst (λ (w : Version). length w.bytes < 2 ^ 63) (sym e) (subst (λ (j : ℕ). j < 2 ^ 63) (sym from.2) (valid.short m from.0 from.1))
    | inr none ↦ absurd none
  ];
  whole = λ seq kept there. valid.whole seq kept (ap (λ (f : ℕ → Option Content). f seq) (sym may.snaps) ∙ there);
}

pub held_dir : (node : ℕ → Version) (o : Option ℕ) → kept_dir (held o node) ≡ dir_at (λ n. (node n).dir) o
held_dir node None = refl
held_dir node (Some n) = refl

held_some : (node : ℕ → Version) (o : Option ℕ) (v : Version) → held o node ≡ Some v → (n : ℕ) × (o ≡ Some n) × (node n ≡ v)
held_some node None v e = cc
held_some node (Some n) v e = (n, refl, cc)

-- what `current` has is whole
pub whole_content : (k : ℕ) (h : History) → IsValid k h → IsWhole (content h.tree)
whole_content k h valid = record {
  parents = λ p s v there.
      let from = held_some h.tree.node (h.tree.at (current ++ (p ++ s ∷ []))) v there in
      held_dir h.tree.node (h.tree.at (current ++ p)) ∙ (valid.maps h.tree.at (inl refl)).parents (current ++ p) s from.0 (ap h.tree.at (append_assoc current p (s ∷ [])) ∙ from.1);
  short = λ p v there.
      let from = held_some h.tree.node (h.tree.at (current ++ p)) v there in
      subst (λ (w : Version). length w.bytes < 2 ^ 63) from.2 (valid.short from.0 (h.tree.node from.0) (inl refl));
}

pub valid_snapped : (k seq : ℕ) (to : Option Content) (h : History) → IsValid k h → ((c : Content) → to ≡ Some c → IsWhole c) → IsValid k (snapped seq to h)
valid_snapped k seq to h valid whole = record {
  maps = valid.maps;
  kinds = valid.kinds;
  short = valid.short;
  whole = λ m c there. elim (cases_eq m seq) [
    | inl same ↦ whole c (sym (put_here h.tree.snap seq to) ∙ ap (put h.tree.snap seq to) (sym same) ∙ there)
    | inr not ↦ valid.whole m c (sym (put_other h.tree.snap seq to m not) ∙ there)
  ];
}

-- a root directory alone
pub valid_start : (at : Names) → at [] ≡ Some 0 → ((s : List ℕ) (p : Path) → at (s ∷ p) ≡ None) → IsValid 1 (settled (record { at = at; node = λ n. record { dir = true; bytes = []; attr = λ k. None }; snap = λ k. None }))
valid_start at root empty = record {
  maps = λ m is. elim is [
    | inl e ↦ subst (IsGood 1 (λ n. true)) (sym e) (record {
      root = root;
      top = refl;
      parents = λ p s n there. absurd (push_none p s n there);
      single = λ p q n one two. only p n one ∙ sym (only q n two);
      low = λ p n one. let z : Some 0 ≡ Some n = sym root ∙ ap at (sym (only p n one)) ∙ one in let y : 0 ≡ n = cc in omega arith;
    })
    | inr none ↦ absurd none
  ];
  kinds = λ m u is. elim is [ inl e ↦ ap (λ (w : Version). w.dir) e | inr none ↦ absurd none ];
  short = λ m u is. elim is [ inl e ↦ subst (λ (w : Version). length w.bytes < 2 ^ 63) (sym e) (lit< tt) | inr none ↦ absurd none ];
  whole = λ seq c there. cc;
}
  where
    only : (p : Path) (n : ℕ) → at p ≡ Some n → p ≡ []
    only [] n one = refl
    only (s ∷ p) n one = absurd (let z : None ≡ Some n = sym (empty s p) ∙ one in cc)

    push_none : (p : Path) (s : List ℕ) (n : ℕ) → at (p ++ s ∷ []) ≡ Some n → ⊥
    push_none [] s n one = let z : None ≡ Some n = sym (empty s []) ∙ one in cc
    push_none (t ∷ p) s n one = let z : None ≡ Some n = sym (empty t (p ++ s ∷ [])) ∙ one in cc
