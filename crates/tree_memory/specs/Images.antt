-- Each image is one of before, after the call's step.
use Rattle.std.proofs.Common.{◌≡◌, ◌≢◌, inl, inr, ⊎_elim, ℕ, List, [], ◌∷◌, refl, sym, ◌∙◌, ap, subst, Option, arith}
use Rattle.std.proofs.lemmas.Bool.{cases_eq}
use Rattle.std.proofs.lemmas.Bool.Decides.{nat_tests}
use Rattle.tree_api.specs.Tree.{Version, Names, Content, Tree, Mix, Between, Named, Made, Wrote, Snapped}
use Rattle.tree_memory.specs.History.{History, Among, IsMix, IsImage, put, renamed, wrote, made, synced, synced_names, synced_all, snapped}
use Rattle.tree_memory.specs.Mixes.{before, before_mix, after_mix, one_mix, mix_first}

pub put_here : {A : Type 0} (f : ℕ → A) (n : ℕ) (v : A) → put f n v n ≡ v
put_here f n v = grind (arith, nat_tests)

pub put_other : {A : Type 0} (f : ℕ → A) (n : ℕ) (v : A) (m : ℕ) → m ≢ n → put f n v m ≡ f m
put_other f n v m not = grind (arith, nat_tests)

pub self_mix : (v : Version) (older : List Version) → IsMix v older v
self_mix v older = record { dir = refl; len = (v, inl refl, refl); byte = λ i lt. (v, inl refl, refl); attr = λ name. (v, inl refl, refl) }

pub now_image : (h : History) → IsImage h h.tree
now_image h = record { names = inl refl; snaps = refl; nodes = λ n. self_mix (h.tree.node n) (h.older n) }

pub mixes_image : (h : History) (c e : Tree) → IsImage h c → Between c h.tree e → IsImage h e
mixes_image h c e is two = record {
  names = ⊎_elim (λ same. subst (λ at. Among (h.tree.at ∷ h.names) at) (sym same) is.names) (λ now. inl now) two.names;
  snaps = two.snaps ∙ is.snaps;
  nodes = λ n. mix_first (h.tree.node n) (h.older n) (c.node n) (e.node n) (is.nodes n) (two.nodes n);
}

pub renamed_image : (at : Names) (h : History) (c : Tree) → IsImage (renamed at h) c → (d : Tree) × IsImage h d × Named at d c
renamed_image at h c is = elim is.names [
  | inl new ↦ (record c { at = h.tree.at }, record { names = inl refl; snaps = is.snaps; nodes = is.nodes }, record { names = inr new; snaps = refl; nodes = refl })
  | inr was ↦ (c, record { names = was; snaps = is.snaps; nodes = is.nodes }, record { names = inl refl; snaps = refl; nodes = refl })
]

module _ (n : ℕ) (v : Version) (h : History) (dir : v.dir ≡ (h.tree.node n).dir) (c : Tree) (is : IsImage (wrote n v h) c) where
  here : IsMix v (h.tree.node n ∷ h.older n) (c.node n)
  here = subst (λ vs. IsMix v vs (c.node n)) (put_here h.older n (h.tree.node n ∷ h.older n)) (subst (λ f. IsMix f (put h.older n (h.tree.node n ∷ h.older n) n) (c.node n)) (put_here h.tree.node n v) (is.nodes n))

  d_node : ℕ → Version
  d_node = put c.node n (before (h.tree.node n) (h.older n) v (c.node n) dir here)

  old_nodes : (m : ℕ) → IsMix (h.tree.node m) (h.older m) (d_node m)
  unfolding d_node
  old_nodes m = elim (cases_eq m n) [
    | inl same ↦ subst (λ k. IsMix (h.tree.node k) (h.older k) (put c.node n (before (h.tree.node n) (h.older n) v (c.node n) dir here) k)) (sym same)
        (subst (IsMix (h.tree.node n) (h.older n)) (sym (put_here c.node n (before (h.tree.node n) (h.older n) v (c.node n) dir here))) (before_mix (h.tree.node n) (h.older n) v (c.node n) dir here))
    | inr not ↦ subst (IsMix (h.tree.node m) (h.older m)) (sym (put_other c.node n (before (h.tree.node n) (h.older n) v (c.node n) dir here) m not))
        (subst (λ vs. IsMix (h.tree.node m) vs (c.node m)) (put_other h.older n (h.tree.node n ∷ h.older n) m not) (subst (λ f. IsMix f (put h.older n (h.tree.node n ∷ h.older n) m) (c.node m)) (put_other h.tree.node n v m not) (is.nodes m)))
  ]

  pub wrote_image : (d : Tree) × IsImage h d × Wrote n v d c
  unfolding d_node
  wrote_image = (
    record c { node = d_node },
    record { names = is.names; snaps = is.snaps; nodes = old_nodes },
    record {
      names = refl;
      snaps = refl;
      others = λ m not. sym (put_other c.node n (before (h.tree.node n) (h.older n) v (c.node n) dir here) m not);
      mixed = subst (λ d. Mix d v (c.node n)) (sym (put_here c.node n (before (h.tree.node n) (h.older n) v (c.node n) dir here))) (after_mix (h.tree.node n) (h.older n) v (c.node n) dir here);
    },
  )

pub made_image : (n : ℕ) (v : Version) (at : Names) (h : History) (c : Tree) → IsImage (made n v at h) c → (d : Tree) × IsImage h d × Made n v at d c
made_image n v at h c is =
    let now : c.node n ≡ v = one_mix v (c.node n) (subst (λ vs. IsMix v vs (c.node n)) (put_here h.older n []) (subst (λ f. IsMix f (put h.older n [] n) (c.node n)) (put_here h.tree.node n v) (is.nodes n))) in
    let node = put c.node n (h.tree.node n) in
    let nodes : (m : ℕ) → IsMix (h.tree.node m) (h.older m) (node m) = λ m. elim (cases_eq m n) [
      | inl same ↦ subst (λ k. IsMix (h.tree.node k) (h.older k) (put c.node n (h.tree.node n) k)) (sym same)
          (subst (IsMix (h.tree.node n) (h.older n)) (sym (put_here c.node n (h.tree.node n))) (self_mix (h.tree.node n) (h.older n)))
      | inr not ↦ subst (IsMix (h.tree.node m) (h.older m)) (sym (put_other c.node n (h.tree.node n) m not))
          (subst (λ vs. IsMix (h.tree.node m) vs (c.node m)) (put_other h.older n [] m not) (subst (λ f. IsMix f (put h.older n [] m) (c.node m)) (put_other h.tree.node n v m not) (is.nodes m)))
    ] in
    let others : (m : ℕ) → m ≢ n → c.node m ≡ node m = λ m not. sym (put_other c.node n (h.tree.node n) m not) in
    elim is.names [
      | inl new ↦ (record c { at = h.tree.at; node = node }, record { names = inl refl; snaps = is.snaps; nodes = nodes }, record { names = inr (new, now); snaps = refl; others = others })
      | inr was ↦ (record c { node = node }, record { names = was; snaps = is.snaps; nodes = nodes }, record { names = inl refl; snaps = refl; others = others })
    ]

-- a sync adds no image, and leaves no choice
weaker_mix : (first : Version) (older : List Version) (v : Version) → IsMix first [] v → IsMix first older v
weaker_mix first older v is = subst (IsMix first older) (sym (one_mix first v is)) (self_mix first older)

pub synced_image : (n : ℕ) (h : History) (c : Tree) → IsImage (synced n h) c → IsImage h c × (c.at ≡ h.tree.at) × (c.node n ≡ h.tree.node n)
synced_image n h c is =
    let names : c.at ≡ h.tree.at = elim is.names [ inl same ↦ same | inr none ↦ absurd none ] in
    let one : IsMix (h.tree.node n) [] (c.node n) = subst (λ vs. IsMix (h.tree.node n) vs (c.node n)) (put_here h.older n []) (is.nodes n) in (
      record {
        names = inl names;
        snaps = is.snaps;
        nodes = λ m. elim (cases_eq m n) [
          | inl same ↦ subst (λ k. IsMix (h.tree.node k) (h.older k) (c.node k)) (sym same) (weaker_mix (h.tree.node n) (h.older n) (c.node n) one)
          | inr not ↦ subst (λ vs. IsMix (h.tree.node m) vs (c.node m)) (put_other h.older n [] m not) (is.nodes m)
        ];
      },
      names,
      one_mix (h.tree.node n) (c.node n) one,
    )

pub synced_names_image : (h : History) (c : Tree) → IsImage (synced_names h) c → IsImage h c × (c.at ≡ h.tree.at)
synced_names_image h c is =
    let names : c.at ≡ h.tree.at = elim is.names [ inl same ↦ same | inr none ↦ absurd none ] in
    (record { names = inl names; snaps = is.snaps; nodes = is.nodes }, names)

pub synced_all_image : (h : History) (c : Tree) → IsImage (synced_all h) c → IsImage h c × (c ≡ h.tree)
synced_all_image h c is =
    let names : c.at ≡ h.tree.at = elim is.names [ inl same ↦ same | inr none ↦ absurd none ] in
    let nodes : (n : ℕ) → c.node n ≡ h.tree.node n = λ n. one_mix (h.tree.node n) (c.node n) (is.nodes n) in
    let snaps = is.snaps in (
      record { names = inl names; snaps = snaps; nodes = λ n. weaker_mix (h.tree.node n) (h.older n) (c.node n) (is.nodes n) },
      λ i. record { at = names i; node = λ n. nodes n i; snap = snaps i },
    )

pub snapped_image : (seq : ℕ) (to : Option Content) (h : History) (c : Tree) → IsImage (snapped seq to h) c → (d : Tree) × IsImage h d × Snapped seq to d c
snapped_image seq to h c is = (
  record c { snap = h.tree.snap },
  record { names = is.names; snaps = refl; nodes = is.nodes },
  record {
    names = refl;
    nodes = refl;
    others = λ k not. ap (λ (f : ℕ → Option Content). f k) is.snaps ∙ put_other h.tree.snap seq to k not;
    here = inr (ap (λ (f : ℕ → Option Content). f seq) is.snaps ∙ put_here h.tree.snap seq to);
  },
)

pub snapped_now : (seq : ℕ) (to : Option Content) (h : History) (c : Tree) → IsImage (snapped seq to h) c → c.snap seq ≡ to
snapped_now seq to h c is = ap (λ (f : ℕ → Option Content). f seq) is.snaps ∙ put_here h.tree.snap seq to
