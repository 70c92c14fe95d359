-- Name maps stay good.
use Rattle.std.proofs.Common.{◌≡◌, ◌≢◌, ◌⊎◌, inl, inr, ℕ, suc, ◌<◌, ◌≤◌, List, [], ◌∷◌, ◌++◌, Bool, true, false, Option, Some, None, refl, sym, ◌∙◌, ap, append_assoc, arith, is_some}
use Rattle.std.proofs.lemmas.List.{append-nil}
use Rattle.tree_api.specs.Tree.{Path, Names, Gone, MovedFile, MovedDir}
use Rattle.tree_memory.specs.Paths.{strip}
use Rattle.tree_memory.specs.Valid.{dir_at, IsGood}
use Rattle.tree_memory.proofs.Orders.{cases_path, strip_some, strip_none}

-- ---- paths

-- a list is empty or has a last element
pub last : {X : Type 0} (p : List X) → (p ≡ []) ⊎ ((q : List X) × (x : X) × (p ≡ q ++ x ∷ []))
last [] = inl refl
last (x ∷ p) = elim (last p) [
  | inl e ↦ inr ([], x, ap (λ l. x ∷ l) e)
  | inr more ↦ inr (x ∷ more.0, more.1, ap (λ l. x ∷ l) more.2)
]

pub push_not_nil : {X : Type 0} (p : List X) (x : X) → p ++ x ∷ [] ≢ []
push_not_nil [] x e = cc
push_not_nil (y ∷ p) x e = cc

head_same : {X : Type 0} (x y : X) (p q : List X) → x ∷ p ≡ y ∷ q → (x ≡ y) × (p ≡ q)
head_same x y p q e = (cc, cc)

pub push_same : {X : Type 0} (p q : List X) (x y : X) → p ++ x ∷ [] ≡ q ++ y ∷ [] → p ≡ q
push_same [] [] x y e = refl
push_same [] (b ∷ q) x y e = absurd (push_not_nil q y (sym (head_same x b [] (q ++ y ∷ []) e).1))
push_same (a ∷ p) [] x y e = absurd (push_not_nil p x (head_same a y (p ++ x ∷ []) [] e).1)
push_same (a ∷ p) (b ∷ q) x y e =
    let both = head_same a b (p ++ x ∷ []) (q ++ y ∷ []) e in
    let rest = push_same p q x y both.1 in
    λ i. both.0 i ∷ rest i

pub longer : {X : Type 0} (p r : List X) (x : X) → p ≢ p ++ x ∷ r
longer [] r x e = cc
longer (y ∷ p) r x e = longer p r x (head_same y y p (p ++ x ∷ r) e).1

pub front_same : {X : Type 0} (d p q : List X) → d ++ p ≡ d ++ q → p ≡ q
front_same [] p q e = e
front_same (x ∷ d) p q e = front_same d p q (head_same x x (d ++ p) (d ++ q) e).1

-- of two that begin one list, one begins the other
pub fronts : {X : Type 0} (p q r s : List X) → p ++ r ≡ q ++ s → ((x : List X) × (q ≡ p ++ x)) ⊎ ((x : List X) × (p ≡ q ++ x))
fronts [] q r s e = inl (q, refl)
fronts (a ∷ p) [] r s e = inr (a ∷ p, refl)
fronts (a ∷ p) (b ∷ q) r s e =
    let both = head_same a b (p ++ r) (q ++ s) e in
    elim (fronts p q r s both.1) [
      | inl more ↦ inl (more.0, λ i. sym both.0 i ∷ more.1 i)
      | inr more ↦ inr (more.0, λ i. both.0 i ∷ more.1 i)
    ]

-- whether a path begins with the directory's
pub cases_below : (d q : Path) → ((r : Path) × (q ≡ d ++ r)) ⊎ ((r : Path) → q ≢ d ++ r)
cases_below d q = by (strip d q) refl
  where
    by : (o : Option Path) → strip d q ≡ o → ((r : Path) × (q ≡ d ++ r)) ⊎ ((r : Path) → q ≢ d ++ r)
    by None e = inr (λ r. strip_none d q r e)
    by (Some r) e = inl (r, strip_some d q r e)

is_some_from : {A : Type 0} (o : Option A) (a : A) → o ≡ Some a → is_some o ≡ true
is_some_from o a e = ap is_some e

some_of : {A : Type 0} (o : Option A) → is_some o ≡ true → (a : A) × (o ≡ Some a)
some_of None e = cc
some_of (Some a) e = (a, refl)

pub not_both : {A : Type 0} (o : Option A) (a : A) → o ≡ None → o ≡ Some a → ⊥
not_both o a e f = let z : None ≡ Some a = sym e ∙ f in cc

pub same_some : {A : Type 0} (o : Option A) (a b : A) → o ≡ Some a → o ≡ Some b → a ≡ b
same_some o a b e f = let z : Some a ≡ Some b = sym e ∙ f in cc

dir_some : (dir : ℕ → Bool) (o : Option ℕ) → dir_at dir o ≡ true → is_some o ≡ true
dir_some dir None e = cc
dir_some dir (Some n) e = refl

true_is_false : (b : Bool) → b ≡ true → b ≡ false → ⊥
true_is_false b e f = let z : true ≡ false = sym e ∙ f in cc

module _ (k : ℕ) (dir : ℕ → Bool) (at : Names) (good : IsGood k dir at) where
  -- all on the way to a name is named
  up : (x p : Path) (n : ℕ) → at (p ++ x) ≡ Some n → is_some (at p) ≡ true
  up [] p n here = is_some_from (at p) n (ap at (sym (append-nil p)) ∙ here)
  up (s ∷ x) p n here =
      let step = some_of (at (p ++ s ∷ [])) (up x (p ++ s ∷ []) n (ap at (append_assoc p (s ∷ []) x) ∙ here)) in
      dir_some dir (at p) (good.parents p s step.0 step.1)

  pub none_below : (p x : Path) → at p ≡ None → at (p ++ x) ≡ None
  none_below p x none = by (at (p ++ x)) (λ n here. up x p n here)
    where
      by : (o : Option ℕ) → ((n : ℕ) → o ≡ Some n → is_some (at p) ≡ true) → o ≡ None
      by None up = refl
      by (Some n) up = absurd (let z : is_some (at p) ≡ true = up n refl in let w : is_some (at p) ≡ false = ap is_some none in true_is_false _ z w)

  -- below a file is nothing
  pub none_below_file : (p : Path) (n : ℕ) (s : List ℕ) → at p ≡ Some n → dir n ≡ false → at (p ++ s ∷ []) ≡ None
  none_below_file p n s here file = by (at (p ++ s ∷ [])) (λ m there. good.parents p s m there)
    where
      by : (o : Option ℕ) → ((m : ℕ) → o ≡ Some m → dir_at dir (at p) ≡ true) → o ≡ None
      by None up = refl
      by (Some m) up = absurd (true_is_false (dir n) (sym (ap (dir_at dir) here) ∙ up m refl) file)

  -- a name goes that has none below it
  pub good_gone : (p : Path) (new : Names) → Gone p at new → p ≢ [] → ((s : List ℕ) → at (p ++ s ∷ []) ≡ None) → IsGood k dir new
  good_gone p new is not_root empty = record {
    root = is.others [] (λ e. not_root (sym e)) ∙ good.root;
    top = good.top;
    parents = λ q s n here.
        let apart = was (q ++ s ∷ []) n here in
        let there : q ≢ p = λ e. not_both _ n (empty s) (ap (λ (x : Path). at (x ++ s ∷ [])) (sym e) ∙ apart.1) in
        ap (dir_at dir) (is.others q there) ∙ good.parents q s n apart.1;
    single = λ q r n here there. good.single q r n (was q n here).1 (was r n there).1;
    low = λ q n here. good.low q n (was q n here).1;
  }
    where
      was : (q : Path) (n : ℕ) → new q ≡ Some n → (q ≢ p) × (at q ≡ Some n)
      was q n here = let not : q ≢ p = λ e. not_both _ n is.gone (ap new (sym e) ∙ here) in (not, sym (is.others q not) ∙ here)

  -- what a path with a parent needs
  module _ (to d : Path) (step : List ℕ) (is_to : to ≡ d ++ step ∷ []) (dir_d : dir_at dir (at d) ≡ true) where
    pub to_not_root : to ≢ []
    to_not_root e = push_not_nil d step (sym is_to ∙ e)

    pub parent_of : (q : Path) (s : List ℕ) → q ++ s ∷ [] ≡ to → dir_at dir (at q) ≡ true
    parent_of q s e = ap (λ (x : Path). dir_at dir (at x)) (push_same q d s step (e ∙ is_to)) ∙ dir_d

    -- a file moves, over one that may stand there
    pub good_file : (from : Path) (n : ℕ) (new : Names) → MovedFile from to at new → from ≢ to → at from ≡ Some n → dir n ≡ false → ((m : ℕ) → at to ≡ Some m → dir m ≡ false) → IsGood k dir new
    good_file from n new is apart here file over = record {
      root = is.others [] (λ e. root_not_from e) (λ e. to_not_root (sym e)) ∙ good.root;
      top = good.top;
      parents = λ q s m there. elim (cases_path (q ++ s ∷ []) to) [
        | inl same ↦ keeps_dir q (parent_of q s same)
        | inr not ↦ keeps_dir q (good.parents q s m (other (q ++ s ∷ []) m there not))
      ];
      single = λ q r m one two. elim (cases_path q to) [
        | inl q_is ↦ elim (cases_path r to) [
          | inl r_is ↦ q_is ∙ sym r_is
          | inr r_not ↦ absurd (not_from r m two (good.single r from m (other r m two r_not) (moved q m q_is one)))
        ]
        | inr q_not ↦ elim (cases_path r to) [
          | inl r_is ↦ absurd (not_from q m one (good.single q from m (other q m one q_not) (moved r m r_is two)))
          | inr r_not ↦ good.single q r m (other q m one q_not) (other r m two r_not)
        ]
      ];
      low = λ q m one. elim (cases_path q to) [
        | inl q_is ↦ good.low from m (moved q m q_is one)
        | inr q_not ↦ good.low q m (other q m one q_not)
      ];
    }
      where
        root_not_from : [] ≢ from
        root_not_from e = let z : 0 ≡ n = same_some (at []) 0 n good.root (ap at e ∙ here) in true_is_false (dir 0) good.top (ap dir z ∙ file)

        not_from : (q : Path) (m : ℕ) → new q ≡ Some m → q ≢ from
        not_from q m there e = not_both _ m (is.gone apart) (ap new (sym e) ∙ there)

        other : (q : Path) (m : ℕ) → new q ≡ Some m → q ≢ to → at q ≡ Some m
        other q m there not = sym (is.others q (not_from q m there) not) ∙ there

        moved : (q : Path) (m : ℕ) → q ≡ to → new q ≡ Some m → at from ≡ Some m
        moved q m e there = sym is.moved ∙ ap new (sym e) ∙ there

        -- a directory is neither of the two
        keeps_dir : (q : Path) → dir_at dir (at q) ≡ true → dir_at dir (new q) ≡ true
        keeps_dir q is_dir =
            let not_old : q ≢ from = λ e. true_is_false _ is_dir (ap (λ (x : Path). dir_at dir (at x)) e ∙ ap (dir_at dir) here ∙ file) in
            let not_new : q ≢ to = λ e. let there = some_of (at q) (dir_some dir (at q) is_dir) in
            true_is_false _ is_dir (ap (dir_at dir) there.1 ∙ over there.0 (ap at (sym e) ∙ there.1)) in
            ap (dir_at dir) (is.others q not_old not_new) ∙ is_dir

    -- where a name was before
    abbrev pub Source : Path → Path → ℕ → Type 0
    Source from p n = ((r : Path) × (p ≡ to ++ r) × (at (from ++ r) ≡ Some n)) ⊎ (((r : Path) → p ≢ from ++ r) × ((r : Path) → p ≢ to ++ r) × (at p ≡ Some n))

    -- a directory moves with all below it, to a free place
    pub good_dir : (from : Path) (new : Names) → MovedDir from to at new → from ≢ [] → ((r : Path) → to ≢ from ++ r) → IsGood k dir new
    good_dir from new is from_not_root away = record {
      root = is.others [] (λ r e. from_not_root (empty_front from r (sym e))) (λ r e. to_not_root (empty_front to r (sym e))) ∙ good.root;
      top = good.top;
      parents = parents;
      single = λ p q n one two. alike p q n (source p n one) (source q n two);
      low = λ p n one. elim (source p n one) [ inl a ↦ good.low (from ++ a.0) n a.2 | inr a ↦ good.low p n a.2 ];
    }
      where
        empty_front : (p r : Path) → p ++ r ≡ [] → p ≡ []
        empty_front [] r e = refl
        empty_front (x ∷ p) r e = cc

        not_gone : (p : Path) (n : ℕ) → new p ≡ Some n → (r : Path) → p ≢ from ++ r
        not_gone p n one r e = not_both _ n (is.gone r) (ap new (sym e) ∙ one)

        source : (p : Path) (n : ℕ) → new p ≡ Some n → Source from p n
        source p n one = elim (cases_below to p) [
          | inl below ↦ inl (below.0, below.1, sym (is.moved below.0) ∙ ap new (sym below.1) ∙ one)
          | inr off ↦ inr (not_gone p n one, off, sym (is.others p (not_gone p n one) off) ∙ one)
        ]

        alike : (p q : Path) (n : ℕ) → Source from p n → Source from q n → p ≡ q
        alike p q n (inl a) (inl b) = a.1 ∙ ap (λ r. to ++ r) (front_same from a.0 b.0 (good.single (from ++ a.0) (from ++ b.0) n a.2 b.2)) ∙ sym b.1
        alike p q n (inl a) (inr b) = absurd (b.0 a.0 (good.single q (from ++ a.0) n b.2 a.2))
        alike p q n (inr a) (inl b) = absurd (a.0 b.0 (good.single p (from ++ b.0) n a.2 b.2))
        alike p q n (inr a) (inr b) = good.single p q n a.2 b.2

        -- a directory that is off both stays
        stays : (p : Path) (s : List ℕ) → ((r : Path) → p ++ s ∷ [] ≢ from ++ r) → ((r : Path) → p ≢ to ++ r) → dir_at dir (at p) ≡ true → dir_at dir (new p) ≡ true
        stays p s off_from off_to is_dir =
            ap (dir_at dir) (is.others p (λ r e. off_from (r ++ s ∷ []) (ap (λ x. x ++ s ∷ []) e ∙ append_assoc from r (s ∷ []))) off_to) ∙ is_dir

        parents : (p : Path) (s : List ℕ) (n : ℕ) → new (p ++ s ∷ []) ≡ Some n → dir_at dir (new p) ≡ true
        parents p s n one = elim (source (p ++ s ∷ []) n one) [
          | inr a ↦ stays p s a.0 (λ r e. a.1 (r ++ s ∷ []) (ap (λ x. x ++ s ∷ []) e ∙ append_assoc to r (s ∷ []))) (good.parents p s n a.2)
          | inl a ↦ elim (last a.0) [
            | inl none ↦
                let whole : p ++ s ∷ [] ≡ to = a.1 ∙ ap (λ r. to ++ r) none ∙ append-nil to in
                stays p s (λ r e. away r (sym whole ∙ e))
                (λ r e. push_not_nil r s (sym (front_same to [] (r ++ s ∷ []) (append-nil to ∙ sym whole ∙ ap (λ x. x ++ s ∷ []) e ∙ append_assoc to r (s ∷ [])))))
                (parent_of p s whole)
            | inr more ↦
                let is_p : p ≡ to ++ more.0 = push_same p (to ++ more.0) s more.1 (a.1 ∙ ap (λ r. to ++ r) more.2 ∙ sym (append_assoc to more.0 (more.1 ∷ []))) in
                ap (λ (x : Path). dir_at dir (new x)) is_p ∙ ap (dir_at dir) (is.moved more.0)
                ∙ good.parents (from ++ more.0) more.1 n (ap at (append_assoc from more.0 (more.1 ∷ []) ∙ ap (λ r. from ++ r) (sym more.2)) ∙ a.2)
          ]
        ]

-- more nodes, of which those that were there are of the same kinds
pub good_wider : (k m : ℕ) (dir new : ℕ → Bool) (at : Names) → k ≤ m → 0 < k → ((n : ℕ) → n < k → new n ≡ dir n) → IsGood k dir at → IsGood m new at
good_wider k m dir new at le some same good = record {
  root = good.root;
  top = same 0 some ∙ good.top;
  parents = λ p s n here. by (at p) (λ d is. same d (good.low p d is)) (good.parents p s n here);
  single = good.single;
  low = λ p n here. let lt = good.low p n here in omega arith;
}
  where
    by : (o : Option ℕ) → ((d : ℕ) → o ≡ Some d → new d ≡ dir d) → dir_at dir o ≡ true → dir_at new o ≡ true
    by None same e = e
    by (Some d) same e = same d refl ∙ e

-- a new node at a free path
pub good_put : (k : ℕ) (dir : ℕ → Bool) (at new : Names) (p d : Path) (step : List ℕ) → IsGood (suc k) dir at → ((q : Path) → at q ≢ Some k) → p ≡ d ++ step ∷ [] → dir_at dir (at d) ≡ true → at p ≡ None
    → new p ≡ Some k → ((q : Path) → q ≢ p → new q ≡ at q) → IsGood (suc k) dir new
good_put k dir at new p d step good fresh is_p dir_d free here others = record {
  root = others [] (λ e. push_not_nil d step (sym is_p ∙ sym e)) ∙ good.root;
  top = good.top;
  parents = λ q s n there. elim (cases_path (q ++ s ∷ []) p) [
    | inl same ↦ keeps_dir q (ap (λ (x : Path). dir_at dir (at x)) (push_same q d s step (same ∙ is_p)) ∙ dir_d)
    | inr not ↦ keeps_dir q (good.parents q s n (sym (others (q ++ s ∷ []) not) ∙ there))
  ];
  single = λ q r n one two. elim (cases_path q p) [
    | inl q_is ↦ elim (cases_path r p) [
      | inl r_is ↦ q_is ∙ sym r_is
      | inr r_not ↦ absurd (old r n r_not two (new_is q n q_is one))
    ]
    | inr q_not ↦ elim (cases_path r p) [
      | inl r_is ↦ absurd (old q n q_not one (new_is r n r_is two))
      | inr r_not ↦ good.single q r n (sym (others q q_not) ∙ one) (sym (others r r_not) ∙ two)
    ]
  ];
  low = λ q n one. elim (cases_path q p) [
    | inl q_is ↦ let is = new_is q n q_is one in omega arith
    | inr q_not ↦ good.low q n (sym (others q q_not) ∙ one)
  ];
}
  where
    new_is : (q : Path) (n : ℕ) → q ≡ p → new q ≡ Some n → n ≡ k
    new_is q n e one = same_some (new p) n k (ap new (sym e) ∙ one) here

    old : (q : Path) (n : ℕ) → q ≢ p → new q ≡ Some n → n ≡ k → ⊥
    old q n not one e = fresh q (sym (others q not) ∙ one ∙ ap Some e)

    keeps_dir : (q : Path) → dir_at dir (at q) ≡ true → dir_at dir (new q) ≡ true
    keeps_dir q is_dir = ap (dir_at dir) (others q (λ e. true_is_false _ is_dir (ap (dir_at dir) (ap at e ∙ free)))) ∙ is_dir
