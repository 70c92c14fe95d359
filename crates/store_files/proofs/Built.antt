-- What was made so far, one after another.
use Rattle.std.proofs.Common.{◌≡◌, ◌≢◌, ◌⊎◌, inl, inr, ℕ, ◌+◌, ◌*◌, Bool, true, not, ◌&&◌, ◌==◌, List, [], ◌∷◌, ◌++◌, get_or, refl, sym, ◌∙◌, ap, Option, Some, None, arith}
use Rattle.std.proofs.lemmas.Bool.{and_parts}
use Rattle.std.proofs.lemmas.Bool.Decides.{nat_tests}
use Rattle.tree_api.specs.Tree.{Path, Version, Tree, IsDir, HasParent, look, held}
use Rattle.tree_api.specs.Disk.{Disk, Sound, Everywhere, Leaves, From}
use Rattle.tree_api.proofs.Moments.{leaves_same, leaves_run, leaves_wider, now_from}
use Rattle.store_files.specs.Steps.{Beside, Stands, Off, Among, AllIn}

-- the first two bytes of a path's last step
abbrev pub code : Path → ℕ
code [] = 0
code (s ∷ []) = get_or s 0 0 * 256 + get_or s 1 0
code (s ∷ r ∷ rest) = code (r ∷ rest)

abbrev pub fresh_for : Path → List (Path × Version) → Bool
fresh_for p [] = true
fresh_for p (x ∷ xs) = not (code p == code x.0) && fresh_for p xs

codes_apart : (a b : ℕ) → not (a == b) ≡ true → a ≢ b
codes_apart a b h = grind (arith, nat_tests)

pub fresh_first : (p : Path) (x : Path × Version) (xs : List (Path × Version)) → fresh_for p (x ∷ xs) ≡ true → (p ≢ x.0) × (fresh_for p xs ≡ true)
fresh_first p x xs h = let parts = and_parts (not (code p == code x.0)) (fresh_for p xs) h in (λ e. codes_apart (code p) (code x.0) parts.0 (ap code e), parts.1)

-- a path with another code than each of these
abbrev pub differs : Path → List Path → Bool
differs q [] = true
differs q (p ∷ ps) = not (code q == code p) && differs q ps

pub off_by : (q : Path) (ps : List Path) → differs q ps ≡ true → Off ps q
off_by q [] h = tt
off_by q (p ∷ ps) h =
    let parts = and_parts (not (code q == code p)) (differs q ps) h in
    (λ e. codes_apart (code q) (code p) parts.0 (ap code e), off_by q ps parts.1)

abbrev pub Holds : List Path → Path → Type 0
Holds [] p = ⊥
Holds (x ∷ xs) p = (p ≡ x) ⊎ Holds xs p

pub in_of : (ps : List Path) (p : Path) → Holds ps p → (q : Path) → Off ps q → q ≢ p
in_of [] p h q off = absurd h
in_of (x ∷ xs) p (inl e) q off = λ same. off.0 (same ∙ e)
in_of (x ∷ xs) p (inr h) q off = in_of xs p h q off.1

pub off_first : (p : Path) (ps : List Path) (q : Path) → Off (p ∷ ps) q → q ≢ p
off_first p ps q off = off.0

pub off_rest : (p : Path) (ps : List Path) (q : Path) → Off (p ∷ ps) q → Off ps q
off_rest p ps q off = off.1

pub in_first : (x : Path × Version) (xs : List (Path × Version)) (t : Tree) → AllIn (x ∷ xs) t → look t x.0 ≡ Some x.1
in_first x xs t all = all.0

pub in_rest : (x : Path × Version) (xs : List (Path × Version)) (t : Tree) → AllIn (x ∷ xs) t → AllIn xs t
in_rest x xs t all = all.1

module _ (ps : List Path) where
  pub among_same : (t : Tree) → Among ps t t
  among_same t = record { snaps = refl; others = λ q off. refl; nodes = λ q m off here. refl }

  pub among_joins : (a b c : Tree) → Among ps a b → Among ps b c → Among ps a c
  among_joins a b c one two = record {
    snaps = two.snaps ∙ one.snaps;
    others = λ q off. two.others q off ∙ one.others q off;
    nodes = λ q m off here. two.nodes q m off (one.others q off ∙ here) ∙ one.nodes q m off here;
  }

  pub among_of : (p : Path) → ((q : Path) → Off ps q → q ≢ p) → (a b : Tree) → Beside p a b → Among ps a b
  among_of p in_ps a b is = record {
    snaps = is.snaps;
    others = λ q off. is.others q (in_ps q off);
    nodes = λ q m off here. is.nodes q m (in_ps q off) here;
  }

  pub record Built (items : List (Path × Version)) (d0 d : Disk) : Type 0 where
    pub leaves : Leaves (Among ps) d0 d
    pub stand : Everywhere d (AllIn items)
    pub free : (q : Path) → fresh_for q items ≡ true → d.tree.at q ≡ d0.tree.at q

  pub begun : (d : Disk) → Sound d → Built [] d d
  begun d sound = record { leaves = leaves_same (Among ps) among_same among_joins d sound; stand = λ c may. tt; free = λ q fresh. refl }

  pub none_yet : (d : Disk) → Sound d → Leaves (Among ps) d d
  none_yet d sound = leaves_same (Among ps) among_same among_joins d sound

  look_kept : (p q : Path) (v : Version) (a b : Tree) → q ≢ p → Beside p a b → look a q ≡ Some v → look b q ≡ Some v
  look_kept p q v a b not is there = by (a.at q) refl
    where
      by : (o : Option ℕ) → a.at q ≡ o → look b q ≡ Some v
      by None at = absurd (let z : None ≡ Some v = sym (ap (λ (x : Option ℕ). held x a.node) at) ∙ there in cc)
      by (Some n) at =
          ap (λ (x : Option ℕ). held x b.node) (is.others q not ∙ at) ∙ ap Some (is.nodes q n not at) ∙ sym (ap (λ (x : Option ℕ). held x a.node) at) ∙ there

  pub all_kept : (p : Path) (a b : Tree) → Beside p a b → (xs : List (Path × Version)) → fresh_for p xs ≡ true → AllIn xs a → AllIn xs b
  all_kept p a b is [] fresh all = tt
  all_kept p a b is (x ∷ xs) fresh all =
      let parts = fresh_first p x xs fresh in
      (look_kept p x.0 x.1 a b (λ e. parts.0 (sym e)) is all.0, all_kept p a b is xs parts.1 all.1)

  module _ (items : List (Path × Version)) (p : Path) (d0 d1 d2 : Disk) (s1 : Sound d1) (built : Built items d0 d1) (in_ps : (q : Path) → Off ps q → q ≢ p) (beside : Leaves (Beside p) d1 d2) where
    pub so_far : Leaves (Among ps) d0 d2
    so_far = leaves_run (Among ps) among_same among_joins d0 d1 d2 s1 built.leaves (leaves_wider (Beside p) (Among ps) (among_of p in_ps) d1 d2 beside)

    pub next : (v : Version) → Sound d2 → fresh_for p items ≡ true → Stands p v d2 → Built ((p, v) ∷ items) d0 d2
    next v s2 fresh stands = record {
      leaves = so_far;
      stand = λ c may.
          let from = now_from (From d1 (Beside p)) d1 d2 s2 beside.any_moment c may in
          (stands.here c may, all_kept p from.0 c from.2 items fresh (built.stand from.0 from.1));
      free = λ q off.
          let parts = fresh_first q (p, v) items off in
          beside.now.others q parts.0 ∙ built.free q parts.1;
    }

pub dir_of_look : (t : Tree) (p : Path) (v : Version) → look t p ≡ Some v → v.dir ≡ true → IsDir t p
dir_of_look t p v there dir = by (t.at p) refl
  where
    by : (o : Option ℕ) → t.at p ≡ o → IsDir t p
    by None at = absurd (let z : None ≡ Some v = sym (ap (λ (x : Option ℕ). held x t.node) at) ∙ there in cc)
    by (Some n) at =
        let same : Some (t.node n) ≡ Some v = sym (ap (λ (x : Option ℕ). held x t.node) at) ∙ there in
        (n, at, ap (λ (w : Version). w.dir) (one (t.node n) v same) ∙ dir)
      where
        one : (a b : Version) → Some a ≡ Some b → a ≡ b
        one a b e = cc

pub below : (t : Tree) (dir : Path) (step : List ℕ) (v : Version) (p : Path) → look t dir ≡ Some v → v.dir ≡ true → p ≡ dir ++ step ∷ [] → HasParent t p
below t dir step v p there is at = (dir, step, at, dir_of_look t dir v there is)
