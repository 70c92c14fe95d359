-- A guard that is written between two syncs of its node.
use Rattle.std.proofs.Common.{◌≡◌, ◌≢◌, ◌⊎◌, inl, inr, ⊎_elim, ℕ, List, length, get_or, refl, sym, ◌∙◌, ap, subst, Option, Some, None, Result, Ok, Err, IsOk, IsErr}
use Rattle.std.proofs.lemmas.Bool.{false≢true}
use Rattle.std.proofs.lemmas.List.{ext_get_or}
use Rattle.tree_api.specs.Tree.{Path, Version, Names, Tree, Mix, Wrote, AttrIs}
use Rattle.tree_api.specs.Disk.{Disk, Sound, Steps, Stays, Change, Synced, Leaves, Everywhere}
use Rattle.tree_api.specs.Passing.{with_attr}
use Rattle.tree_api.specs.declared.tree.TreeError.{TreeError}
use Rattle.tree_api.proofs.Moments.{Step, leaves_same, leaves_more, leaves_stays}
use Rattle.tree_api.proofs.Images.{same_some}
use Rattle.tree_api.proofs.Passing.{attr_is_with}
use Rattle.replay_guard.specs.declared.guard.Guard.{Guard}
use Rattle.replay_guard.specs.Guards.{guard_name, spelled}
use Rattle.replay_guard.specs.Standing.{IsGuarded, OnWay, Guarded, SetsGuard}

-- a node that stands somewhere
pub some_of : (o : Option ℕ) → o ≢ None → (n : ℕ) × (o ≡ Some n)
some_of None not = absurd (not refl)
some_of (Some n) not = (n, refl)

-- a call that answered an error
pub not_ok : {T E : Type 0} (r : Result T E) → IsErr r → IsOk r → ⊥
not_ok (Ok v) is holds = absurd (let e = is in cc)
not_ok (Err e) is holds = absurd (false≢true holds)

either : {A : Type 0} {a b c v : A} → a ≡ v → b ≡ v → (c ≡ a) ⊎ (c ≡ b) → c ≡ v
either one two which = ⊎_elim (λ is. is ∙ one) (λ is. is ∙ two) which

-- a mix of a node as it was synced and of the node with the new guard
mix_guarded : (bytes : List ℕ) (v a b w : Version) → a ≡ v → AttrIs guard_name (Some bytes) v b → Mix a b w → IsGuarded bytes v w
mix_guarded bytes v a b w same is mix = record {
  dir = mix.dir ∙ ap (λ (x : Version). x.dir) same;
  content = ext_get_or 0 w.bytes v.bytes (either (ap (λ (x : Version). length x.bytes) same) (ap length is.bytes) mix.len)
      (λ i lt. either (ap (λ (x : Version). get_or x.bytes i 0) same) (ap (λ (l : List ℕ). get_or l i 0) is.bytes) (mix.byte i lt));
  attrs = λ k not. either (ap (λ (x : Version). x.attr k) same) (is.others k not) (mix.attr k);
  guard = ⊎_elim (λ old. inl (old ∙ ap (λ (x : Version). x.attr guard_name) same)) (λ new. inr (new ∙ is.here)) (mix.attr guard_name);
}

module _ (bytes : List ℕ) (n : ℕ) (t : Tree) where
  pub guarded_same : (c : Tree) → Guarded bytes n t c c
  guarded_same c = inl refl

  same_snaps : (a b : Tree) → Guarded bytes n t a b → b.snap ≡ a.snap
  same_snaps a b (inl same) = ap (λ (c : Tree). c.snap) same
  same_snaps a b (inr way) = way.snaps

  same_others : (a b : Tree) → Guarded bytes n t a b → (m : ℕ) → m ≢ n → b.node m ≡ a.node m
  same_others a b (inl same) m not = ap (λ (c : Tree). c.node m) same
  same_others a b (inr way) m not = way.others m not

  pub guarded_joins : (a b c : Tree) → Guarded bytes n t a b → Guarded bytes n t b c → Guarded bytes n t a c
  guarded_joins a b c one (inl same) = subst (λ (x : Tree). Guarded bytes n t a x) (sym same) one
  guarded_joins a b c one (inr way) = inr (record { names = way.names; snaps = way.snaps ∙ same_snaps a b one; others = λ m not. way.others m not ∙ same_others a b one m not; node = way.node })

-- nothing is done yet
pub sets_nothing : (p : Path) (guard : Guard) (d : Disk) (done : Type 0) (n : ℕ) → Sound d → d.tree.at p ≡ Some n → (done → ⊥) → SetsGuard p guard d d done
sets_nothing p guard d done n sound here never = record {
  n = n;
  here = here;
  leaves = leaves_same (Guarded (spelled guard) n d.tree) (guarded_same (spelled guard) n d.tree) (guarded_joins (spelled guard) n d.tree) d sound;
  names = λ is. absurd (never is);
  node = λ is. absurd (never is);
}

module _ {T : Type 0} (p : Path) (guard : Guard) (bytes : List ℕ) (spelled_is : bytes ≡ spelled guard) (d0 d1 : Disk) (r : Result T TreeError) (s0 : Sound d0) (n : ℕ) (here : d0.tree.at p ≡ Some n) (synced : Synced p d0 d1 r) where
  synced_leaves : Leaves (Guarded bytes n d0.tree) d0 d1
  synced_leaves = leaves_stays (Guarded bytes n d0.tree) (guarded_same bytes n d0.tree) (guarded_joins bytes n d0.tree) d0 d0 d1 s0
      (leaves_same (Guarded bytes n d0.tree) (guarded_same bytes n d0.tree) (guarded_joins bytes n d0.tree) d0 s0) synced.stays

  pub sets_synced : (done : Type 0) → (done → ⊥) → SetsGuard p guard d0 d1 done
  sets_synced done never = record {
    n = n;
    here = here;
    leaves = subst (λ (b : List ℕ). Leaves (Guarded b n d0.tree) d0 d1) spelled_is synced_leaves;
    names = λ is. absurd (never is);
    node = λ is. absurd (never is);
  }

  module _ {U : Type 0} (names : (c : Tree) → d1.may c → c.at ≡ d0.tree.at) (node : (c : Tree) (m : ℕ) → d1.may c → d0.tree.at p ≡ Some m → c.node m ≡ d0.tree.node m)
      (d2 : Disk) (w : Result U TreeError) (s1 : Sound d1) (change : Change p (AttrIs guard_name (Some bytes)) d1 d2 w) where
    same : change.n ≡ n
    same = same_some change.n n (sym change.here ∙ ap (λ (c : Tree). c.at p) synced.stays.tree ∙ here)

    to_is : AttrIs guard_name (Some bytes) (d0.tree.node n) change.to
    to_is = subst (λ (v : Version). AttrIs guard_name (Some bytes) v change.to) (ap (λ (m : ℕ). d1.tree.node m) same ∙ ap (λ (c : Tree). c.node n) synced.stays.tree) change.is

    on_way : (c d : Tree) → d1.may d → Wrote change.n change.to d c → Guarded bytes n d0.tree d c
    on_way c d may wrote =
        let is = subst (λ (m : ℕ). Wrote m change.to d c) same wrote in
        inr (record { names = is.names ∙ names d may; snaps = is.snaps; others = is.others; node = mix_guarded bytes (d0.tree.node n) (d.node n) change.to (c.node n) (node d n may here) to_is is.mixed })

    set_step : Step (Guarded bytes n d0.tree) d1 d2
    set_step = record {
      steps = record { time = change.step.time; image = λ c may. let from = change.step.image c may in (from.0, from.1, on_way c from.0 from.1 from.2) };
      now = on_way d2.tree d1.tree s1.now change.partly;
    }

    set_leaves : Leaves (Guarded bytes n d0.tree) d0 d2
    set_leaves = leaves_more (Guarded bytes n d0.tree) (guarded_same bytes n d0.tree) (guarded_joins bytes n d0.tree) d0 d1 d2 s1 synced_leaves set_step

    pub sets_written : (done : Type 0) → (done → ⊥) → SetsGuard p guard d0 d2 done
    sets_written done never = record {
      n = n;
      here = here;
      leaves = subst (λ (b : List ℕ). Leaves (Guarded b n d0.tree) d0 d2) spelled_is set_leaves;
      names = λ is. absurd (never is);
      node = λ is. absurd (never is);
    }

    module _ {V : Type 0} (d3 : Disk) (s2 : Sound d2) (z : Result V TreeError) (again : Synced p d2 d3 z) where
      end_leaves : Leaves (Guarded (spelled guard) n d0.tree) d0 d3
      end_leaves = subst (λ (b : List ℕ). Leaves (Guarded b n d0.tree) d0 d3) spelled_is
          (leaves_stays (Guarded bytes n d0.tree) (guarded_same bytes n d0.tree) (guarded_joins bytes n d0.tree) d0 d2 d3 s2 set_leaves again.stays)

      pub sets_not : (done : Type 0) → (done → ⊥) → SetsGuard p guard d0 d3 done
      sets_not done never = record { n = n; here = here; leaves = end_leaves; names = λ is. absurd (never is); node = λ is. absurd (never is) }

      pub sets_done : (done : Type 0) → d2.tree.node change.n ≡ change.to → ((c : Tree) → d3.may c → c.at ≡ d2.tree.at) → ((c : Tree) (m : ℕ) → d3.may c → d2.tree.at p ≡ Some m → c.node m ≡ d2.tree.node m) → SetsGuard p guard d0 d3 done
      sets_done done wrote names_too node_too = record {
        n = n;
        here = here;
        leaves = end_leaves;
        names = λ is c may. names_too c may ∙ change.partly.names ∙ ap (λ (x : Tree). x.at) synced.stays.tree;
        node = λ is c may. node_too c n may at_end ∙ ap (λ (m : ℕ). d2.tree.node m) (sym same) ∙ wrote
            ∙ attr_is_with guard_name (Some bytes) (d0.tree.node n) change.to to_is ∙ ap (λ (b : List ℕ). with_attr guard_name (Some b) (d0.tree.node n)) spelled_is;
      }
        where
          at_end : d2.tree.at p ≡ Some n
          at_end = ap (λ (f : Names). f p) change.partly.names ∙ ap (λ (c : Tree). c.at p) synced.stays.tree ∙ here
