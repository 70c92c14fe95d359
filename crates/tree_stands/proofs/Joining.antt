-- Calls one after the other, over all collections.
use Rattle.std.proofs.Common.{◌≡◌, ◌⊎◌, inl, inr, ⊎_elim, refl, ◌∙◌, Option}
use Rattle.fs_names.specs.declared.settings.Settings.{Settings}
use Rattle.tree_api.specs.Tree.{Version, Tree}
use Rattle.tree_api.specs.Disk.{Disk, Sound, Stays, Moves}
use Rattle.tree_api.specs.Passing.{OneOf}
use Rattle.tree_api.proofs.Moments.{first, stays_on, runs_on, wider}
use Rattle.lfn_index.specs.Maps.{content}
use Rattle.fs_cells.specs.declared.cell.Part.{Part}
use Rattle.tree_stands.specs.Names.{Name}
use Rattle.tree_stands.specs.Shown.{seen, Paired}
use Rattle.tree_stands.specs.Trees.{ForObject}
use Rattle.tree_stands.specs.Standing.{ObjectCrash}

pub one_then : {A : Type 0} (x y a b v : A) → OneOf x a b y → OneOf y a b v → OneOf x a b v
one_then x y a b v one next =
    ⊎_elim (λ same. ⊎_elim (λ is. inl (same ∙ is)) (λ rest. ⊎_elim (λ is. inr (inl (same ∙ is))) (λ is. inr (inr (same ∙ is))) rest) one) (λ rest. inr rest) next

right : {A : Type 0} (x a b w v : A) → (w ≡ a) ⊎ (w ≡ b) → OneOf x a w v → OneOf x a b v
right x a b w v which one = ⊎_elim (λ is. inl is) (λ rest. ⊎_elim (λ is. inr (inl is)) (λ is. ⊎_elim (λ at. inr (inl (is ∙ at))) (λ at. inr (inr (is ∙ at))) which) rest) one

left : {A : Type 0} (x a b w v : A) → (w ≡ a) ⊎ (w ≡ b) → OneOf x w b v → OneOf x a b v
left x a b w v which one = ⊎_elim (λ is. inl is) (λ rest. ⊎_elim (λ is. ⊎_elim (λ at. inr (inl (is ∙ at))) (λ at. inr (inr (is ∙ at))) which) (λ is. inr (inr is)) rest) one

-- each cell with its guard is a's or b's
abbrev pub Amid : Option Version → Option Version → Option Version → Type 0
Amid a b w = (part : Part) → (seen w part ≡ seen a part) ⊎ (seen w part ≡ seen b part)

module _ (set : Settings) (n : Name) where
  pub object_joins : (K L M : Option Version → Option Version → Type 0) → ((x y z : Option Version) → K x y → L y z → M x z) → (a b c : Tree) → ForObject set n K a b → ForObject set n L b c → ForObject set n M a c
  object_joins K L M f a b c one two coll fits =
      let begun = one coll fits in
      let next = two coll fits in
      record {
        dir = next.dir ∙ begun.dir;
        objects = λ m is.
            let w = begun.objects m is in
            let u = next.objects w.0 w.1 in (
              u.0,
              u.1,
              λ o own. record {
                other = λ differ. (u.2 o own).other differ ∙ (w.2 o own).other differ;
                here = λ at. f _ _ _ ((w.2 o own).here at) ((u.2 o own).here at);
              },
            );
      }

  pub object_wider : (K L : Option Version → Option Version → Type 0) → ((x y : Option Version) → K x y → L x y) → (a c : Tree) → ForObject set n K a c → ForObject set n L a c
  object_wider K L f a c one coll fits =
      let clause = one coll fits in
      record {
        dir = clause.dir;
        objects = λ m is. let w = clause.objects m is in (w.0, w.1, λ o own. record { other = (w.2 o own).other; here = λ at. f _ _ ((w.2 o own).here at) });
      }

  pub object_same : (K : Option Version → Option Version → Type 0) → ((x : Option Version) → K x x) → (c : Tree) → ForObject set n K c c
  object_same K same c coll fits = record { dir = refl; objects = λ m is. (m, is, λ o own. record { other = λ differ. refl; here = λ at. same (content m c o) }) }

  pub paired_joins : (a b : Option Version) (x y z : Tree) → ForObject set n (Paired a b) x y → ForObject set n (Paired a b) y z → ForObject set n (Paired a b) x z
  paired_joins a b = object_joins (Paired a b) (Paired a b) (Paired a b) (λ p q r pq qr part. one_then _ _ _ _ _ (pq part) (qr part))

  -- by way of a version whose cells are a's or b's
  pub by_way : (a w b : Option Version) → Amid a b w → (d0 d1 d2 : Disk) → Sound d1 → Moves (ForObject set n (Paired a w)) d0 d1 → Moves (ForObject set n (Paired w b)) d1 d2 → Moves (ForObject set n (Paired a b)) d0 d2
  by_way a w b amid d0 d1 d2 s1 one two =
      runs_on (ForObject set n (Paired a b)) (paired_joins a b) d0 d1 d2 s1
      (wider (ForObject set n (Paired a w)) (ForObject set n (Paired a b)) (λ x y goes. object_wider (Paired a w) (Paired a b) (λ p q is part. right _ _ _ _ _ (amid part) (is part)) x y goes) d0 d1 one)
      (wider (ForObject set n (Paired w b)) (ForObject set n (Paired a b)) (λ x y goes. object_wider (Paired w b) (Paired a b) (λ p q is part. left _ _ _ _ _ (amid part) (is part)) x y goes) d1 d2 two)

  -- calls that only look
  pub looks_crash : (F : Option Version → Option Version) (d0 d1 : Disk) → Sound d0 → Stays d0 d1 → ObjectCrash set n F d0 d1
  looks_crash F d0 d1 s0 stays M of_t =
      let R = ForObject set n (Paired (content (M n.coll) d0.tree n.oid) (F (content (M n.coll) d0.tree n.oid))) in
      stays_on R d0 d0 d1 s0 (first R (λ c. object_same (Paired (content (M n.coll) d0.tree n.oid) (F (content (M n.coll) d0.tree n.oid))) (λ x part. inl refl) c) d0 s0) stays
