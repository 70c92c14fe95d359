-- A directory that is there or comes, in words of calls.
use Rattle.std.proofs.Common.{◌≡◌, inl, inr, ℕ, refl, sym, ◌∙◌, ap, None, Result, Ok, Err, OnOk}
use Rattle.tree_api.specs.Tree.{Path, Version, Names, Tree, IsDir, new_dir}
use Rattle.tree_api.specs.Disk.{Disk, Sound, Still, Stays, Everywhere, Creation}
use Rattle.tree_api.specs.Renaming.{Renamed}
use Rattle.tree_api.specs.declared.tree.TreeError.{TreeError}
use Rattle.tree_api.proofs.Moments.{Joins, leaves_none, leaves_step, leaves_stays}
use Rattle.tree_api.proofs.Renaming.{IsKept, renamed_same, renamed_joins, creates, run_after}
use Rattle.lfn_index.specs.Moving.{Same}
use Rattle.coll_ops.specs.Changes.{DirAt, AddsDir, NamesStable}

same_joins : Joins Same
same_joins a b c one two = two ∙ one

pub stays_adds : (p : Path) (d0 d1 : Disk) → Sound d0 → Stays d0 d1 → AddsDir p d0 d1
stays_adds p d0 d1 s0 stays = inl (leaves_none Same (λ c. refl) same_joins d0 d1 s0 stays)

module _ (p : Path) (n : ℕ) (t : Tree) where
  abbrev R : Tree → Tree → Type 0
  R = Renamed (DirAt p n t) (λ m. m ≡ n)

  dir_kept : IsKept (DirAt p n t)
  dir_kept b c is same = record {
    here = ap (λ (f : Names). f p) same.at ∙ is.here;
    holds = same.nodes p n is.here ∙ is.holds;
    others = λ q not. ap (λ (f : Names). f q) same.at ∙ is.others q not;
  }

  pub dir_same : (c : Tree) → R c c
  dir_same = renamed_same (DirAt p n t) (λ m. m ≡ n)

  pub dir_joins : Joins R
  dir_joins = renamed_joins (DirAt p n t) (λ m. m ≡ n) dir_kept

-- a new directory, once nothing was seen there
module _ {T : Type 0} (p : Path) (d0 d1 d2 : Disk) (s0 : Sound d0) (s1 : Sound d1) (still : Still d0 d1) (free : d0.tree.at p ≡ None) (r : Result T TreeError) (creation : Creation p new_dir d1 d2 r) where
  pub created_adds : AddsDir p d0 d2
  created_adds = inr (record {
    n = creation.n;
    free = free;
    fresh = λ c may. creation.fresh c (still.images c may);
    leaves = run_after (R p creation.n d0.tree) (dir_same p creation.n d0.tree) (dir_joins p creation.n d0.tree) d0 d1 d2 s0 s1 still.stays
        (leaves_step (R p creation.n d0.tree) (dir_same p creation.n d0.tree) (dir_joins p creation.n d0.tree) d1 d2 s1
        (creates (DirAt p creation.n d0.tree) (λ m. m ≡ creation.n) d1 d2 s1 p new_dir r creation refl comes));
  })
    where
      comes : (c : Tree) → c.at ≡ creation.at → c.node creation.n ≡ new_dir → DirAt p creation.n d0.tree c
      comes c at holds = record {
        here = ap (λ (f : Names). f p) at ∙ creation.added;
        holds = holds;
        others = λ q not. ap (λ (f : Names). f q) at ∙ creation.others q not ∙ ap (λ (x : Tree). x.at q) still.stays.tree;
      }

  pub created_dir : OnOk r ((d2.tree.at ≡ creation.at) × (d2.tree.node creation.n ≡ new_dir)) → OnOk r (IsDir d2.tree p)
  created_dir ok = by r ok
    where
      by : (x : Result T TreeError) → OnOk x ((d2.tree.at ≡ creation.at) × (d2.tree.node creation.n ≡ new_dir)) → OnOk x (IsDir d2.tree p)
      by (Ok v) is = (creation.n, ap (λ (f : Names). f p) is.0 ∙ creation.added, ap (λ (v : Version). v.dir) is.1)
      by (Err e) is = tt

-- then the names are synced
pub adds_stays : (p : Path) (d0 d1 d2 : Disk) → Sound d1 → AddsDir p d0 d1 → Stays d1 d2 → AddsDir p d0 d2
adds_stays p d0 d1 d2 s1 (inl same) stays = inl (leaves_stays Same (λ c. refl) same_joins d0 d1 d2 s1 same stays)
adds_stays p d0 d1 d2 s1 (inr made) stays = inr (record {
  n = made.n;
  free = made.free;
  fresh = made.fresh;
  leaves = leaves_stays (R p made.n d0.tree) (dir_same p made.n d0.tree) (dir_joins p made.n d0.tree) d0 d1 d2 s1 made.leaves stays;
})

pub synced_stable : (d1 d2 : Disk) → Stays d1 d2 → ((c : Tree) → d2.may c → c.at ≡ d1.tree.at) → NamesStable d2
synced_stable d1 d2 stays names c may = names c may ∙ sym (ap (λ (x : Tree). x.at) stays.tree)

pub stable_dir : (d : Disk) (p : Path) → Sound d → NamesStable d → IsDir d.tree p → Everywhere d (λ e. IsDir e p)
stable_dir d p sound stable dir c may = (dir.0, ap (λ (f : Names). f p) (stable c may) ∙ dir.1, sound.kinds c dir.0 may ∙ dir.2)
