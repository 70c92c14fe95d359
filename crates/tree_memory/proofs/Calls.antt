-- What the trait says of each call, by the history after it.
use Rattle.std.proofs.Common.{◌≡◌, ◌≢◌, inr, ℕ, refl, sym, ◌∙◌, subst, Option, Some, Result, Ok, Err}
use Rattle.tree_api.specs.Tree.{Path, Version, Names, Content, Tree, Mix, Named, Made, Wrote, Snapped}
use Rattle.tree_api.specs.Disk.{NameChange, Creation, Change, Synced, SyncedNames, SyncedAll, SnapChange}
use Rattle.tree_api.specs.declared.tree.TreeError.{TreeError}
use Rattle.tree_api.specs.declared.tree.TreeError.TheVariants.{Memory}
use Rattle.tree_memory.specs.History.{IsImage, State, next, disk, renamed, wrote, made, synced, synced_names, synced_all, snapped}
use Rattle.tree_memory.specs.Images.{put_here, put_other, renamed_image, wrote_image, made_image, synced_image, synced_names_image, synced_all_image, snapped_image, snapped_now}
use Rattle.tree_memory.specs.Sounds.{goes, steps}

same_some : (a b : ℕ) → Some a ≡ Some b → a ≡ b
same_some a b e = cc

abbrev given : {T : Type 0} → T → Result T TreeError
given x = Ok x

not_memory : {T : Type 0} (x : T) → given x ≡ Err Memory → ⊥
not_memory x is = cc

all_new : (a b : Version) → b.dir ≡ a.dir → Mix a b b
all_new a b same_dir = record { dir = same_dir; len = inr refl; byte = λ i lt. inr refl; attr = λ name. inr refl }

module _ {T : Type 0} (s : State) (f y l f2 y2 l2 : ℕ) (x : T) where
  pub renames : (R : Names → Names → Type 0) (at : Names) → R s.now.tree.at at → NameChange {T = T} R (disk s f y l) (disk (next (renamed at s.now) s) f2 y2 l2) (Ok x)
  renames R at is = record {
    at = at;
    is = is;
    step = steps s (renamed at s.now) f y l f2 y2 l2 (Named at) (renamed_image at s.now);
    ok = refl;
    partly = record { names = inr refl; snaps = refl; nodes = refl };
    memory = λ no. absurd (not_memory x no);
  }

  pub creates : (p : Path) (v : Version) (n : ℕ) (at : Names) → at p ≡ Some n → ((q : Path) → q ≢ p → at q ≡ s.now.tree.at q) → ((c : Tree) → IsImage s.now c → (q : Path) → c.at q ≢ Some n)
      → Creation {T = T} p v (disk s f y l) (disk (next (made n v at s.now) s) f2 y2 l2) (Ok x)
  creates p v n at added others fresh = record {
    n = n;
    at = at;
    added = added;
    others = others;
    fresh = fresh;
    step = steps s (made n v at s.now) f y l f2 y2 l2 (Made n v at) (made_image n v at s.now);
    ok = (refl, put_here s.now.tree.node n v);
    partly = record { names = inr (refl, put_here s.now.tree.node n v); snaps = refl; others = put_other s.now.tree.node n v };
    memory = λ no. absurd (not_memory x no);
  }

  pub changes : (p : Path) (R : Version → Version → Type 0) (n : ℕ) (v : Version) → s.now.tree.at p ≡ Some n → R (s.now.tree.node n) v → v.dir ≡ (s.now.tree.node n).dir
      → Change {T = T} p R (disk s f y l) (disk (next (wrote n v s.now) s) f2 y2 l2) (Ok x)
  changes p R n v here is dir = record {
    n = n;
    here = here;
    to = v;
    is = is;
    step = steps s (wrote n v s.now) f y l f2 y2 l2 (Wrote n v) (λ c may. wrote_image n v s.now dir c may);
    ok = put_here s.now.tree.node n v;
    partly = record { names = refl; snaps = refl; others = put_other s.now.tree.node n v; mixed = subst (Mix (s.now.tree.node n) v) (sym (put_here s.now.tree.node n v)) (all_new (s.now.tree.node n) v dir) };
    memory = λ no. absurd (not_memory x no);
  }

  pub syncs_node : (p : Path) (n : ℕ) → s.now.tree.at p ≡ Some n → Synced {T = T} p (disk s f y l) (disk (next (synced n s.now) s) f2 y2 l2) (Ok x)
  syncs_node p n here = record {
    stays = record { tree = refl; time = goes s (synced n s.now) f y l f2 y2 l2; image = λ c may. (synced_image n s.now c may).0 };
    names = λ c may. (synced_image n s.now c may).1;
    node = λ c m may there.
        let is : m ≡ n = same_some m n (sym there ∙ here) in
        subst (λ (k : ℕ). c.node k ≡ s.now.tree.node k) (sym is) (synced_image n s.now c may).2;
    memory = λ no. absurd (not_memory x no);
  }

  pub syncs_names : SyncedNames {T = T} (disk s f y l) (disk (next (synced_names s.now) s) f2 y2 l2) (Ok x)
  syncs_names = record {
    stays = record { tree = refl; time = goes s (synced_names s.now) f y l f2 y2 l2; image = λ c may. (synced_names_image s.now c may).0 };
    names = λ c may. (synced_names_image s.now c may).1;
    memory = λ no. absurd (not_memory x no);
  }

  pub snaps : (seq : ℕ) (to : Option Content) → SnapChange {T = T} seq to (disk s f y l) (disk (next (snapped seq to s.now) s) f2 y2 l2) (Ok x)
  snaps seq to = record {
    step = steps s (snapped seq to s.now) f y l f2 y2 l2 (Snapped seq to) (snapped_image seq to s.now);
    partly = record { names = refl; nodes = refl; others = put_other s.now.tree.snap seq to; here = inr (put_here s.now.tree.snap seq to) };
    ok = snapped_now seq to s.now;
    memory = λ no. absurd (not_memory x no);
  }

-- a whole sync
pub syncs_all : (s : State) (f y l f2 y2 l2 : ℕ) (done : Type 0) → SyncedAll (disk s f y l) (disk (next (synced_all s.now) s) f2 y2 l2) done
syncs_all s f y l f2 y2 l2 done = record {
  stays = record { tree = refl; time = goes s (synced_all s.now) f y l f2 y2 l2; image = λ c may. (synced_all_image s.now c may).0 };
  all = λ is c may. (synced_all_image s.now c may).1;
}
