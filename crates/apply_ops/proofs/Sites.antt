-- Making a collection and taking one away leave the store's own directories and number.
use Rattle.std.proofs.Common.{◌≡◌, ◌⊎◌, inl, inr, ⊎_elim, ℕ, List, [], ◌∷◌, codes, Bool, false, refl, sym, ◌∙◌, ap, subst, Option, Some, None}
use Rattle.fs_names.specs.declared.coll.Coll.{Coll}
use Rattle.fs_names.specs.declared.settings.Pos.{Pos}
use Rattle.fs_names.specs.Reading.{CollFits}
use Rattle.fs_names.specs.Text.{coll_text}
use Rattle.tree_api.specs.Tree.{Path, Version, Tree, IsDir, IsFile, IsFree, current, look, held}
use Rattle.tree_api.specs.Disk.{Disk, Sound}
use Rattle.lfn_index.specs.Directory.{entry}
use Rattle.lfn_index.specs.Changes.{aside, place_name}
use Rattle.tree_stands.specs.Trees.{dir_of}
use Rattle.commit_point.specs.Number.{number_path}
use Rattle.op_effects.specs.Clear.{IsClear, KeepsClear}
use Rattle.op_effects.specs.Ready.{trash}
use Rattle.coll_ops.specs.Places.{trash_at, Within}
use Rattle.coll_ops.specs.Changes.{Elsewhere}
use Rattle.coll_ops.specs.Trash.{IsInTheWay}
use Rattle.coll_ops.proofs.Paths.{IsOwn, own_trash, own_number, never_own, off_aside, off_place, aside_trash, place_trash}
use Rattle.tree_places.specs.Own.{OwnStays}

-- what is seen at a path stands there
stands : (t : Tree) (q : Path) (v : Version) (o : Option ℕ) → t.at q ≡ o → held o t.node ≡ Some v → (n : ℕ) × (t.at q ≡ Some n) × (t.node n ≡ v)
stands t q v None at is = absurd (no is)
  where
    no : None ≡ Some v → ⊥
    no e = cc
stands t q v (Some n) at is = (n, at, one (t.node n) v is)
  where
    one : (a b : Version) → Some a ≡ Some b → a ≡ b
    one a b e = cc

nothing : (t : Tree) (q : Path) (o : Option ℕ) → t.at q ≡ o → held o t.node ≡ None → t.at q ≡ None
nothing t q None at is = at
nothing t q (Some n) at is = absurd (no is)
  where
    no : Some (t.node n) ≡ None → ⊥
    no e = cc

module _ (e f : Tree) (q : Path) (same : look f q ≡ look e q) where
  same_kind : (dir : Bool) → (n : ℕ) × (e.at q ≡ Some n) × ((e.node n).dir ≡ dir) → (n : ℕ) × (f.at q ≡ Some n) × ((f.node n).dir ≡ dir)
  same_kind dir was =
      let there = stands f q (e.node was.0) (f.at q) refl (same ∙ ap (λ (o : Option ℕ). held o e.node) was.1) in
      (there.0, there.1, ap (λ (v : Version). v.dir) there.2 ∙ was.2)

  pub free_stays : IsFree e q → IsFree f q
  free_stays (inl none) = inl (nothing f q (f.at q) refl (same ∙ ap (λ (o : Option ℕ). held o e.node) none))
  free_stays (inr file) = inr (same_kind false file)

-- paths of `current`
abbrev pub under : List ℕ → Path → Path
under step rest = codes "current" ∷ step ∷ rest

second : (x y : List ℕ) (p q : Path) → under x p ≡ under y q → x ≡ y
second x y p q same = cc

pub shorter : (x y z : List ℕ) (rest : Path) → under x [] ≡ under y (z ∷ rest) → ⊥
shorter x y z rest same = cc

module _ (c : Coll) (fits : CollFits c) where
  pub never_within : (text : List ℕ) → IsOwn text → Within (dir_of c) (under text []) → ⊥
  never_within text own is = never_own c fits text own (sym (second text (coll_text c) [] is.0 is.1))

  pub made_elsewhere : (e f : Tree) → KeepsClear e f → Elsewhere (Within (dir_of c)) e f → OwnStays e f
  made_elsewhere e f clear goes = record {
    building = goes aside (off_aside c fits);
    removed = goes trash (never_within (codes "trash") own_trash);
    number = goes number_path (never_within (codes "commit_op_seq") own_number);
    places = λ s. free_stays e f (entry aside s) (goes (entry aside s) (off_place c fits s));
    clear = clear;
  }

  pub dropped_elsewhere : (pos : Pos) (e f : Tree) → KeepsClear e f → Elsewhere (λ q. Within (dir_of c) q ⊎ Within (trash_at pos) q) e f → OwnStays e f
  dropped_elsewhere pos e f clear goes = record {
    building = goes aside (⊎_elim (off_aside c fits) (aside_trash pos));
    removed = goes trash (⊎_elim (never_within (codes "trash") own_trash) (λ is. shorter (codes "trash") (codes "trash") (place_name pos) is.0 is.1));
    number = goes number_path (⊎_elim (never_within (codes "commit_op_seq") own_number) (λ is. shorter (codes "commit_op_seq") (codes "trash") (place_name pos) is.0 is.1));
    places = λ s. free_stays e f (entry aside s) (goes (entry aside s) (⊎_elim (off_place c fits s) (place_trash pos s)));
    clear = clear;
  }

-- `current` is a directory where `aside` is one
pub current_there : (d : Disk) → Sound d → IsDir d.tree aside → IsDir d.tree current
current_there d sound dir = sound.parents d.tree current (codes "aside") dir.0 sound.now dir.1

-- nothing is in the way
module _ (t : Tree) (clear : IsClear t) (c : Coll) (fits : CollFits c) where
  pub never_file : (p : Path) → (p ≡ dir_of c) × IsFile t p → ⊥
  never_file p (same, file) = clear.free c fits (subst (IsFile t) same file)

  pub never_blocked : (pos : Pos) (p : Path) → IsInTheWay (dir_of c) (trash_at pos) t p → ⊥
  never_blocked pos p way = ⊎_elim (never_file p) (λ deep. clear.trees (place_name pos) p deep) way
