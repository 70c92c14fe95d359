-- What the looks at a store tell together.
use Rattle.std.proofs.Common.{◌≡◌, ◌≢◌, inl, inr, ℕ, Bool, true, false, List, refl, sym, ◌∙◌, ap, subst, Option, Some, None}
use Rattle.fs_names.specs.declared.coll.Coll.{Coll}
use Rattle.fs_names.specs.declared.settings.Settings.{Settings}
use Rattle.fs_names.specs.Reading.{CollFits}
use Rattle.fs_names.specs.Text.{coll_text}
use Rattle.tree_api.specs.Tree.{Path, Tree, IsDir, IsFile, current}
use Rattle.tree_api.specs.Disk.{Disk, Sound}
use Rattle.lfn_index.specs.Directory.{entry}
use Rattle.lfn_index.specs.Maps.{Whole}
use Rattle.tree_stands.specs.Trees.{dir_of}
use Rattle.op_effects.specs.Ready.{trash}
use Rattle.coll_ops.proofs.Kept.{empty_dir, below_missing}
use Rattle.store_walk.specs.Deep.{IsBounded}
use Rattle.store_walk.specs.Walked.{IsWalked, OwnStands, AllPlaced, HoldsObjects, HoldsFiles, IsColl}
use Rattle.store_walk.proofs.Looked.{dir_not_free}
use Rattle.store_walk.proofs.Depths.{bounded_trees, trees_bounded, flat_shallow}

pub own_current : (d : Disk) → Sound d → OwnStands d.tree → IsDir d.tree current
own_current d sound own = sound.parents d.tree current _ own.building.0 sound.now own.building.1

-- what stands at a path is a directory or a file
dir_or_file : (t : Tree) (p : Path) (n : ℕ) → t.at p ≡ Some n → (IsFile t p → ⊥) → IsDir t p
dir_or_file t p n here never = by (t.node n).dir refl
  where
    by : (b : Bool) → (t.node n).dir ≡ b → IsDir t p
    by true is = (n, here, is)
    by false is = absurd (never (n, here, is))

module _ (set : Settings) (d : Disk) (sound : Sound d) where
  module _ (own : OwnStands d.tree) (placed : AllPlaced set current d.tree) (bounded : IsBounded 10 trash d.tree) where
    coll_at : (c : Coll) → CollFits c → d.tree.at (dir_of c) ≢ None → HoldsObjects set (dir_of c) d.tree
    coll_at c fits there = placed (coll_text c) there (c, fits, refl)

    each_coll : (c : Coll) → CollFits c → Whole set (dir_of c) d.tree × HoldsFiles (dir_of c) d.tree
    each_coll c fits = by (d.tree.at (dir_of c)) refl
      where
        by : (o : Option ℕ) → d.tree.at (dir_of c) ≡ o → Whole set (dir_of c) d.tree × HoldsFiles (dir_of c) d.tree
        by None none = let below = below_missing d sound d.tree sound.now (dir_of c) none in ((empty_dir set c d.tree below).whole, λ s. inl (below s))
        by (Some n) here = let is = coll_at c fits (λ none. let z : None ≡ Some n = sym none ∙ here in cc) in (is.whole, is.flat)

    pub walked : IsWalked set d.tree
    walked = record {
      building = own.building;
      places = own.places;
      removed = own.removed;
      target = own.target;
      clear = record {
        free = λ c fits file.
            let is = coll_at c fits (λ none. let z : None ≡ Some file.0 = sym none ∙ file.1 in cc) in
            dir_not_free d.tree (dir_of c) is.there (inr file);
        flat = λ c fits. (each_coll c fits).1;
        colls = λ c fits. flat_shallow d sound (dir_of c) (each_coll c fits).1;
        trees = bounded_trees d sound bounded;
      };
      whole = λ c fits. (each_coll c fits).0;
    }

  -- and each apart
  module _ (all : IsWalked set d.tree) where
    pub walked_own : OwnStands d.tree
    walked_own = record { building = all.building; places = all.places; removed = all.removed; target = all.target }

    pub walked_trash : IsBounded 10 trash d.tree
    walked_trash = trees_bounded d sound all.clear.trees

    coll_stands : (c : Coll) → CollFits c → (n : ℕ) → d.tree.at (dir_of c) ≡ Some n → HoldsObjects set (dir_of c) d.tree
    coll_stands c fits n here = record { there = dir_or_file d.tree (dir_of c) n here (all.clear.free c fits); whole = all.whole c fits; flat = all.clear.flat c fits }

    pub walked_placed : AllPlaced set current d.tree
    walked_placed step there is = by is (d.tree.at (entry current step)) refl
      where
        by : IsColl step → (o : Option ℕ) → d.tree.at (entry current step) ≡ o → HoldsObjects set (entry current step) d.tree
        by is None none = absurd (there none)
        by is (Some n) here =
            subst (λ (s : List ℕ). HoldsObjects set (entry current s) d.tree) (sym is.2)
            (coll_stands is.0 is.1 n (ap (λ (s : List ℕ). d.tree.at (entry current s)) (sym is.2) ∙ here))
