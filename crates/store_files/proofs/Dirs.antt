-- The directories of a store, one after another.
use Rattle.std.proofs.Common.{◌≡◌, ◌≢◌, ℕ, List, [], ◌∷◌, ◌++◌, refl}
use Rattle.tree_api.specs.Tree.{Path, Version, HasParent, current, new_dir}
use Rattle.tree_api.specs.Disk.{Disk, Sound, Everywhere, Leaves}
use Rattle.commit_point.specs.Number.{aside}
use Rattle.store_files.specs.Stores.{omap, trash}
use Rattle.store_files.specs.Steps.{Beside, Stands, Off, Among, AllIn, dir_paths, dir_items}
use Rattle.store_files.proofs.Built.{Built, begun, so_far, next, off_first, off_rest, in_first, in_rest, below}

in_current : (q : Path) → Off dir_paths q → q ≢ current
in_current q off = off_first current (omap ∷ aside ∷ trash ∷ []) q off

after_current : (q : Path) → Off dir_paths q → Off (omap ∷ aside ∷ trash ∷ []) q
after_current q off = off_rest current (omap ∷ aside ∷ trash ∷ []) q off

in_omap : (q : Path) → Off dir_paths q → q ≢ omap
in_omap q off = off_first omap (aside ∷ trash ∷ []) q (after_current q off)

after_omap : (q : Path) → Off dir_paths q → Off (aside ∷ trash ∷ []) q
after_omap q off = off_rest omap (aside ∷ trash ∷ []) q (after_current q off)

in_aside : (q : Path) → Off dir_paths q → q ≢ aside
in_aside q off = off_first aside (trash ∷ []) q (after_omap q off)

in_trash : (q : Path) → Off dir_paths q → q ≢ trash
in_trash q off = off_first trash [] q (off_rest aside (trash ∷ []) q (after_omap q off))

abbrev one_item : List (Path × Version)
one_item = (current, new_dir) ∷ []

abbrev two_items : List (Path × Version)
two_items = (omap, new_dir) ∷ one_item

abbrev three_items : List (Path × Version)
three_items = (aside, new_dir) ∷ two_items

module _ (d0 d1 : Disk) (s0 : Sound d0) (s1 : Sound d1) (b1 : Leaves (Beside current) d0 d1) (st1 : Stands current new_dir d1) where
  one : Built dir_paths one_item d0 d1
  one = next dir_paths [] current d0 d0 d1 s0 (begun dir_paths d0 s0) in_current b1 new_dir s1 refl st1

  module _ (d2 : Disk) (b2 : Leaves (Beside omap) d1 d2) where
    pub two_leaves : Leaves (Among dir_paths) d0 d2
    two_leaves = so_far dir_paths one_item omap d0 d1 d2 s1 one in_omap b2

    module _ (s2 : Sound d2) (st2 : Stands omap new_dir d2) where
      two : Built dir_paths two_items d0 d2
      two = next dir_paths one_item omap d0 d1 d2 s1 one in_omap b2 new_dir s2 refl st2

      pub two_parent : (p : Path) (step : List ℕ) → p ≡ current ++ step ∷ [] → HasParent d2.tree p
      two_parent p step at =
          below d2.tree current step new_dir p (in_first (current, new_dir) [] d2.tree (in_rest (omap, new_dir) one_item d2.tree (two.stand d2.tree s2.now))) refl at

      module _ (d3 : Disk) (b3 : Leaves (Beside aside) d2 d3) where
        pub three_leaves : Leaves (Among dir_paths) d0 d3
        three_leaves = so_far dir_paths two_items aside d0 d2 d3 s2 two in_aside b3

        module _ (s3 : Sound d3) (st3 : Stands aside new_dir d3) where
          three : Built dir_paths three_items d0 d3
          three = next dir_paths two_items aside d0 d2 d3 s2 two in_aside b3 new_dir s3 refl st3

          pub three_parent : (p : Path) (step : List ℕ) → p ≡ current ++ step ∷ [] → HasParent d3.tree p
          three_parent p step at =
              below d3.tree current step new_dir p
              (in_first (current, new_dir) [] d3.tree (in_rest (omap, new_dir) one_item d3.tree (in_rest (aside, new_dir) two_items d3.tree (three.stand d3.tree s3.now)))) refl at

          module _ (d4 : Disk) (b4 : Leaves (Beside trash) d3 d4) where
            pub four_leaves : Leaves (Among dir_paths) d0 d4
            four_leaves = so_far dir_paths three_items trash d0 d3 d4 s3 three in_trash b4

            pub all_stand : Sound d4 → Stands trash new_dir d4 → Everywhere d4 (AllIn dir_items)
            all_stand s4 st4 = (next dir_paths three_items trash d0 d3 d4 s3 three in_trash b4 new_dir s4 refl st4).stand
