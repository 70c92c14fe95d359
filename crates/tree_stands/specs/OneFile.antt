-- A tree of one file: a collection with one object in it.
use Rattle.std.specs.Prelude.{◌≡◌, ℕ, ◌≤◌, ◌==◌, ◌&&◌, cond, List, [], ◌∷◌, length, codes, Option, Some, None}
use Rattle.std.specs.Str.{bytes_eq}
use Rattle.std.specs.FinMap as fin
use Rattle.fs_names.specs.declared.coll.Coll.{Coll}
use Rattle.fs_names.specs.declared.settings.Settings.{Settings}
use Rattle.fs_names.specs.Text.{oid_text, coll_text}
use Rattle.fs_model.specs.Objects.{Object, Objects}
use Rattle.tree_api.specs.Tree.{Path, Tree, file_of, new_dir}
use Rattle.tree_stands.specs.Names.{Name, NameFits}
use Rattle.tree_stands.specs.Shown.{Counts}
use Rattle.tree_stands.specs.Closed.{Shows}

-- the root, `current`, the collection's directory and the object's file
abbrev pub one_at : Name → Path → Option ℕ
one_at n [] = Some 0
one_at n (a ∷ []) = cond (bytes_eq a (codes "current")) (Some 1) None
one_at n (a ∷ b ∷ []) = cond (bytes_eq a (codes "current") && bytes_eq b (coll_text n.coll)) (Some 2) None
one_at n (a ∷ b ∷ s ∷ []) = cond (bytes_eq a (codes "current") && (bytes_eq b (coll_text n.coll) && bytes_eq s (oid_text n.oid))) (Some 3) None
one_at n (a ∷ b ∷ s ∷ d ∷ rest) = None

abbrev pub one_tree : Name → List ℕ → Tree
one_tree n bytes = record { at = one_at n; node = λ m. cond (m == 3) (file_of bytes) new_dir; snap = λ k. None }

abbrev pub one_object : List ℕ → Object
one_object bytes = record { bytes = bytes; attrs = fin.empty; header = []; omap = fin.empty }

abbrev pub one_of : Name → List ℕ → Objects
one_of n bytes = fin.insert fin.empty n.coll (fin.insert fin.empty n.oid (one_object bytes))

-- it shows that object, where the file's name is short
abbrev pub OneFileLaw : Type 0
OneFileLaw = (set : Settings) (g : Counts) → ((c : Coll) → g.gone c ≡ 0) → (n : Name) → NameFits n → length (oid_text n.oid) ≤ 200 → (bytes : List ℕ)
    → Shows set g (one_of n bytes) (one_tree n bytes)
