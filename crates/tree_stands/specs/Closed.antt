-- A store that was made or closed: nothing is open, and the tree holds its objects.
use Rattle.std.specs.Prelude.{◌≡◌, ℕ, List, [], ◌∷◌, cond, codes, Option, Some, None}
use Rattle.std.specs.Str.{bytes_eq}
use Rattle.std.specs.FinMap as fin
use Rattle.fs_names.specs.declared.coll.Coll.{Coll}
use Rattle.fs_names.specs.declared.settings.Mode.{Mode}
use Rattle.fs_names.specs.declared.settings.Settings.{Settings}
use Rattle.fs_model.specs.Objects.{Objects}
use Rattle.tree_api.specs.Tree.{Path, Tree, new_dir}
use Rattle.lfn_index.specs.Directory.{entry}
use Rattle.turn_core.specs.Table.{mounted}
use Rattle.fs_cells.specs.declared.cell.Cell.{Cell}
use Rattle.fs_cells.specs.Values.{cells_of}
use Rattle.tree_stands.specs.Shown.{Counts, cells_in, guards_in}
use Rattle.tree_stands.specs.Trees.{dir_of, Maps, AreMaps, AllWhole, shown, TreeAt}
use Rattle.tree_stands.specs.Standing.{History, line_of, place_of, Image}

-- the tree shows these objects, and no guard counts an operation to come
pub record Shows (set : Settings) (g : Counts) (O : Objects) (t : Tree) : Type 0 where
  pub whole : AllWhole set t
  pub cells : (M : Maps) → AreMaps set t M → (x : Cell) → cells_in (shown M t) x ≡ cells_of O x
  pub guards : (M : Maps) → AreMaps set t M → (x : Cell) → guards_in g (shown M t) x ≡ 0

-- nothing stands where collections would
pub record NoColls (t : Tree) : Type 0 where
  pub dirs : (c : Coll) → t.at (dir_of c) ≡ None
  pub entries : (c : Coll) (step : List ℕ) → t.at (entry (dir_of c) step) ≡ None

-- a root with the directory `current`
abbrev pub bare_at : Path → Option ℕ
bare_at [] = Some 0
bare_at (step ∷ []) = cond (bytes_eq step (codes "current")) (Some 1) None
bare_at (step ∷ below ∷ rest) = None

abbrev pub bare_tree : Tree
bare_tree = record { at = bare_at; node = λ n. new_dir; snap = λ n. None }

-- the transactions of a mounted store have the numbers after base; none of them is open
pub record ClosedLaw : Type 0 where
  pub stands : (set : Settings) (g : Counts) (h : History) (mode : Mode) (trash : ℕ) (t : Tree) → Shows set g h.objects t
      → Image set g h h.base h.base (λ x. 0) t t
      × TreeAt set g (line_of h h.base) (place_of h (mounted mode h.base h.base trash)) (λ x. 0) t
  pub empty : (set : Settings) (g : Counts) → ((c : Coll) → g.gone c ≡ 0) → (t : Tree) → NoColls t → Shows set g fin.empty t
  pub bare : NoColls bare_tree
