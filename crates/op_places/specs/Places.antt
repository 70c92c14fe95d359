-- How far a tree has gone along a line of operations.
use Rattle.std.specs.Prelude.{◌≡◌, ℕ, ◌≤◌, Bool, ◌&&◌, List, length, None}
use Rattle.std.specs.Option.{is_some}
use Rattle.std.specs.FinMap as fin
use Rattle.fs_names.specs.declared.coll.Coll.{Coll}
use Rattle.fs_names.specs.declared.settings.Settings.{Settings}
use Rattle.fs_names.specs.Reading.{CollFits}
use Rattle.fs_model.specs.declared.op.Op.{Op}
use Rattle.fs_model.specs.Objects.{Objects}
use Rattle.tree_api.specs.Tree.{Tree}
use Rattle.tree_stands.specs.Names.{coll_fits}
use Rattle.tree_stands.specs.Trees.{AllWhole, dir_guard, TreeAt}
use Rattle.op_effects.specs.Collections.{IsEmpty}
use Rattle.op_places.specs.Line.{line_of, after_ops, counts_of}

-- the collection's directory is there
abbrev pub is_there : Tree → Coll → Bool
is_there t c = coll_fits c && is_some (dir_guard t c)

-- whether a collection is there is as after some number of operations, at least k
pub record CollAt (O : Objects) (ops : List Op) (k : ℕ) (c : Coll) (there : Bool) : Type 0 where
  pub when : ℕ
  pub from : k ≤ when
  pub to : when ≤ length ops
  pub is : there ≡ fin.contains_key (after_ops O ops when) c

-- Each part of the tree is past the first k operations of the line, and past none but those of the line.
pub record PastOps (set : Settings) (O : Objects) (ops : List Op) (k : ℕ) (t : Tree) : Type 0 where
  pub cells : TreeAt set (counts_of ops) (line_of O ops) (λ x. k) (λ x. 0) t
  pub colls : (c : Coll) → CollAt O ops k c (is_there t c)
  -- there is no damage, and nothing where a collection is missing
  pub whole : AllWhole set t
  pub empty : (c : Coll) → CollFits c → dir_guard t c ≡ None → IsEmpty set c t
