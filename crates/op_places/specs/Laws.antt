-- What lines of operations, and one operation of a line, do to the places of a tree.
use Rattle.std.specs.Prelude.{◌≡◌, ◌≢◌, ℕ, suc, ◌≤◌, List, [], ◌∷◌, ◌++◌, length, drop, slice_get, false, Option, Some, None}
use Rattle.std.specs.FinMap as fin
use Rattle.fs_names.specs.declared.coll.Coll.{Coll}
use Rattle.fs_names.specs.declared.settings.Settings.{Settings}
use Rattle.fs_names.specs.Reading.{CollFits}
use Rattle.fs_model.specs.declared.op.Op.{Op}
use Rattle.fs_model.specs.declared.op.Op.TheVariants.{MkColl, RmColl}
use Rattle.fs_model.specs.Named.{colls_named, made}
use Rattle.fs_model.specs.Objects.{Objects}
use Rattle.fs_model.specs.Rows.{fold_ops}
use Rattle.tree_api.specs.Tree.{Version, Tree}
use Rattle.lfn_index.specs.Maps.{content}
use Rattle.fs_cells.specs.declared.cell.Part.{Part}
use Rattle.fs_cells.specs.Parts.{CellAct}
use Rattle.tree_stands.specs.Names.{Name, NameFits}
use Rattle.tree_stands.specs.Shown.{Paired}
use Rattle.tree_stands.specs.Trees.{Maps, AreMaps, dir_guard, ForObject}
use Rattle.tree_stands.specs.Edits.{IsOn, Edits}
use Rattle.op_effects.specs.Ready.{HasColls}
use Rattle.op_effects.specs.Collections.{CollStays, IsGone, Makes, Drops}
use Rattle.op_places.specs.Line.{after_ops, IsPlain, KeepsColls}
use Rattle.op_places.specs.Places.{is_there, PastOps}

pub record LineLaw : Type 0 where
  -- a tree without collections has done nothing yet
  pub begins : (set : Settings) (t : Tree) → ((c : Coll) → CollFits c → IsGone set c t) → PastOps set fin.empty [] 0 t
  -- more operations may come
  pub more : (set : Settings) (O : Objects) (ops rest : List Op) (k : ℕ) (t : Tree) → IsPlain O (ops ++ rest)
      → PastOps set O ops k t → PastOps set O (ops ++ rest) k t
  -- what is past some is past fewer
  pub back : (set : Settings) (O : Objects) (ops : List Op) (k l : ℕ) (t : Tree) → l ≤ k → PastOps set O ops k t → PastOps set O ops l t
  -- where each collection stays, the tree is where it was
  pub stays : (set : Settings) (O : Objects) (ops : List Op) (k : ℕ) (e f : Tree) → ((c : Coll) → CollFits c → CollStays set c e f)
      → PastOps set O ops k e → PastOps set O ops k f
  -- the first operations are forgotten
  pub rebase : (set : Settings) (O : Objects) (ops : List Op) (d : ℕ) (t : Tree) → IsPlain O ops → d ≤ length ops
      → PastOps set O ops d t → PastOps set (after_ops O ops d) (drop d ops) 0 t
  -- whatever a tree began with, the line takes it to one end
  pub once : (set : Settings) (O P : Objects) (ops : List Op) (t : Tree) → IsPlain O ops → IsPlain P ops
      → PastOps set O ops 0 t → PastOps set P ops 0 t → fold_ops O ops ≡ fold_ops P ops

-- The operation at k of a plain line is this one, and what reads is past those before it.
pub record IsAt (set : Settings) (O : Objects) (ops : List Op) (k : ℕ) (op : Op) (t : Tree) : Type 0 where
  pub plain : IsPlain O ops
  pub is_op : slice_get ops k ≡ Some op
  pub reads : PastOps set O ops k t

-- It is on one object, whose collection is there, and leads the object's file as its row says.
pub record EditsOne (op : Op) (n : Name) (row : Part → CellAct) (F : Option Version → Option Version) (t : Tree) : Type 0 where
  pub is_on : IsOn op n row
  pub keeps_colls : KeepsColls op
  pub edits : (a : Option Version) → Edits row a (F a)
  pub fits : NameFits n
  pub there : dir_guard t n.coll ≢ None

pub record EditLaw : Type 0 where
  -- what a crash makes of an image is past what that image was past
  pub keeps : (set : Settings) (O : Objects) (ops : List Op) (k : ℕ) (op : Op) (n : Name) (row : Part → CellAct) (F : Option Version → Option Version) (t : Tree)
      → IsAt set O ops k op t → EditsOne op n row F t → (l : ℕ) → l ≤ k → (M : Maps) → AreMaps set t M
      → (e f : Tree) → PastOps set O ops l e → HasColls t e
      → ForObject set n (Paired (content (M n.coll) t n.oid) (F (content (M n.coll) t n.oid))) e f → PastOps set O ops l f
  -- and once it is done, what reads is past it
  pub goes : (set : Settings) (O : Objects) (ops : List Op) (k : ℕ) (op : Op) (n : Name) (row : Part → CellAct) (F : Option Version → Option Version) (t : Tree)
      → IsAt set O ops k op t → EditsOne op n row F t → (u : Tree) → ForObject set n (λ x y. y ≡ F x) t u → PastOps set O ops (suc k) u
  -- an operation whose collection isn't there is left out
  pub skipped : (set : Settings) (O : Objects) (ops : List Op) (k : ℕ) (op : Op) (c : Coll) (t : Tree)
      → IsAt set O ops k op t → colls_named op ≡ c ∷ [] → made op ≡ [] → is_there t c ≡ false → PastOps set O ops (suc k) t

pub record CollLaw : Type 0 where
  -- a collection is made
  pub makes : (set : Settings) (O : Objects) (ops : List Op) (k : ℕ) (c : Coll) → CollFits c → IsPlain O ops → slice_get ops k ≡ Some (MkColl c)
      → (l : ℕ) → l ≤ k → (e f : Tree) → PastOps set O ops l e → Makes set c e f → PastOps set O ops l f
  pub is_made : (set : Settings) (O : Objects) (ops : List Op) (k : ℕ) (c : Coll) (t u : Tree) → CollFits c
      → IsAt set O ops k (MkColl c) t → Makes set c t u → dir_guard u c ≢ None → PastOps set O ops (suc k) u
  -- and taken away
  pub drops : (set : Settings) (O : Objects) (ops : List Op) (k : ℕ) (c : Coll) → IsPlain O ops → slice_get ops k ≡ Some (RmColl c)
      → (l : ℕ) → l ≤ k → (e f : Tree) → PastOps set O ops l e → Drops set c e f → PastOps set O ops l f
  pub is_dropped : (set : Settings) (O : Objects) (ops : List Op) (k : ℕ) (c : Coll) (t u : Tree)
      → IsAt set O ops k (RmColl c) t → Drops set c t u → dir_guard u c ≡ None → PastOps set O ops (suc k) u
