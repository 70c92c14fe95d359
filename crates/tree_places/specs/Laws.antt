-- What follows for a store that does its transactions one after the other.
use Rattle.std.specs.Prelude.{◌≡◌, ◌≢◌, ℕ, ◌+◌, ◌-◌, ◌^◌, ◌<◌, ◌≤◌, List, [], ◌∷◌, length, slice_get, false, Option, Some, None}
use Rattle.std.specs.FinMap as fin
use Rattle.fs_names.specs.declared.coll.Coll.{Coll}
use Rattle.fs_names.specs.declared.settings.Settings.{Settings}
use Rattle.fs_names.specs.Reading.{CollFits}
use Rattle.fs_model.specs.declared.op.Op.{Op}
use Rattle.fs_model.specs.declared.op.Op.TheVariants.{MkColl, RmColl}
use Rattle.fs_model.specs.Named.{colls_named, made}
use Rattle.built_ops.specs.Built.{CanDo}
use Rattle.tree_api.specs.Tree.{Version, Tree}
use Rattle.lfn_index.specs.Maps.{content}
use Rattle.fs_cells.specs.declared.cell.Part.{Part}
use Rattle.fs_cells.specs.Parts.{CellAct}
use Rattle.fs_cells.specs.Laws.{AreAllowed}
use Rattle.fs_cells.specs.Standing.{AllAllowed}
use Rattle.tree_stands.specs.Names.{Name}
use Rattle.tree_stands.specs.Shown.{Paired}
use Rattle.tree_stands.specs.Trees.{Maps, AreMaps, dir_guard, ForObject}
use Rattle.commit_point.specs.Number.{HasNumber}
use Rattle.store_files.specs.declared.reading.Identity.{Identity}
use Rattle.store_files.specs.Stores.{IsStore}
use Rattle.store_history.specs.History.{History, end_of, at, IsTxn, replay_of}
use Rattle.store_turns.specs.Theory.{Theory}
use Rattle.op_effects.specs.Ready.{HasColls}
use Rattle.op_effects.specs.Collections.{IsGone, Makes, Drops}
use Rattle.op_places.specs.Line.{NoneCopies, IsPlain}
use Rattle.op_places.specs.Places.{is_there}
use Rattle.op_places.specs.Laws.{EditsOne}
use Rattle.tree_places.specs.Line.{ops_of, ops_to, count_to, At, with_txn}
use Rattle.tree_places.specs.Example.{made_tree}
use Rattle.tree_places.specs.Images.{IsOwn, IsLaid, Image, StoreImage, reads}

-- what a store's turns ask of its tree
abbrev pub TheoryLaw : Type 0
TheoryLaw = (id : Identity) → Theory (StoreImage id) (reads id.settings) HasNumber (IsLaid id.settings)

pub record HistoryLaw : Type 0 where
  -- a transaction's operations have their places in the line
  pub place : (h : History) (hi seq i : ℕ) (ops : List Op) (op : Op) → h.base < seq → seq ≤ hi → IsTxn h seq ops → slice_get ops i ≡ Some op
      → slice_get (ops_to h hi) (count_to h (seq - 1) + i) ≡ Some op
  pub count : (h : History) (seq : ℕ) (ops : List Op) → h.base < seq → IsTxn h seq ops → count_to h seq ≡ count_to h (seq - 1) + length ops
  pub grows : (h : History) (n m : ℕ) → n ≤ m → count_to h n ≤ count_to h m
  -- the line is plain where each transaction is allowed after those before it
  pub plain : (h : History) → AllAllowed h.origin h.txns → NoneCopies (ops_of h.txns) → IsPlain h.origin (ops_of h.txns)
  -- transactions to come may be counted in, and what is past some operations is past fewer
  pub wider : (set : Settings) (h : History) (k hi hi2 : ℕ) (t : Tree) → hi ≤ hi2 → At set h k hi t → At set h k hi2 t
  pub back : (set : Settings) (h : History) (k l hi : ℕ) (t : Tree) → l ≤ k → At set h k hi t → At set h l hi t
  -- a history may get one more
  pub longer : (id : Identity) (h : History) (ops : List Op) (n lo hi : ℕ) (t : Tree) → AreAllowed (at h (end_of h)) ops → CanDo ops
      → lo ≤ hi → hi ≤ end_of h → StoreImage id h n lo hi t → StoreImage id (with_txn h ops) n lo hi t
  -- a tree without collections has done none of a store's first transactions
  pub begins : (id : Identity) (n : ℕ) (t : Tree) → IsStore t id.fsid id.settings → HasNumber t n → IsOwn t → ((c : Coll) → CollFits c → IsGone id.settings c t)
      → StoreImage id (replay_of n fin.empty []) n n n t

-- a store that was just made has done none of its first transactions
abbrev pub ExampleLaw : Type 0
ExampleLaw = (set : Settings) (n : ℕ) → n < 2 ^ 63 → Image set (replay_of n fin.empty []) n n n (made_tree n)

-- The operation at k of the line up to hi is this one, and what reads is past those before it.
pub record ComesNext (set : Settings) (h : History) (hi k : ℕ) (op : Op) (t : Tree) : Type 0 where
  pub is_op : slice_get (ops_to h hi) k ≡ Some op
  pub reads : At set h k hi t

pub record EditLaw : Type 0 where
  -- an operation on one object, whose collection is there: what a crash makes of an image is past what that image was past
  pub keeps : (set : Settings) (h : History) (hi k : ℕ) (op : Op) (n : Name) (row : Part → CellAct) (F : Option Version → Option Version) (t : Tree)
      → ComesNext set h hi k op t → EditsOne op n row F t → (l : ℕ) → l ≤ k → (M : Maps) → AreMaps set t M
      → (e f : Tree) → At set h l hi e → HasColls t e
      → ForObject set n (Paired (content (M n.coll) t n.oid) (F (content (M n.coll) t n.oid))) e f → At set h l hi f
  -- and once it is done, what reads is past it
  pub goes : (set : Settings) (h : History) (hi k : ℕ) (op : Op) (n : Name) (row : Part → CellAct) (F : Option Version → Option Version) (t : Tree)
      → ComesNext set h hi k op t → EditsOne op n row F t → (u : Tree) → ForObject set n (λ x y. y ≡ F x) t u → At set h (k + 1) hi u
  -- an operation whose collection isn't there is left out
  pub skipped : (set : Settings) (h : History) (hi k : ℕ) (op : Op) (c : Coll) (t : Tree) → ComesNext set h hi k op t
      → colls_named op ≡ c ∷ [] → made op ≡ [] → is_there t c ≡ false → At set h (k + 1) hi t

pub record CollLaw : Type 0 where
  -- a collection is made
  pub makes : (set : Settings) (h : History) (hi k : ℕ) (c : Coll) → CollFits c → slice_get (ops_to h hi) k ≡ Some (MkColl c)
      → (l : ℕ) → l ≤ k → (e f : Tree) → At set h l hi e → Makes set c e f → At set h l hi f
  pub is_made : (set : Settings) (h : History) (hi k : ℕ) (c : Coll) (t u : Tree) → CollFits c
      → ComesNext set h hi k (MkColl c) t → Makes set c t u → dir_guard u c ≢ None → At set h (k + 1) hi u
  -- and taken away
  pub drops : (set : Settings) (h : History) (hi k : ℕ) (c : Coll) → slice_get (ops_to h hi) k ≡ Some (RmColl c)
      → (l : ℕ) → l ≤ k → (e f : Tree) → At set h l hi e → Drops set c e f → At set h l hi f
  pub is_dropped : (set : Settings) (h : History) (hi k : ℕ) (c : Coll) (t u : Tree)
      → ComesNext set h hi k (RmColl c) t → Drops set c t u → dir_guard u c ≡ None → At set h (k + 1) hi u
