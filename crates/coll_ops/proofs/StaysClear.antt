-- Nothing comes in the way where collections come and go.
use Rattle.std.proofs.Common.{◌≡◌, ◌≢◌, ◌⊎◌, inl, inr, ⊎_elim, ℕ, ◌+◌, Bool, true, List, [], ◌∷◌, ◌++◌, length, refl, sym, ◌∙◌, ap, subst, arith, Some, None}
use Rattle.std.proofs.lemmas.List.{length-append}
use Rattle.fs_names.specs.declared.coll.Coll.{Coll}
use Rattle.fs_names.specs.declared.settings.Pos.{Pos}
use Rattle.fs_names.specs.Reading.{CollFits}
use Rattle.tree_api.specs.Tree.{Path, Version, Names, Tree, IsDir}
use Rattle.tree_api.specs.Disk.{Disk, Sound, Leaves}
use Rattle.tree_api.specs.Renaming.{NoNode}
use Rattle.tree_api.proofs.Moments.{leaves_wider}
use Rattle.tree_api.proofs.Nodes.{dec_bytes, dec_path}
use Rattle.lfn_index.specs.Changes.{place_name}
use Rattle.lfn_index.specs.Directory.{entry}
use Rattle.lfn_index.specs.Moving.{Same}
use Rattle.tree_stands.specs.Trees.{dir_of}
use Rattle.op_effects.specs.Clear.{DirBelow, IsClear, IsShallow, KeepsClear}
use Rattle.op_effects.specs.Ready.{trash}
use Rattle.op_effects.proofs.Clear.{FilesFrom, clear_by, free_by, never_both}
use Rattle.coll_ops.specs.Changes.{AddsDir, DirAt, NewDir, Swept, Sweeps, Thrown, Throws}
use Rattle.coll_ops.specs.Places.{trash_at, Within}
use Rattle.coll_ops.proofs.Coming.{such_keeps}
use Rattle.coll_ops.proofs.Kept.{KeepsAt, named_keeps, leaves_by}
use Rattle.coll_ops.proofs.Paths.{apart, coll_dec, off_tree, other_within, trees_apart}

-- a directory or a file
abbrev Stands : Bool → Tree → Path → Type 0
Stands kind t q = (n : ℕ) × (t.at q ≡ Some n) × ((t.node n).dir ≡ kind)

-- what keeps its name stood before
stood : (a c : Tree) (q : Path) → KeepsAt a c q → (kind : Bool) → Stands kind c q → Stands kind a q
stood a c q keeps kind is =
    let here : a.at q ≡ Some is.0 = sym keeps.at ∙ is.1 in
    (is.0, here, ap (λ (v : Version). v.dir) (sym (keeps.node is.0 here)) ∙ is.2)

kept_clear : (a c : Tree) → ((q : Path) → KeepsAt a c q) → KeepsClear a c
kept_clear a c keeps = clear_by a c (λ d fits is. stood a c (dir_of d) (keeps (dir_of d)) _ is) (λ q is. stood a c q (keeps q) _ is)

-- ---- a collection is made

module _ (coll : Coll) (fits : CollFits coll) (old new : Disk) (s0 : Sound old) (made : NewDir (dir_of coll) old new) where
  module _ (a c : Tree) (may : old.may a) (at : a.at ≡ old.tree.at) (others : (m : ℕ) → (m ≡ made.n → ⊥) → c.node m ≡ a.node m) (such : DirAt (dir_of coll) made.n old.tree c) where
    keeps : (q : Path) → q ≢ dir_of coll → KeepsAt a c q
    keeps q not = such_keeps coll fits old new s0 made a c may at others such q not

    -- it is no file
    files : FilesFrom a c
    files d of_d is = elim (dec_path (dir_of d) (dir_of coll)) [
      | inl same ↦ absurd (never_both c (dir_of d) (inr is) (made.n, ap c.at same ∙ such.here, ap (λ (v : Version). v.dir) such.holds))
      | inr not ↦ stood a c (dir_of d) (keeps (dir_of d) not) _ is
    ]

    -- and not below another
    off_deep : (p q : Path) → DirBelow 9 p c q → q ≢ dir_of coll
    off_deep p q is same =
        let e : length p + length is.0 ≡ 2 = sym (length-append p is.0) ∙ ap length (sym is.1 ∙ same) in
        absurd (omega (arith, e, is.2))

    shallow : (p : Path) → IsShallow p a → IsShallow p c
    shallow p was q is = was q (is.0, is.1, is.2, stood a c q (keeps q (off_deep p q is)) _ is.3)

    off_entry : (d : Coll) (step : List ℕ) → entry (dir_of d) step ≢ dir_of coll
    off_entry d step same =
        let e : 3 ≡ 2 = ap length same in
        absurd (omega (arith, e))

    comes_clear : KeepsClear a c
    comes_clear was = record {
      free = λ d of_d is. was.free d of_d (files d of_d is);
      flat = λ d of_d step. free_by a c (entry (dir_of d) step) (stood a c (entry (dir_of d) step) (keeps (entry (dir_of d) step) (off_entry d step)) true) (was.flat d of_d step);
      colls = λ d of_d. shallow (dir_of d) (was.colls d of_d);
      trees = λ step. shallow (entry trash step) (was.trees step);
    }

  pub new_clear : Leaves KeepsClear old new
  new_clear = leaves_by (DirAt (dir_of coll) made.n old.tree) (λ m. m ≡ made.n) KeepsClear old new s0 made.leaves
      (λ a c may same. kept_clear a c (named_keeps a c same))
      (λ a c may at others such. comes_clear a c may at others such)

pub adds_clear : (coll : Coll) → CollFits coll → (old new : Disk) → Sound old → AddsDir (dir_of coll) old new → Leaves KeepsClear old new
adds_clear coll fits old new s0 (inl same) = leaves_wider Same KeepsClear (λ a c is was. subst IsClear (sym is) was) old new same
adds_clear coll fits old new s0 (inr made) = new_clear coll fits old new s0 made

-- ---- names go, or move

module _ (old : Disk) (a c : Tree) (at : a.at ≡ old.tree.at) (others : (m : ℕ) → (NoNode m → ⊥) → c.node m ≡ a.node m) where
  moved_from : (q r : Path) → c.at q ≡ old.tree.at r → (kind : Bool) → Stands kind c q → Stands kind a r
  moved_from q r is kind there = (
    there.0,
    ap (λ (f : Names). f r) at ∙ sym is ∙ there.1,
    ap (λ (v : Version). v.dir) (sym (others there.0 (λ none. none))) ∙ there.2,
  )

  gone_from : (q : Path) → c.at q ≡ None → (kind : Bool) → Stands kind c q → ⊥
  gone_from q is kind there = let e : None ≡ Some there.0 = sym is ∙ there.1 in cc

  -- the name stays, or is gone
  still_from : (q : Path) → (c.at q ≡ old.tree.at q) ⊎ (c.at q ≡ None) → (kind : Bool) → Stands kind c q → Stands kind a q
  still_from q (inl same) kind there = moved_from q q same kind there
  still_from q (inr none) kind there = absurd (gone_from q none kind there)

  swept_clear_by : (p : Path) → Swept p old.tree.at c.at → KeepsClear a c
  swept_clear_by p less = clear_by a c (λ d fits is. from (dir_of d) _ is) (λ q is. from q _ is)
    where
      from : (q : Path) (kind : Bool) → Stands kind c q → Stands kind a q
      from q kind there = still_from q (⊎_elim (λ same. inl same) (λ none. inr none.0) (less q)) kind there

  module _ (coll : Coll) (fits : CollFits coll) (pos : Pos) (such : Thrown (dir_of coll) (trash_at pos) old.tree.at c.at) where
    in_it : (q : Path) → Within (dir_of coll) q → (c.at q ≡ old.tree.at q) ⊎ (c.at q ≡ None)
    in_it q is = ⊎_elim (λ stays. inl (stays q is)) (λ none. inr (none q is)) such.here

    in_any : (d : Coll) → CollFits d → (q : Path) → Within (dir_of d) q → (c.at q ≡ old.tree.at q) ⊎ (c.at q ≡ None)
    in_any d of_d q is = ⊎_elim
        (λ same. in_it q (subst (λ (x : Coll). Within (dir_of x) q) same is))
        (λ differ. inl (such.off q (λ one. other_within coll fits d of_d differ q one is) (λ two. apart d of_d pos q is two)))
        (coll_dec d coll)

    -- below the tree that came, or was there
    thrown_deep : IsClear a → (rest : Path) → length rest ≡ 9 → IsDir c (trash_at pos ++ rest) → ⊥
    thrown_deep was rest nine is = ⊎_elim
        (λ none. gone_from (trash_at pos ++ rest) none _ is)
        (λ there.
        ⊎_elim
        (λ same. was.trees (place_name pos) (trash_at pos ++ rest) (rest, refl, nine, moved_from _ _ same _ is))
        (λ came. was.colls coll fits (dir_of coll ++ rest) (rest, refl, nine, moved_from _ _ came _ is))
        there)
        (such.place rest)

    tree_deep : IsClear a → (step : List ℕ) → IsShallow (entry trash step) c
    tree_deep was step q is = ⊎_elim
        (λ same. thrown_deep was is.0 is.2 (subst (IsDir c) (is.1 ∙ ap (λ (s : List ℕ). entry trash s ++ is.0) same) is.3))
        (λ differ.
        let here : c.at q ≡ old.tree.at q = such.off q (λ one. off_tree coll fits step q one (is.0, is.1)) (λ two. trees_apart (place_name pos) step differ q two (is.0, is.1)) in
        was.trees step q (is.0, is.1, is.2, moved_from q q here _ is.3))
        (dec_bytes step (place_name pos))

    thrown_clear_by : KeepsClear a c
    thrown_clear_by was = record {
      free = λ d of_d is. was.free d of_d (still_from (dir_of d) (in_any d of_d (dir_of d) ([], refl)) _ is);
      flat = λ d of_d step. free_by a c (entry (dir_of d) step) (still_from (entry (dir_of d) step) (in_any d of_d (entry (dir_of d) step) (step ∷ [], refl)) true) (was.flat d of_d step);
      colls = λ d of_d q is. was.colls d of_d q (is.0, is.1, is.2, still_from q (in_any d of_d q (is.0, is.1)) _ is.3);
      trees = tree_deep was;
    }

pub swept_clear : (p : Path) (old new : Disk) → Sound old → Sweeps p old new → Leaves KeepsClear old new
swept_clear p old new s0 sweeps = leaves_by (λ c. Swept p old.tree.at c.at) NoNode KeepsClear old new s0 sweeps
    (λ a c may same. kept_clear a c (named_keeps a c same))
    (λ a c may at others such. swept_clear_by old a c at others p such)

pub thrown_clear : (coll : Coll) → CollFits coll → (pos : Pos) (old new : Disk) → Sound old → Throws (dir_of coll) (trash_at pos) old new → Leaves KeepsClear old new
thrown_clear coll fits pos old new s0 throws = leaves_by (λ c. Thrown (dir_of coll) (trash_at pos) old.tree.at c.at) NoNode KeepsClear old new s0 throws
    (λ a c may same. kept_clear a c (named_keeps a c same))
    (λ a c may at others such. thrown_clear_by old a c at others coll fits pos such)
