-- What stays where trees of a directory are swept.
use Rattle.std.proofs.Common.{◌≡◌, inl, ⊎_elim, ℕ, ◌++◌, length, refl, sym, ◌∙◌, ap}
use Rattle.tree_api.specs.Tree.{Path, Names, Tree}
use Rattle.tree_api.specs.Disk.{Disk, Sound, Stays, Leaves}
use Rattle.tree_api.specs.Renaming.{NoNode}
use Rattle.tree_api.proofs.Moments.{Joins, leaves_none, leaves_run, leaves_wider}
use Rattle.op_effects.specs.Clear.{KeepsFree}
use Rattle.coll_ops.specs.Changes.{Elsewhere, Swept, Sweeps}
use Rattle.coll_ops.specs.Places.{Within}
use Rattle.coll_ops.proofs.Clearing.{one_step}
use Rattle.coll_ops.proofs.Kept.{named_keeps, keeps_free, leaves_by}
use Rattle.coll_ops.proofs.Lasting.{elsewhere}
use Rattle.store_walk.specs.Thinned.{IsBelow}

module _ (p : Path) (old new : Disk) (s0 : Sound old) (sweeps : Sweeps p old new) where
  abbrev Such : Tree → Type 0
  Such c = Swept p old.tree.at c.at

  free_such : (a c : Tree) → a.at ≡ old.tree.at → ((m : ℕ) → (NoNode m → ⊥) → c.node m ≡ a.node m) → Such c → KeepsFree a c
  free_such a c at others such q was =
      ⊎_elim
      (λ same. keeps_free a c q (record { at = same ∙ sym (ap (λ (f : Names). f q) at); node = λ k here. others k (λ none. none) }) was)
      (λ none. inl none.0)
      (such q)

  -- no directory comes
  pub swept_free : Leaves KeepsFree old new
  swept_free = leaves_by Such NoNode KeepsFree old new s0 sweeps (λ a c may same q was. keeps_free a c q (named_keeps a c same q) was) (λ a c may at others such. free_such a c at others such)

  swept_off : (c : Tree) → Such c → (q : Path) → (Within p q → ⊥) → c.at q ≡ old.tree.at q
  swept_off c such q not = ⊎_elim (λ same. same) (λ none. absurd (not none.1)) (such q)

  pub swept_rest : Leaves (Elsewhere (Within p)) old new
  swept_rest = elsewhere (Within p) Such old new s0 sweeps swept_off

module _ (dir : Path) where
  abbrev Rest : Tree → Tree → Type 0
  Rest = Elsewhere (IsBelow dir)

  rest_same : (c : Tree) → Rest c c
  rest_same c q not = refl

  rest_joins : Joins Rest
  rest_joins a b c one two q not = two q not ∙ one q not

  pub rest_still : (old new : Disk) → Sound old → Stays old new → Leaves Rest old new
  rest_still old new s0 stays = leaves_none Rest rest_same rest_joins old new s0 stays

  -- what stands not in the directory stays where an entry is swept
  pub rest_then : (x : Path) (d0 d1 d2 : Disk) → Sound d1 → length x ≡ 1 → Leaves Rest d0 d1 → Sweeps (dir ++ x) d1 d2 → Leaves Rest d0 d2
  rest_then x d0 d1 d2 s1 one so_far sweeps =
      let step = one_step x one in
      leaves_run Rest rest_same rest_joins d0 d1 d2 s1 so_far
      (leaves_wider (Elsewhere (Within (dir ++ x))) Rest
      (λ e f off q not. off q (λ within. not (step.0, (within.0, within.1 ∙ ap (λ (y : Path). (dir ++ y) ++ within.0) step.1))))
      d1 d2 (swept_rest (dir ++ x) d1 d2 s1 sweeps))
