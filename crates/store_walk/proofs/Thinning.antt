-- Files that go from a directory, one after another.
use Rattle.std.proofs.Common.{◌≡◌, inl, inr, ⊎_elim, ℕ, ◌<◌, List, [], ◌∷◌, ◌++◌, length, get_or, refl, sym, ◌∙◌, ap, subst, Some, None}
use Rattle.std.specs.Prelude.{Result}
use Rattle.std.proofs.lemmas.List.{append-nil}
use Rattle.tree_api.specs.Answer.{IsListing, kind_of}
use Rattle.tree_api.specs.Tree.{Path, Names, Tree, IsFree, Gone}
use Rattle.tree_api.specs.Disk.{Disk, Sound, Stays, Leaves, NameChange}
use Rattle.tree_api.specs.Renaming.{Renamed, NoNode, Without, Removes}
use Rattle.tree_api.specs.declared.tree.Entry.{Entry}
use Rattle.tree_api.specs.declared.tree.Kind.TheVariants.{File}
use Rattle.tree_api.specs.declared.tree.TreeError.{TreeError}
use Rattle.tree_api.proofs.Moments.{Joins, leaves_none, leaves_step, leaves_run, leaves_wider}
use Rattle.tree_api.proofs.Nodes.{dec_path}
use Rattle.tree_api.proofs.Renaming.{IsKept, renamed_same, renamed_joins, renamed_wider, renames, removes_same, removes_joins}
use Rattle.lfn_index.specs.Directory.{entry}
use Rattle.lfn_index.specs.Entries.{IsEntry}
use Rattle.coll_ops.specs.Changes.{Swept, Sweeps}
use Rattle.coll_ops.proofs.Clearing.{one_step, entry_file, entry_now, Cleared}
use Rattle.store_walk.specs.Deep.{IsFileEntry}
use Rattle.store_walk.specs.Thinned.{IsIn, Thinned, Thins}
use Rattle.store_walk.specs.Walked.{HoldsFiles}

-- where nothing goes
pub stays_removes : (p : Path) (d0 d1 : Disk) → Sound d0 → Stays d0 d1 → Leaves (Removes p d0.tree) d0 d1
stays_removes p d0 d1 s0 stays = leaves_none (Removes p d0.tree) (removes_same p d0.tree) (removes_joins p d0.tree) d0 d1 s0 stays

-- one name goes
pub gone_removes : {T : Type 0} (p r : Path) (d0 d1 : Disk) (result : Result T TreeError) → Sound d0 → p ≡ r → NameChange (Gone p) d0 d1 result → Leaves (Removes r d0.tree) d0 d1
gone_removes p r d0 d1 result s0 same change =
    subst (λ (q : Path). Leaves (Removes q d0.tree) d0 d1) same
    (leaves_step (Removes p d0.tree) (removes_same p d0.tree) (removes_joins p d0.tree) d0 d1 s0
    (renames (Without p d0.tree) NoNode d0 d1 s0 change.at (λ d c may at nodes. subst (λ (f : Names). Gone p d0.tree.at f) (sym at) change.is) change.step change.partly))

module _ (dir : Path) (t : Tree) where
  abbrev Less : Tree → Type 0
  Less c = Thinned dir t.at c.at

  abbrev R : Tree → Tree → Type 0
  R = Renamed Less NoNode

  less_kept : IsKept Less
  less_kept b c is same = subst (λ (f : Names). Thinned dir t.at f) (sym same.at) is

  thin_same : (c : Tree) → R c c
  thin_same = renamed_same Less NoNode

  thin_joins : Joins R
  thin_joins = renamed_joins Less NoNode less_kept

pub stays_thins : (dir : Path) (d0 d1 : Disk) → Sound d0 → Stays d0 d1 → Thins dir d0 d1
stays_thins dir d0 d1 s0 stays = leaves_none (R dir d0.tree) (thin_same dir d0.tree) (thin_joins dir d0.tree) d0 d1 s0 stays

thinned_then : (dir p : Path) (f g h : Names) → IsIn dir p → Thinned dir f g → Gone p g h → Thinned dir f h
thinned_then dir p f g h is so_far gone q = elim (dec_path q p) [
  | inl same ↦ inr (ap h same ∙ gone.gone, (is.0, same ∙ is.1))
  | inr not ↦ ⊎_elim (λ was. inl (gone.others q not ∙ was)) (λ none. inr (gone.others q not ∙ none.0, none.1)) (so_far q)
]

pub thinned_now : (dir : Path) (d0 d1 : Disk) → Thins dir d0 d1 → Thinned dir d0.tree.at d1.tree.at
thinned_now dir d0 d1 thins q = ⊎_elim (λ same. inl (ap (λ (f : Names). f q) same.at)) (λ less. less q) thins.now.names

pub thins_more : (dir p : Path) (d0 d1 d2 : Disk) → Sound d1 → IsIn dir p → Thins dir d0 d1 → Leaves (Removes p d1.tree) d1 d2 → Thins dir d0 d2
thins_more dir p d0 d1 d2 s1 is one two =
    leaves_run (R dir d0.tree) (thin_same dir d0.tree) (thin_joins dir d0.tree) d0 d1 d2 s1 one
    (leaves_wider (Removes p d1.tree) (R dir d0.tree)
    (renamed_wider (Without p d1.tree) NoNode (Less dir d0.tree) NoNode (λ c gone. thinned_then dir p d0.tree.at d1.tree.at c.at is (thinned_now dir d0 d1 one) gone) (λ m none. none))
    d1 d2 two)

-- as runs that sweep
thinned_swept : (dir : Path) (f g : Names) → Thinned dir f g → Swept dir f g
thinned_swept dir f g thinned q = ⊎_elim (λ same. inl same) (λ none. inr (none.0, (none.1.0 ∷ [], none.1.1))) (thinned q)

pub thins_sweeps : (dir : Path) (d0 d1 : Disk) → Thins dir d0 d1 → Sweeps dir d0 d1
thins_sweeps dir d0 d1 thins =
    leaves_wider (R dir d0.tree) (Renamed (λ c. Swept dir d0.tree.at c.at) NoNode)
    (renamed_wider (Less dir d0.tree) NoNode (λ c. Swept dir d0.tree.at c.at) NoNode (λ c less. thinned_swept dir d0.tree.at c.at less) (λ m none. none)) d0 d1 thins

gone_swept : (p : Path) (f g : Names) → Gone p f g → Swept p f g
gone_swept p f g is q = elim (dec_path q p) [
  | inl same ↦ inr (ap g same ∙ is.gone, ([], same ∙ sym (append-nil p)))
  | inr not ↦ inl (is.others q not)
]

pub removes_sweeps : (p : Path) (d0 d1 : Disk) → Leaves (Removes p d0.tree) d0 d1 → Sweeps p d0 d1
removes_sweeps p d0 d1 leaves =
    leaves_wider (Removes p d0.tree) (Renamed (λ c. Swept p d0.tree.at c.at) NoNode)
    (renamed_wider (Without p d0.tree) NoNode (λ c. Swept p d0.tree.at c.at) NoNode (λ c gone. gone_swept p d0.tree.at c.at gone) (λ m none. none)) d0 d1 leaves

-- an entry of a directory that holds only files is one
kind_file : (t : Tree) (dir : Path) (e : Entry) → IsEntry t dir e → HoldsFiles dir t → e.kind ≡ File
kind_file t dir e is files = by (files step.0)
  where
    step : (s : List ℕ) × (e.step ≡ s ∷ [])
    step = one_step e.step is.1

    here : t.at (entry dir step.0) ≡ Some is.0
    here = ap (λ (x : Path). t.at (dir ++ x)) (sym step.1) ∙ is.2

    by : IsFree t (entry dir step.0) → e.kind ≡ File
    by (inl none) = absurd (let z : None ≡ Some is.0 = sym none ∙ here in cc)
    by (inr file) =
        let e : Some is.0 ≡ Some file.0 = sym here ∙ file.1 in
        let same : is.0 ≡ file.0 = cc in
        is.3 ∙ ap (λ (n : ℕ). kind_of (t.node n).dir) same ∙ ap kind_of file.2

-- the next entry, while files go
module _ (d0 d : Disk) (dir : Path) (es : List Entry) (listing : IsListing d0.tree dir es) (i : ℕ) (lt : i < length es) (e : Entry) (item : e ≡ get_or es i e) (was : IsEntry d0.tree dir e)
    (thins : Thins dir d0 d) (so_far : Cleared d0.tree d.tree dir es i) where
  pub next_file : HoldsFiles dir d0.tree → IsFileEntry dir d.tree e
  next_file files =
      let now = entry_now d0 d dir es listing i lt e item (thins_sweeps dir d0 d thins) so_far in
      (now.1, entry_file d.tree dir (dir ++ e.step) e now refl (kind_file d0.tree dir e was files))

  pub next_in : IsIn dir (dir ++ e.step)
  next_in = let step = one_step e.step was.1 in (step.0, ap (λ (x : Path). dir ++ x) step.1)
