-- What a loop over a directory's entries has found.
use Rattle.std.proofs.Common.{◌≡◌, ◌≢◌, inl, inr, ℕ, ◌+◌, ◌<◌, ◌≤◌, true, false, List, [], ◌∷◌, ◌++◌, length, get_or, refl, sym, ◌∙◌, ap, subst, arith, Option, Some, None}
use Rattle.std.proofs.lemmas.Bool.{cases_eq}
use Rattle.std.proofs.lemmas.List.{get_or_default}
use Rattle.tree_api.specs.Answer.{IsListing, kind_of}
use Rattle.tree_api.specs.Tree.{Path, Tree, IsFile, IsDir, IsFree}
use Rattle.tree_api.specs.declared.tree.Entry.{Entry}
use Rattle.tree_api.specs.declared.tree.Kind.{Kind}
use Rattle.tree_api.specs.declared.tree.Kind.TheVariants.{File, Dir}
use Rattle.lfn_index.specs.Directory.{entry}
use Rattle.lfn_index.specs.Entries.{IsEntry}
use Rattle.lfn_index.proofs.Listings.{listed_entries}
use Rattle.lfn_index.proofs.Seen.{At}
use Rattle.coll_ops.specs.Places.{IsThere}
use Rattle.coll_ops.proofs.Clearing.{one_step, entry_file, entry_dir}
use Rattle.store_walk.specs.Walked.{HoldsFiles}

-- a directory is neither free nor a file
pub dir_not_free : (t : Tree) (p : Path) → IsDir t p → IsFree t p → ⊥
dir_not_free t p dir (inl none) = let z : None ≡ Some dir.0 = sym none ∙ dir.1 in cc
dir_not_free t p dir (inr file) =
    let e : Some file.0 ≡ Some dir.0 = sym file.1 ∙ dir.1 in
    let same : file.0 ≡ dir.0 = cc in
    let z : false ≡ true = sym file.2 ∙ ap (λ (n : ℕ). (t.node n).dir) same ∙ dir.2 in
    cc

-- what stands at an entry's path is of its kind
pub entry_kind : (t : Tree) (dir p : Path) (e : Entry) → IsEntry t dir e → p ≡ dir ++ e.step → IsThere t p (Some e.kind)
entry_kind t dir p e is path = by e.kind refl
  where
    by : (k : Kind) → e.kind ≡ k → IsThere t p (Some k)
    by File file = entry_file t dir p e is path file
    by Dir at = entry_dir t dir p e is path at

-- each of the first i entries that has one step is a file
abbrev pub AreFiles : List Entry → ℕ → Type 0
AreFiles es i = (k : ℕ) (x : Entry) → k < i → length (get_or es k x).step ≡ 1 → (get_or es k x).kind ≡ File

pub files_none : (es : List Entry) → AreFiles es 0
files_none es k x lt = absurd (omega (arith, lt))

pub files_more : (es : List Entry) (i : ℕ) → i < length es → (e : Entry) → e ≡ get_or es i e → AreFiles es i → (length e.step ≡ 1 → e.kind ≡ File) → AreFiles es (i + 1)
files_more es i lt e item so_far this k x before one = elim (cases_eq k i) [
  | inl same ↦
      let it : get_or es k x ≡ e = ap (λ (m : ℕ). get_or es m x) same ∙ get_or_default es i x e lt ∙ sym item in
      ap (λ (y : Entry). y.kind) it ∙ this (ap (λ (y : Entry). length y.step) (sym it) ∙ one)
  | inr not ↦ so_far k x (omega (arith, before, not)) one
]

-- this holds of the steps of the first i entries
abbrev pub Looked : (List ℕ → Type 0) → List Entry → ℕ → Type 0
Looked Q es i = (k : ℕ) (step : List ℕ) → k < i → At es k step → Q step

pub looked_none : (Q : List ℕ → Type 0) (es : List Entry) → Looked Q es 0
looked_none Q es k step lt at = absurd (omega (arith, lt))

module _ (t : Tree) (dir : Path) (es : List Entry) (listing : IsListing t dir es) where
  -- one entry
  module _ (i : ℕ) (lt : i < length es) (e : Entry) (item : e ≡ get_or es i e) where
    pub item_entry : IsEntry t dir e
    item_entry = subst (IsEntry t dir) (sym item) (listed_entries t dir es listing i e lt)

    pub item_step : (step : List ℕ) × (e.step ≡ step ∷ [])
    item_step = one_step e.step item_entry.1

    pub item_there : (step : List ℕ) → e.step ≡ step ∷ [] → t.at (entry dir step) ≢ None
    item_there step is none =
        let z : None ≡ Some item_entry.0 = sym none ∙ ap (λ (x : Path). t.at (dir ++ x)) (sym is) ∙ item_entry.2 in
        cc

    pub item_file : e.kind ≡ File → (step : List ℕ) → e.step ≡ step ∷ [] → IsFile t (entry dir step)
    item_file file step is = entry_file t dir (entry dir step) e item_entry (ap (λ (x : Path). dir ++ x) (sym is)) file

    pub item_dir : e.kind ≡ Dir → HoldsFiles dir t → ⊥
    item_dir is files =
        dir_not_free t (entry dir item_step.0) (entry_dir t dir (entry dir item_step.0) e item_entry (ap (λ (x : Path). dir ++ x) (sym item_step.1)) is)
        (files item_step.0)

    pub looked_more : (Q : List ℕ → Type 0) → Looked Q es i → ((step : List ℕ) → e.step ≡ step ∷ [] → Q step) → Looked Q es (i + 1)
    looked_more Q so_far this k step before at = elim (cases_eq k i) [
      | inl same ↦
          let here : At es i step = subst (λ (m : ℕ). At es m step) same at in
          this step (ap (λ (x : Entry). x.step) item ∙ here.1 e)
      | inr not ↦ so_far k step (omega (arith, before, not)) at
    ]

  -- once all entries were looked at
  pub looked_all : (Q : List ℕ → Type 0) (i : ℕ) → length es ≤ i → Looked Q es i → (step : List ℕ) → t.at (entry dir step) ≢ None → Q step
  looked_all Q i all so_far step there = by (t.at (entry dir step)) refl
    where
      by : (o : Option ℕ) → t.at (entry dir step) ≡ o → Q step
      by None none = absurd (there none)
      by (Some n) here =
          let e : Entry = record { step = step ∷ []; kind = kind_of (t.node n).dir } in
          let held = (listing.entries e).1 (n, refl, here, refl) in
          so_far held.0 step (omega (arith, held.1, all)) (held.1, λ x. ap (λ (y : Entry). y.step) (get_or_default es held.0 x e held.1 ∙ held.2))

  pub files_looked : (i : ℕ) → AreFiles es i → Looked (λ step. IsFile t (entry dir step)) es i
  files_looked i are k step before at =
      let x : Entry = record { step = []; kind = File } in
      let is = listed_entries t dir es listing k x at.0 in
      entry_file t dir (entry dir step) (get_or es k x) is (ap (λ (s : Path). dir ++ s) (sym (at.1 x))) (are k x before is.1)

  pub files_hold : (i : ℕ) → length es ≤ i → Looked (λ step. IsFile t (entry dir step)) es i → HoldsFiles dir t
  files_hold i all so_far step = by (t.at (entry dir step)) refl
    where
      by : (o : Option ℕ) → t.at (entry dir step) ≡ o → IsFree t (entry dir step)
      by None none = inl none
      by (Some n) here = inr (looked_all (λ s. IsFile t (entry dir s)) i all so_far step (λ none. let z : None ≡ Some n = sym none ∙ here in cc))
