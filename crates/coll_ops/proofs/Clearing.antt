-- Names that go with all below them, one run of calls after another.
use Rattle.std.proofs.Common.{◌≡◌, ◌≢◌, inl, inr, ⊎_elim, ℕ, suc, ◌+◌, ◌<◌, ◌≤◌, Bool, true, false, List, [], ◌∷◌, ◌++◌, length, get_or, refl, sym, ◌∙◌, ap, subst, arith, Option, Some, None, append_assoc}
use Rattle.std.specs.Prelude.{Result, Ok, slice_get}
use Rattle.std.proofs.lemmas.Bool.{cases_eq}
use Rattle.std.proofs.lemmas.List.{length-append, append-nil, append_cancel_left, get_or_default}
use Rattle.tree_api.specs.Answer.{Before, IsListing, kind_of}
use Rattle.tree_api.specs.Tree.{Path, Version, Names, Tree, IsFile, IsDir, IsEmptyDir, HasParent, Gone, MovedDir}
use Rattle.tree_api.specs.Disk.{Disk, Sound, Stays, NameChange}
use Rattle.tree_api.specs.Renaming.{Renamed, NoNode}
use Rattle.tree_api.specs.declared.tree.Entry.{Entry}
use Rattle.tree_api.specs.declared.tree.Kind.TheVariants.{File, Dir}
use Rattle.tree_api.specs.declared.tree.TreeError.{TreeError}
use Rattle.tree_api.proofs.Moments.{Joins, leaves_none, leaves_step, leaves_more, leaves_run, leaves_wider}
use Rattle.tree_api.proofs.Nodes.{dec_path}
use Rattle.tree_api.proofs.Renaming.{IsKept, renamed_same, renamed_joins, renamed_wider, renames}
use Rattle.lfn_index.specs.Directory.{entry}
use Rattle.lfn_index.specs.Entries.{IsEntry}
use Rattle.lfn_index.proofs.Listings.{listed_entries, single_step}
use Rattle.lfn_index.proofs.Seen.{At, rising_at, never_before}
use Rattle.coll_ops.specs.Places.{Within}
use Rattle.coll_ops.specs.Changes.{Swept, Sweeps, Thrown, Throws, Faults}
use Rattle.coll_ops.proofs.Paths.{within_below, within_itself}

module _ (p : Path) (t : Tree) where
  abbrev Less : Tree → Type 0
  Less c = Swept p t.at c.at

  abbrev R : Tree → Tree → Type 0
  R = Renamed Less NoNode

  less_kept : IsKept Less
  less_kept b c is same = subst (λ (f : Names). Swept p t.at f) (sym same.at) is

  sweep_same : (c : Tree) → R c c
  sweep_same = renamed_same Less NoNode

  sweep_joins : Joins R
  sweep_joins = renamed_joins Less NoNode less_kept

pub stays_sweeps : (p : Path) (d0 d1 : Disk) → Sound d0 → Stays d0 d1 → Sweeps p d0 d1
stays_sweeps p d0 d1 s0 stays = leaves_none (R p d0.tree) (sweep_same p d0.tree) (sweep_joins p d0.tree) d0 d1 s0 stays

-- one name goes
gone_swept : (p : Path) (old new : Names) → Gone p old new → Swept p old new
gone_swept p old new is q = ⊎_elim (λ same. inr (ap new same ∙ is.gone, ([], same ∙ sym (append-nil p)))) (λ not. inl (is.others q not)) (dec_path q p)

pub gone_sweeps : {T : Type 0} (p : Path) (d0 d1 : Disk) (r : Result T TreeError) → Sound d0 → NameChange (Gone p) d0 d1 r → Sweeps p d0 d1
gone_sweeps p d0 d1 r s0 change =
    leaves_step (R p d0.tree) (sweep_same p d0.tree) (sweep_joins p d0.tree) d0 d1 s0
    (renames (Less p d0.tree) NoNode d0 d1 s0 change.at (λ d c may at nodes. subst (λ (f : Names). Swept p d0.tree.at f) (sym at) (gone_swept p d0.tree.at change.at change.is)) change.step change.partly)

pub name_gone : {T : Type 0} (p r : Path) (d0 d1 : Disk) (v : T) → NameChange {T = T} (Gone p) d0 d1 (Ok v) → p ≡ r → d1.tree.at r ≡ None
name_gone p r d0 d1 v change same = subst (λ (q : Path). d1.tree.at q ≡ None) same (ap (λ (x : Tree). x.at p) change.ok ∙ change.is.gone)

-- what reads after a run
pub swept_now : (p : Path) (d0 d1 : Disk) → Sweeps p d0 d1 → Swept p d0.tree.at d1.tree.at
swept_now p d0 d1 sweeps q = ⊎_elim (λ same. inl (ap (λ (f : Names). f q) same.at)) (λ less. less q) sweeps.now.names

swept_then : (p r : Path) (f g h : Names) → ((q : Path) → Within r q → Within p q) → Swept p f g → Swept r g h → Swept p f h
swept_then p r f g h below one two q =
    ⊎_elim (λ same. ⊎_elim (λ was. inl (same ∙ was)) (λ none. inr (same ∙ none.0, none.1)) (one q)) (λ none. inr (none.0, below q none.1)) (two q)

-- one run, and then one at a path below
pub sweeps_then : (p r : Path) (d0 d1 d2 : Disk) → Sound d1 → ((q : Path) → Within r q → Within p q) → Sweeps p d0 d1 → Sweeps r d1 d2 → Sweeps p d0 d2
sweeps_then p r d0 d1 d2 s1 below one two =
    leaves_run (R p d0.tree) (sweep_same p d0.tree) (sweep_joins p d0.tree) d0 d1 d2 s1 one
    (leaves_wider (R r d1.tree) (R p d0.tree)
    (renamed_wider (Less r d1.tree) NoNode (Less p d0.tree) NoNode (λ c less. swept_then p r d0.tree.at d1.tree.at c.at below (swept_now p d0 d1 one) less) (λ m none. none))
    d1 d2 two)

-- a listing's first i entries are gone, and all others stand
pub record Cleared (t0 t : Tree) (dir : Path) (es : List Entry) (i : ℕ) : Type 0 where
  pub top : t.at dir ≡ t0.at dir
  pub gone : (k : ℕ) (s : List ℕ) → k < i → At es k s → t.at (entry dir s) ≡ None
  pub rest : (k : ℕ) (s : List ℕ) → i ≤ k → At es k s → t.at (entry dir s) ≡ t0.at (entry dir s)

pub cleared_none : (t0 t : Tree) (dir : Path) (es : List Entry) → t ≡ t0 → Cleared t0 t dir es 0
cleared_none t0 t dir es same = record {
  top = ap (λ (x : Tree). x.at dir) same;
  gone = λ k s lt. absurd (omega (arith, lt));
  rest = λ k s le here. ap (λ (x : Tree). x.at (entry dir s)) same;
}

pub one_step : (p : Path) → length p ≡ 1 → (s : List ℕ) × (p ≡ s ∷ [])
one_step [] one = absurd (omega (arith, one))
one_step (x ∷ []) one = (x, refl)
one_step (x ∷ y ∷ zs) one = absurd (let e : suc (suc (length zs)) ≡ 1 = one in omega (arith, e))

too_long : (dir x rest : Path) → length x ≡ 1 → dir ≢ (dir ++ x) ++ rest
too_long dir x rest one same =
    let e : length dir ≡ length dir + length x + length rest = ap length same ∙ length-append (dir ++ x) rest ∙ ap (λ (k : ℕ). k + length rest) (length-append dir x) in
    absurd (omega (arith, e, one))

first_step : (dir : Path) (x s : List ℕ) (rest : Path) → entry dir s ≡ (dir ++ x ∷ []) ++ rest → s ≡ x
first_step dir x s rest same =
    let tails : s ∷ [] ≡ x ∷ rest = append_cancel_left dir (s ∷ []) (x ∷ rest) (same ∙ append_assoc dir (x ∷ []) rest) in
    cc

-- one entry more
module _ (d0 d : Disk) (dir : Path) (es : List Entry) (listing : IsListing d0.tree dir es) (i : ℕ) (lt : i < length es) (e : Entry) (item : e ≡ get_or es i e)
    (sweeps : Sweeps dir d0 d) (so_far : Cleared d0.tree d.tree dir es i) where
  was_entry : IsEntry d0.tree dir e
  was_entry = subst (IsEntry d0.tree dir) (sym item) (listed_entries d0.tree dir es listing i e lt)

  step : (s : List ℕ) × (e.step ≡ s ∷ [])
  step = one_step e.step was_entry.1

  at_item : At es i step.0
  at_item = (lt, λ x. ap (λ (y : Entry). y.step) (get_or_default es i x e lt ∙ sym item) ∙ step.1)

  pub entry_now : IsEntry d.tree dir e
  entry_now = (
    was_entry.0,
    was_entry.1,
    ap (λ (x : Path). d.tree.at (dir ++ x)) step.1 ∙ so_far.rest i step.0 (omega arith) at_item ∙ ap (λ (x : Path). d0.tree.at (dir ++ x)) (sym step.1) ∙ was_entry.2,
    was_entry.3 ∙ ap (λ (v : Version). kind_of v.dir) (sym (sweeps.now.others was_entry.0 (λ none. none))),
  )

  module _ (d2 : Disk) (more : Sweeps (dir ++ e.step) d d2) (gone : d2.tree.at (dir ++ e.step) ≡ None) where
    less : Swept (dir ++ e.step) d.tree.at d2.tree.at
    less = swept_now (dir ++ e.step) d d2 more

    same_step : (s : List ℕ) → At es i s → s ≡ step.0
    same_step s at = let z : s ∷ [] ≡ step.0 ∷ [] = sym (at.1 e) ∙ at_item.1 e in cc

    not_it : (k : ℕ) (s : List ℕ) → i < k → At es k s → Within (dir ++ e.step) (entry dir s) → ⊥
    not_it k s after at is =
        let same : s ≡ step.0 = first_step dir step.0 s is.0 (is.1 ∙ ap (λ (x : Path). (dir ++ x) ++ is.0) step.1) in
        never_before step.0 (subst (λ (x : List ℕ). Before step.0 x) same (rising_at es listing.steps listing.have listing.rising i k step.0 s after at_item at))

    gone_at : (k : ℕ) (s : List ℕ) → k < i + 1 → At es k s → d2.tree.at (entry dir s) ≡ None
    gone_at k s before at = elim (cases_eq k i) [
      | inl same ↦ ap (λ (x : List ℕ). d2.tree.at (entry dir x)) (same_step s (subst (λ (m : ℕ). At es m s) same at)) ∙ ap (λ (x : Path). d2.tree.at (dir ++ x)) (sym step.1) ∙ gone
      | inr not ↦ ⊎_elim (λ same. same ∙ so_far.gone k s (omega (arith, before, not)) at) (λ none. none.0) (less (entry dir s))
    ]

    pub cleared_more : Cleared d0.tree d2.tree dir es (i + 1)
    cleared_more = record {
      top = ⊎_elim (λ same. same ∙ so_far.top) (λ none. absurd (too_long dir e.step none.1.0 was_entry.1 none.1.1)) (less dir);
      gone = gone_at;
      rest = λ k s le at. ⊎_elim (λ same. same ∙ so_far.rest k s (omega (arith, le)) at) (λ none. absurd (not_it k s (omega (arith, le)) at none.1)) (less (entry dir s));
    }

    pub sweeps_more : Sound d → Sweeps dir d0 d2
    sweeps_more s1 = sweeps_then dir (dir ++ e.step) d0 d d2 s1 (λ q w. within_below dir e.step q w) sweeps more

-- the path of an entry
module _ (t : Tree) (dir p : Path) (e : Entry) (is : IsEntry t dir e) (path : p ≡ dir ++ e.step) where
  pub entry_file : e.kind ≡ File → IsFile t p
  entry_file file = (is.0, ap t.at path ∙ is.2, by (t.node is.0).dir (sym is.3 ∙ file))
    where
      by : (b : Bool) → kind_of b ≡ File → b ≡ false
      by true same = cc
      by false same = refl

  pub entry_dir : e.kind ≡ Dir → IsDir t p
  entry_dir is_dir = (is.0, ap t.at path ∙ is.2, by (t.node is.0).dir (sym is.3 ∙ is_dir))
    where
      by : (b : Bool) → kind_of b ≡ Dir → b ≡ true
      by true same = refl
      by false same = cc

pub entry_path : (dir p s : Path) (x : List ℕ) → length s ≡ 1 → slice_get s 0 ≡ Some x → p ≡ dir ++ x ∷ [] → p ≡ dir ++ s
entry_path dir p s x one first path = path ∙ ap (λ (y : Path). dir ++ y) (sym (single_step s x one first))

pub never_root : (dir p : Path) (x : List ℕ) → p ≡ dir ++ x ∷ [] → p ≢ []
never_root dir p x path root =
    let e : length dir + 1 ≡ 0 = sym (length-append dir (x ∷ [])) ∙ ap length (sym path ∙ root) in
    absurd (omega (arith, e))

-- what is counted
pub faults_then : (R S : Type 0) (d0 d1 d2 : Disk) → Faults R d0 d1 → Faults S d1 d2 → Faults ⊥ d0 d2
faults_then R S d0 d1 d2 one two = record {
  faults = omega (arith, one.faults, two.faults);
  cause = λ no. absurd no;
  looks = omega (arith, one.looks, two.looks);
  syncs = two.syncs ∙ one.syncs;
  checkpoints = two.checkpoints ∙ one.checkpoints;
}

-- once all are gone
pub cleared_all : (d0 d : Disk) (dir : Path) (es : List Entry) (i : ℕ) → IsListing d0.tree dir es → IsDir d0.tree dir → Sweeps dir d0 d → Cleared d0.tree d.tree dir es i → length es ≤ i → IsEmptyDir d.tree dir
cleared_all d0 d dir es i listing is sweeps so_far all = (
  (is.0, so_far.top ∙ is.1, ap (λ (v : Version). v.dir) (sweeps.now.others is.0 (λ none. none)) ∙ is.2),
  λ s. one s (d.tree.at (entry dir s)) refl,
)
  where
    was : (s : List ℕ) (n : ℕ) → d.tree.at (entry dir s) ≡ Some n → d0.tree.at (entry dir s) ≡ Some n
    was s n here = ⊎_elim (λ same. sym same ∙ here) (λ none. absurd (no (sym none.0 ∙ here))) (swept_now dir d0 d sweeps (entry dir s))
      where
        no : None ≡ Some n → ⊥
        no e = cc

    one : (s : List ℕ) (x : Option ℕ) → d.tree.at (entry dir s) ≡ x → d.tree.at (entry dir s) ≡ None
    one s None none = none
    one s (Some n) here =
        let e : Entry = record { step = s ∷ []; kind = kind_of (d0.tree.node n).dir } in
        let held = (listing.entries e).1 (n, refl, was s n here, refl) in
        so_far.gone held.0 s (omega (arith, held.1, all)) (held.1, λ x. ap (λ (y : Entry). y.step) (get_or_default es held.0 x e held.1 ∙ held.2))

pub dir_there : (t : Tree) (p : Path) → IsDir t p → t.at p ≢ None
dir_there t p is none = let z : None ≡ Some is.0 = sym none ∙ is.1 in cc

-- a directory that is renamed, once the place is clear
module _ (from to : Path) (apart : (q : Path) → Within from q → Within to q → ⊥) where
  abbrev Went : Names → Tree → Type 0
  Went f c = Thrown from to f c.at

  went_kept : (f : Names) → IsKept (Went f)
  went_kept f b c is same = subst (λ (g : Names). Thrown from to f g) (sym same.at) is

  swept_thrown : (f g : Names) → Swept to f g → Thrown from to f g
  swept_thrown f g less = record {
    off = λ q not_from not_to. ⊎_elim (λ same. same) (λ none. absurd (not_to none.1)) (less q);
    here = inl (λ q within. ⊎_elim (λ same. same) (λ none. absurd (apart q within none.1)) (less q));
    place = λ rest. ⊎_elim (λ same. inr (inl same)) (λ none. inl none.0) (less (to ++ rest));
  }

  pub stays_throws : (d0 d1 : Disk) → Sound d0 → Stays d0 d1 → Throws from to d0 d1
  stays_throws d0 d1 s0 stays =
      leaves_none (Renamed (Went d0.tree.at) NoNode) (renamed_same (Went d0.tree.at) NoNode) (renamed_joins (Went d0.tree.at) NoNode (went_kept d0.tree.at)) d0 d1 s0 stays

  module _ (d0 d1 : Disk) (sweeps : Sweeps to d0 d1) where
    pub sweeps_throws : Throws from to d0 d1
    sweeps_throws = leaves_wider (R to d0.tree) (Renamed (Went d0.tree.at) NoNode)
        (renamed_wider (Less to d0.tree) NoNode (Went d0.tree.at) NoNode (λ c less. swept_thrown d0.tree.at c.at less) (λ m none. none)) d0 d1 sweeps

    stays_off : (q : Path) → (Within to q → ⊥) → d1.tree.at q ≡ d0.tree.at q
    stays_off q not = ⊎_elim (λ same. same) (λ none. absurd (not none.1)) (swept_now to d0 d1 sweeps q)

    pub dir_off : (q : Path) → (Within to q → ⊥) → IsDir d0.tree q → IsDir d1.tree q
    dir_off q not is = (is.0, stays_off q not ∙ is.1, ap (λ (v : Version). v.dir) (sweeps.now.others is.0 (λ none. none)) ∙ is.2)

    pub from_off : Within to from → ⊥
    from_off is = apart from (within_itself from) is

    pub parent_off : HasParent d0.tree to → HasParent d1.tree to
    parent_off parent = (parent.0, parent.1, parent.2, dir_off parent.0 not parent.3)
      where
        not : Within to parent.0 → ⊥
        not is = too_long parent.0 (parent.1 ∷ []) is.0 refl (is.1 ∙ ap (λ (x : Path). x ++ is.0) parent.2)

    module _ {T : Type 0} (d2 : Disk) (s1 : Sound d1) (r : Result T TreeError) (change : NameChange (MovedDir from to) d1 d2 r) where
      went : Thrown from to d0.tree.at change.at
      went = record {
        off = λ q not_from not_to. change.is.others q (λ rest same. not_from (rest, same)) (λ rest same. not_to (rest, same)) ∙ stays_off q not_to;
        here = inr (λ q within. ap change.at within.1 ∙ change.is.gone within.0);
        place = λ rest. inr (inr (change.is.moved rest ∙ stays_off (from ++ rest) (λ is. apart (from ++ rest) (rest, refl) is)));
      }

      pub renamed_throws : Throws from to d0 d2
      renamed_throws =
          leaves_more (Renamed (Went d0.tree.at) NoNode) (renamed_same (Went d0.tree.at) NoNode) (renamed_joins (Went d0.tree.at) NoNode (went_kept d0.tree.at)) d0 d1 d2 s1 sweeps_throws
          (renames (Went d0.tree.at) NoNode d1 d2 s1 change.at (λ d c may at nodes. subst (λ (g : Names). Thrown from to d0.tree.at g) (sym at) went) change.step change.partly)

      pub renamed_gone : change.at from ≡ None
      renamed_gone = ap change.at (sym (append-nil from)) ∙ change.is.gone []

      pub renamed_there : IsDir d1.tree from → change.at to ≢ None
      renamed_there is none =
          dir_there d1.tree from is (ap d1.tree.at (sym (append-nil from)) ∙ sym (change.is.moved []) ∙ ap change.at (append-nil to) ∙ none)
