-- Trees that go from the trash.
use Rattle.std.proofs.Common.{◌≡◌, ◌≢◌, ◌⊎◌, inl, inr, ⊎_elim, ℕ, zero, suc, ◌<◌, ◌==◌, Bool, true, false, List, [], ◌∷◌, ◌++◌, length, get_or, refl, sym, ◌∙◌, ap, subst, arith, Option, Some, None}
use Rattle.std.specs.Prelude.{slice_get}
use Rattle.std.proofs.lemmas.Bool.{cases_eq, eqb-true}
use Rattle.std.proofs.lemmas.List.{get_or_default}
use Rattle.fs_names.specs.declared.coll.Coll.{Coll}
use Rattle.fs_names.specs.declared.settings.Settings.{Settings}
use Rattle.fs_names.specs.Reading.{CollFits}
use Rattle.tree_api.specs.Answer.{Before, IsListing, kind_of}
use Rattle.tree_api.specs.Tree.{Path, Tree}
use Rattle.tree_api.specs.Disk.{Disk, Sound, From, Leaves}
use Rattle.tree_api.specs.Renaming.{NoNode}
use Rattle.tree_api.specs.declared.tree.Entry.{Entry}
use Rattle.tree_api.proofs.Moments.{now_from}
use Rattle.lfn_index.specs.Directory.{entry}
use Rattle.lfn_index.specs.Entries.{IsEntry}
use Rattle.lfn_index.proofs.Listings.{listed_entries, single_step}
use Rattle.lfn_index.proofs.Seen.{At, rising_at}
use Rattle.tree_stands.specs.Trees.{dir_of}
use Rattle.op_effects.specs.Ready.{Ready, trash}
use Rattle.coll_ops.specs.Places.{Within}
use Rattle.coll_ops.specs.Changes.{Elsewhere, Swept, Sweeps, AllStay}
use Rattle.coll_ops.specs.Trash.{IsFirst, IsFirstStep, FirstGone}
use Rattle.coll_ops.proofs.Clearing.{one_step, never_root, swept_now}
use Rattle.coll_ops.proofs.Kept.{KeepsAt, named_keeps, coll_stays, all_stay_whole, leaves_by}
use Rattle.coll_ops.proofs.Lasting.{IsOff, such_keeps, elsewhere, lasting_ready}
use Rattle.coll_ops.proofs.Paths.{dir_trash, entry_trash, trash_aside, trash_place, within_below}

module _ (old new : Disk) (s0 : Sound old) (sweeps : Sweeps trash old new) where
  abbrev Such : Tree → Type 0
  Such c = Swept trash old.tree.at c.at

  off : (c : Tree) → Such c → (q : Path) → (Within trash q → ⊥) → c.at q ≡ old.tree.at q
  off c such q not = ⊎_elim (λ same. same) (λ none. absurd (not none.1)) (such q)

  off_trash : (d : Coll) → CollFits d → IsOff (Within trash) d
  off_trash d of_d = record { dir = dir_trash d of_d; entries = entry_trash d of_d }

  each_stays : (set : Settings) (a c : Tree) → ((q : Path) → (Within trash q → ⊥) → KeepsAt a c q) → AllStay set a c
  each_stays set a c keeps d of_d = let is = off_trash d of_d in coll_stays set d a c (keeps (dir_of d) is.dir) (λ s. keeps (entry (dir_of d) s) (is.entries s))

  pub swept_stay : (set : Settings) → Leaves (AllStay set) old new
  swept_stay set = leaves_by Such NoNode (AllStay set) old new s0 sweeps
      (λ a c may same. each_stays set a c (λ q not. named_keeps a c same q))
      (λ a c may at others such. each_stays set a c (λ q not. such_keeps (Within trash) Such old new s0 sweeps off a c at others such q not))

  pub swept_elsewhere : Leaves (Elsewhere (Within trash)) old new
  swept_elsewhere = elsewhere (Within trash) Such old new s0 sweeps off

  pub swept_ready : Sound new → (set : Settings) → Ready set old → Ready set new
  swept_ready s1 set ready =
      lasting_ready (Within trash) Such old new s0 sweeps off s1 (λ d of_d. inr (off_trash d of_d)) set trash_aside trash_place
      (λ c may.
      let root = now_from (From old (AllStay set)) old new s1 (swept_stay set).any_moment c may in
      all_stay_whole set root.0 c root.2 (ready.whole root.0 root.1))
      ready

-- whether a list has an element
pub empty_list : (len n : ℕ) (b : Bool) → b ≡ (len == 0) → b ≡ true → len ≡ n → n ≡ 0
empty_list len n b test is same = sym same ∙ eqb-true len 0 (sym test ∙ is)

pub some_list : (len n : ℕ) (b : Bool) → b ≡ (len == 0) → b ≡ false → len ≡ n → 0 < n
some_list len zero b test off same = absurd (let z : false ≡ true = sym off ∙ test ∙ ap (λ (m : ℕ). m == 0) same in cc)
some_list len (suc n) b test off same = omega arith

-- the first entry of a listing
module _ (t : Tree) (dir : Path) (es : List Entry) (listing : IsListing t dir es) where
  pub none_first : length es ≡ 0 → (s : List ℕ) → t.at (entry dir s) ≡ None
  none_first empty s = one (t.at (entry dir s)) refl
    where
      one : (x : Option ℕ) → t.at (entry dir s) ≡ x → t.at (entry dir s) ≡ None
      one None none = none
      one (Some n) here =
          let held = (listing.entries (record { step = s ∷ []; kind = kind_of (t.node n).dir })).1 (n, refl, here, refl) in
          absurd (omega (arith, held.1, empty))

  module _ (some : 0 < length es) (e : Entry) (item : e ≡ get_or es 0 e) where
    is_entry : IsEntry t dir e
    is_entry = subst (IsEntry t dir) (sym item) (listed_entries t dir es listing 0 e some)

    step : (s : List ℕ) × (e.step ≡ s ∷ [])
    step = one_step e.step is_entry.1

    at_first : At es 0 step.0
    at_first = (some, λ x. ap (λ (y : Entry). y.step) (get_or_default es 0 x e some ∙ sym item) ∙ step.1)

    here : t.at (entry dir step.0) ≡ Some is_entry.0
    here = ap (λ (x : Path). t.at (dir ++ x)) (sym step.1) ∙ is_entry.2

    later : (x : List ℕ) (k : ℕ) → At es k x → (k ≡ 0) ⊎ (k ≢ 0) → (x ≡ step.0) ⊎ Before step.0 x
    later x k at (inl same) =
        let first : At es 0 x = subst (λ (m : ℕ). At es m x) same at in
        let z : x ∷ [] ≡ step.0 ∷ [] = sym (first.1 e) ∙ at_first.1 e in
        let one : x ≡ step.0 = cc in
        inl one
    later x k at (inr not) = inr (rising_at es listing.steps listing.have listing.rising 0 k step.0 x (omega (arith, not)) at_first at)

    each : (x : List ℕ) (o : Option ℕ) → t.at (entry dir x) ≡ o → t.at (entry dir x) ≢ None → (x ≡ step.0) ⊎ Before step.0 x
    each x None none there = absurd (there none)
    each x (Some n) at there =
        let y : Entry = record { step = x ∷ []; kind = kind_of (t.node n).dir } in
        let held = (listing.entries y).1 (n, refl, at, refl) in
        later x held.0 (held.1, λ d. ap (λ (z : Entry). z.step) (get_or_default es held.0 d y held.1 ∙ held.2)) (cases_eq held.0 0)

    first_step : IsFirstStep t dir step.0
    first_step = record {
      there = λ none. let z : None ≡ Some is_entry.0 = sym none ∙ here in cc;
      first = λ x there. each x (t.at (entry dir x)) refl there;
    }

    pub one_step_long : length e.step ≡ 1
    one_step_long = is_entry.1

    pub is_first : (p : Path) (s : List ℕ) → length e.step ≡ 1 → slice_get e.step 0 ≡ Some s → p ≡ dir ++ s ∷ [] → IsFirst t dir (Some p)
    is_first p s one first path =
        let z : s ∷ [] ≡ step.0 ∷ [] = sym (single_step e.step s one first) ∙ step.1 in
        let same : s ≡ step.0 = cc in
        (step.0, path ∙ ap (λ (x : List ℕ). entry dir x) same, first_step)

-- it goes
module _ (dir p : Path) (d0 d1 d2 : Disk) (first : IsFirst d0.tree dir (Some p)) (same : d1.tree ≡ d0.tree) where
  pub first_within : (q : Path) → Within p q → Within dir q
  first_within q w = within_below dir (first.0 ∷ []) q (w.0, w.1 ∙ ap (λ (x : Path). x ++ w.0) first.1)

  pub first_named : p ≢ []
  first_named root = never_root dir p first.0 first.1 root

  pub first_goes : Sweeps p d1 d2 → d2.tree.at p ≡ None → FirstGone dir d0.tree d2.tree
  first_goes sweeps gone = record {
    step = first.0;
    first = first.2;
    gone = ap d2.tree.at (sym first.1) ∙ gone;
    others = λ q off.
        ⊎_elim
        (λ kept. kept ∙ ap (λ (x : Tree). x.at q) same)
        (λ none. absurd (off (none.1.0, none.1.1 ∙ ap (λ (x : Path). x ++ none.1.0) first.1)))
        (swept_now p d1 d2 sweeps q);
  }
