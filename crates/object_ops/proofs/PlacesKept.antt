-- What is free or a file stays so.
use Rattle.std.proofs.Common.{◌≡◌, ◌≢◌, ◌⊎◌, inl, inr, ⊎_elim, ℕ, ◌<◌, ◌≤◌, false, List, length, refl, sym, ◌∙◌, ap, subst, arith, Some}
use Rattle.std.proofs.lemmas.Bool.{cases_eq, cases_lt}
use Rattle.fs_names.specs.declared.settings.Settings.{Settings}
use Rattle.tree_api.specs.Tree.{Path, Version, Names, Tree, IsFree}
use Rattle.tree_api.specs.Disk.{Disk, Sound, Stays, Leaves}
use Rattle.tree_api.specs.Passing.{Passing}
use Rattle.tree_api.specs.Renaming.{SameNamed, Renamed, NoNode, Without, Removes}
use Rattle.tree_api.proofs.Moments.{Joins, wider, leaves_run}
use Rattle.tree_api.proofs.Nodes.{dec_path, free_along}
use Rattle.tree_api.proofs.Renaming.{moves_by, only_stays}
use Rattle.lfn_index.specs.Changes.{new_file, Making, MakesAt}
use Rattle.lfn_index.specs.Directory.{entry}
use Rattle.lfn_index.specs.Renaming.{Added, BuiltAside, Come}
use Rattle.lfn_index.proofs.Keeping.{new_kind}
use Rattle.object_file.specs.Passing.{FileGoes}
use Rattle.op_effects.specs.Clear.{KeepsFree}

keeps_same : (c : Tree) → KeepsFree c c
keeps_same c q free = free

keeps_joins : Joins KeepsFree
keeps_joins a b c one two q free = two q (one q free)

-- calls that only look
pub free_still : (d0 d1 : Disk) → Sound d0 → Stays d0 d1 → Leaves KeepsFree d0 d1
free_still d0 d1 s0 stays = only_stays KeepsFree keeps_same keeps_joins d0 d1 s0 stays

pub free_then : (d0 d1 d2 : Disk) → Sound d1 → Leaves KeepsFree d0 d1 → Leaves KeepsFree d1 d2 → Leaves KeepsFree d0 d2
free_then d0 d1 d2 s1 one two = leaves_run KeepsFree keeps_same keeps_joins d0 d1 d2 s1 one two

-- ---- a file changes

passing_kind : (n : ℕ) (a b : Version) (x y : Tree) → Passing n a b x y → (m : ℕ) → (y.node m).dir ≡ (x.node m).dir
passing_kind n a b x y is m = elim (cases_eq m n) [
  | inl same ↦ subst (λ (k : ℕ). (y.node k).dir ≡ (x.node k).dir) (sym same) is.dir
  | inr not ↦ ap (λ (v : Version). v.dir) (is.others m not)
]

passing_keeps : (n : ℕ) (a b : Version) (x y : Tree) → Passing n a b x y → KeepsFree x y
passing_keeps n a b x y is q was = free_along q x y (ap (λ (f : Names). f q) is.names) (λ m here. passing_kind n a b x y is m) was

pub free_goes : (p : Path) (R : Version → Version → Type 0) (d0 d1 : Disk) (done : Type 0) → FileGoes p R d0 d1 done → Leaves KeepsFree d0 d1
free_goes p R d0 d1 done goes =
    let from = d0.tree.node goes.n in
    record {
      any_moment = wider (Passing goes.n from goes.to) KeepsFree (λ x y is. passing_keeps goes.n from goes.to x y is) d0 d1 goes.any_moment;
      now = passing_keeps goes.n from goes.to d0.tree d1.tree goes.partly;
    }

-- ---- names change

free_named : (a c : Tree) (q : Path) → SameNamed a c → IsFree a q → IsFree c q
free_named a c q same was = free_along q a c (ap (λ (f : Names). f q) same.at) (λ m here. ap (λ (v : Version). v.dir) (same.nodes q m here)) was

-- to such as leave what is free or a file
module _ (Such : Tree → Type 0) (Own : ℕ → Type 0) (old new : Disk) (sound : Sound old) (leaves : Leaves (Renamed Such Own) old new)
    (free : (a c : Tree) → a.at ≡ old.tree.at → ((m : ℕ) → (Own m → ⊥) → c.node m ≡ a.node m) → Such c → (q : Path) → IsFree a q → IsFree c q) where
  renamed_now : KeepsFree old.tree new.tree
  renamed_now q was =
      ⊎_elim (λ same. free_named old.tree new.tree q same was) (λ such. free old.tree new.tree refl leaves.now.others such q was) leaves.now.names

  renamed_free : Leaves KeepsFree old new
  renamed_free = record {
    any_moment = moves_by Such Own KeepsFree old new sound leaves
        (λ a c may same q was. free_named a c q same was)
        (λ a c may at others such q was. free a c at others such q was);
    now = renamed_now;
  }

free_without : (p : Path) (t a c : Tree) → a.at ≡ t.at → ((m : ℕ) → (NoNode m → ⊥) → c.node m ≡ a.node m) → Without p t c → (q : Path) → IsFree a q → IsFree c q
free_without p t a c at others gone q was = elim (dec_path q p) [
  | inl same ↦ inl (ap c.at same ∙ gone.gone)
  | inr not ↦ free_along q a c (gone.others q not ∙ sym (ap (λ (f : Names). f q) at)) (λ m here. ap (λ (v : Version). v.dir) (others m (λ none. none))) was
]

-- a name goes
pub free_gone : (p : Path) (d0 d1 : Disk) → Sound d0 → Leaves (Removes p d0.tree) d0 d1 → Leaves KeepsFree d0 d1
free_gone p d0 d1 s0 leaves =
    renamed_free (Without p d0.tree) NoNode d0 d1 s0 leaves (λ a c at others gone q was. free_without p d0.tree a c at others gone q was)

-- a new file comes
module _ (set : Settings) (place dir : Path) (text : List ℕ) (d0 d1 : Disk) (making : Making set place dir text d0 d1) where
  kind_new : (new_file text).dir ≡ false
  kind_new = new_kind set d0.tree dir text making.step making.named

  module _ (a c : Tree) (at : a.at ≡ d0.tree.at) (others : (m : ℕ) → (m ≡ making.n → ⊥) → c.node m ≡ a.node m) where
    same_at : (q : Path) → c.at q ≡ d0.tree.at q → c.at q ≡ a.at q
    same_at q is = is ∙ sym (ap (λ (f : Names). f q) at)

    free_off : (q : Path) → q ≢ place → c.at q ≡ d0.tree.at q → IsFree a q → IsFree c q
    free_off q off is was = free_along q a c (same_at q is)
        (λ m here. ap (λ (v : Version). v.dir) (others m (λ same. making.away q off (sym (ap (λ (f : Names). f q) at) ∙ here ∙ ap Some same)))) was

    free_built : BuiltAside place making.n d0.tree c → (q : Path) → IsFree a q → IsFree c q
    free_built built q was = elim (dec_path q place) [
      | inl same ↦ ⊎_elim (λ none. inl (ap c.at same ∙ none)) (λ new. inr (making.n, ap c.at same ∙ new.0, new.1)) built.here
      | inr off ↦ free_off q off (built.others q off) was
    ]

    module _ (added : Added (200 < length text) place (entry dir making.step) making.n d0.tree.at c.at) (holds : c.node making.n ≡ new_file text) where
      kind : (k : ℕ) → (a.node k).dir ≡ false → (c.node k).dir ≡ false
      kind k was = elim (cases_eq k making.n) [
        | inl same ↦ ap (λ (j : ℕ). (c.node j).dir) same ∙ ap (λ (v : Version). v.dir) holds ∙ kind_new
        | inr not ↦ ap (λ (v : Version). v.dir) (others k not) ∙ was
      ]

      free_same : (q : Path) → c.at q ≡ d0.tree.at q → IsFree a q → IsFree c q
      free_same q is (inl none) = inl (same_at q is ∙ none)
      free_same q is (inr file) = inr (file.0, same_at q is ∙ file.1, kind file.0 file.2)

      at_place : (q : Path) → q ≢ entry dir making.step → q ≡ place → (200 < length text) ⊎ (length text ≤ 200) → IsFree a q → IsFree c q
      at_place q off same (inl long) was = inl (ap c.at same ∙ added.aside long)
      at_place q off same (inr short) was = free_same q (added.others q off (λ long. absurd (omega (arith, long, short)))) was

      free_added : (q : Path) → IsFree a q → IsFree c q
      free_added q was = elim (dec_path q (entry dir making.step)) [
        | inl same ↦ inr (making.n, ap c.at same ∙ added.here, ap (λ (v : Version). v.dir) holds ∙ kind_new)
        | inr off ↦ elim (dec_path q place) [
          | inl same ↦ at_place q off same (cases_lt 200 (length text)) was
          | inr not ↦ free_same q (added.others q off (λ long. not)) was
        ]
      ]

    free_come : Come (200 < length text) place (entry dir making.step) making.n (new_file text) d0.tree c → (q : Path) → IsFree a q → IsFree c q
    free_come come q was = ⊎_elim (λ new. free_added new.0 new.1 q was) (λ built. free_built built.1 q was) come

pub free_made : (set : Settings) (place dir : Path) (text : List ℕ) (d0 d1 : Disk) → Sound d0 → MakesAt set place dir text d0 d1 → Leaves KeepsFree d0 d1
free_made set place dir text d0 d1 s0 (inl cleared) =
    renamed_free (λ c. (200 < length text) × Without place d0.tree c) NoNode d0 d1 s0 cleared
    (λ a c at others gone q was. free_without place d0.tree a c at others gone.1 q was)
free_made set place dir text d0 d1 s0 (inr making) =
    renamed_free (Come (200 < length text) place (entry dir making.step) making.n (new_file text) d0.tree) (λ m. m ≡ making.n) d0 d1 s0 making.leaves
    (λ a c at others come q was. free_come set place dir text d0 d1 making a c at others come q was)
