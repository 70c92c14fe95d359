-- Nodes of files stand at one path in all images.
use Rattle.std.proofs.Common.{◌≡◌, ◌≢◌, ◌⊎◌, inl, inr, ⊎_elim, ℕ, ◌<◌, List, length, sym, ◌∙◌, ap, subst, Some}
use Rattle.std.proofs.lemmas.Bool.{cases_eq}
use Rattle.fs_names.specs.declared.settings.Settings.{Settings}
use Rattle.tree_api.specs.Tree.{Path, Version, Names, Tree}
use Rattle.tree_api.specs.Disk.{Disk, Sound, From, Leaves}
use Rattle.tree_api.proofs.Moments.{now_from}
use Rattle.lfn_index.specs.Directory.{lfn_name, entry}
use Rattle.lfn_index.specs.Changes.{MadeAt, aside, new_file}
use Rattle.lfn_index.specs.Maps.{Level, LevelBut, KeepsLevel, KeepsAttrs, IsAside}
use Rattle.lfn_index.specs.Renaming.{Makes}
use Rattle.tree_api.specs.Renaming.{Removes}
use Rattle.lfn_index.proofs.Keeping.{off_aside}
use Rattle.lfn_index.proofs.Renamings.{come_back, added_back, without_back}

module _ (set : Settings) (name : List ℕ) (dir : Path) (text : List ℕ) (old new : Disk) (s0 : Sound old) (s1 : Sound new) (p : Path) (made : MadeAt set (entry aside name) dir text old new p) where
  abbrev place : Path
  place = entry aside name

  abbrev n : ℕ
  n = made.making.n

  abbrev R : Tree → Tree → Type 0
  R = Makes (200 < length text) place (entry dir made.making.step) n (new_file text) old.tree

  origin : (c : Tree) → new.may c → From old R c
  origin c may = now_from (From old R) old new s1 made.making.leaves.any_moment c may

  was : (d : Path) (s : List ℕ) (k : ℕ) → k ≢ n → new.tree.at (entry d s) ≡ Some k → old.tree.at (entry d s) ≡ Some k
  was d s k not here = added_back place n old.tree new.tree (200 < length text) p made.names (entry d s) k not here

  pub made_attrs : KeepsAttrs old new
  made_attrs key d other level c s k may here = elim (cases_eq k n) [
    | inl same ↦ ap (λ (v : Version). v.attr key) (ap c.node same ∙ made.stable c may ∙ sym (made.stable new.tree s1.now) ∙ sym (ap new.tree.node same))
    | inr not ↦
        let from = origin c may in
        ap (λ (v : Version). v.attr key) (from.2.others k not) ∙ level from.0 s k from.1 (was d s k not here) ∙ sym (ap (λ (v : Version). v.attr key) (made.making.leaves.now.others k not))
  ]

  pub made_level : KeepsLevel old new
  made_level d other level = record {
    alone = λ c s q k may here there. alone c s q k may here there (cases_eq k n);
    called = λ c s k may here. made_attrs lfn_name d other level.called c s k may here;
  }
    where
      alone : (c : Tree) (s : List ℕ) (q : Path) (k : ℕ) → new.may c → new.tree.at (entry d s) ≡ Some k → c.at q ≡ Some k → (k ≡ n) ⊎ (k ≡ n → ⊥) → (q ≡ entry d s) ⊎ IsAside q
      alone c s q k may here there (inl same) =
          let reads : entry d s ≡ p = ⊎_elim (λ at. at) (λ beside. absurd (off_aside name d other s beside.1)) (made.alone new.tree (entry d s) s1.now (here ∙ ap Some same)) in
          ⊎_elim (λ at. inl (at ∙ sym reads)) (λ beside. inr (name, beside.1)) (made.alone c q may (there ∙ ap Some same))
      alone c s q k may here there (inr not) =
          let from = origin c may in
          ⊎_elim
          (λ same. level.alone from.0 s q k from.1 (was d s k not here) (sym (ap (λ (f : Names). f q) same.at) ∙ there))
          (λ such. level.alone old.tree s q k s0.now (was d s k not here) (come_back (200 < length text) place (entry dir made.making.step) n (new_file text) old.tree c such q k not there))
          from.2.names

-- a name goes
module _ (p : Path) (old new : Disk) (s0 : Sound old) (s1 : Sound new) (leaves : Leaves (Removes p old.tree) old new) where
  was_there : (d : Path) (s : List ℕ) (k : ℕ) → new.tree.at (entry d s) ≡ Some k → old.tree.at (entry d s) ≡ Some k
  was_there d s k here = ⊎_elim (λ same. sym (ap (λ (f : Names). f (entry d s)) same.at) ∙ here) (λ gone. without_back p old.tree new.tree gone (entry d s) k here) leaves.now.names

  came : (c : Tree) → new.may c → From old (Removes p old.tree) c
  came c may = now_from (From old (Removes p old.tree)) old new s1 leaves.any_moment c may

  pub removed_attrs : KeepsAttrs old new
  removed_attrs key d other level c s k may here =
      let from = came c may in
      ap (λ (v : Version). v.attr key) (from.2.others k (λ none. none)) ∙ level from.0 s k from.1 (was_there d s k here)
      ∙ sym (ap (λ (v : Version). v.attr key) (leaves.now.others k (λ none. none)))

  pub removed_level : KeepsLevel old new
  removed_level d other level = record {
    alone = λ c s q k may here there.
        let from = came c may in
        ⊎_elim
        (λ same. level.alone from.0 s q k from.1 (was_there d s k here) (sym (ap (λ (f : Names). f q) same.at) ∙ there))
        (λ gone. level.alone old.tree s q k s0.now (was_there d s k here) (without_back p old.tree c gone q k there))
        from.2.names;
    called = λ c s k may here. removed_attrs lfn_name d other level.called c s k may here;
  }

-- once names are synced, each node stands at one path in all images
pub level_synced : (dir : Path) (d : Disk) → Sound d → ((c : Tree) → d.may c → c.at ≡ d.tree.at)
    → ((c : Tree) (step : List ℕ) (n : ℕ) → d.may c → d.tree.at (entry dir step) ≡ Some n → (c.node n).attr lfn_name ≡ (d.tree.node n).attr lfn_name) → Level dir d
level_synced dir d sound names texts = record {
  alone = λ c s q k may here there. inl (sound.single d.tree q (entry dir s) k sound.now (sym (ap (λ (f : Names). f q) (names c may)) ∙ there) here);
  called = texts;
}

-- Once names and the node that moved are stable too, all of them are level.
pub level_again : (n : ℕ) (dir : Path) (d : Disk) → Sound d → LevelBut n dir d → ((c : Tree) → d.may c → c.at ≡ d.tree.at) → ((c : Tree) → d.may c → (c.node n).attr lfn_name ≡ (d.tree.node n).attr lfn_name) → Level dir d
level_again n dir d sound others names text =
    level_synced dir d sound names (λ c step k may here. elim (cases_eq k n) [
      | inl same ↦ ap (λ (m : ℕ). (c.node m).attr lfn_name) same ∙ text c may ∙ sym (ap (λ (m : ℕ). (d.tree.node m).attr lfn_name) same)
      | inr not ↦ others.called c step k not may here
    ])
