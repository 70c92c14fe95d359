-- A collection's directory, as its listing tells.
use Rattle.std.proofs.Common.{◌≡◌, inl, inr, ⊎_elim, ℕ, ◌<◌, true, false, List, length, get_or, Contains, refl, sym, ◌∙◌, ap, subst, arith, Option, Some, None, Result}
use Rattle.std.specs.Prelude.{◌↔◌, is_ok}
use Rattle.std.specs.Option.{ok_or}
use Rattle.std.proofs.lemmas.List.{same_from_push}
use Rattle.std.proofs.lemmas.List.Elements.{Contains-get_or}
use Rattle.fs_names.specs.declared.coll.Coll.{Coll}
use Rattle.fs_names.specs.declared.fault.CollFault.{CollFault}
use Rattle.fs_names.specs.declared.fault.CollFault.TheVariants.{NotColl}
use Rattle.fs_names.specs.declared.settings.Settings.{Settings}
use Rattle.fs_names.specs.Reading.{coll_of}
use Rattle.fs_names.proofs.CollLaw.{coll_texts_are_read, colls_read_are_spelled}
use Rattle.tree_api.specs.Tree.{Path, Tree, IsDir, IsFree}
use Rattle.tree_api.specs.Disk.{Disk, Sound}
use Rattle.lfn_index.specs.Directory.{entry}
use Rattle.lfn_index.specs.Listing.{IsUnknown, IsTwice, IsFirstDamage}
use Rattle.lfn_index.specs.Maps.{Whole}
use Rattle.lfn_index.specs.Subdirs.{HasSubdir}
use Rattle.lfn_index.proofs.Seen.{never_before}
use Rattle.tree_api.specs.Answer.{Before}
use Rattle.store_walk.specs.Walked.{HoldsFiles, IsColl}
use Rattle.store_walk.proofs.Looked.{dir_not_free}

-- whether a collection has the name
pub coll_read : (text : List ℕ) (r : Result Coll CollFault) → r ≡ ok_or (coll_of text) NotColl → is_ok r ≡ true → IsColl text
coll_read text r is ok = by (coll_of text) refl
  where
    by : (o : Option Coll) → coll_of text ≡ o → IsColl text
    by None none = absurd (let z : false ≡ true = sym (ap is_ok (is ∙ ap (λ (x : Option Coll). ok_or x NotColl) none)) ∙ ok in cc)
    by (Some c) some = let law = colls_read_are_spelled text c some in (c, law.1, sym law.0)

pub coll_named : (text : List ℕ) (r : Result Coll CollFault) → r ≡ ok_or (coll_of text) NotColl → IsColl text → is_ok r ≡ true
coll_named text r is coll = ap is_ok (is ∙ ap (λ (x : Option Coll). ok_or x NotColl) (ap coll_of coll.2 ∙ coll_texts_are_read coll.0 coll.1))

module _ (set : Settings) (d : Disk) (sound : Sound d) (dir : Path) (whole : Whole set dir d.tree) where
  never_unknown : (step : List ℕ) → IsUnknown set d.tree dir step → ⊥
  never_unknown step is = by (d.tree.at (entry dir step)) refl
    where
      by : (o : Option ℕ) → d.tree.at (entry dir step) ≡ o → ⊥
      by None none = is.0 none
      by (Some n) here = ⊎_elim (λ file. is.2 file.0 (n, file.1)) (λ sub. is.1 sub) (whole.1.known step n here)

  never_twice : (step : List ℕ) → IsTwice set d.tree dir step → ⊥
  never_twice step is =
      let one = is.3 in
      let two = is.4 in
      let e : Some one.0 ≡ Some two.0 = sym (whole.1.files is.0 is.1 one.0 one.1) ∙ whole.1.files is.0 step two.0 two.1 in
      let path = sound.single d.tree (entry dir is.1) (entry dir step) one.0 sound.now one.1.1.here (two.1.1.here ∙ sym e) in
      never_before step (subst (λ (x : List ℕ). Before x step) (same_from_push dir dir is.1 step path).1 is.2)

  pub never_damaged : (p : Path) → IsFirstDamage set d.tree dir p → ⊥
  never_damaged p is = ⊎_elim (never_unknown is.0) (never_twice is.0) is.2

  module _ (digits : List ℕ) (are : (digit : ℕ) → Contains digits digit ↔ HasSubdir d.tree dir digit) where
    pub no_subdirs : length digits ≡ 0 → HoldsFiles dir d.tree
    no_subdirs empty step = by (d.tree.at (entry dir step)) refl
      where
        by : (o : Option ℕ) → d.tree.at (entry dir step) ≡ o → IsFree d.tree (entry dir step)
        by None none = inl none
        by (Some n) here =
            ⊎_elim
            (λ file. inr (n, file.1.1.here, file.1.1.kind))
            (λ sub.
            let name = sub.1 in
            let has = (are name.0).1 (name.1, subst (λ (s : List ℕ). IsDir d.tree (entry dir s)) name.2 sub.0) in
            absurd (omega (arith, has.1, empty)))
            (whole.1.known step n here)

pub some_subdir : (t : Tree) (dir : Path) (digits : List ℕ) → ((digit : ℕ) → Contains digits digit ↔ HasSubdir t dir digit) → 0 < length digits → HoldsFiles dir t → ⊥
some_subdir t dir digits are some files =
    let sub = (are (get_or digits 0 0)).0 (Contains-get_or digits 0 0 some) in
    dir_not_free t _ sub.1 (files _)
