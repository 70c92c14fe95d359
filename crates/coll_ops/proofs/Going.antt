-- A collection that is thrown away.
use Rattle.std.proofs.Common.{◌≡◌, ◌≢◌, ◌⊎◌, inl, inr, ⊎_elim, ℕ, List, [], ◌∷◌, refl, sym, ◌∙◌, ap, subst, None, Result, Ok, Err, OnOk}
use Rattle.fs_names.specs.declared.coll.Coll.{Coll}
use Rattle.fs_names.specs.declared.settings.Pos.{Pos}
use Rattle.fs_names.specs.declared.settings.Settings.{Settings}
use Rattle.fs_names.specs.Reading.{CollFits}
use Rattle.tree_api.specs.Tree.{Path, Names, Tree}
use Rattle.tree_api.specs.Disk.{Disk, Sound, From, Leaves}
use Rattle.tree_api.specs.Renaming.{NoNode}
use Rattle.tree_api.proofs.Moments.{now_from}
use Rattle.lfn_index.specs.Directory.{entry}
use Rattle.lfn_index.specs.Changes.{place_name}
use Rattle.tree_stands.specs.Trees.{dir_of}
use Rattle.op_effects.specs.Collections.{IsGone, Drops}
use Rattle.op_effects.specs.Ready.{Ready, trash}
use Rattle.coll_ops.specs.Places.{trash_at, Within}
use Rattle.coll_ops.specs.Changes.{Elsewhere, Thrown, Throws}
use Rattle.coll_ops.proofs.Kept.{KeepsAt, named_keeps, no_guard, coll_stays, empty_dir, drops_whole, below_missing, leaves_by}
use Rattle.coll_ops.proofs.Lasting.{IsOff, IsLost, such_keeps, elsewhere, now_keeps, lasting_ready}
use Rattle.coll_ops.proofs.Paths.{coll_dec, other_dir, other_entry, off_aside, off_place, never_trash, never_trash_entry, aside_trash, place_trash, off_trash, trash_entry_off}

pub on_ok : {T E A B : Type 0} (r : Result T E) → (A → B) → OnOk r A → OnOk r B
on_ok (Ok v) f a = f a
on_ok (Err e) f a = tt

-- along what equals the two paths
pub throws_along : (p q : Path) (coll : Coll) (pos : Pos) (old new : Disk) → p ≡ dir_of coll → q ≡ trash_at pos → Throws p q old new → Throws (dir_of coll) (trash_at pos) old new
throws_along p q coll pos old new from to throws = subst (λ (x : Path). Throws (dir_of coll) x old new) to (subst (λ (x : Path). Throws x q old new) from throws)

-- each collection stays
stays_drops : (set : Settings) (coll : Coll) (a c : Tree) → ((q : Path) → KeepsAt a c q) → Drops set coll a c
stays_drops set coll a c keeps = record {
  here = inl (coll_stays set coll a c (keeps (dir_of coll)) (λ s. keeps (entry (dir_of coll) s)));
  others = λ d fits differ. coll_stays set d a c (keeps (dir_of d)) (λ s. keeps (entry (dir_of d) s));
}

module _ (coll : Coll) (fits : CollFits coll) (pos : Pos) (old new : Disk) (s0 : Sound old) (throws : Throws (dir_of coll) (trash_at pos) old new) where
  abbrev from : Path
  from = dir_of coll

  abbrev to : Path
  to = trash_at pos

  abbrev Such : Tree → Type 0
  Such c = Thrown from to old.tree.at c.at

  -- the paths at which names may change
  abbrev Both : Path → Type 0
  Both q = Within from q ⊎ Within to q

  off : (c : Tree) → Such c → (q : Path) → (Both q → ⊥) → c.at q ≡ old.tree.at q
  off c such q not = such.off q (λ w. not (inl w)) (λ w. not (inr w))

  off_both : (d : Coll) → CollFits d → d ≢ coll → IsOff Both d
  off_both d of_d differ = record {
    dir = λ both. ⊎_elim (λ w. other_dir coll fits d of_d differ w) (λ w. never_trash d of_d pos w) both;
    entries = λ s both. ⊎_elim (λ w. other_entry coll fits d of_d differ s w) (λ w. never_trash_entry d of_d pos s w) both;
  }

  module _ (a c : Tree) (at : a.at ≡ old.tree.at) (others : (m : ℕ) → (NoNode m → ⊥) → c.node m ≡ a.node m) (such : Such c) where
    one_keeps : (q : Path) → c.at q ≡ old.tree.at q → KeepsAt a c q
    one_keeps q is = record { at = is ∙ sym (ap (λ (f : Names). f q) at); node = λ k here. others k (λ none. none) }

    keeps : (q : Path) → (Both q → ⊥) → KeepsAt a c q
    keeps q not = such_keeps Both Such old new s0 throws off a c at others such q not

    gone : (set : Settings) → ((q : Path) → Within from q → c.at q ≡ None) → IsGone set coll c
    gone set none = record { none = no_guard c coll (none from ([], refl)); empty = empty_dir set coll c (λ s. none (entry from s) (s ∷ [], refl)) }

    such_drops : (set : Settings) → Drops set coll a c
    such_drops set = record {
      here = ⊎_elim
          (λ stays. inl (coll_stays set coll a c (one_keeps from (stays from ([], refl))) (λ s. one_keeps (entry from s) (stays (entry from s) (s ∷ [], refl)))))
          (λ none. inr (gone set none))
          such.here;
      others = λ d of_d differ.
          let is = off_both d of_d differ in
          coll_stays set d a c (keeps (dir_of d) is.dir) (λ s. keeps (entry (dir_of d) s) (is.entries s));
    }

  pub thrown_drops : (set : Settings) → Leaves (Drops set coll) old new
  thrown_drops set = leaves_by Such NoNode (Drops set coll) old new s0 throws
      (λ a c may same. stays_drops set coll a c (named_keeps a c same))
      (λ a c may at others such. such_drops a c at others such set)

  pub thrown_elsewhere : Leaves (Elsewhere Both) old new
  thrown_elsewhere = elsewhere Both Such old new s0 throws off

  -- the other trees in the trash stay
  pub thrown_others : (s : List ℕ) → s ≢ place_name pos → new.tree.at (entry trash s) ≡ old.tree.at (entry trash s)
  thrown_others s differ =
      (now_keeps Both Such old new s0 throws off (entry trash s) (λ both. ⊎_elim (λ w. off_trash coll fits s w) (λ w. trash_entry_off (place_name pos) s differ w) both)).at

  pub thrown_ready : Sound new → new.tree.at (dir_of coll) ≡ None → (set : Settings) → Ready set old → Ready set new
  thrown_ready s1 done set ready =
      lasting_ready Both Such old new s0 throws off s1 each set
      (λ both. ⊎_elim (λ w. off_aside coll fits w) (λ w. aside_trash pos w) both)
      (λ s both. ⊎_elim (λ w. off_place coll fits s w) (λ w. place_trash pos s w) both)
      (λ c may.
      let root = now_from (From old (Drops set coll)) old new s1 (thrown_drops set).any_moment c may in
      drops_whole set coll fits root.0 c (ready.whole root.0 root.1) root.2)
      ready
    where
      lost : IsLost new.tree coll
      lost = record { dir = done; entries = λ s. below_missing new s1 new.tree s1.now (dir_of coll) done s }

      each : (d : Coll) → CollFits d → IsLost new.tree d ⊎ IsOff Both d
      each d of_d = ⊎_elim (λ same. inl (subst (λ (x : Coll). IsLost new.tree x) (sym same) lost)) (λ differ. inr (off_both d of_d differ)) (coll_dec d coll)
