-- What lasts where files that were being built go.
use Rattle.std.proofs.Common.{◌≡◌, ◌≢◌, ◌⊎◌, inl, ⊎_elim, ℕ, ◌+◌, List, [], ◌∷◌, length, sym, ◌∙◌, ap, arith, Some, None}
use Rattle.std.proofs.lemmas.List.{length-append, append-nil}
use Rattle.fs_names.specs.declared.coll.Coll.{Coll}
use Rattle.fs_names.specs.declared.settings.Settings.{Settings}
use Rattle.fs_names.specs.Reading.{CollFits}
use Rattle.tree_api.specs.Tree.{Path, Names, Tree}
use Rattle.tree_api.specs.Disk.{Disk, Sound, From, Everywhere, Leaves}
use Rattle.tree_api.specs.Renaming.{Renamed, NoNode}
use Rattle.tree_api.proofs.Moments.{now_from}
use Rattle.lfn_index.specs.Changes.{aside}
use Rattle.lfn_index.specs.Directory.{lfn_name, entry}
use Rattle.lfn_index.specs.Maps.{IsAside}
use Rattle.replay_guard.specs.Guards.{guard_name}
use Rattle.tree_stands.specs.Trees.{dir_of, dir_guard, AllWhole}
use Rattle.op_effects.specs.Clear.{KeepsFree}
use Rattle.op_effects.specs.Ready.{Ready, HasColls}
use Rattle.coll_ops.specs.Changes.{AllStay, Elsewhere}
use Rattle.coll_ops.proofs.Kept.{KeepsAt, named_keeps, keeps_dir, keeps_free, coll_stays, all_stay_whole, leaves_by, attrs_kept}
use Rattle.coll_ops.proofs.Lasting.{IsOff, such_keeps, elsewhere, now_keeps}
use Rattle.coll_ops.proofs.Paths.{off_place}
use Rattle.store_walk.specs.Thinned.{IsIn, Thinned, Thins}

never_itself : (p : Path) (s : List ℕ) → p ≢ entry p s
never_itself p s same = let e : length p ≡ length p + 1 = ap length same ∙ length-append p (s ∷ []) in absurd (omega (arith, e))

off_coll : (d : Coll) → CollFits d → IsOff (IsIn aside) d
off_coll d of_d = record {
  dir = λ is. off_place d of_d is.0 ([], sym is.1 ∙ sym (append-nil (dir_of d)));
  entries = λ s is. off_place d of_d is.0 (s ∷ [], sym is.1);
}

module _ (old new : Disk) (s0 : Sound old) (thins : Thins aside old new) where
  abbrev Such : Tree → Type 0
  Such c = Thinned aside old.tree.at c.at

  off : (c : Tree) → Such c → (q : Path) → (IsIn aside q → ⊥) → c.at q ≡ old.tree.at q
  off c such q not = ⊎_elim (λ same. same) (λ none. absurd (not none.1)) (such q)

  each_stays : (set : Settings) (a c : Tree) → ((q : Path) → (IsIn aside q → ⊥) → KeepsAt a c q) → AllStay set a c
  each_stays set a c keeps d of_d = let is = off_coll d of_d in coll_stays set d a c (keeps (dir_of d) is.dir) (λ s. keeps (entry (dir_of d) s) (is.entries s))

  pub tidied_stay : (set : Settings) → Leaves (AllStay set) old new
  tidied_stay set = leaves_by Such NoNode (AllStay set) old new s0 thins
      (λ a c may same. each_stays set a c (λ q not. named_keeps a c same q))
      (λ a c may at others such. each_stays set a c (λ q not. such_keeps (IsIn aside) Such old new s0 thins off a c at others such q not))

  pub tidied_elsewhere : Leaves (Elsewhere (IsIn aside)) old new
  tidied_elsewhere = elsewhere (IsIn aside) Such old new s0 thins off

  free_thinned : (a c : Tree) → a.at ≡ old.tree.at → ((m : ℕ) → (NoNode m → ⊥) → c.node m ≡ a.node m) → Such c → KeepsFree a c
  free_thinned a c at others such q was =
      ⊎_elim
      (λ same. keeps_free a c q (record { at = same ∙ sym (ap (λ (f : Names). f q) at); node = λ k here. others k (λ none. none) }) was)
      (λ none. inl none.0)
      (such q)

  pub tidied_free : Leaves KeepsFree old new
  tidied_free = leaves_by Such NoNode KeepsFree old new s0 thins (λ a c may same q was. keeps_free a c q (named_keeps a c same q) was) (λ a c may at others such. free_thinned a c at others such)

  module _ (s1 : Sound new) (set : Settings) (ready : Ready set old) where
    whole : Everywhere new (AllWhole set)
    whole c may = let root = now_from (From old (AllStay set)) old new s1 (tidied_stay set).any_moment c may in all_stay_whole set root.0 c root.2 (ready.whole root.0 root.1)

    colls : Everywhere new (HasColls new.tree)
    colls c may d of_d here =
        let root = now_from (From old (AllStay set)) old new s1 (tidied_stay set).any_moment c may in
        let was : dir_guard new.tree d ≡ dir_guard old.tree d = ((tidied_stay set).now d of_d).dir in
        (root.2 d of_d).dir ∙ ready.colls root.0 root.1 d of_d (λ none. here (was ∙ none)) ∙ sym was

    -- what reads in a collection read there before
    back : (d : Coll) → CollFits d → (s : List ℕ) (k : ℕ) → new.tree.at (entry (dir_of d) s) ≡ Some k → old.tree.at (entry (dir_of d) s) ≡ Some k
    back d of_d s k here = sym (now_keeps (IsIn aside) Such old new s0 thins off (entry (dir_of d) s) ((off_coll d of_d).entries s)).at ∙ here

    alone : (d : Coll) → CollFits d → (c : Tree) (s : List ℕ) (q : Path) (k : ℕ) → new.may c → new.tree.at (entry (dir_of d) s) ≡ Some k → c.at q ≡ Some k → (q ≡ entry (dir_of d) s) ⊎ IsAside q
    alone d of_d c s q k may here there =
        let root = now_from (From old (Renamed Such NoNode)) old new s1 thins.any_moment c may in
        let level = ready.level d of_d in
        let was = back d of_d s k here in
        ⊎_elim
        (λ same. level.alone root.0 s q k root.1 was (sym (ap (λ (f : Names). f q) same.at) ∙ there))
        (λ such.
        ⊎_elim
        (λ same. level.alone old.tree s q k s0.now was (sym same ∙ there))
        (λ none. absurd (let z : None ≡ Some k = sym none.0 ∙ there in cc))
        (such q))
        root.2.names

    pub tidied_ready : Ready set new
    tidied_ready = record {
      dir = keeps_dir old.tree new.tree aside (now_keeps (IsIn aside) Such old new s0 thins off aside (λ is. never_itself aside is.0 is.1)) ready.dir;
      places = λ s. tidied_free.now (entry aside s) (ready.places s);
      whole = whole;
      colls = colls;
      level = λ d of_d. record {
        alone = alone d of_d;
        called = λ c s k may here. attrs_kept Such NoNode lfn_name (dir_of d) old new s1 thins (λ x m at. (back d of_d x m at, λ none. none)) (ready.level d of_d).called c s k may here;
      };
      guards = λ d of_d. attrs_kept Such NoNode guard_name (dir_of d) old new s1 thins (λ x m at. (back d of_d x m at, λ none. none)) (ready.guards d of_d);
    }
