-- A collection that is made.
use Rattle.std.proofs.Common.{◌≡◌, ◌≢◌, ◌⊎◌, inl, inr, ⊎_elim, ℕ, List, [], refl, sym, ◌∙◌, ap, subst, Option, Some, None}
use Rattle.std.specs.Option.{option_map}
use Rattle.fs_names.specs.declared.coll.Coll.{Coll}
use Rattle.fs_names.specs.declared.settings.Settings.{Settings}
use Rattle.fs_names.specs.Reading.{CollFits}
use Rattle.tree_api.specs.Tree.{Path, Names, Tree, IsDir, held}
use Rattle.tree_api.specs.Disk.{Disk, Sound, From, Everywhere, Leaves}
use Rattle.tree_api.specs.Renaming.{SameNamed}
use Rattle.tree_api.proofs.Moments.{now_from, leaves_wider}
use Rattle.tree_api.proofs.Renaming.{moves_by}
use Rattle.lfn_index.specs.Directory.{lfn_name, entry}
use Rattle.lfn_index.specs.Changes.{aside}
use Rattle.lfn_index.specs.Maps.{AttrLevel}
use Rattle.lfn_index.specs.Moving.{Same}
use Rattle.lfn_index.proofs.Levels.{level_synced}
use Rattle.replay_guard.specs.Guards.{guard_name}
use Rattle.tree_stands.specs.Trees.{dir_of, guard_of, dir_guard}
use Rattle.op_effects.specs.Collections.{Comes, Makes}
use Rattle.op_effects.specs.Ready.{Ready, HasColls}
use Rattle.coll_ops.specs.Places.{Within}
use Rattle.coll_ops.specs.Changes.{Elsewhere, DirAt, NewDir, AddsDir, NamesStable}
use Rattle.coll_ops.proofs.Kept.{KeepsAt, named_keeps, keeps_look, keeps_dir, keeps_free, keeps_guard, no_guard, coll_stays, empty_dir, makes_whole, below_missing, leaves_by, attrs_kept}
use Rattle.coll_ops.proofs.Paths.{coll_dec, other_dir, other_entry, off_aside, off_place}

-- each collection stays
pub stays_makes : (set : Settings) (coll : Coll) (a c : Tree) → ((q : Path) → KeepsAt a c q) → Makes set coll a c
stays_makes set coll a c keeps = record {
  here = inl (coll_stays set coll a c (keeps (dir_of coll)) (λ s. keeps (entry (dir_of coll) s)));
  others = λ d fits differ. coll_stays set d a c (keeps (dir_of d)) (λ s. keeps (entry (dir_of d) s));
}

same_at : (a c : Tree) → c ≡ a → (q : Path) → KeepsAt a c q
same_at a c same q = subst (λ (x : Tree). KeepsAt a x q) (sym same) (record { at = refl; node = λ k here. refl })

module _ (coll : Coll) (fits : CollFits coll) (old new : Disk) (s0 : Sound old) (made : NewDir (dir_of coll) old new) where
  abbrev n : ℕ
  n = made.n

  abbrev p : Path
  p = dir_of coll

  abbrev Such : Tree → Type 0
  Such = DirAt p n old.tree

  abbrev Own : ℕ → Type 0
  Own m = m ≡ n

  module _ (a c : Tree) (may : old.may a) (at : a.at ≡ old.tree.at) (others : (m : ℕ) → (Own m → ⊥) → c.node m ≡ a.node m) (such : Such c) where
    pub such_keeps : (q : Path) → q ≢ p → KeepsAt a c q
    such_keeps q not = record {
      at = such.others q not ∙ sym (ap (λ (f : Names). f q) at);
      node = λ k here. others k (λ same. made.fresh a may q (here ∙ ap Some same));
    }

    comes : (set : Settings) → Comes set coll a c
    comes set = record {
      was = no_guard a coll (ap (λ (f : Names). f p) at ∙ made.free);
      here = ap (option_map guard_of) (ap (λ (y : Option ℕ). held y c.node) such.here ∙ ap Some such.holds);
      empty = empty_dir set coll c (λ s. such.others (entry p s) (entry_not s) ∙ below_missing old s0 old.tree s0.now p made.free s);
    }
      where
        entry_not : (s : List ℕ) → entry p s ≢ p
        entry_not s same = cc

    such_makes : (set : Settings) → Makes set coll a c
    such_makes set = record {
      here = inr (comes set);
      others = λ d of_d differ. coll_stays set d a c
          (such_keeps (dir_of d) (λ same. other_dir coll fits d of_d differ ([], same)))
          (λ s. such_keeps (entry (dir_of d) s) (λ same. other_entry coll fits d of_d differ s ([], same)));
    }

  pub new_makes : (set : Settings) → Leaves (Makes set coll) old new
  new_makes set = leaves_by Such Own (Makes set coll) old new s0 made.leaves
      (λ a c may same. stays_makes set coll a c (named_keeps a c same))
      (λ a c may at others such. such_makes a c may at others such set)

  pub new_elsewhere : Leaves (Elsewhere (Within p)) old new
  new_elsewhere = leaves_by Such Own (Elsewhere (Within p)) old new s0 made.leaves
      (λ a c may same q off. keeps_look a c q (named_keeps a c same q))
      (λ a c may at others such q off. keeps_look a c q (such_keeps a c may at others such q (λ same. off ([], same))))

  -- where an image came from
  abbrev Origin : Tree → Tree → Type 0
  Origin a c = SameNamed a c ⊎ ((a.at ≡ old.tree.at) × ((m : ℕ) → (Own m → ⊥) → c.node m ≡ a.node m) × Such c)

  origin_keeps : (a c : Tree) → old.may a → Origin a c → (q : Path) → q ≢ p → KeepsAt a c q
  origin_keeps a c may (inl same) q not = named_keeps a c same q
  origin_keeps a c may (inr is) q not = such_keeps a c may is.0 is.1 is.2 q not

  now_keeps : (q : Path) → q ≢ p → KeepsAt old.tree new.tree q
  now_keeps q not = ⊎_elim (λ same. named_keeps old.tree new.tree same q) (λ such. such_keeps old.tree new.tree s0.now refl made.leaves.now.others such q not) made.leaves.now.names

  module _ (s1 : Sound new) (stable : NamesStable new) where
    origin : (c : Tree) → new.may c → From old Origin c
    origin c may = now_from (From old Origin) old new s1 (moves_by Such Own Origin old new s0 made.leaves (λ a e of_a same. inl same) (λ a e of_a at others such. inr (at, others, such))) c may

    no_more : dir_guard new.tree coll ≢ None → SameNamed old.tree new.tree → ⊥
    no_more here same = here (keeps_guard old.tree new.tree coll (named_keeps old.tree new.tree same p) ∙ no_guard old.tree coll made.free)

    new_guard : (c : Tree) → Such c → dir_guard c coll ≡ Some None
    new_guard c such = ap (option_map guard_of) (ap (λ (y : Option ℕ). held y c.node) such.here ∙ ap Some such.holds)

    own_guard : (c a : Tree) → new.may c → old.may a → Origin a c → Such new.tree → dir_guard c coll ≡ dir_guard new.tree coll
    own_guard c a may of_a (inl same) now = absurd (made.fresh a of_a p (sym (ap (λ (f : Names). f p) same.at) ∙ ap (λ (f : Names). f p) (stable c may) ∙ now.here))
    own_guard c a may of_a (inr is) now = new_guard c is.2 ∙ sym (new_guard new.tree now)

    own_colls : (c : Tree) → new.may c → dir_guard new.tree coll ≢ None → dir_guard c coll ≡ dir_guard new.tree coll
    own_colls c may here = ⊎_elim (λ same. absurd (no_more here same)) (λ now. let from = origin c may in own_guard c from.0 may from.1 from.2 now) made.leaves.now.names

    new_colls : Everywhere old (HasColls old.tree) → Everywhere new (HasColls new.tree)
    new_colls had c may d of_d here =
        ⊎_elim
        (λ same. subst (λ (x : Coll). dir_guard c x ≡ dir_guard new.tree x) (sym same) (own_colls c may (subst (λ (x : Coll). dir_guard new.tree x ≢ None) same here)))
        (λ differ.
        let from = origin c may in
        let not : dir_of d ≢ p = λ same. other_dir coll fits d of_d differ ([], same) in
        let was : dir_guard new.tree d ≡ dir_guard old.tree d = keeps_guard old.tree new.tree d (now_keeps (dir_of d) not) in
        keeps_guard from.0 c d (origin_keeps from.0 c from.1 from.2 (dir_of d) not) ∙ had from.0 from.1 d of_d (λ none. here (was ∙ none)) ∙ sym was)
        (coll_dec d coll)

    new_attrs : (key : List ℕ) (d : Coll) → AttrLevel key (dir_of d) old → AttrLevel key (dir_of d) new
    new_attrs key d level = attrs_kept Such Own key (dir_of d) old new s1 made.leaves back level
      where
        entry_not : (s : List ℕ) → entry (dir_of d) s ≢ p
        entry_not s same = cc

        back : (s : List ℕ) (k : ℕ) → new.tree.at (entry (dir_of d) s) ≡ Some k → (old.tree.at (entry (dir_of d) s) ≡ Some k) × (Own k → ⊥)
        back s k here =
            let was : old.tree.at (entry (dir_of d) s) ≡ Some k = sym (now_keeps (entry (dir_of d) s) (entry_not s)).at ∙ here in
            (was, λ same. made.fresh old.tree s0.now (entry (dir_of d) s) (was ∙ ap Some same))

    pub new_ready : (set : Settings) → Ready set old → Ready set new
    new_ready set ready = record {
      dir = keeps_dir old.tree new.tree aside (now_keeps aside (λ same. off_aside coll fits ([], same))) ready.dir;
      places = λ s. keeps_free old.tree new.tree (entry aside s) (now_keeps (entry aside s) (λ same. off_place coll fits s ([], same))) (ready.places s);
      whole = λ c may.
          let from = now_from (From old (Makes set coll)) old new s1 (new_makes set).any_moment c may in
          makes_whole set coll fits from.0 c (ready.whole from.0 from.1) from.2;
      colls = new_colls ready.colls;
      level = λ d of_d. level_synced (dir_of d) new s1 stable (new_attrs lfn_name d (ready.level d of_d).called);
      guards = λ d of_d. new_attrs guard_name d (ready.guards d of_d);
    }

-- where nothing changes
module _ (old new : Disk) (s1 : Sound new) (same : Leaves Same old new) where
  was_image : (c : Tree) → new.may c → old.may c
  was_image c may = let from = now_from (From old Same) old new s1 same.any_moment c may in subst old.may (sym from.2) from.1

  same_ready : (set : Settings) → Ready set old → Ready set new
  same_ready set ready =
      let t : new.tree ≡ old.tree = same.now in
      record {
        dir = subst (λ (x : Tree). IsDir x aside) (sym t) ready.dir;
        places = λ s. keeps_free old.tree new.tree (entry aside s) (same_at old.tree new.tree t (entry aside s)) (ready.places s);
        whole = λ c may. ready.whole c (was_image c may);
        colls = λ c may. subst (λ (x : Tree). HasColls x c) (sym t) (ready.colls c (was_image c may));
        level = λ d of_d. record {
          alone = λ c s q k may here there. (ready.level d of_d).alone c s q k (was_image c may) (sym (ap (λ (x : Tree). x.at (entry (dir_of d) s)) t) ∙ here) there;
          called = λ c s k may here. (ready.level d of_d).called c s k (was_image c may) (sym (ap (λ (x : Tree). x.at (entry (dir_of d) s)) t) ∙ here) ∙ sym (ap (λ (x : Tree). (x.node k).attr lfn_name) t);
        };
        guards = λ d of_d c s k may here. ready.guards d of_d c s k (was_image c may) (sym (ap (λ (x : Tree). x.at (entry (dir_of d) s)) t) ∙ here) ∙ sym (ap (λ (x : Tree). (x.node k).attr guard_name) t);
      }

-- whether it was there or came
module _ (coll : Coll) (fits : CollFits coll) (old new : Disk) (s0 : Sound old) where
  pub adds_makes : AddsDir (dir_of coll) old new → (set : Settings) → Leaves (Makes set coll) old new
  adds_makes (inl same) set = leaves_wider Same (Makes set coll) (λ a c is. stays_makes set coll a c (same_at a c is)) old new same
  adds_makes (inr made) set = new_makes coll fits old new s0 made set

  pub adds_elsewhere : AddsDir (dir_of coll) old new → Leaves (Elsewhere (Within (dir_of coll))) old new
  adds_elsewhere (inl same) = leaves_wider Same (Elsewhere (Within (dir_of coll))) (λ a c is q off. keeps_look a c q (same_at a c is q)) old new same
  adds_elsewhere (inr made) = new_elsewhere coll fits old new s0 made

  pub adds_ready : Sound new → NamesStable new → AddsDir (dir_of coll) old new → (set : Settings) → Ready set old → Ready set new
  adds_ready s1 stable (inl same) set ready = same_ready old new s1 same set ready
  adds_ready s1 stable (inr made) set ready = new_ready coll fits old new s0 made s1 stable set ready
