-- What lasts where names go at some paths and no node changes.
use Rattle.std.proofs.Common.{◌≡◌, ◌⊎◌, inl, inr, ⊎_elim, ℕ, List, refl, sym, ◌∙◌, ap, Some, None}
use Rattle.fs_names.specs.declared.coll.Coll.{Coll}
use Rattle.fs_names.specs.declared.settings.Settings.{Settings}
use Rattle.fs_names.specs.Reading.{CollFits}
use Rattle.tree_api.specs.Tree.{Path, Names, Tree}
use Rattle.tree_api.specs.Disk.{Disk, Sound, From, Everywhere, Leaves}
use Rattle.tree_api.specs.Renaming.{SameNamed, Renamed, NoNode}
use Rattle.tree_api.proofs.Moments.{now_from}
use Rattle.tree_api.proofs.Renaming.{moves_by}
use Rattle.lfn_index.specs.Directory.{lfn_name, entry}
use Rattle.lfn_index.specs.Changes.{aside}
use Rattle.lfn_index.specs.Maps.{Level, AttrLevel, IsAside}
use Rattle.replay_guard.specs.Guards.{guard_name}
use Rattle.tree_stands.specs.Trees.{dir_of, dir_guard, AllWhole}
use Rattle.op_effects.specs.Ready.{Ready, HasColls}
use Rattle.coll_ops.specs.Changes.{Elsewhere}
use Rattle.coll_ops.proofs.Kept.{KeepsAt, named_keeps, keeps_look, keeps_dir, keeps_free, keeps_guard, no_guard, leaves_by, attrs_kept}

-- a collection's directory and what stands in it
pub record IsOff (These : Path → Type 0) (d : Coll) : Type 0 where
  pub dir : These (dir_of d) → ⊥
  pub entries : (s : List ℕ) → These (entry (dir_of d) s) → ⊥

-- nothing of it reads
pub record IsLost (t : Tree) (d : Coll) : Type 0 where
  pub dir : t.at (dir_of d) ≡ None
  pub entries : (s : List ℕ) → t.at (entry (dir_of d) s) ≡ None

module _ (These : Path → Type 0) (Such : Tree → Type 0) (old new : Disk) (s0 : Sound old) (leaves : Leaves (Renamed Such NoNode) old new)
    (off : (c : Tree) → Such c → (q : Path) → (These q → ⊥) → c.at q ≡ old.tree.at q) where
  pub such_keeps : (a c : Tree) → a.at ≡ old.tree.at → ((m : ℕ) → (NoNode m → ⊥) → c.node m ≡ a.node m) → Such c → (q : Path) → (These q → ⊥) → KeepsAt a c q
  such_keeps a c at others such q not = record { at = off c such q not ∙ sym (ap (λ (f : Names). f q) at); node = λ k here. others k (λ none. none) }

  pub elsewhere : Leaves (Elsewhere These) old new
  elsewhere = leaves_by Such NoNode (Elsewhere These) old new s0 leaves
      (λ a c may same q not. keeps_look a c q (named_keeps a c same q))
      (λ a c may at others such q not. keeps_look a c q (such_keeps a c at others such q not))

  -- where an image came from
  abbrev Origin : Tree → Tree → Type 0
  Origin a c = SameNamed a c ⊎ ((a.at ≡ old.tree.at) × ((m : ℕ) → (NoNode m → ⊥) → c.node m ≡ a.node m) × Such c)

  origin_keeps : (a c : Tree) → Origin a c → (q : Path) → (These q → ⊥) → KeepsAt a c q
  origin_keeps a c (inl same) q not = named_keeps a c same q
  origin_keeps a c (inr is) q not = such_keeps a c is.0 is.1 is.2 q not

  pub now_keeps : (q : Path) → (These q → ⊥) → KeepsAt old.tree new.tree q
  now_keeps q not = ⊎_elim (λ same. named_keeps old.tree new.tree same q) (λ such. such_keeps old.tree new.tree refl leaves.now.others such q not) leaves.now.names

  module _ (s1 : Sound new) (each : (d : Coll) → CollFits d → IsLost new.tree d ⊎ IsOff These d) where
    origin : (c : Tree) → new.may c → From old Origin c
    origin c may = now_from (From old Origin) old new s1 (moves_by Such NoNode Origin old new s0 leaves (λ a e of_a same. inl same) (λ a e of_a at others such. inr (at, others, such))) c may

    lasting_colls : Everywhere old (HasColls old.tree) → Everywhere new (HasColls new.tree)
    lasting_colls had c may d of_d here =
        ⊎_elim
        (λ lost. absurd (here (no_guard new.tree d lost.dir)))
        (λ is.
        let root = origin c may in
        let was : dir_guard new.tree d ≡ dir_guard old.tree d = keeps_guard old.tree new.tree d (now_keeps (dir_of d) is.dir) in
        keeps_guard root.0 c d (origin_keeps root.0 c root.2 (dir_of d) is.dir) ∙ had root.0 root.1 d of_d (λ none. here (was ∙ none)) ∙ sym was)
        (each d of_d)

    -- what reads in a collection read there before
    back : (d : Coll) → CollFits d → (s : List ℕ) (k : ℕ) → new.tree.at (entry (dir_of d) s) ≡ Some k → IsOff These d × (old.tree.at (entry (dir_of d) s) ≡ Some k)
    back d of_d s k here = ⊎_elim (λ lost. absurd (empty lost)) (λ is. (is, sym (now_keeps (entry (dir_of d) s) (is.entries s)).at ∙ here)) (each d of_d)
      where
        empty : IsLost new.tree d → ⊥
        empty lost = let z : None ≡ Some k = sym (lost.entries s) ∙ here in cc

    lasting_attrs : (key : List ℕ) (d : Coll) → CollFits d → AttrLevel key (dir_of d) old → AttrLevel key (dir_of d) new
    lasting_attrs key d of_d level = attrs_kept Such NoNode key (dir_of d) old new s1 leaves (λ s k here. ((back d of_d s k here).1, λ none. none)) level

    alone : (d : Coll) → CollFits d → Level (dir_of d) old → (a c : Tree) (s : List ℕ) (q : Path) (k : ℕ) → old.may a → new.may c → Origin a c
        → new.tree.at (entry (dir_of d) s) ≡ Some k → c.at q ≡ Some k → (q ≡ entry (dir_of d) s) ⊎ IsAside q
    alone d of_d level a c s q k of_a may (inl same) here there = level.alone a s q k of_a (back d of_d s k here).1 (sym (ap (λ (f : Names). f q) same.at) ∙ there)
    alone d of_d level a c s q k of_a may (inr is) here there =
        let was = back d of_d s k here in
        inl (s1.single c q (entry (dir_of d) s) k may there (off c is.2 (entry (dir_of d) s) (was.0.entries s) ∙ was.1))

    pub lasting_ready : (set : Settings) → (These aside → ⊥) → ((s : List ℕ) → These (entry aside s) → ⊥) → Everywhere new (AllWhole set) → Ready set old → Ready set new
    lasting_ready set off_aside off_place whole ready = record {
      dir = keeps_dir old.tree new.tree aside (now_keeps aside off_aside) ready.dir;
      places = λ s. keeps_free old.tree new.tree (entry aside s) (now_keeps (entry aside s) (off_place s)) (ready.places s);
      whole = whole;
      colls = lasting_colls ready.colls;
      level = λ d of_d. record {
        alone = λ c s q k may here there. let root = origin c may in alone d of_d (ready.level d of_d) root.0 c s q k root.1 may root.2 here there;
        called = λ c s k may here. lasting_attrs lfn_name d of_d (ready.level d of_d).called c s k may here;
      };
      guards = λ d of_d. lasting_attrs guard_name d of_d (ready.guards d of_d);
    }
