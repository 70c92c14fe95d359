-- A tree with all that is made, and nothing else.
use Rattle.std.proofs.Common.{◌≡◌, ◌≢◌, inl, inr, ℕ, ◌≤◌, false, List, [], ◌∷◌, ◌++◌, length, codes, refl, sym, ◌∙◌, ap, arith, Option, Some, None, length-append}
use Rattle.std.specs.FinMap as fin
use Rattle.std.specs.Option.{option_map}
use Rattle.fs_names.specs.declared.coll.Coll.{Coll}
use Rattle.fs_names.specs.declared.oid.Oid.{Oid}
use Rattle.fs_names.specs.declared.settings.Settings.{Settings}
use Rattle.fs_names.specs.Reading.{OidFits, CollFits, coll_of, pg_of, pg_from}
use Rattle.fs_names.specs.Text.{coll_text}
use Rattle.fs_names.proofs.CollLaw.{coll_texts_are_read}
use Rattle.tree_api.specs.Tree.{Path, Version, Tree, IsFile, held, look}
use Rattle.ring_frame.specs.Frame.{Entry}
use Rattle.ring_images.specs.Held.{Left, readable}
use Rattle.ring_journal.specs.State.{first_head}
use Rattle.lfn_index.specs.Directory.{entry}
use Rattle.lfn_index.specs.Maps.{Map, IsMap}
use Rattle.tree_stands.specs.Trees.{dir_of, guard_of}
use Rattle.commit_point.specs.Number.{aside, number_path, HasNumber}
use Rattle.op_effects.specs.Clear.{DirBelow, IsClear}
use Rattle.op_effects.specs.Collections.{IsGone}
use Rattle.op_effects.specs.Ready.{trash}
use Rattle.store_history.specs.History.{replay_of}
use Rattle.store_history.specs.Pair.{Closed}
use Rattle.tree_places.specs.Images.{IsOwn, StoreImage}
use Rattle.tree_places.proofs.Operations.{history_law}
use Rattle.store_files.specs.Stores.{IsStore}
use Rattle.store_files.specs.Steps.{Among, IsBare, Off, store_paths}
use Rattle.store_making.proofs.Off.{IsOther, not_root, off_deep, off_name, off_step}

some_same : {A : Type 0} (x y : A) → Some x ≡ Some y → x ≡ y
some_same x y e = cc

none_or : {A : Type 0} (x : A) → None ≡ Some x → ⊥
none_or x e = cc

-- a file stands where a version that is none of a directory is looked up
file_at : (t : Tree) (p : Path) (v : Version) → look t p ≡ Some v → v.dir ≡ false → IsFile t p
file_at t p v is kind = at (t.at p) refl is
  where
    at : (o : Option ℕ) → t.at p ≡ o → held o t.node ≡ Some v → IsFile t p
    at None here found = absurd (none_or v found)
    at (Some n) here found = (n, here, ap (λ (w : Version). w.dir) (some_same (t.node n) v found) ∙ kind)

-- no collection is spelled as a name of the store's own
pg_none : (a b : Option ℕ) → pg_from a b None ≡ None
pg_none None None = refl
pg_none None (Some y) = refl
pg_none (Some x) None = refl
pg_none (Some x) (Some y) = refl

omap_is_none : coll_of (codes "omap") ≡ None
unfolding coll_of pg_of
omap_is_none = pg_none _ _

aside_is_none : coll_of (codes "aside") ≡ None
unfolding coll_of pg_of
aside_is_none = pg_none _ _

trash_is_none : coll_of (codes "trash") ≡ None
unfolding coll_of pg_of
trash_is_none = pg_none _ _

number_is_none : coll_of (codes "commit_op_seq") ≡ None
unfolding coll_of pg_of
number_is_none = pg_none _ _

not_named : (c : Coll) → CollFits c → (text : List ℕ) → coll_of text ≡ None → coll_text c ≢ text
not_named c fits text none same = none_or c (sym none ∙ sym (ap coll_of same) ∙ coll_texts_are_read c fits)

other : (c : Coll) → CollFits c → IsOther (coll_text c)
other c fits = record {
  maps = not_named c fits (codes "omap") omap_is_none;
  building = not_named c fits (codes "aside") aside_is_none;
  removed = not_named c fits (codes "trash") trash_is_none;
  number = not_named c fits (codes "commit_op_seq") number_is_none;
}

differs_aside : codes "aside" ≢ codes "omap"
differs_aside same = cc

module _ (set : Settings) (fsid : List ℕ) (before t : Tree) (bare : IsBare before) (among : Among store_paths before t) (store : IsStore t fsid set) (number : HasNumber t 0) where
  free : (q : Path) → Off store_paths q → q ≢ [] → t.at q ≡ None
  free q off no_root = among.others q off ∙ bare.1 q no_root

  deep : (q : Path) (n : ℕ) → 4 ≤ length q → t.at q ≡ Some n → ⊥
  deep [] n long here = absurd (omega (arith, long))
  deep (a ∷ q) n long here = none_or n (sym (free (a ∷ q) (off_deep (a ∷ q) long) (not_root a q)) ∙ here)

  shallow : (p : Path) (k : ℕ) → length p ≡ k → (q : Path) → DirBelow 9 p t q → ⊥
  shallow p k is q (rest, same, long, dir) = deep q dir.0 (omega (arith, ap length same, length-append p rest, long)) dir.1

  missing : (c : Coll) → CollFits c → t.at (dir_of c) ≡ None
  missing c fits = free (dir_of c) (off_name (coll_text c) (other c fits)) (not_root (codes "current") (coll_text c ∷ []))

  none_within : (c : Coll) → CollFits c → (step : List ℕ) → t.at (entry (dir_of c) step) ≡ None
  none_within c fits step = free (entry (dir_of c) step) (off_step (coll_text c) step (other c fits).maps) (not_root (codes "current") (coll_text c ∷ step ∷ []))

  clear : IsClear t
  clear = record {
    free = λ c fits is. none_or is.0 (sym (missing c fits) ∙ is.1);
    flat = λ c fits step. inl (none_within c fits step);
    colls = λ c fits. shallow (dir_of c) 2 refl;
    trees = λ step. shallow (entry trash step) 3 refl;
  }

  own : IsOwn t
  own = record {
    building = store.dirs.building;
    places = λ step. inl (free (entry aside step) (off_step (codes "aside") step differs_aside) (not_root (codes "current") (codes "aside" ∷ step ∷ [])));
    removed = store.dirs.removed;
    target = inr (file_at t number_path number.file number.stands number.kind);
    clear = clear;
  }

  within : (c : Coll) → CollFits c → (step : List ℕ) (n : ℕ) → t.at (entry (dir_of c) step) ≡ Some n → ⊥
  within c fits step n here = none_or n (sym (none_within c fits step) ∙ here)

  no_files : (c : Coll) → CollFits c → IsMap set t (dir_of c) (λ o. None)
  no_files c fits = record {
    files = λ o step n is. absurd (within c fits step n is.1.here);
    there = λ o n fit is. absurd (none_or n is);
    known = λ step n here. absurd (within c fits step n here);
  }

  gone : (c : Coll) → CollFits c → IsGone set c t
  gone c fits = record {
    none = ap (λ (m : Option ℕ). option_map guard_of (held m t.node)) (missing c fits);
    empty = record {
      whole = (λ o. None, no_files c fits);
      none = λ m is o fit. no_file m is o fit (m o) refl;
    };
  }
    where
      no_file : (m : Map) → IsMap set t (dir_of c) m → (o : Oid) → OidFits o → (x : Option ℕ) → m o ≡ x → m o ≡ None
      no_file m is o fit None at = at
      no_file m is o fit (Some n) at = let found = is.there o n fit at in absurd (within c fits found.0 n found.1.here)

  image : StoreImage (record { fsid = fsid; settings = set }) (replay_of 0 fin.empty []) 0 0 0 t
  image = history_law.begins (record { fsid = fsid; settings = set }) 0 t store number own gone

  none_left : (es rest : List Entry) → [] ≡ es ++ rest → es ≡ []
  none_left [] rest e = refl
  none_left (x ∷ es) rest e = absurd (cc)

  pub closed : (size : ℕ) (c : List ℕ) → Left (first_head fsid size) [] [] c → Closed (StoreImage (record { fsid = fsid; settings = set })) fsid t c fin.empty
  closed size c left = record {
    n = 0;
    head = first_head fsid size;
    header = left.header;
    fsid_is = refl;
    start = omega arith;
    none = none_left (readable c) left.within.0 left.within.1;
    fits = omega arith;
    good = image;
  }
