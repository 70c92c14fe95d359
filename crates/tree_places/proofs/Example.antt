-- The tree of a store that was just made.
use Rattle.std.proofs.Common.{◌≡◌, ℕ, ◌<◌, ◌^◌, inl, inr, ⊎_elim, Bool, true, false, cond, List, [], ◌∷◌, ◌++◌, codes, length, arith, refl, sym, ◌∙◌, ap, Option, Some, None}
use Rattle.std.proofs.lemmas.Bool.{cases_Bool}
use Rattle.std.proofs.lemmas.Slice.Eq.{bytes_eq-Decides}
use Rattle.std.specs.Option.{option_map}
use Rattle.std.specs.Str.{bytes_eq}
use Rattle.fs_names.specs.declared.coll.Coll.{Coll}
use Rattle.fs_names.specs.declared.oid.Oid.{Oid}
use Rattle.fs_names.specs.declared.settings.Settings.{Settings}
use Rattle.fs_names.specs.Reading.{OidFits, CollFits, coll_of, pg_of, pg_from}
use Rattle.fs_names.specs.Text.{coll_text}
use Rattle.fs_names.proofs.CollLaw.{coll_texts_are_read}
use Rattle.tree_api.specs.Tree.{Path, current, held}
use Rattle.lfn_index.specs.Maps.{Map, IsMap}
use Rattle.tree_stands.specs.Trees.{dir_of, guard_of}
use Rattle.commit_point.specs.Number.{number_file, HasNumber}
use Rattle.op_effects.specs.Clear.{IsClear, IsShallow}
use Rattle.op_effects.specs.Collections.{IsGone}
use Rattle.tree_places.specs.Example.{made_at, made_in, made_tree}
use Rattle.tree_places.specs.Images.{IsOwn}

pg_none : (a b : Option ℕ) → pg_from a b None ≡ None
pg_none None None = refl
pg_none None (Some y) = refl
pg_none (Some x) None = refl
pg_none (Some x) (Some y) = refl

-- no collection is spelled so
aside_is_none : coll_of (codes "aside") ≡ None
unfolding coll_of pg_of
aside_is_none = pg_none _ _

trash_is_none : coll_of (codes "trash") ≡ None
unfolding coll_of pg_of
trash_is_none = pg_none _ _

pub number_is_none : coll_of (codes "commit_op_seq") ≡ None
unfolding coll_of pg_of
number_is_none = pg_none _ _

none_or : {A : Type 0} (x : A) → None ≡ Some x → ⊥
none_or x e = cc

not_named : (c : Coll) → CollFits c → (text : List ℕ) → coll_of text ≡ None → bytes_eq (coll_text c) text ≡ false
not_named c fits text none = ⊎_elim
    (λ is. absurd (none_or c (sym none ∙ sym (ap coll_of ((bytes_eq-Decides (coll_text c) text).0 is)) ∙ coll_texts_are_read c fits)))
    (λ not. not)
    (cases_Bool (bytes_eq (coll_text c) text))

none_in : (a b c : Bool) → a ≡ false → b ≡ false → c ≡ false → (x y z : Option ℕ) → cond a x (cond b y (cond c z None)) ≡ None
none_in true b c one two three x y z = cc
none_in false true c one two three x y z = cc
none_in false false true one two three x y z = cc
none_in false false false one two three x y z = refl

not_there : (c : Coll) → CollFits c → made_in (coll_text c) ≡ None
not_there c fits = none_in _ _ _ (not_named c fits (codes "aside") aside_is_none) (not_named c fits (codes "trash") trash_is_none) (not_named c fits (codes "commit_op_seq") number_is_none) _ _ _

module _ (set : Settings) (n : ℕ) where
  no_files : (c : Coll) → IsMap set (made_tree n) (dir_of c) (λ o. None)
  no_files c = record {
    files = λ o step k is. absurd (none_or k is.1.here);
    there = λ o k fits is. absurd (none_or k is);
    known = λ step k here. absurd (none_or k here);
  }

  pub no_colls : (c : Coll) → CollFits c → IsGone set c (made_tree n)
  no_colls c fits = record {
    none = ap (λ (m : Option ℕ). option_map guard_of (held m (made_tree n).node)) (not_there c fits);
    empty = record {
      whole = (λ o. None, no_files c);
      none = λ m is o own. no_file m is o own (m o) refl;
    };
  }
    where
      no_file : (m : Map) → IsMap set (made_tree n) (dir_of c) m → (o : Oid) → OidFits o → (x : Option ℕ) → m o ≡ x → m o ≡ None
      no_file m is o own None at = at
      no_file m is o own (Some k) at = let found = is.there o k own at in absurd (none_or k found.1.here)

  pub number : n < 2 ^ 63 → HasNumber (made_tree n) n
  number small = record { file = number_file n; stands = refl; kind = refl; bytes = refl; small = small }

  -- nothing stands below what stands in `current`
  shallow : (step : List ℕ) → IsShallow (current ++ step ∷ []) (made_tree n)
  shallow step q is = none_below is.0 is.2 (is.3.0, ap made_at (sym is.1) ∙ is.3.1)
    where
      none_below : (rest : Path) → length rest ≡ 9 → (k : ℕ) × (made_at (codes "current" ∷ step ∷ rest) ≡ Some k) → ⊥
      none_below [] nine at = absurd (omega (arith, nine))
      none_below (x ∷ rest) nine at = none_or at.0 at.1

  clear : IsClear (made_tree n)
  clear = record {
    free = λ c fits is. none_or is.0 (sym (not_there c fits) ∙ is.1);
    flat = λ c fits step. inl refl;
    colls = λ c fits. shallow (coll_text c);
    trees = λ step q is. none_or is.3.0 (ap made_at (sym is.1) ∙ is.3.1);
  }

  pub own : IsOwn (made_tree n)
  own = record {
    building = (2, refl, refl);
    places = λ step. inl refl;
    removed = (3, refl, refl);
    target = inr (4, refl, refl);
    clear = clear;
  }
