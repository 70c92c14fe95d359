-- Where collections and the trash stand.
use Rattle.std.proofs.Common.{◌≡◌, ◌≢◌, ◌⊎◌, inl, inr, ⊎_elim, ℕ, true, List, [], ◌∷◌, ◌++◌, get_or, codes, refl, sym, ◌∙◌, ap, subst, arith, Option, Some, None, append_assoc}
use Rattle.std.proofs.lemmas.Bool.{cases_Bool}
use Rattle.std.proofs.lemmas.List.{append-nil}
use Rattle.std.specs.Ordering.{eq_by_cmp}
use Rattle.fs_names.specs.declared.coll.Coll.{Coll}
use Rattle.fs_names.specs.declared.settings.Pos.{Pos}
use Rattle.fs_names.specs.Order.{coll_cmp}
use Rattle.fs_names.specs.Reading.{CollFits, coll_of, pg_of, pg_from}
use Rattle.fs_names.specs.Text.{coll_text}
use Rattle.fs_names.proofs.CollLaw.{coll_texts_are_read}
use Rattle.tree_api.specs.Tree.{Path, IsAbove}
use Rattle.lfn_index.specs.Directory.{entry}
use Rattle.lfn_index.specs.Changes.{aside, place_name}
use Rattle.fs_cells.proofs.Looks.{is_coll}
use Rattle.tree_stands.specs.Trees.{dir_of}
use Rattle.tree_stands.proofs.Names.{coll_itself, true_not_false}
use Rattle.tree_stands.proofs.OneFile.{one_coll}
use Rattle.op_effects.specs.Ready.{trash}
use Rattle.coll_ops.specs.Places.{trash_at, Within}

-- no collection is called as a directory of the store's own is
pg_none : (a b : Option ℕ) → pg_from a b None ≡ None
pg_none None None = refl
pg_none None (Some y) = refl
pg_none (Some x) None = refl
pg_none (Some x) (Some y) = refl

abbrev pub IsOwn : List ℕ → Type 0
IsOwn text = coll_of text ≡ None

pub own_aside : IsOwn (codes "aside")
unfolding coll_of pg_of
own_aside = pg_none _ _

pub own_trash : IsOwn (codes "trash")
unfolding coll_of pg_of
own_trash = pg_none _ _

pub own_omap : IsOwn (codes "omap")
unfolding coll_of pg_of
own_omap = pg_none _ _

pub own_number : IsOwn (codes "commit_op_seq")
unfolding coll_of pg_of
own_number = pg_none _ _

pub never_own : (c : Coll) → CollFits c → (text : List ℕ) → IsOwn text → coll_text c ≢ text
never_own c fits text own same = let none : Some c ≡ None = sym (coll_texts_are_read c fits) ∙ ap coll_of same ∙ own in cc

pub coll_dec : (a b : Coll) → (a ≡ b) ⊎ (a ≢ b)
coll_dec a b = ⊎_elim (λ t. inl (is_coll a b t)) (λ f. inr (λ same. true_not_false (eq_by_cmp coll_cmp a b) (subst (λ (c : Coll). eq_by_cmp coll_cmp a c ≡ true) same (coll_itself a)) f)) (cases_Bool (eq_by_cmp coll_cmp a b))

-- the second step of two paths
abbrev under : List ℕ → Path → Path
under step rest = codes "current" ∷ step ∷ rest

second : (x y : List ℕ) (p q : Path) → under x p ≡ under y q → x ≡ y
second x y p q same = cc

shorter : (x y z : List ℕ) (rest : Path) → under x [] ≡ under y (z ∷ rest) → ⊥
shorter x y z rest same = cc

-- off a collection's directory stand those of others and what stands in them, files being built, and the trash
module _ (c : Coll) (fits : CollFits c) where
  pub other_dir : (d : Coll) → CollFits d → d ≢ c → Within (dir_of c) (dir_of d) → ⊥
  other_dir d of_d differ is = differ (one_coll d c of_d fits (second (coll_text d) (coll_text c) [] is.0 is.1))

  pub other_entry : (d : Coll) → CollFits d → d ≢ c → (s : List ℕ) → Within (dir_of c) (entry (dir_of d) s) → ⊥
  other_entry d of_d differ s is = differ (one_coll d c of_d fits (second (coll_text d) (coll_text c) (s ∷ []) is.0 is.1))

  pub other_within : (d : Coll) → CollFits d → d ≢ c → (q : Path) → Within (dir_of c) q → Within (dir_of d) q → ⊥
  other_within d of_d differ q one two = differ (one_coll d c of_d fits (second (coll_text d) (coll_text c) two.0 one.0 (sym two.1 ∙ one.1)))

  off_own : (text : List ℕ) (p : Path) → IsOwn text → Within (dir_of c) (under text p) → ⊥
  off_own text p own is = never_own c fits text own (sym (second text (coll_text c) p is.0 is.1))

  pub off_aside : Within (dir_of c) aside → ⊥
  off_aside is = off_own (codes "aside") [] own_aside is

  pub off_place : (s : List ℕ) → Within (dir_of c) (entry aside s) → ⊥
  off_place s is = off_own (codes "aside") (s ∷ []) own_aside is

  pub off_trash : (s : List ℕ) → Within (dir_of c) (entry trash s) → ⊥
  off_trash s is = off_own (codes "trash") (s ∷ []) own_trash is

  pub off_tree : (s : List ℕ) (q : Path) → Within (dir_of c) q → Within (entry trash s) q → ⊥
  off_tree s q one two = never_own c fits (codes "trash") own_trash (second (coll_text c) (codes "trash") one.0 (s ∷ two.0) (sym one.1 ∙ two.1))

  module _ (pos : Pos) where
    pub never_trash : Within (trash_at pos) (dir_of c) → ⊥
    never_trash is = shorter (coll_text c) (codes "trash") (place_name pos) is.0 is.1

    pub never_trash_entry : (s : List ℕ) → Within (trash_at pos) (entry (dir_of c) s) → ⊥
    never_trash_entry s is = never_own c fits (codes "trash") own_trash (second (coll_text c) (codes "trash") (s ∷ []) (place_name pos ∷ is.0) is.1)

    pub apart : (q : Path) → Within (dir_of c) q → Within (trash_at pos) q → ⊥
    apart q one two = off_tree (place_name pos) q one two

apart_names : codes "aside" ≢ codes "trash"
apart_names same = let e : 97 ≡ 116 = ap (λ (l : List ℕ). get_or l 0 0) same in absurd (omega (arith, e))

pub aside_trash : (pos : Pos) → Within (trash_at pos) aside → ⊥
aside_trash pos is = shorter (codes "aside") (codes "trash") (place_name pos) is.0 is.1

pub place_trash : (pos : Pos) (s : List ℕ) → Within (trash_at pos) (entry aside s) → ⊥
place_trash pos s is = apart_names (second (codes "aside") (codes "trash") (s ∷ []) (place_name pos ∷ is.0) is.1)

-- off the trash stand collections and files being built
pub dir_trash : (c : Coll) → CollFits c → Within trash (dir_of c) → ⊥
dir_trash c fits is = never_own c fits (codes "trash") own_trash (second (coll_text c) (codes "trash") [] is.0 is.1)

pub entry_trash : (c : Coll) → CollFits c → (s : List ℕ) → Within trash (entry (dir_of c) s) → ⊥
entry_trash c fits s is = never_own c fits (codes "trash") own_trash (second (coll_text c) (codes "trash") (s ∷ []) is.0 is.1)

pub trash_aside : Within trash aside → ⊥
trash_aside is = apart_names (second (codes "aside") (codes "trash") [] is.0 is.1)

pub trash_place : (s : List ℕ) → Within trash (entry aside s) → ⊥
trash_place s is = apart_names (second (codes "aside") (codes "trash") (s ∷ []) is.0 is.1)

third : (x y : List ℕ) (p q : Path) → under (codes "trash") (x ∷ p) ≡ under (codes "trash") (y ∷ q) → x ≡ y
third x y p q same = cc

-- trees in the trash are apart
pub trash_entry_off : (s x : List ℕ) → x ≢ s → Within (entry trash s) (entry trash x) → ⊥
trash_entry_off s x differ is = differ (third x s [] is.0 is.1)

pub trees_apart : (s x : List ℕ) → x ≢ s → (q : Path) → Within (entry trash s) q → Within (entry trash x) q → ⊥
trees_apart s x differ q one two = differ (third x s two.0 one.0 (sym two.1 ∙ one.1))

-- a path within one below a second is within the second
pub within_below : (p x q : Path) → Within (p ++ x) q → Within p q
within_below p x q is = (x ++ is.0, is.1 ∙ append_assoc p x is.0)

pub within_itself : (p : Path) → Within p p
within_itself p = ([], sym (append-nil p))

-- paths with nothing in common
module _ (from to : Path) (off : (q : Path) → Within from q → Within to q → ⊥) where
  pub not_above : ¬ IsAbove from to
  not_above is = off to (is.0 ∷ is.1, is.2) (within_itself to)

  pub not_root : to ≢ []
  not_root same = off from (within_itself from) (from, subst (λ (p : Path). from ≡ p ++ from) (sym same) refl)
