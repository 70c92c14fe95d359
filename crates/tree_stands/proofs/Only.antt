-- A call that concerns one object of a directory, over all collections.
use Rattle.std.proofs.Common.{◌≡◌, ◌≢◌, ◌⊎◌, inl, inr, ⊎_elim, ℕ, true, List, [], ◌∷◌, ◌++◌, length, codes, get_or, refl, sym, ◌∙◌, ap, subst, arith, Option, Some, None}
use Rattle.std.proofs.lemmas.Bool.{cases_Bool}
use Rattle.std.proofs.lemmas.List.{same_from_push}
use Rattle.std.specs.Option.{option_map}
use Rattle.std.specs.Ordering.{eq_by_cmp}
use Rattle.fs_names.specs.declared.coll.Coll.{Coll}
use Rattle.fs_names.specs.declared.settings.Settings.{Settings}
use Rattle.fs_names.specs.Order.{coll_cmp}
use Rattle.fs_names.specs.Reading.{CollFits, coll_of, pg_of, pg_from}
use Rattle.fs_names.specs.Text.{coll_text}
use Rattle.fs_names.proofs.CollLaw.{coll_texts_are_read}
use Rattle.tree_api.specs.Tree.{Version, Tree, current}
use Rattle.tree_api.specs.Disk.{Disk, Moves}
use Rattle.tree_api.specs.Passing.{OneOf}
use Rattle.tree_api.proofs.Moments.{wider}
use Rattle.lfn_index.specs.Cells.{is_there, bytes_in, attr_in, CellsBeside}
use Rattle.lfn_index.specs.Directory.{entry}
use Rattle.lfn_index.specs.Changes.{aside}
use Rattle.lfn_index.specs.Maps.{content}
use Rattle.lfn_index.specs.OneObject.{OnlyOne, StaysOr}
use Rattle.object_file.specs.Attrs.{attr_name}
use Rattle.replay_guard.specs.Guards.{guard_name}
use Rattle.fs_cells.specs.declared.cell.Part.{Part}
use Rattle.fs_cells.specs.declared.cell.Part.TheVariants.{Exists, Length, Byte, Attr, OmapHeader, OmapKey}
use Rattle.fs_cells.specs.Values.{Value, flag, number, content as contained, absent}
use Rattle.fs_cells.proofs.Looks.{is_coll}
use Rattle.tree_stands.specs.Names.{Name, NameFits}
use Rattle.tree_stands.specs.Shown.{seen, Paired}
use Rattle.tree_stands.specs.Trees.{dir_of, guard_of, InColl, OnlyBy, name_at, ForObject}
use Rattle.tree_stands.proofs.Names.{coll_itself, true_not_false}
use Rattle.tree_stands.proofs.Joining.{object_wider}
use Rattle.tree_stands.proofs.OneFile.{one_coll}

-- where collections stand
pg_none : (a b : Option ℕ) → pg_from a b None ≡ None
pg_none None None = refl
pg_none None (Some y) = refl
pg_none (Some x) None = refl
pg_none (Some x) (Some y) = refl

aside_is_none : coll_of (codes "aside") ≡ None
unfolding coll_of pg_of
aside_is_none = pg_none _ _

pub off_aside : (c : Coll) → CollFits c → dir_of c ≢ aside
off_aside c fits same =
    let texts : coll_text c ≡ codes "aside" = (same_from_push current current (coll_text c) (codes "aside") same).1 in
    let none : Some c ≡ None = sym (coll_texts_are_read c fits) ∙ ap coll_of texts ∙ aside_is_none in
    cc

one_dir : (c d : Coll) → CollFits c → CollFits d → dir_of c ≡ dir_of d → c ≡ d
one_dir c d of_c of_d same = one_coll c d of_c of_d (same_from_push current current (coll_text c) (coll_text d) same).1

shorter : (c d : List ℕ) (step : List ℕ) → current ++ c ∷ [] ≢ entry (current ++ d ∷ []) step
shorter c d step same = let e : 2 ≡ 3 = ap length same in absurd (omega (arith, e))

coll_dec : (a b : Coll) → (a ≡ b) ⊎ (a ≢ b)
coll_dec a b = ⊎_elim (λ t. inl (is_coll a b t)) (λ f. inr (λ same. true_not_false (eq_by_cmp coll_cmp a b) (subst (λ (c : Coll). eq_by_cmp coll_cmp a c ≡ true) same (coll_itself a)) f)) (cases_Bool (eq_by_cmp coll_cmp a b))

module _ (set : Settings) (n : Name) (fits : NameFits n) (K : Option Version → Option Version → Type 0) (e f : Tree) (only : OnlyOne set (dir_of n.coll) n.oid K e f) where
  own : InColl set n.coll (λ o. OnlyBy n K (name_at n.coll o)) e f
  own = record {
    dir = ap (option_map guard_of) (only.looks (dir_of n.coll) ((λ s. shorter (coll_text n.coll) (coll_text n.coll) s), (λ s. shorter (coll_text n.coll) (codes "aside") s)));
    objects = λ m is.
        let w = only.here m is in (
          w.0,
          w.1,
          λ o of_o. record {
            other = λ differ. w.2 o of_o (λ same. differ (ap (name_at n.coll) same));
            here = λ same. subst (λ (p : Name). K (content m e p.oid) (content w.0 f p.oid)) (sym same) w.3;
          },
        );
  }

  rest : (c : Coll) → CollFits c → c ≢ n.coll → InColl set c (λ o. OnlyBy n K (name_at c o)) e f
  rest c of_c differ = record {
    dir = ap (option_map guard_of) (only.looks (dir_of c) ((λ s. shorter (coll_text c) (coll_text n.coll) s), (λ s. shorter (coll_text c) (codes "aside") s)));
    objects = λ m is.
        let w = only.rest (dir_of c) (off_aside c of_c) (λ same. differ (one_dir c n.coll of_c fits.coll same)) m is in
        (w.0, w.1, λ o of_o. record { other = λ off. w.2 o of_o; here = λ same. absurd (differ (ap (λ (p : Name). p.coll) same)) });
  }

  -- what is said of each directory is said of each collection
  pub only_object : ForObject set n K e f
  only_object c of_c = ⊎_elim (λ same. subst (λ (d : Coll). InColl set d (λ o. OnlyBy n K (name_at d o)) e f) (sym same) own) (λ differ. rest c of_c differ) (coll_dec c n.coll)

-- cells with the guard beside them
module _ (a b x v : Option Version) where
  along : {A : Type 0} (part : Part) (P : Option Version → A × Option (List ℕ)) (H : A → Value) → ((y : Option Version) → seen y part ≡ (H (P y).0, (P y).1)) → OneOf (P x) (P a) (P b) (P v) → OneOf (seen x part) (seen a part) (seen b part) (seen v part)
  along {A} part P H is which = ⊎_elim (λ at. inl (to x at)) (λ more. ⊎_elim (λ at. inr (inl (to a at))) (λ at. inr (inr (to b at))) more) which
    where
      to : (y : Option Version) → P v ≡ P y → seen v part ≡ seen y part
      to y at = is v ∙ ap (λ (p : A × Option (List ℕ)). (H p.0, p.1)) at ∙ sym (is y)

  seen_there : (y : Option Version) → seen y Exists ≡ (flag (is_there y), attr_in y guard_name)
  seen_there None = refl
  seen_there (Some w) = refl

  seen_length : (y : Option Version) → seen y Length ≡ (number (length (bytes_in y)), attr_in y guard_name)
  seen_length None = refl
  seen_length (Some w) = refl

  seen_byte : (i : ℕ) (y : Option Version) → seen y (Byte i) ≡ (number (get_or (bytes_in y) i 0), attr_in y guard_name)
  seen_byte i None = refl
  seen_byte i (Some w) = refl

  seen_attr : (k : List ℕ) (y : Option Version) → seen y (Attr k) ≡ (contained (attr_in y (attr_name k)), attr_in y guard_name)
  seen_attr k None = refl
  seen_attr k (Some w) = refl

  seen_header : (y : Option Version) → seen y OmapHeader ≡ (absent OmapHeader, attr_in y guard_name)
  seen_header None = refl
  seen_header (Some w) = refl

  seen_key : (k : List ℕ) (y : Option Version) → seen y (OmapKey k) ≡ (absent (OmapKey k), attr_in y guard_name)
  seen_key k None = refl
  seen_key k (Some w) = refl

  pub beside_paired : CellsBeside guard_name a b x v → Paired a b x v
  beside_paired cells Exists = along Exists (λ y. (is_there y, attr_in y guard_name)) flag seen_there cells.there
  beside_paired cells Length = along Length (λ y. (length (bytes_in y), attr_in y guard_name)) number seen_length cells.len
  beside_paired cells (Byte i) = along (Byte i) (λ y. (get_or (bytes_in y) i 0, attr_in y guard_name)) number (seen_byte i) (cells.byte i)
  beside_paired cells (Attr k) = along (Attr k) (λ y. (attr_in y (attr_name k), attr_in y guard_name)) contained (seen_attr k) (cells.attr (attr_name k))
  beside_paired cells OmapHeader = along OmapHeader (λ y. (is_there y, attr_in y guard_name)) (λ t. absent OmapHeader) seen_header cells.there
  beside_paired cells (OmapKey k) = along (OmapKey k) (λ y. (is_there y, attr_in y guard_name)) (λ t. absent (OmapKey k)) (seen_key k) cells.there

-- a file that comes or goes, in one step
pub stays_paired : (a to x y : Option Version) → StaysOr to x y → Paired a to x y
stays_paired a to x y (inl same) part = inl (ap (λ (v : Option Version). seen v part) same)
stays_paired a to x y (inr is) part = inr (inr (ap (λ (v : Option Version). seen v part) is))

-- over disks: what a call on one object of a directory leaves
module _ (set : Settings) (n : Name) (fits : NameFits n) (d0 d1 : Disk) where
  pub only_moves : (K L : Option Version → Option Version → Type 0) → ((x y : Option Version) → K x y → L x y) → Moves (OnlyOne set (dir_of n.coll) n.oid K) d0 d1 → Moves (ForObject set n L) d0 d1
  only_moves K L wide moves = wider (OnlyOne set (dir_of n.coll) n.oid K) (ForObject set n L) (λ e f only. object_wider set n K L wide e f (only_object set n fits K e f only)) d0 d1 moves

  -- a file that is made or taken away
  pub step_moves : (a to : Option Version) → Moves (OnlyOne set (dir_of n.coll) n.oid (StaysOr to)) d0 d1 → Moves (ForObject set n (Paired a to)) d0 d1
  step_moves a to = only_moves (StaysOr to) (Paired a to) (stays_paired a to)

  -- a file on its way
  pub way_moves : (a to : Option Version) → Moves (OnlyOne set (dir_of n.coll) n.oid (CellsBeside guard_name a to)) d0 d1 → Moves (ForObject set n (Paired a to)) d0 d1
  way_moves a to = only_moves (CellsBeside guard_name a to) (Paired a to) (λ x y cells. beside_paired a to x y cells)
