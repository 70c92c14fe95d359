-- A file that is there, or was made, is changed.
use Rattle.std.proofs.Common.{◌≡◌, inl, inr, ℕ, true, List, length, get_or, refl, sym, ◌∙◌, ap, subst, Option, Some, None}
use Rattle.std.proofs.lemmas.Bool.{cases_eq}
use Rattle.fs_names.specs.declared.coll.Coll.{Coll}
use Rattle.fs_names.specs.declared.settings.Settings.{Settings}
use Rattle.fs_names.specs.Reading.{CollFits}
use Rattle.fs_names.specs.Text.{oid_text}
use Rattle.tree_api.specs.Tree.{Path, Version, Names, held}
use Rattle.tree_api.specs.Disk.{Disk, Sound, From, Leaves}
use Rattle.tree_api.specs.Passing.{Passing}
use Rattle.tree_api.proofs.Images.{same_some}
use Rattle.tree_api.proofs.Moments.{now_from}
use Rattle.tree_api.proofs.Nodes.{free_along}
use Rattle.lfn_index.specs.Cells.{CellsBeside}
use Rattle.lfn_index.specs.Changes.{aside, new_file}
use Rattle.lfn_index.specs.Directory.{lfn_name, entry, HasFile, StandsAt}
use Rattle.lfn_index.specs.Maps.{Level, AttrLevel, Whole}
use Rattle.lfn_index.specs.OneObject.{OnlyOne}
use Rattle.lfn_index.proofs.Goes.{goes_beside, goes_attrs, goes_becomes}
use Rattle.lfn_index.proofs.Only.{only_joins}
use Rattle.object_file.specs.Passing.{FileGoes}
use Rattle.replay_guard.specs.Guards.{guard_name}
use Rattle.fs_cells.specs.declared.cell.Part.TheVariants.{Exists, Length, Byte, Attr, OmapHeader, OmapKey}
use Rattle.fs_cells.specs.Values.{flag, number, content, absent}
use Rattle.tree_stands.specs.Files.{or_new, touched_file}
use Rattle.tree_stands.specs.Names.{Name, NameFits}
use Rattle.tree_stands.specs.Standing.{ObjectCrash}
use Rattle.tree_stands.specs.Trees.{dir_of, ForObject}
use Rattle.tree_stands.proofs.Files.{new_is_new}
use Rattle.tree_stands.proofs.Joining.{Amid}
use Rattle.tree_stands.proofs.Only.{off_aside, beside_paired}
use Rattle.op_effects.specs.Ready.{Ready, OffStays}
use Rattle.object_ops.specs.Object.{Holds, Among, GoesBy, ReadsBy}
use Rattle.object_ops.proofs.Goes.{among_wider, goes_amid, goes_then, crash_by, off_by, done_by}
use Rattle.object_ops.proofs.Standing.{ready_next}

-- a change of a file that leaves alone what isn't its object's
pub record Inside (G : Version → Version) : Type 0 where
  pub text : (v : Version) → (G v).attr lfn_name ≡ v.attr lfn_name
  pub guard : (v : Version) → (G v).attr guard_name ≡ v.attr guard_name

-- what it makes of an object's file
abbrev pub changed : (Version → Version) → List ℕ → Option Version → Option Version
changed G text x = Some (G (or_new text x))

over : (Version → Version) → Option Version → Option Version
over G None = None
over G (Some v) = Some (G v)

-- a new file has the cells of none, but that it exists, as then
module _ (G : Version → Version) (inside : Inside G) (text : List ℕ) where
  new_amid : Amid None (Some (G (new_file text))) (Some (new_file text))
  new_amid Exists = inr (λ i. (flag true, sym (inside.guard (new_file text)) i))
  new_amid Length = let new = new_is_new text in inl (λ i. (ap (λ (l : List ℕ). number (length l)) new.bytes i, new.guard i))
  new_amid (Byte j) = let new = new_is_new text in inl (λ i. (ap (λ (l : List ℕ). number (get_or l j 0)) new.bytes i, new.guard i))
  new_amid (Attr k) = let new = new_is_new text in inl (λ i. (ap content (new.attr k) i, new.guard i))
  new_amid OmapHeader = let new = new_is_new text in inl (λ i. (absent OmapHeader, new.guard i))
  new_amid (OmapKey k) = let new = new_is_new text in inl (λ i. (absent (OmapKey k), new.guard i))

  pub touched_amid : (x : Option Version) → Amid x (changed G text x) (touched_file text x)
  touched_amid None part = new_amid part
  touched_amid (Some v) part = inl refl

module _ (set : Settings) (n : Name) (fits : NameFits n) (G : Version → Version) (inside : Inside G) where
  -- it has come no further than the file
  module _ (d0 d1 : Disk) (opened : GoesBy set n (touched_file (oid_text n.oid)) d0 d1) where
    part_goes : GoesBy set n (changed G (oid_text n.oid)) d0 d1
    part_goes = goes_amid set n fits (touched_file (oid_text n.oid)) (changed G (oid_text n.oid)) (touched_amid G inside (oid_text n.oid)) d0 d1 opened

    pub part_crash : ObjectCrash set n (changed G (oid_text n.oid)) d0 d1
    part_crash = crash_by set n fits (changed G (oid_text n.oid)) d0 d1 part_goes

    pub part_off : Ready set d0 → Sound d0 → Leaves (OffStays (dir_of n.coll)) d0 d1
    part_off ready s0 = off_by set n fits (changed G (oid_text n.oid)) d0 d1 part_goes ready s0

  -- the file is changed
  module _ (d1 d2 : Disk) (s1 : Sound d1) (s2 : Sound d2) (ready : Ready set d1) (p : Path) (stands : StandsAt set d1.tree (dir_of n.coll) (oid_text n.oid) p) (done : Type 0)
      (goes : FileGoes p (λ a b. b ≡ G a) d1 d2 done) where
    file : HasFile set d1.tree (dir_of n.coll) (oid_text n.oid) stands.0 goes.n
    file = subst (λ (k : ℕ). HasFile set d1.tree (dir_of n.coll) (oid_text n.oid) stands.0 k) (same_some stands.1 goes.n (sym stands.3.here ∙ ap d1.tree.at (sym stands.2) ∙ goes.here)) stands.3

    text : goes.to.attr lfn_name ≡ (d1.tree.node goes.n).attr lfn_name
    text = ap (λ (v : Version). v.attr lfn_name) goes.is ∙ inside.text (d1.tree.node goes.n)

    guard : goes.to.attr guard_name ≡ (d1.tree.node goes.n).attr guard_name
    guard = ap (λ (v : Version). v.attr guard_name) goes.is ∙ inside.guard (d1.tree.node goes.n)

    leaves : Leaves (OnlyOne set (dir_of n.coll) n.oid (CellsBeside guard_name (Some (d1.tree.node goes.n)) (Some goes.to))) d1 d2
    leaves = goes_beside set (dir_of n.coll) n.oid d1 d2 s1 s2 (off_aside n.coll fits.coll) (ready.level n.coll fits.coll) fits.oid goes.n stands.0 file goes.to text
        guard_name (ready.guards n.coll fits.coll) guard goes.any_moment goes.partly

    among : Leaves (Among set n (Some (d1.tree.node goes.n)) (Some (G (d1.tree.node goes.n)))) d1 d2
    among = subst (λ (v : Version). Leaves (Among set n (Some (d1.tree.node goes.n)) (Some v)) d1 d2) goes.is
        (among_wider set n fits (CellsBeside guard_name (Some (d1.tree.node goes.n)) (Some goes.to)) (Some (d1.tree.node goes.n)) (Some goes.to)
        (λ x y cells. beside_paired (Some (d1.tree.node goes.n)) (Some goes.to) x y cells) d1 d2 leaves)

    kinds : (k : ℕ) → (d2.tree.node k).dir ≡ (d1.tree.node k).dir
    kinds k = elim (cases_eq k goes.n) [
      | inl same ↦ subst (λ (j : ℕ). (d2.tree.node j).dir ≡ (d1.tree.node j).dir) (sym same) goes.partly.dir
      | inr not ↦ ap (λ (v : Version). v.dir) (goes.partly.others k not)
    ]

    attrs_on : (key : List ℕ) → AttrLevel key (dir_of n.coll) d1 → goes.to.attr key ≡ (d1.tree.node goes.n).attr key → (d : Path) → AttrLevel key d d1 → AttrLevel key d d2
    attrs_on key own stays d was = goes_attrs set (dir_of n.coll) n.oid d1 d2 s1 s2 (off_aside n.coll fits.coll) (ready.level n.coll fits.coll) fits.oid goes.n stands.0 file goes.to text
        key own stays goes.any_moment goes.partly d was

    level_on : (c : Coll) → CollFits c → Level (dir_of c) d2
    level_on c of_c = record {
      alone = λ a s q k may here there.
          let from = now_from (From d1 (Passing goes.n (d1.tree.node goes.n) goes.to)) d1 d2 s2 goes.any_moment a may in
          (ready.level c of_c).alone from.0 s q k from.1 (sym (ap (λ (f : Names). f (entry (dir_of c) s)) goes.partly.names) ∙ here) (sym (ap (λ (f : Names). f q) from.2.names) ∙ there);
      called = attrs_on lfn_name (ready.level n.coll fits.coll).called text (dir_of c) (ready.level c of_c).called;
    }

    pub op_ready : Ready set d2
    op_ready = ready_next set n fits (CellsBeside guard_name (Some (d1.tree.node goes.n)) (Some goes.to)) d1 d2 s2 ready leaves
        (let was = ready.dir in (was.0, ap (λ (f : Names). f aside) goes.partly.names ∙ was.1, kinds was.0 ∙ was.2))
        (λ s. free_along (entry aside s) d1.tree d2.tree (ap (λ (f : Names). f (entry aside s)) goes.partly.names) (λ k here. kinds k) (ready.places s))
        level_on (λ c of_c. attrs_on guard_name (ready.guards n.coll fits.coll) guard (dir_of c) (ready.guards c of_c))

    becomes : done → OnlyOne set (dir_of n.coll) n.oid (λ x y. (x ≡ Some (d1.tree.node goes.n)) × (y ≡ Some goes.to)) d1.tree d2.tree
    becomes is = goes_becomes set (dir_of n.coll) n.oid d1 d2 s1 s2 (off_aside n.coll fits.coll) (ready.level n.coll fits.coll) fits.oid goes.n stands.0 file goes.to text
        goes.any_moment goes.partly (goes.ok is)

    -- after it was opened
    module _ (d0 : Disk) (s0 : Sound d0) (was_ready : Ready set d0) (opened : GoesBy set n (touched_file (oid_text n.oid)) d0 d1) (reads : ReadsBy set n (touched_file (oid_text n.oid)) d0.tree d1.tree) where
      whole : Whole set (dir_of n.coll) d0.tree
      whole = was_ready.whole d0.tree s0.now n.coll fits.coll

      mid : (x : Option Version) → Holds set n d0.tree x → Some (d1.tree.node goes.n) ≡ touched_file (oid_text n.oid) x
      mid x holds =
          let w = reads.here whole.0 whole.1 in
          let here : w.0 n.oid ≡ Some goes.n = w.1.files n.oid stands.0 goes.n (fits.oid, file) in
          sym (ap (λ (o : Option ℕ). held o d1.tree.node) here) ∙ w.3 ∙ ap (touched_file (oid_text n.oid)) (holds whole.0 whole.1)

      mid_over : (x : Option Version) → Some (d1.tree.node goes.n) ≡ touched_file (oid_text n.oid) x → Some (G (d1.tree.node goes.n)) ≡ changed G (oid_text n.oid) x
      unfolding over
      mid_over x is = ap (over G) is

      op_goes : GoesBy set n (changed G (oid_text n.oid)) d0 d2
      op_goes = goes_then set n fits (touched_file (oid_text n.oid)) (changed G (oid_text n.oid)) (touched_amid G inside (oid_text n.oid)) d0 d1 d2 s1 opened (λ x holds.
          subst (λ (v : Option Version). Leaves (Among set n v (changed G (oid_text n.oid) x)) d1 d2) (mid x holds)
          (subst (λ (v : Option Version). Leaves (Among set n (Some (d1.tree.node goes.n)) v) d1 d2) (mid_over x (mid x holds)) among))

      pub op_crash : ObjectCrash set n (changed G (oid_text n.oid)) d0 d2
      op_crash = crash_by set n fits (changed G (oid_text n.oid)) d0 d2 op_goes

      pub op_off : Leaves (OffStays (dir_of n.coll)) d0 d2
      op_off = off_by set n fits (changed G (oid_text n.oid)) d0 d2 op_goes was_ready s0

      pub op_done : done → ForObject set n (λ x y. y ≡ changed G (oid_text n.oid) x) d0.tree d2.tree
      op_done is = done_by set n fits (changed G (oid_text n.oid)) d0.tree d2.tree
          (only_joins set (dir_of n.coll) n.oid (λ x y. y ≡ touched_file (oid_text n.oid) x) (λ x y. (x ≡ Some (d1.tree.node goes.n)) × (y ≡ Some goes.to)) (λ x y. y ≡ changed G (oid_text n.oid) x)
          (λ x y z one two. two.1 ∙ ap Some goes.is ∙ mid_over x (sym two.0 ∙ one)) d0.tree d1.tree d2.tree reads (becomes is))
