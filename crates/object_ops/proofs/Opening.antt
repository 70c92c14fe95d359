-- An object's file is looked for, made or taken away.
use Rattle.std.proofs.Common.{◌≡◌, ◌≢◌, refl, sym, ◌∙◌, ap, subst, List, ℕ, Option, Some, None}
use Rattle.fs_names.specs.declared.settings.Pos.{Pos}
use Rattle.fs_names.specs.declared.settings.Settings.{Settings}
use Rattle.fs_names.specs.Text.{oid_text}
use Rattle.tree_api.specs.Tree.{Path, Version, Tree, held, IsFile}
use Rattle.tree_api.specs.Disk.{Disk, Sound, Stays, Leaves}
use Rattle.tree_api.specs.Renaming.{Removes}
use Rattle.tree_api.proofs.Renaming.{run_after}
use Rattle.lfn_index.specs.Changes.{aside_at, new_file, MadeAt}
use Rattle.lfn_index.specs.Directory.{HasFile, StandsAt}
use Rattle.lfn_index.specs.Maps.{Map, IsMap, IsInMap, KeepsLevel, KeepsAttrs}
use Rattle.lfn_index.specs.OneObject.{OnlyOne, StaysOr, Becomes, OneGoes, MapsNew}
use Rattle.lfn_index.proofs.Only.{only_same}
use Rattle.tree_stands.specs.Files.{touched_file, no_file}
use Rattle.tree_stands.specs.Names.{Name, NameFits}
use Rattle.tree_stands.specs.Trees.{dir_of}
use Rattle.tree_stands.proofs.Only.{stays_paired}
use Rattle.op_effects.specs.Ready.{Ready}
use Rattle.object_ops.specs.Object.{Holds, Among, GoesBy, ReadsBy}
use Rattle.object_ops.proofs.Goes.{among_same, among_joins, among_wider, reads_as}
use Rattle.object_ops.proofs.Standing.{ready_stays, ready_made, ready_gone}

pub stands_file : (set : Settings) (t : Tree) (dir : Path) (text : List ℕ) (p : Path) → StandsAt set t dir text p → IsFile t p
stands_file set t dir text p stands = (stands.1, ap t.at stands.2 ∙ stands.3.here, stands.3.kind)

module _ (set : Settings) (n : Name) (fits : NameFits n) (dir : Path) (at : dir ≡ dir_of n.coll) where
  pub held_none : (t : Tree) (o : Option Path) → ((p : Path) → o ≢ Some p) → ((m : Map) → IsMap set t dir m → IsInMap t m n.oid o) → Holds set n t None
  held_none t None not in_map m is = ap (λ (x : Option ℕ). held x t.node) (in_map m (subst (λ (q : Path). IsMap set t q m) (sym at) is))
  held_none t (Some p) not in_map m is = absurd (not p refl)

  held_some : (t : Tree) (p : Path) (stands : StandsAt set t dir (oid_text n.oid) p) → Holds set n t (Some (t.node stands.1))
  held_some t p stands m is =
      ap (λ (x : Option ℕ). held x t.node) (is.files n.oid stands.0 stands.1 (fits.oid, subst (λ (q : Path). HasFile set t q (oid_text n.oid) stands.0 stands.1) at stands.3))

  module _ (d0 d1 : Disk) (s0 : Sound d0) (s1 : Sound d1) (stays : Stays d0 d1) where
    -- a file is there
    module _ (p : Path) (stands : StandsAt set d0.tree dir (oid_text n.oid) p) where
      pub found_reads : ReadsBy set n (touched_file (oid_text n.oid)) d0.tree d1.tree
      found_reads = subst (λ (t : Tree). ReadsBy set n (touched_file (oid_text n.oid)) d0.tree t) (sym stays.tree)
          (reads_as set n fits (touched_file (oid_text n.oid)) (Some (d0.tree.node stands.1)) (λ x y. y ≡ x) d0.tree d0.tree (held_some d0.tree p stands) (λ y is. is)
          (only_same set (dir_of n.coll) n.oid (λ x y. y ≡ x) (λ x y is. is) d0.tree fits.oid))

      pub found_stands : StandsAt set d1.tree (dir_of n.coll) (oid_text n.oid) p
      found_stands = subst (λ (t : Tree). StandsAt set t (dir_of n.coll) (oid_text n.oid) p) (sym stays.tree) (subst (λ (q : Path). StandsAt set d0.tree q (oid_text n.oid) p) at stands)

      pub found_file : IsFile d1.tree p
      found_file = stands_file set d1.tree (dir_of n.coll) (oid_text n.oid) p found_stands

    -- none is there
    pub none_reads : Holds set n d0.tree None → ReadsBy set n no_file d0.tree d1.tree
    none_reads none = subst (λ (t : Tree). ReadsBy set n no_file d0.tree t) (sym stays.tree)
        (reads_as set n fits no_file None (λ x y. y ≡ x) d0.tree d0.tree none (λ y is. is) (only_same set (dir_of n.coll) n.oid (λ x y. y ≡ x) (λ x y is. is) d0.tree fits.oid))

    module _ (ready : Ready set d0) (d2 : Disk) where
      was_ready : Ready set d1
      was_ready = ready_stays d0 d1 stays set ready

      -- one step of the names, which the object's file comes or goes by
      stepped : (x to : Option Version) → OneGoes set (dir_of n.coll) n.oid to d1 d2 → Leaves (Among set n x to) d0 d2
      stepped x to one = run_after (Among set n x to) (among_same set n fits x to) (among_joins set n fits x to) d0 d1 d2 s0 s1 stays
          (among_wider set n fits (StaysOr to) x to (stays_paired x to) d1 d2 (one (was_ready.level n.coll fits.coll)))

      module _ (one : OneGoes set dir n.oid (Some (new_file (oid_text n.oid))) d1 d2) where
        one_at : OneGoes set (dir_of n.coll) n.oid (Some (new_file (oid_text n.oid))) d1 d2
        one_at = subst (λ (q : Path). OneGoes set q n.oid (Some (new_file (oid_text n.oid))) d1 d2) at one

        pub made_goes : Holds set n d0.tree None → GoesBy set n (touched_file (oid_text n.oid)) d0 d2
        made_goes none x holds =
            let whole = ready.whole d0.tree s0.now n.coll fits.coll in
            let missing : None ≡ x = sym (none whole.0 whole.1) ∙ holds whole.0 whole.1 in
            subst (λ (v : Option Version). Leaves (Among set n v (touched_file (oid_text n.oid) v)) d0 d2) missing (stepped None (Some (new_file (oid_text n.oid))) one_at)

        pub made_ready : Sound d2 → (pos : Pos) (p : Path) → MadeAt set (aside_at pos) dir (oid_text n.oid) d1 d2 p → KeepsLevel d1 d2 → KeepsAttrs d1 d2 → Ready set d2
        made_ready s2 pos p made levels attrs =
            ready_made set n fits pos d1 d2 s2 was_ready p (subst (λ (q : Path). MadeAt set (aside_at pos) q (oid_text n.oid) d1 d2 p) at made) one_at levels attrs

      module _ (p : Path) (maps : MapsNew set dir n.oid d1.tree d2.tree p) where
        pub made_reads : Holds set n d0.tree None → ReadsBy set n (touched_file (oid_text n.oid)) d0.tree d2.tree
        made_reads none = reads_as set n fits (touched_file (oid_text n.oid)) None (Becomes (Some (new_file (oid_text n.oid)))) d0.tree d2.tree none (λ y is. is)
            (subst (λ (t : Tree). OnlyOne set (dir_of n.coll) n.oid (Becomes (Some (new_file (oid_text n.oid)))) t d2.tree) stays.tree
            (subst (λ (q : Path). OnlyOne set q n.oid (Becomes (Some (new_file (oid_text n.oid)))) d1.tree d2.tree) at maps.reads))

        pub made_stands : StandsAt set d2.tree (dir_of n.coll) (oid_text n.oid) p
        made_stands = subst (λ (q : Path). StandsAt set d2.tree q (oid_text n.oid) p) at maps.stands

        pub made_file : IsFile d2.tree p
        made_file = stands_file set d2.tree (dir_of n.coll) (oid_text n.oid) p made_stands

      -- the file goes
      pub gone_goes : OneGoes set (dir_of n.coll) n.oid None d1 d2 → GoesBy set n no_file d0 d2
      gone_goes one x holds = stepped x None one

      pub gone_reads : OnlyOne set (dir_of n.coll) n.oid (Becomes None) d1.tree d2.tree → ReadsBy set n no_file d0.tree d2.tree
      gone_reads reads = subst (λ (t : Tree). ReadsBy set n no_file t d2.tree) stays.tree reads

      pub gone_ready : Sound d2 → (p : Path) → StandsAt set d1.tree (dir_of n.coll) (oid_text n.oid) p → Leaves (Removes p d1.tree) d1 d2 → OneGoes set (dir_of n.coll) n.oid None d1 d2
          → KeepsLevel d1 d2 → KeepsAttrs d1 d2 → Ready set d2
      gone_ready s2 p stands leaves one levels attrs = ready_gone set n fits d1 d2 s2 was_ready p stands.0 stands.2 leaves one levels attrs
