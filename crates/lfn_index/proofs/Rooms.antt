-- Room for a file, and a file that goes there.
use Rattle.std.proofs.Common.{◌≡◌, ◌⊎◌, inl, inr, ℕ, ◌<◌, ◌≤◌, ◌^◌, List, length, refl, sym, ◌∙◌, ap, subst, Option, Some, None, Result, Ok, Err, IfOk, OnOk, arith}
use Rattle.fs_names.specs.declared.oid.Oid.{Oid}
use Rattle.fs_names.specs.declared.settings.Settings.{Settings}
use Rattle.fs_names.specs.Reading.{OidFits}
use Rattle.fs_names.specs.Text.{oid_text}
use Rattle.tree_api.specs.Tree.{Path, Names, Tree, IsFile, IsDir, IsAbove, HasParent, MovedFile, Named}
use Rattle.tree_api.specs.Disk.{Disk, Sound, Stays, Leaves, NameChange}
use Rattle.tree_api.proofs.Images.{on_ok2}
use Rattle.tree_api.proofs.Moments.{leaves_none, leaves_more}
use Rattle.tree_api.specs.declared.tree.TreeError.{TreeError}
use Rattle.lfn_index.specs.FileName.{CalledBy, stem, long_name}
use Rattle.lfn_index.specs.Directory.{entry}
use Rattle.lfn_index.specs.Changes.{IsLeast}
use Rattle.lfn_index.specs.Moving.{Same, ShortMove}
use Rattle.lfn_index.specs.Maps.{KeepsOthersLevel}
use Rattle.lfn_index.specs.Room.{IsRoom, Shifted, ObjectShifts, ObjectShifted}
use Rattle.lfn_index.proofs.Homing.{names_same, names_joins}
use Rattle.lfn_index.proofs.Made.{not_above}
use Rattle.lfn_index.proofs.Moves.{shift_moves, shift_reads, shift_level}

pub own_room : (set : Settings) (t : Tree) (dir p : Path) (text step : List ℕ) → p ≡ entry dir step → t.at p ≡ None → IsRoom set t dir text step p
own_room set t dir p text step path free = (step, path, free, λ lfn called. called)

number_room : (set : Settings) (t : Tree) (dir p : Path) (text step front : List ℕ) → 200 < length text → front ≡ stem set text
    → (number : ℕ) × (number < 2 ^ 64) × (p ≡ entry dir (long_name front number)) × IsLeast t dir front number → IsRoom set t dir text step p
number_room set t dir p text step front long is found = (
  long_name front found.0,
  found.2,
  subst (λ q. t.at q ≡ None) (sym found.2) found.3.free,
  λ lfn called. elim called as (λ s. CalledBy set text (long_name front found.0) lfn) [
    | inl short ↦ absurd (omega (arith, short.0, long))
    | inr other ↦ inr (long, (found.0, found.1, ap (λ f. long_name f found.0) is), other.2)
  ],
)

pub long_room : (set : Settings) (t : Tree) (dir : Path) (text step front : List ℕ) (r : Result Path TreeError) → 200 < length text → front ≡ stem set text
    → IfOk r (λ p. (number : ℕ) × (number < 2 ^ 64) × (p ≡ entry dir (long_name front number)) × IsLeast t dir front number) → IfOk r (IsRoom set t dir text step)
long_room set t dir text step front (Ok p) long is found = number_room set t dir p text step front long is found
long_room set t dir text step front (Err e) long is found = tt

pub room_along : (set : Settings) (t now : Tree) (dir p : Path) (text own step : List ℕ) → now ≡ t → text ≡ own → IsRoom set now dir text step p → IsRoom set t dir own step p
room_along set t now dir p text own step same is room = subst (λ (x : List ℕ). IsRoom set t dir x step p) is (subst (λ (s : Tree). IsRoom set s dir text step p) same room)

-- nothing has moved yet
pub unmoved : (d0 d1 : Disk) → Sound d0 → Stays d0 d1 → Leaves Same d0 d1
unmoved d0 d1 s0 stays = leaves_none Same (λ c. refl) (λ a b c one two. two ∙ one) d0 d1 s0 stays

-- the file goes there
module _ (set : Settings) (from dir : Path) (text step : List ℕ) (d0 d1 : Disk) (s0 : Sound d0) (s1 : Sound d1) (stays : Stays d0 d1)
    (file : IsFile d0.tree from) (is_dir : IsDir d0.tree dir) (p : Path) (room : IsRoom set d0.tree dir text step p) where
  pub shift_file : IsFile d1.tree from
  shift_file = subst (λ (x : Tree). IsFile x from) (sym stays.tree) file

  pub shift_there : d1.tree.at from ≡ None → ⊥
  shift_there none = let z : None ≡ Some shift_file.0 = sym none ∙ shift_file.1 in cc

  pub shift_clear : IsAbove from p → ⊥
  shift_clear = not_above d0 s0 from dir p room.0 room.1 file is_dir

  pub shift_free : d1.tree.at p ≡ None
  shift_free = ap (λ (x : Tree). x.at p) stays.tree ∙ room.2

  pub shift_parent : HasParent d1.tree p
  shift_parent = (dir, room.0, room.1, subst (λ (x : Tree). IsDir x dir) (sym stays.tree) is_dir)

  module _ {T : Type 0} (d2 : Disk) (r : Result T TreeError) (change : NameChange (MovedFile from p) d1 d2 r) where
    is : MovedFile from p d0.tree.at change.at
    is = subst (λ (x : Tree). MovedFile from p x.at change.at) stays.tree change.is

    pub shifts : ShortMove from p d0 d2
    shifts = record {
      at = change.at;
      moved = is;
      leaves = leaves_more (Named change.at) (names_same change.at) (names_joins change.at) d0 d1 d2 s1
          (leaves_none (Named change.at) (names_same change.at) (names_joins change.at) d0 d1 s0 stays) (record { steps = change.step; now = change.partly });
    }

    pub shifted : OnOk r (Shifted set from dir text step d0.tree d2.tree p)
    shifted = on_ok2 r change.ok change.ok (λ done again. record {
      room = room;
      moved = subst (λ (at : Names). MovedFile from p d0.tree.at at) (sym (ap (λ (x : Tree). x.at) done)) is;
      nodes = ap (λ (x : Tree). x.node) done ∙ ap (λ (x : Tree). x.node) stays.tree;
      snaps = ap (λ (x : Tree). x.snap) done ∙ ap (λ (x : Tree). x.snap) stays.tree;
    })

-- the maps of all directories
module _ {T : Type 0} (set : Settings) (from dir : Path) (oid : Oid) (step : List ℕ) (d0 d1 : Disk) (s0 : Sound d0) (s1 : Sound d1) (stays : Stays d0 d1)
    (file : IsFile d0.tree from) (is_dir : IsDir d0.tree dir) (p : Path) (room : IsRoom set d0.tree dir (oid_text oid) step p) (fits : OidFits oid) (d2 : Disk) (r : Result T TreeError) (change : NameChange (MovedFile from p) d1 d2 r) where
  move : ShortMove from p d0 d2
  move = shifts set from dir (oid_text oid) step d0 d1 s0 s1 stays file is_dir p room d2 r change

  pub shift_objects : ObjectShifts set from dir oid step d0 d2
  shift_objects n own = shift_moves set from dir oid step d0 s0 fits file p room n own move.at move.moved d2 move.leaves

  abbrev kept : MovedFile from p d0.tree.at change.at
  kept = subst (λ (x : Tree). MovedFile from p x.at change.at) stays.tree change.is

  pub shift_now : OnOk r (ObjectShifted set from dir oid step d0 d2)
  shift_now = on_ok2 r change.ok change.ok (λ done again n own.
      shift_reads set from dir oid step d0 s0 fits file p room n own change.at kept d2.tree (ap (λ (x : Tree). x.at) done) (ap (λ (x : Tree). x.node) done ∙ ap (λ (x : Tree). x.node) stays.tree))

  steps : Leaves (Named change.at) d0 d2
  steps = leaves_more (Named change.at) (names_same change.at) (names_joins change.at) d0 d1 d2 s1
      (leaves_none (Named change.at) (names_same change.at) (names_joins change.at) d0 d1 s0 stays) (record { steps = change.step; now = change.partly })

  pub shift_levels : Sound d2 → OnOk r (KeepsOthersLevel from d0 d2)
  shift_levels s2 = on_ok2 r change.ok change.ok (λ done again.
      shift_level from p d0 d2 s0 s2 change.at kept steps (ap (λ (x : Tree). x.at) done) (ap (λ (x : Tree). x.node) done ∙ ap (λ (x : Tree). x.node) stays.tree))
