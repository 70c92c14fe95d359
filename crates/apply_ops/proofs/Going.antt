-- An operation on one object that is next: behind a look at its collection, images stay and what reads goes on.
use Rattle.std.proofs.Common.{◌≡◌, ◌≢◌, ℕ, ◌+◌, Bool, false, ◌&&◌, refl, sym, ◌∙◌, ap, subst, Option, Some, None, Result, Ok, Err, OnOk}
use Rattle.std.specs.Option.{is_some, option_map}
use Rattle.fs_names.specs.declared.coll.Coll.{Coll}
use Rattle.fs_names.specs.declared.settings.Settings.{Settings}
use Rattle.fs_model.specs.declared.op.Op.{Op}
use Rattle.tree_api.specs.Tree.{Version, Tree, IsDir, held}
use Rattle.tree_api.specs.Disk.{Disk, Sound, Stays, Keeps, Leaves}
use Rattle.tree_stands.specs.Names.{Name, NameFits, coll_fits}
use Rattle.tree_stands.specs.Standing.{ObjectCrash}
use Rattle.tree_stands.specs.Trees.{dir_of, dir_guard, guard_of, ForObject}
use Rattle.op_effects.specs.Clear.{KeepsFree}
use Rattle.op_effects.specs.Ready.{Ready, OffStays}
use Rattle.object_ops.proofs.Standing.{ready_stays}
use Rattle.op_places.specs.Places.{is_there}
use Rattle.tree_places.specs.Images.{IsOwn, Image}
use Rattle.tree_places.specs.Underway.{Underway}
use Rattle.tree_places.proofs.Own.{own_law}
use Rattle.tree_places.proofs.Underway.{looks_on, skips_on, edit_stops, edits_on, own_keeps_off}
use Rattle.apply_ops.specs.Editing.{edited, file_after}
use Rattle.apply_ops.specs.Next.{Spot, IsNext, IsReady}
use Rattle.apply_ops.proofs.Rows.{row_of, edits_one, names_one}

-- what follows where a call answered Ok
pub then_ok : {T E A B : Type 0} (r : Result T E) → (A → B) → OnOk r A → OnOk r B
then_ok (Ok v) f a = f a
then_ok (Err e) f a = tt

-- a directory that stands has a guard to be read, and none is read where nothing stands
pub guard_there : (t : Tree) (c : Coll) → IsDir t (dir_of c) → dir_guard t c ≢ None
guard_there t c dir none = absurd (some_none (t.node dir.0) (sym (ap (λ (o : Option ℕ). option_map guard_of (held o t.node)) dir.1) ∙ none))
  where
    some_none : (v : Version) → Some (guard_of v) ≡ None → ⊥
    some_none v e = cc

pub guard_missing : (t : Tree) (n : Name) → t.at (dir_of n.coll) ≡ None → is_there t n.coll ≡ false
guard_missing t n none = ap (λ (o : Option ℕ). coll_fits n.coll && is_some (option_map guard_of (held o t.node))) none ∙ never (coll_fits n.coll)
  where
    never : (b : Bool) → (b && false) ≡ false
    never Bool.true = refl
    never Bool.false = refl

-- any operation may be done still, behind calls that change nothing, and behind one on an object
pub all_stays : (set : Settings) (old mid : Disk) → Stays old mid → IsReady set old → IsReady set mid
all_stays set old mid stays is = record {
  ready = ready_stays old mid stays set is.ready;
  own = subst IsOwn (sym stays.tree) is.own;
}

pub all_edited : (set : Settings) (c : Coll) (mid new : Disk) → IsReady set mid → Leaves (OffStays (dir_of c)) mid new → Leaves KeepsFree mid new → Ready set new → IsReady set new
all_edited set c mid new is off free ready =
    record { ready = ready; own = own_law.keeps mid.tree new.tree (own_law.off c mid.tree new.tree off.now free.now) is.own }

module _ (set : Settings) (s : Spot) (op : Op) (old mid : Disk) (stays : Stays old mid) (next : IsNext set s op old) where
  now_mid : Underway set s.how s.h s.n s.lo s.hi s.seq s.i old mid
  now_mid = looks_on set s.how s.h s.n s.lo s.hi s.seq s.ops next.turn s.i old old mid stays next.now

  module _ (name : Name) (is : edited op ≡ Some name) (sound : Sound mid) where
    pub left_out : mid.tree.at (dir_of name.coll) ≡ None → Underway set s.how s.h s.n s.lo s.hi s.seq (s.i + 1) old mid
    left_out none =
        let one = names_one op name is in
        skips_on set s.how s.h s.n s.lo s.hi s.seq s.ops next.turn s.i op next.here old mid sound now_mid name.coll one.0 one.1 (guard_missing mid.tree name none)

    module _ (fits : NameFits name) (dir : IsDir mid.tree (dir_of name.coll)) (ready : Ready set mid) (new : Disk) (sound_new : Sound new)
        (crash : ObjectCrash set name (file_after op) mid new) (off : Leaves (OffStays (dir_of name.coll)) mid new) (free : Leaves KeepsFree mid new) where
      pub edit_keeps : Keeps (Image set s.h s.n s.lo s.hi) old new
      edit_keeps = edit_stops set s.how s.h s.n s.lo s.hi s.seq s.ops next.turn s.i op next.here old mid sound now_mid new sound_new name (row_of op) (file_after op)
          (edits_one op mid.tree name is fits (guard_there mid.tree name.coll dir)) ready.colls crash
          (own_keeps_off set s.h s.n s.lo s.hi mid new now_mid.images name.coll off.any_moment free.any_moment)

      pub edit_done : ForObject set name (λ x y. y ≡ file_after op x) mid.tree new.tree → Underway set s.how s.h s.n s.lo s.hi s.seq (s.i + 1) old new
      edit_done goes = edits_on set s.how s.h s.n s.lo s.hi s.seq s.ops next.turn s.i op next.here old mid sound now_mid new sound_new name (row_of op) (file_after op)
          (edits_one op mid.tree name is fits (guard_there mid.tree name.coll dir)) ready.colls crash
          (own_keeps_off set s.h s.n s.lo s.hi mid new now_mid.images name.coll off.any_moment free.any_moment) goes
