-- A collection is made, or taken away, as the next operation.
use Rattle.std.proofs.Common.{◌≡◌, ◌≢◌, ◌⊎◌, ◌+◌, None}
use Rattle.fs_names.specs.declared.coll.Coll.{Coll}
use Rattle.fs_names.specs.declared.settings.Pos.{Pos}
use Rattle.fs_names.specs.declared.settings.Settings.{Settings}
use Rattle.fs_names.specs.Reading.{CollFits}
use Rattle.fs_model.specs.declared.op.Op.{Op}
use Rattle.fs_model.specs.declared.op.Op.TheVariants.{MkColl, RmColl}
use Rattle.tree_api.specs.Disk.{Disk, Sound, Keeps, Leaves}
use Rattle.tree_stands.specs.Trees.{dir_of, dir_guard}
use Rattle.op_effects.specs.Clear.{KeepsClear}
use Rattle.op_effects.specs.Collections.{Makes, Drops}
use Rattle.coll_ops.specs.Places.{trash_at, Within}
use Rattle.coll_ops.specs.Changes.{Elsewhere}
use Rattle.tree_places.specs.Images.{Image}
use Rattle.tree_places.specs.Underway.{Underway, OwnIs}
use Rattle.tree_places.proofs.Underway.{make_stops, makes_on, drop_stops, drops_on, own_keeps}
use Rattle.apply_ops.specs.Next.{Spot, IsNext}
use Rattle.apply_ops.proofs.Sites.{made_elsewhere, dropped_elsewhere}

module _ (set : Settings) (s : Spot) (op : Op) (c : Coll) (fits : CollFits c) (old new : Disk) (sound : Sound old) (sound_new : Sound new) (next : IsNext set s op old) where
  module _ (is : op ≡ MkColl c) (leaves : Leaves (Makes set c) old new) (off : Leaves (Elsewhere (Within (dir_of c))) old new) (clear : Leaves KeepsClear old new) where
    own_made : Keeps (OwnIs s.n) old new
    own_made = own_keeps set s.h s.n s.lo s.hi old new next.now.images (Elsewhere (Within (dir_of c))) (made_elsewhere c fits) off.any_moment clear.any_moment

    pub make_keeps : Keeps (Image set s.h s.n s.lo s.hi) old new
    make_keeps = make_stops set s.how s.h s.n s.lo s.hi s.seq s.ops next.turn s.i op next.here old old sound next.now new sound_new c fits is leaves.any_moment own_made

    pub make_done : dir_guard new.tree c ≢ None → Underway set s.how s.h s.n s.lo s.hi s.seq (s.i + 1) old new
    make_done there = makes_on set s.how s.h s.n s.lo s.hi s.seq s.ops next.turn s.i op next.here old old sound next.now new sound_new c fits is leaves.any_moment own_made leaves.now there

  module _ (pos : Pos) (is : op ≡ RmColl c) (leaves : Leaves (Drops set c) old new) (off : Leaves (Elsewhere (λ q. Within (dir_of c) q ⊎ Within (trash_at pos) q)) old new)
      (clear : Leaves KeepsClear old new) where
    own_dropped : Keeps (OwnIs s.n) old new
    own_dropped = own_keeps set s.h s.n s.lo s.hi old new next.now.images (Elsewhere (λ q. Within (dir_of c) q ⊎ Within (trash_at pos) q)) (dropped_elsewhere c fits pos)
        off.any_moment clear.any_moment

    pub drop_keeps : Keeps (Image set s.h s.n s.lo s.hi) old new
    drop_keeps = drop_stops set s.how s.h s.n s.lo s.hi s.seq s.ops next.turn s.i op next.here old old sound next.now new sound_new c is leaves.any_moment own_dropped

    pub drop_done : dir_guard new.tree c ≡ None → Underway set s.how s.h s.n s.lo s.hi s.seq (s.i + 1) old new
    drop_done none = drops_on set s.how s.h s.n s.lo s.hi s.seq s.ops next.turn s.i op next.here old old sound next.now new sound_new c is leaves.any_moment own_dropped leaves.now none
