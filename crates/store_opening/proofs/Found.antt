-- Why a mount is refused, from what is found below.
use Rattle.std.proofs.Common.{◌≡◌, codes, sym, subst}
use Rattle.fs_names.specs.declared.settings.Settings.{Settings}
use Rattle.index_fault.specs.declared.IndexFault.{IndexFault}
use Rattle.index_fault.specs.declared.IndexFault.TheVariants as index
use Rattle.tree_api.specs.Tree.{IsDir, current}
use Rattle.tree_api.specs.Disk.{Disk, Sound}
use Rattle.apply_ops.specs.Next.{IsReady}
use Rattle.store_mount.specs.Causes.{IsOutside as IsOutsideBelow}
use Rattle.store_mount.specs.declared.fault.MountFault.{MountFault as Below}
use Rattle.store_mount.specs.declared.fault.MountFault.TheVariants as below
use Rattle.store_opening.specs.declared.fault.MountFault.{MountFault}
use Rattle.store_opening.specs.Faults.{of_mount, of_index}
use Rattle.store_opening.specs.Mounts.{IsNoStore, IsOutside}

outside_of : (f : Below) → IsOutsideBelow f → IsOutside (of_mount f)
outside_of below.NoHeader is = absurd is
outside_of (below.WrongFsid tree ring) is = absurd is
outside_of below.Spent is = absurd is
outside_of below.BadSeq is = absurd is
outside_of (below.JournalGap start committed) is = absurd is
outside_of (below.Damaged path) is = absurd is
outside_of (below.BadEntry seq) is = absurd is
outside_of below.Tree is = tt
outside_of below.Device is = tt
outside_of below.Memory is = tt

-- a store's tree has the directory of its collections
pub current_there : (set : Settings) (d : Disk) → Sound d → IsReady set d → IsDir d.tree current
current_there set d sound ready = sound.parents d.tree current (codes "aside") ready.own.building.0 sound.now ready.own.building.1

-- ---- what was found below, as it is handed on

pub outside_from : (f : MountFault) (b : Below) → f ≡ of_mount b → IsOutsideBelow b → IsOutside f
outside_from f b same is = subst IsOutside (sym same) (outside_of b is)

-- ---- none of these says that the tree is no store

below_usable : (b : Below) → IsNoStore (of_mount b) → ⊥
below_usable below.NoHeader none = none
below_usable (below.WrongFsid tree ring) none = none
below_usable below.Spent none = none
below_usable below.BadSeq none = none
below_usable (below.JournalGap start committed) none = none
below_usable (below.Damaged path) none = none
below_usable (below.BadEntry seq) none = none
below_usable below.Tree none = none
below_usable below.Device none = none
below_usable below.Memory none = none

index_usable : (f : IndexFault) → IsNoStore (of_index f) → ⊥
index_usable index.Memory none = none
index_usable index.Tree none = none
index_usable (index.Damaged path) none = none

pub usable_below : (f : MountFault) (b : Below) → f ≡ of_mount b → IsNoStore f → ⊥
usable_below f b same none = below_usable b (subst IsNoStore same none)

pub usable_index : (f : MountFault) (b : IndexFault) → f ≡ of_index b → IsNoStore f → ⊥
usable_index f b same none = index_usable b (subst IsNoStore same none)
