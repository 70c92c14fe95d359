-- The trait's law.
use Rattle.tree_api.specs.Disk.{Sound}
use Rattle.tree_memory.specs.Tells.{state_of, disk_of}
use Rattle.tree_memory.specs.Told.{count_of}
use Rattle.tree_memory.specs.declared.memory.MemoryTree.{MemoryTree}
use Rattle.tree_memory.specs.Sounds.{is_sound}

pub tree_sound : (m : MemoryTree) → Sound (disk_of m)
tree_sound m = is_sound (state_of m) (count_of m.store) m.tied.valid m.plan.faults m.syncs m.looks
