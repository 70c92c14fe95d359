-- The phases of a commit.
use Rattle.std.specs.Prelude.{ℕ, Bool, true, false}
use Rattle.fs_names.specs.declared.settings.Mode.{Mode}
use Rattle.fs_names.specs.declared.settings.Mode.TheVariants.{WriteAhead, Parallel}
use Rattle.turn_core.specs.declared.turn.Phase.{Phase}
use Rattle.turn_core.specs.declared.turn.Phase.TheVariants.{Idle, Pausing, MapSync, TreeSync, Seq, Snap, Trim}

abbrev pub is_parallel : Mode → Bool
is_parallel WriteAhead = false
is_parallel Parallel = true

abbrev pub is_pausing : Phase → Bool
is_pausing Pausing = true
is_pausing _ = false

abbrev pub is_map_sync : Phase → Bool
is_map_sync (MapSync n) = true
is_map_sync _ = false

abbrev pub is_tree_sync : Phase → Bool
is_tree_sync (TreeSync n) = true
is_tree_sync _ = false

abbrev pub is_seq : Phase → Bool
is_seq (Seq n) = true
is_seq _ = false

abbrev pub is_snap : Phase → Bool
is_snap (Snap n) = true
is_snap _ = false

abbrev pub is_trim : Phase → Bool
is_trim (Trim n) = true
is_trim _ = false

-- the number is taken, and the snapshot that makes it safe in parallel mode is not there yet
abbrev pub is_before_snap : Phase → Bool
is_before_snap Idle = false
is_before_snap Pausing = false
is_before_snap (MapSync n) = true
is_before_snap (TreeSync n) = false
is_before_snap (Seq n) = true
is_before_snap (Snap n) = true
is_before_snap (Trim n) = false

-- starts are held back
abbrev pub is_paused : Mode → Phase → Bool
is_paused mode Idle = false
is_paused mode Pausing = true
is_paused mode (MapSync n) = is_parallel mode
is_paused mode (TreeSync n) = false
is_paused mode (Seq n) = is_parallel mode
is_paused mode (Snap n) = is_parallel mode
is_paused mode (Trim n) = false

-- the number is taken, and not committed yet
abbrev pub is_saving : Phase → Bool
is_saving Idle = false
is_saving Pausing = false
is_saving (MapSync n) = true
is_saving (TreeSync n) = true
is_saving (Seq n) = true
is_saving (Snap n) = true
is_saving (Trim n) = false

-- the number that the running commit took, else the committed one
abbrev pub target : ℕ → Phase → ℕ
target committed Idle = committed
target committed Pausing = committed
target committed (MapSync n) = n
target committed (TreeSync n) = n
target committed (Seq n) = n
target committed (Snap n) = n
target committed (Trim n) = n
