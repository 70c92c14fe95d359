-- Why a run stops, its status and its last line.
use Rattle.std.specs.Prelude.{◌≡◌, ◌⊎◌, ℕ, List, [], ◌++◌, drop, codes}
use Rattle.std.specs.List.{flat_map}
use Rattle.std.specs.Fmt.{decimal}
use Rattle.hex.specs.Hex.{encode_lower}
use Rattle.io_edge.specs.Flow.{Outflow}
use Rattle.tree_api.specs.Tree.{Path}
use Rattle.fs_script.specs.Printed.{line_text, refusal_text}
use Rattle.store_making.specs.declared.fault.MakeFault.{MakeFault}
use Rattle.store_making.specs.declared.fault.MakeFault.TheVariants as make
use Rattle.store_opening.specs.declared.fault.MountFault.{MountFault}
use Rattle.store_opening.specs.declared.fault.MountFault.TheVariants as mount
use Rattle.script_store.specs.declared.fault.StepFault.{StepFault}
use Rattle.script_store.specs.declared.fault.StepFault.TheVariants as stepping
use Rattle.filestore_cli.specs.declared.stop.Refusal.{Refusal}
use Rattle.filestore_cli.specs.declared.stop.Refusal.TheVariants.{Script, Store, Size, NotEmpty, Damaged}
use Rattle.filestore_cli.specs.declared.stop.Stop.{Stop}
use Rattle.filestore_cli.specs.declared.stop.Stop.TheVariants.{Usage, Tree, Device, Source, Sink, Memory, Refused}
use Rattle.filestore_cli.specs.Seen.{Seen, EndsWith}

abbrev pub usage_line : List ℕ
usage_line =
    line_text (codes "usage: mkfs [--fsid=F] [--merge=N] [--split=N] [--lfn=N] [--mode=wal or parallel], run [new], list C, check, workload SEED N")

abbrev pub tree_line : List ℕ
tree_line = line_text (codes "fault: tree")

abbrev pub device_line : List ℕ
device_line = line_text (codes "fault: device")

abbrev pub read_line : List ℕ
read_line = line_text (codes "fault: read")

abbrev pub memory_line : List ℕ
memory_line = line_text (codes "fault: memory")

-- each step behind a slash
abbrev pub slashed : Path → List ℕ
slashed path = flat_map (λ step. codes "/" ++ step) path

-- the steps of a path with a slash between them
abbrev pub path_text : Path → List ℕ
path_text path = drop 1 (slashed path)

abbrev pub damaged_line : Path → List ℕ
damaged_line path = line_text (codes "store: damaged " ++ path_text path)

-- a store that is not mounted
abbrev pub mount_line : MountFault → List ℕ
mount_line mount.NotAStore = line_text (codes "store: not a store")
mount_line (mount.WrongVersion version) = line_text (codes "store: version " ++ decimal version)
mount_line mount.BadSettings = line_text (codes "store: bad settings")
mount_line mount.NoHeader = line_text (codes "store: no ring header")
mount_line (mount.WrongFsid tree ring) = line_text (codes "store: fsid " ++ encode_lower tree ++ codes " " ++ encode_lower ring)
mount_line mount.Spent = line_text (codes "store: ring spent")
mount_line mount.BadSeq = line_text (codes "store: bad number")
mount_line (mount.JournalGap start committed) = line_text (codes "store: journal gap " ++ decimal start ++ codes " " ++ decimal committed)
mount_line (mount.Damaged path) = damaged_line path
mount_line (mount.BadEntry seq) = line_text (codes "store: bad entry " ++ decimal seq)
mount_line mount.Tree = tree_line
mount_line mount.Device = device_line
mount_line mount.Memory = memory_line

abbrev pub refused_line : Refusal → List ℕ
refused_line (Script line why) = refusal_text line why
refused_line (Store fault) = mount_line fault
refused_line NotEmpty = line_text (codes "store: not empty")
refused_line (Damaged path) = damaged_line path
refused_line (Size size) = line_text (codes "store: device size " ++ decimal size)

abbrev pub refused_status : Refusal → ℕ
refused_status (Script line why) = 2
refused_status (Store fault) = 7
refused_status NotEmpty = 7
refused_status (Damaged path) = 7
refused_status (Size size) = 7

abbrev pub line_of : Stop → List ℕ
line_of Usage = usage_line
line_of Tree = tree_line
line_of Device = device_line
line_of Source = read_line
line_of Sink = []
line_of Memory = memory_line
line_of (Refused refusal) = refused_line refusal

abbrev pub status_of : Stop → ℕ
status_of Usage = 1
status_of Tree = 3
status_of Device = 4
status_of Source = 5
status_of Sink = 6
status_of Memory = 9
status_of (Refused refusal) = refused_status refusal

-- the line of a refusal takes memory, and the others none
abbrev pub TakesMemory : Stop → Type 0
TakesMemory (Refused refusal) = Unit {0}
TakesMemory _ = ⊥

-- the last line was written, or the one that tells that there was no memory for it
abbrev pub Ended : Stop → Seen Outflow → ℕ → Type 0
Ended stop sink status =
    ((status ≡ status_of stop) × EndsWith sink [] (line_of stop)) ⊎ ((status ≡ 9) × TakesMemory stop × EndsWith sink [] memory_line)

-- what it is to a run that a store wasn't made, or wasn't mounted
abbrev pub make_stop : MakeFault → Stop
make_stop make.NotEmpty = Refused NotEmpty
make_stop (make.DeviceSize size) = Refused (Size size)
make_stop make.Tree = Tree
make_stop make.Device = Device
make_stop make.Memory = Memory

abbrev pub mount_stop : MountFault → Stop
mount_stop mount.Tree = Tree
mount_stop mount.Device = Device
mount_stop mount.Memory = Memory
mount_stop fault = Refused (Store fault)

-- what it is to a run that a statement wasn't done, or that the store wasn't closed
abbrev pub step_stop : StepFault → Stop
step_stop stepping.Tree = Tree
step_stop stepping.Device = Device
step_stop (stepping.Damaged path) = Refused (Damaged path)
step_stop stepping.Memory = Memory
