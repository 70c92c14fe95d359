use Rattle.store_walk.proofs.Looked.{AreFiles}
use Rattle.store_walk.proofs.directories.look_files.Given as goal

abbrev pub invariant-loop-entry : goal.invariant-loop-entry
invariant-loop-entry g l = record { files : AreFiles l.entry-items l.entry-index }
