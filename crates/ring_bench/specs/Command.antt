-- The first word of the command line.
use Rattle.std.specs.Prelude.{ℕ, if◌then◌else◌, List, Option, None, Some, codes}
use Rattle.std.specs.Str.{bytes_eq}
use Rattle.ring_bench.specs.declared.work.Command.{Command}
use Rattle.ring_bench.specs.declared.work.Command.TheVariants.{Make, Append, Read}

abbrev pub command_of : List ℕ → Option Command
command_of word =
    if bytes_eq word (codes "make") then Some Make
    else (if bytes_eq word (codes "append") then Some Append
    else (if bytes_eq word (codes "read") then Some Read else None))
