-- The first word of the command line.
use Rattle.std.specs.Prelude.{ℕ, if◌then◌else◌, List, Option, None, Some, codes}
use Rattle.std.specs.Str.{bytes_eq}
use Rattle.tree_bench.specs.declared.work.Command.{Command}
use Rattle.tree_bench.specs.declared.work.Command.TheVariants.{Make, Find, Remove}

abbrev pub command_of : List ℕ → Option Command
command_of word =
    if bytes_eq word (codes "make") then Some Make
    else (if bytes_eq word (codes "find") then Some Find
    else (if bytes_eq word (codes "remove") then Some Remove else None))
