use Rattle.std.proofs.Common.{◌≡◌, take}
use Rattle.std.specs.FinSet as set
use Rattle.fs_model.specs.Colls.{colls_of}
use Rattle.store_opening.proofs.opening.coll_list.Given as goal

-- the collections made so far
abbrev pub invariant-loop-c : goal.invariant-loop-c
invariant-loop-c l = colls_of l.made ≡ set.from_list (take l.c-index l.names)
