-- How a set of collections changes.
use Rattle.std.specs.FinSet as set
use Rattle.fs_model.specs.declared.check.CollChange.{CollChange}
use Rattle.fs_model.specs.Colls.{CollSet}

-- the collections after a change: some come, and then some go
abbrev pub changed : CollSet → CollChange → CollSet
changed S change = set.difference (set.union S change.made) change.gone
