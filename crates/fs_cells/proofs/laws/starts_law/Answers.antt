use Rattle.fs_cells.proofs.Starts.{done_so_far, half_cloned, renamed, colls_needed}
use Rattle.fs_cells.proofs.laws.starts_law.Goals as goal

pub returns-clause-done_so_far : goal.returns-clause-done_so_far
returns-clause-done_so_far c = done_so_far

pub returns-clause-half_cloned : goal.returns-clause-half_cloned
returns-clause-half_cloned c = half_cloned

pub returns-clause-renamed : goal.returns-clause-renamed
returns-clause-renamed c = renamed

pub returns-clause-colls_needed : goal.returns-clause-colls_needed
returns-clause-colls_needed c = colls_needed
