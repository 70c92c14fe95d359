use Rattle.fs_model.proofs.Colls.{contains-colls_of, colls_of-empty, row-colls, fold-colls}
use Rattle.fs_model.proofs.laws.colls_law.Goals as goal

pub returns-clause-has : goal.returns-clause-has
returns-clause-has c = contains-colls_of

pub returns-clause-none : goal.returns-clause-none
returns-clause-none c = colls_of-empty

pub returns-clause-row : goal.returns-clause-row
returns-clause-row c = row-colls

pub returns-clause-fold : goal.returns-clause-fold
returns-clause-fold c = fold-colls
