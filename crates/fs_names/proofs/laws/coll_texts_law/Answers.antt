use Rattle.fs_names.proofs.CollLaw.{coll_texts_are_read, colls_read_are_spelled, coll_texts_print}
use Rattle.fs_names.proofs.laws.coll_texts_law.Goals as goal

pub returns-clause-read : goal.returns-clause-read
returns-clause-read c = coll_texts_are_read

pub returns-clause-spelled : goal.returns-clause-spelled
returns-clause-spelled c = colls_read_are_spelled

pub returns-clause-print : goal.returns-clause-print
returns-clause-print c = coll_texts_print
