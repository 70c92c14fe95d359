use Rattle.fs_names.proofs.OidLaw.{oid_texts_are_read, oids_read_are_spelled, oid_texts_print}
use Rattle.fs_names.proofs.laws.oid_texts_law.Goals as goal

pub returns-clause-read : goal.returns-clause-read
returns-clause-read c = oid_texts_are_read

pub returns-clause-spelled : goal.returns-clause-spelled
returns-clause-spelled c = oids_read_are_spelled

pub returns-clause-print : goal.returns-clause-print
returns-clause-print c = oid_texts_print
