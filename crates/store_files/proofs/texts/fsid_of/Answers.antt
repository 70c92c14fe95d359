use Rattle.std.proofs.Common.{rules}
use Rattle.store_files.proofs.texts.fsid_of.Goals as goal

pub returns-then-eq : goal.returns-then-eq
returns-then-eq c = (c.is_fsid.ensures, search rules)
