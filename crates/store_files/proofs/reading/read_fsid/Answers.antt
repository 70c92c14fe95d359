use Rattle.std.proofs.Common.{rules}
use Rattle.store_files.specs.Texts.{fsid_text, IsFsid}
use Rattle.store_files.specs.Stores.{fsid_path}
use Rattle.store_files.proofs.Shorts.{fsid_short}
use Rattle.store_files.proofs.Spelling.{read_none}
use Rattle.store_files.proofs.reading.read_fsid.Goals as goal

pub returns-in_default-clause-fsid : goal.returns-in_default-clause-fsid
returns-in_default-clause-fsid g c = λ t. read_none fsid_text IsFsid fsid_path (g.T.FileTree.disk c.args.tree.now).tree fsid_short c.in_ok-path.path c.in_ok-path.ensures (search rules)
