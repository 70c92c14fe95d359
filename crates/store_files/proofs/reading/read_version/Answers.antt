use Rattle.std.proofs.Common.{◌<◌, ◌^◌, rules}
use Rattle.store_files.specs.Texts.{version_text}
use Rattle.store_files.specs.Stores.{version_path}
use Rattle.store_files.proofs.Shorts.{version_short}
use Rattle.store_files.proofs.Spelling.{read_none}
use Rattle.store_files.proofs.reading.read_version.Goals as goal

pub returns-in_default-clause-version : goal.returns-in_default-clause-version
returns-in_default-clause-version g c = λ t. read_none version_text (λ n. n < 2 ^ 64) version_path (g.T.FileTree.disk c.args.tree.now).tree version_short c.in_ok-path.path c.in_ok-path.ensures (search rules)
