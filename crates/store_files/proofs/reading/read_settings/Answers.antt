use Rattle.std.proofs.Common.{rules}
use Rattle.store_files.specs.Texts.{settings_text}
use Rattle.store_files.specs.Stores.{settings_path, IsUsable}
use Rattle.store_files.proofs.Shorts.{settings_short}
use Rattle.store_files.proofs.Spelling.{read_none}
use Rattle.store_files.proofs.reading.read_settings.Goals as goal

pub returns-in_default-clause-settings : goal.returns-in_default-clause-settings
returns-in_default-clause-settings g c = λ t. read_none settings_text IsUsable settings_path (g.T.FileTree.disk c.args.tree.now).tree settings_short c.in_ok-path.path c.in_ok-path.ensures (search rules)
