use Rattle.store_files.proofs.Spelled.{not_ahead}
use Rattle.store_files.proofs.reading.usable_settings.Goals as goal

pub returns-in-Parallel : goal.returns-in-Parallel
returns-in-Parallel c = λ s fits is. not_ahead c.args.text.now c.in_ok-settings.settings c.in_ok-settings.ensures.1 c.in-Parallel.is s fits is
