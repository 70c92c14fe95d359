use Rattle.store_files.proofs.Lines.{line_read}
use Rattle.store_files.proofs.line.line.Goals as goal

pub returns : goal.returns
returns c = line_read c.args.word.now c.args.text.now c.in_ok-rest.rest.now c.split_line.result c.in_ok-rest.ensures c.split_line.ensures
