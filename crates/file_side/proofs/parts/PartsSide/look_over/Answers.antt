use Rattle.file_side.proofs.Turns.{then_ok}
use Rattle.file_side.proofs.Looked.{walked_laid, laid_walked}
use Rattle.file_side.proofs.parts.PartsSide.look_over.Goals as goal

pub returns-clause-laid : goal.returns-clause-laid
returns-clause-laid g c = λ tells. then_ok c.look_over.result (walked_laid c.args.self.now.identity.settings (g.T.FileTree.disk c.args.tree.now).tree) (c.look_over.ensures.laid tells)

pub returns-clause-damaged : goal.returns-clause-damaged
returns-clause-damaged g c = λ tells p e laid. c.look_over.ensures.damaged tells p e (laid_walked c.args.self.now.identity.settings (g.T.FileTree.disk c.args.tree.now).tree laid)
