use Rattle.file_side.proofs.Turns.{still_ready}
use Rattle.file_side.proofs.parts.PartsSide.read_seq.Goals as goal

pub returns-clause-ready : goal.returns-clause-ready
returns-clause-ready g c = λ tells is.
    still_ready c.args.self.now.identity.settings (g.T.FileTree.disk c.args.tree.now) (g.T.FileTree.disk c.read_seq.new.tree) (c.read_seq.ensures.still tells).stays is
