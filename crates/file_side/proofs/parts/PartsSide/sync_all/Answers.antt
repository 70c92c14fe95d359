use Rattle.file_side.proofs.Written.{all_synced}
use Rattle.file_side.proofs.parts.PartsSide.sync_all.Goals as goal

pub returns-clause-ready : goal.returns-clause-ready
returns-clause-ready g c = λ tells is.
    let sound = g.met.T.FileTree.sound in
    let told = c.sync_all.ensures.told tells in
    all_synced c.sync_all.result c.args.self.now.identity.settings (g.T.FileTree.disk c.args.tree.now) (g.T.FileTree.disk c.sync_all.new.self) (sound c.args.tree.now told) (sound c.sync_all.new.self tells)
    (c.sync_all.ensures.synced tells) is
