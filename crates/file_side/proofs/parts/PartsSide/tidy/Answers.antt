use Rattle.file_side.proofs.Turns.{then_ok}
use Rattle.file_side.proofs.Tidied.{tidied_ready, tidied_keeps, tidied_reads}
use Rattle.file_side.proofs.parts.PartsSide.tidy.Goals as goal

pub tidy-requires : goal.tidy-requires
tidy-requires g c = record { ready = λ tells. let is = c.requires.ready tells in (is.own.building, is.own.places) }

pub returns-clause-ready : goal.returns-clause-ready
returns-clause-ready g c = λ tells.
    let id = c.args.self.now.identity in
    let is = c.requires.ready (c.tidy.ensures.told tells) in
    then_ok c.tidy.result
    (λ keeps. tidied_ready id (g.T.FileTree.disk c.args.tree.now) (g.T.FileTree.disk c.tidy.new.tree) (c.tidy.ensures.leaves tells id.settings) (c.tidy.ensures.elsewhere tells) (c.tidy.ensures.free tells)
    is (keeps id.settings is.ready))
    (c.tidy.ensures.ready tells)

pub returns-clause-keeps : goal.returns-clause-keeps
returns-clause-keeps g c = λ tells h n lo hi images.
    let id = c.args.self.now.identity in
    tidied_keeps id (g.T.FileTree.disk c.args.tree.now) (g.T.FileTree.disk c.tidy.new.tree) (c.tidy.ensures.leaves tells id.settings) (c.tidy.ensures.elsewhere tells) (c.tidy.ensures.free tells)
    (g.met.T.FileTree.sound c.args.tree.now (c.tidy.ensures.told tells)) h n lo hi images

pub returns-clause-reads : goal.returns-clause-reads
returns-clause-reads g c = λ tells how h m past.
    let id = c.args.self.now.identity in
    tidied_reads id (g.T.FileTree.disk c.args.tree.now) (g.T.FileTree.disk c.tidy.new.tree) (c.tidy.ensures.leaves tells id.settings) (c.tidy.ensures.elsewhere tells) (c.tidy.ensures.free tells) how h m past
