use Rattle.tree_places.proofs.Ready.{may_number}
use Rattle.file_side.proofs.Turns.{then_ok}
use Rattle.file_side.proofs.Written.{numbered, then_numbered, reads_on, written_ready}
use Rattle.file_side.proofs.parts.PartsSide.write_seq.Goals as goal

pub write_seq-requires : goal.write_seq-requires
write_seq-requires g c = record { ready = λ tells. may_number (g.T.FileTree.disk c.args.tree.now).tree (c.requires.ready tells).own }

pub returns-clause-ready : goal.returns-clause-ready
returns-clause-ready g c = λ tells.
    let sound = g.met.T.FileTree.sound in
    let told = c.write_seq.ensures.told tells in
    let new = g.T.FileTree.disk c.write_seq.new.tree in
    then_ok c.write_seq.result
    (λ done. written_ready c.args.self.now.identity c.args.seq (g.T.FileTree.disk c.args.tree.now) new (sound c.write_seq.new.tree tells) (c.write_seq.ensures.leaves tells)
    (c.requires.settled told) (c.requires.ready told) (sound c.args.tree.now told))
    (c.write_seq.ensures.done tells)

pub returns-clause-keeps : goal.returns-clause-keeps
returns-clause-keeps g c = λ tells h n lo hi low high images.
    numbered c.args.self.now.identity c.args.seq (g.T.FileTree.disk c.args.tree.now) (g.T.FileTree.disk c.write_seq.new.tree) (g.met.T.FileTree.sound c.write_seq.new.tree tells)
    (c.write_seq.ensures.leaves tells) c.requires.small h n lo hi images

pub returns-clause-done : goal.returns-clause-done
returns-clause-done g c = λ tells h n lo hi low high images.
    then_ok c.write_seq.result
    (then_numbered c.args.self.now.identity c.args.seq (g.T.FileTree.disk c.args.tree.now) (g.T.FileTree.disk c.write_seq.new.tree) (g.met.T.FileTree.sound c.write_seq.new.tree tells)
    (c.write_seq.ensures.leaves tells) c.requires.small h n lo hi images)
    (c.write_seq.ensures.done tells)

pub returns-clause-reads : goal.returns-clause-reads
returns-clause-reads g c = λ tells how h m past.
    reads_on c.args.self.now.identity c.args.seq (g.T.FileTree.disk c.args.tree.now) (g.T.FileTree.disk c.write_seq.new.tree) (g.met.T.FileTree.sound c.write_seq.new.tree tells)
    (c.write_seq.ensures.leaves tells) how h m past
