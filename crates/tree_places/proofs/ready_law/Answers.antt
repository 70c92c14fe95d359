use Rattle.tree_places.proofs.Ready.{ready, may_number}
use Rattle.tree_places.proofs.ready_law.Goals as goal

pub returns-clause-operations : goal.returns-clause-operations
returns-clause-operations g c = λ set tree told only laid. let sound = g.met.T.FileTree.sound in ready set (g.T.FileTree.disk tree) (sound tree told) only laid

pub returns-clause-number : goal.returns-clause-number
returns-clause-number g c = may_number
