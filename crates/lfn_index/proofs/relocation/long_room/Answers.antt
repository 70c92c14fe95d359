use Rattle.std.proofs.Common.{rules, ◌∙◌, sym, subst}
use Rattle.tree_api.specs.Step.{IsStep}
use Rattle.lfn_index.specs.FileName.{long_name}
use Rattle.lfn_index.proofs.Places.{long_step}
use Rattle.lfn_index.proofs.Rooms.{long_room}
use Rattle.lfn_index.proofs.relocation.long_room.Goals as goal

pub free_path-requires-clause-steps : goal.free_path-requires-clause-steps
free_path-requires-clause-steps g c = λ number.
    subst (λ s. IsStep (long_name s number)) (sym (c.deref.ensures.value ∙ c.in_ok-stem.ensures)) (long_step c.args.set.now c.args.text.now number c.requires.text)

pub returns-clause-room : goal.returns-clause-room
returns-clause-room g c = λ t.
    long_room c.args.set.now (g.T.FileTree.disk c.args.tree.now).tree c.args.dir.now c.args.text.now c.args.step.now c.deref.result.now c.free_path.result c.requires.long (c.deref.ensures.value ∙ c.in_ok-stem.ensures)
    (c.free_path.ensures.free (search rules))
