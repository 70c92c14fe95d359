use Rattle.std.proofs.Common.{rules, ◌∙◌}
use Rattle.fs_names.specs.Text.{oid_text}
use Rattle.lfn_index.proofs.Rooms.{room_along}
use Rattle.lfn_index.proofs.relocation.room.Goals as goal

pub returns-clause-room : goal.returns-clause-room
returns-clause-room g c = λ t.
    let disk = g.T.FileTree.disk in
    room_along c.args.set.now (disk c.args.tree.now).tree (disk c.stat.new.self).tree c.args.dir.now c.in_ok-long_room.field-0 c.slice-2.result.now (oid_text c.args.oid.now) c.args.step.now
    ((c.in_ok-stat.ensures.still (search rules)).stays).tree (c.slice-2.ensures ∙ c.in_ok-text.ensures) (c.in_ok-long_room.ensures.room (search rules))
