use Rattle.std.proofs.Common.{rules, ◌≡◌, ◌≤◌, ℕ, List, length, drop, sym, ap, ◌∙◌, arith}
use Rattle.ring_frame.specs.Frame.{need}
use Rattle.ring_frame.specs.Told.{framed}
use Rattle.ring_frame.proofs.Facts.{entry_room}
use Rattle.ring_images.specs.Turned.{turned}
use Rattle.ring_journal.proofs.Nexts.{block_enough, block_sealed, block_fault, block_length}
use Rattle.ring_journal.proofs.next.read_sealed.Goals as goal

pub returns-in-Ok-clause-entry : goal.returns-in-Ok-clause-entry
returns-in-Ok-clause-entry g c = λ told front.
    let r = c.requires in
    let h = c.args.head.now in
    let reads : List ℕ = (g.D.Device.state c.args.dev.now).disk.reads in
    let l = (g.met.D.Device.has_size c.args.dev.now (search rules)).reads ∙ r.extent in
    let enough = block_enough h.size h.start c.args.used reads l r.low r.high r.room r.some r.blocks.0 r.blocks.1 in
    c.in_ok-told-in-Ok.ensures.entry ∙ sym (block_sealed h c.args.used c.place-pos.result reads c.args.block.now front c.place-pos.ensures enough (framed c.in-Ok.found) c.in-Ok.ensures.sealed)

pub returns-in-Ok-clause-within : goal.returns-in-Ok-clause-within
returns-in-Ok-clause-within g c =
    let size : c.in-Ok.found.size ≡ need (length c.in-Ok.found.payload.now) = c.in-Ok.ensures.size in
    let same = c.in_ok-told-in-Ok.ensures.size in
    let room = entry_room c.args.head.now.fsid c.place-pos.result c.args.block.now (framed c.in-Ok.found) c.in-Ok.ensures.sealed in
    record {
      size = same ∙ size ∙ ap (λ (p : List ℕ). need (length p)) (sym c.in_ok-told-in-Ok.ensures.payload);
      room = omega (arith, same, size, room, c.told-block, c.requires.some, c.requires.blocks.0, c.requires.blocks.1);
    }

pub returns-in_default-clause-entry : goal.returns-in_default-clause-entry
returns-in_default-clause-entry g c = λ told front.
    let r = c.requires in
    let h = c.args.head.now in
    let reads : List ℕ = (g.D.Device.state c.args.dev.now).disk.reads in
    let l = (g.met.D.Device.has_size c.args.dev.now (search rules)).reads ∙ r.extent in
    let enough = block_enough h.size h.start c.args.used reads l r.low r.high r.room r.some r.blocks.0 r.blocks.1 in
    let long : 8 ≤ length h.fsid = omega arith in
    sym (block_fault h c.args.used c.place-pos.result reads c.args.block.now front c.place-pos.ensures enough c.in-Err.fault long c.in-Err.ensures.fault c.in_default.not-Short)

pub returns-clause-entry : goal.returns-clause-entry
returns-clause-entry g c = λ told front.
    let r = c.requires in
    let h = c.args.head.now in
    let reads : List ℕ = (g.D.Device.state c.args.dev.now).disk.reads in
    let l = (g.met.D.Device.has_size c.args.dev.now (search rules)).reads ∙ r.extent in
    let enough = block_enough h.size h.start c.args.used reads l r.low r.high r.room r.some r.blocks.0 r.blocks.1 in
    c.read_long.ensures.entry (search rules) (block_length h c.args.used c.place-pos.result reads c.args.block.now front c.place-pos.ensures enough c.read.result.len c.read.ensures.len)
