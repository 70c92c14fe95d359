use Rattle.std.proofs.Common.{arith, refl, rules, sym, ◌∙◌}
use Rattle.store_turns.proofs.Stages.{keeps_mid, keeps_new, mid_images}
use Rattle.store_turns.proofs.committing.put_number.Goals as goal

pub returns-in-Err-clause-keeps : goal.returns-in-Err-clause-keeps
returns-in-Err-clause-keeps g c = λ tells h n le here live.
    let S = g.S.Side in
    let set = S.set c.args.side.now in
    keeps_mid (S.image set) (S.reads set) S.number (S.laid set) (g.met.S.Side.theory set) h n c.args.number le _ _ (g.met.T.FileTree.sound c.args.tree.now (search rules)) (c.sync_all.ensures.synced (search rules)).stays here

pub returns-in_err-write_seq-clause-keeps : goal.returns-in_err-write_seq-clause-keeps
returns-in_err-write_seq-clause-keeps g c = λ tells h n le here live.
    let S = g.S.Side in
    let set = S.set c.args.side.now in
    let th = g.met.S.Side.theory set in
    let so = g.met.T.FileTree.sound c.args.tree.now (search rules) in
    let st = c.sync_all.ensures.synced (search rules) in
    let mid = mid_images (S.image set) (S.reads set) S.number (S.laid set) th h n c.args.number le _ _ so st.stays here ((c.in-Ok.ensures.synced (search rules)).all refl) live in
    keeps_new (S.image set) (S.reads set) S.number (S.laid set) th h n c.args.number le _ _ so st.stays here _ (c.write_seq.ensures.keeps (search rules) h n c.args.number c.args.number le (omega arith) mid)

pub returns-clause-keeps : goal.returns-clause-keeps
returns-clause-keeps g c = λ tells h n le here live.
    let S = g.S.Side in
    let set = S.set c.args.side.now in
    let th = g.met.S.Side.theory set in
    let so = g.met.T.FileTree.sound c.args.tree.now (search rules) in
    let st = c.sync_all.ensures.synced (search rules) in
    let mid = mid_images (S.image set) (S.reads set) S.number (S.laid set) th h n c.args.number le _ _ so st.stays here ((c.in-Ok.ensures.synced (search rules)).all refl) live in
    keeps_new (S.image set) (S.reads set) S.number (S.laid set) th h n c.args.number le _ _ so st.stays here _ (c.write_seq.ensures.keeps (search rules) h n c.args.number c.args.number le (omega arith) mid)

pub returns-clause-done : goal.returns-clause-done
returns-clause-done g c = λ tells h n le here live.
    let S = g.S.Side in
    let set = S.set c.args.side.now in
    let th = g.met.S.Side.theory set in
    let so = g.met.T.FileTree.sound c.args.tree.now (search rules) in
    let st = c.sync_all.ensures.synced (search rules) in
    let mid = mid_images (S.image set) (S.reads set) S.number (S.laid set) th h n c.args.number le _ _ so st.stays here ((c.in-Ok.ensures.synced (search rules)).all refl) live in
    c.in_ok-write_seq.ensures.done (search rules) h n c.args.number c.args.number le (omega arith) mid

pub write_seq-requires-clause-settled : goal.write_seq-requires-clause-settled
write_seq-requires-clause-settled g c = λ tells t may.
    let st = c.in-Ok.ensures.synced (search rules) in
    st.all refl t may ∙ sym st.stays.tree
