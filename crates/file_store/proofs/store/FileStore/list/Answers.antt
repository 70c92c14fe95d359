use Rattle.std.proofs.Common.{sym, ◌∙◌, subst, rules}
use Rattle.fs_names.specs.declared.settings.Settings.{Settings}
use Rattle.store_history.specs.History.{at, end_of}
use Rattle.tree_shows.specs.Shows.{Shows}
use Rattle.apply_ops.specs.Next.{IsReady}
use Rattle.file_store.proofs.Answering.{damaged_via, whole_now}
use Rattle.file_store.proofs.Shown.{shown}
use Rattle.file_store.proofs.Stilled.{is_ready_stays}
use Rattle.file_store.proofs.store.FileStore.list.Goals as goal

pub returns-clause-reads : goal.returns-clause-reads
returns-clause-reads g c = λ tells h r.
    let t = g.T.FileTree.disk c.args.tree.now in
    let ready = c.requires.tree (search rules) r.works in
    c.in-Ok.ensures.reads (search rules) (at h (end_of h)) (subst (λ (s : Settings). Shows s (at h (end_of h)) t.tree) (sym c.place.ensures) (shown h c.args.self.now t r)) ready.own.clear

pub returns-clause-tree : goal.returns-clause-tree
returns-clause-tree g c = λ tells works.
    is_ready_stays (g.T.FileTree.disk c.args.tree.now) (g.T.FileTree.disk c.list.new.tree) (c.list.ensures.still (search rules)).stays c.args.self.now.identity.settings (c.requires.tree (search rules) works)

pub returns-in-Err-clause-tree : goal.returns-in-Err-clause-tree
returns-in-Err-clause-tree g c = λ tells works.
    is_ready_stays (g.T.FileTree.disk c.args.tree.now) (g.T.FileTree.disk c.list.new.tree) (c.list.ensures.still (search rules)).stays c.args.self.now.identity.settings (c.requires.tree (search rules) works)

pub returns-in-Err-clause-undamaged : goal.returns-in-Err-clause-undamaged
returns-in-Err-clause-undamaged g c = λ tells works p is.
    let t = g.T.FileTree.disk c.args.tree.now in
    let ready = subst (λ (s : Settings). IsReady s t) (sym c.place.ensures) (c.requires.tree (search rules) works) in
    c.list.ensures.undamaged (search rules) (whole_now c.place.result.1 t (g.met.T.FileTree.sound c.args.tree.now (search rules)) ready) ready.own.clear p (c.in-Err.is ∙ damaged_via c.from.result c.in-Err.fault p c.from.ensures is)
