use Rattle.std.proofs.Common.{◌≡◌, ◌++◌, ◌∷◌, [], List, codes, IfOk, sym, subst, ap, ◌∙◌}
use Rattle.fs_names.specs.declared.coll.Coll.{Coll}
use Rattle.tree_api.specs.Answer.{IsListing}
use Rattle.tree_api.specs.Tree.{Path, current}
use Rattle.tree_api.specs.declared.tree.Entry.{Entry}
use Rattle.file_readings.proofs.Named.{no_coll_file, colls_are}
use Rattle.file_readings.proofs.collections.colls.Goals as goal

pub returns-clause-undamaged : goal.returns-clause-undamaged
returns-clause-undamaged g c = λ t whole clear p is.
    let tree = (g.T.FileTree.disk c.args.tree.now).tree in
    let path : c.in_ok-current.current ≡ current = c.in_ok-current.ensures ∙ ap (λ (q : Path). q ++ codes "current" ∷ []) c.root.ensures in
    let listing = subst (λ (es : List Entry). IsListing tree current es) (sym c.deref.ensures.value)
    (subst (λ (q : Path). IsListing tree q c.in_ok-entries.entries.items) path (c.in_ok-entries.ensures.entries t)) in
    no_coll_file tree c.deref.result.now listing clear (c.read_all.ensures.damaged p is)

pub returns-clause-reads : goal.returns-clause-reads
returns-clause-reads g c = λ t O shows clear.
    let tree = (g.T.FileTree.disk c.args.tree.now).tree in
    let path : c.in_ok-current.current ≡ current = c.in_ok-current.ensures ∙ ap (λ (q : Path). q ++ codes "current" ∷ []) c.root.ensures in
    let listing = subst (λ (es : List Entry). IsListing tree current es) (sym c.deref.ensures.value)
    (subst (λ (q : Path). IsListing tree q c.in_ok-entries.entries.items) path (c.in_ok-entries.ensures.entries t)) in
    subst (λ (l : List Coll). IfOk c.read_all.result (λ colls. colls ≡ l)) (colls_are tree c.deref.result.now listing c.args.set.now O shows) c.read_all.ensures.colls
