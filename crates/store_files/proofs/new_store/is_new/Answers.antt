use Rattle.std.proofs.Common.{rules, subst}
use Rattle.tree_api.specs.Answer.{IsListing}
use Rattle.tree_api.specs.Tree.{Path}
use Rattle.store_files.proofs.Looking.{is_bare, not_bare, is_new, not_new}
use Rattle.store_files.proofs.new_store.is_new.Goals as goal

pub returns-then-not-is_empty-clause-whether : goal.returns-then-not-is_empty-clause-whether
returns-then-not-is_empty-clause-whether g c = λ t new.
    let old = (g.T.FileTree.disk c.args.tree.now).tree in
    let listing = subst (λ (p : Path). IsListing old p c.in_ok-entries.entries.items) c.root-root.ensures (c.in_ok-entries.ensures.entries (search rules)) in
    not_bare old c.in_ok-entries.entries.items listing (search rules) new.0

pub returns-then-not-is_empty-2-clause-whether : goal.returns-then-not-is_empty-2-clause-whether
returns-then-not-is_empty-2-clause-whether g c = λ t.
    let disk = g.T.FileTree.disk in
    not_new (disk c.args.tree.now).tree (disk c.list.new.self).tree (c.list.ensures.still (search rules)).stays.tree c.in_ok-kept.kept.items (c.in_ok-kept.ensures.numbers (search rules)) (search rules)

pub returns-clause-whether : goal.returns-clause-whether
returns-clause-whether g c = λ t.
    let disk = g.T.FileTree.disk in
    let old = (disk c.args.tree.now).tree in
    let listing = subst (λ (p : Path). IsListing old p c.in_ok-entries.entries.items) c.root-root.ensures (c.in_ok-entries.ensures.entries (search rules)) in
    is_new (disk c.args.tree.now).tree (disk c.list.new.self).tree (c.list.ensures.still (search rules)).stays.tree
    (is_bare (disk c.args.tree.now) (g.met.T.FileTree.sound c.args.tree.now (search rules)) c.in_ok-entries.entries.items listing (search rules))
    c.in_ok-kept.kept.items (c.in_ok-kept.ensures.numbers (search rules)) (search rules)
