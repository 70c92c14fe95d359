use Rattle.std.proofs.Common.{◌≡◌, ap, ◌∙◌, map, take, sym}
use Rattle.tree_memory.specs.Nodes.{version, node_of}
use Rattle.tree_memory.specs.Told.{tree_of}
use Rattle.tree_memory.proofs.Stores.{node_added, ok_part, err_part}
use Rattle.tree_memory.proofs.store.Store.rollback.Goals as goal

pub returns-then-is_err-2-clause-err : goal.returns-then-is_err-2-clause-err
returns-then-is_err-2-clause-err c =
    let s = c.args.self.now in
    let added = ok_part c.add_copies.result (sym c.is_err.ensures.value ∙ c.if-is_err.false) c.add_copies.ensures.ok in
    let nodes : c.truncate-then-is_err-2.new.self.items ≡ s.nodes.items = c.truncate-then-is_err-2.ensures.items ∙ ap (λ n. take n c.add_copies.new.into.items) (c.len-count.ensures ∙ s.nodes.ok.0) ∙ c.add_copies.ensures.kept in
    let names = err_part c.edit_all.result (sym c.is_err-2.ensures.value ∙ c.if-is_err-2.true) c.edit_all.ensures.err in
    λ i. record { at = names i; node = node_of (nodes i); snap = (tree_of s).snap }

pub returns-clause-ok : goal.returns-clause-ok
returns-clause-ok c =
    let s = c.args.self.now in
    let added = ok_part c.add_copies.result (sym c.is_err.ensures.value ∙ c.if-is_err.false) c.add_copies.ensures.ok in
    let names = ok_part c.edit_all.result (sym c.is_err-2.ensures.value ∙ c.if-is_err-2.false) c.edit_all.ensures.ok in
    let nodes = node_added s.nodes.items c.add_copies.new.into.items (map version c.args.nodes.now) added in
    λ i. record { at = names i; node = nodes i; snap = (tree_of s).snap }
