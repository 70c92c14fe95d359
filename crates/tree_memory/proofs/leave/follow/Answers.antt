use Rattle.std.proofs.Common.{inl, inr, ◌≡◌, ◌<◌, ◌+◌, ◌==◌, ◌++◌, ℕ, List, length, map, sym, ap, subst, ◌∙◌, arith}
use Rattle.std.proofs.lemmas.Result.{on_ok_weaker}
use Rattle.std.proofs.lemmas.Bool.{eqb-true, ltb-true, and_parts}
use Rattle.std.proofs.lemmas.List.{length-map}
use Rattle.tree_api.specs.Tree.{Names}
use Rattle.tree_memory.specs.History.{renamed}
use Rattle.tree_memory.specs.Names.{names_at, put_at, gone_at, edited, links_below}
use Rattle.tree_memory.specs.Nodes.{version, changed}
use Rattle.tree_memory.specs.Log.{run, adds, suits}
use Rattle.tree_memory.specs.Told.{count_of}
use Rattle.tree_memory.specs.Leaves.{IsLeft}
use Rattle.tree_memory.specs.Oldest.{IsOldest}
use Rattle.tree_memory.specs.declared.event.Event.{Event}
use Rattle.tree_memory.specs.declared.node.Node.{Node}
use Rattle.tree_memory.proofs.Stores.{node_read, count_added}
use Rattle.tree_memory.proofs.Follows.{make_left, change_left, sync_left, roll_left}
use Rattle.tree_memory.proofs.Oldests.{names_oldest, make_oldest, change_oldest, sync_oldest, sync_names_oldest, roll_oldest, snap_oldest}
use Rattle.tree_memory.proofs.leave.follow.Goals as goal

pub returns-in_ok-push-in-Make-clause-image : goal.returns-in_ok-push-in-Make-clause-image
returns-in_ok-push-in-Make-clause-image c =
    let image = c.args.image.now in
    let now = c.args.now.now in
    let n = c.in-Make.node in
    let is = c.in-Make.is in
    let place : n ≡ count_of image = eqb-true n (count_of image) (ap (suits (count_of image)) (sym is) ∙ c.requires.suits) in
    let more : count_of image + 1 ≡ count_of now = ap (λ (e : Event). count_of image + adds e) (sym is) ∙ c.requires.count in
    let low : n < count_of now = omega (arith, place, more) in
    on_ok_weaker c.follow_names.result
    (λ names h reads left. subst (λ (e : Event). IsLeft (run e h) c.follow_names.new.image) (sym is)
    (make_left h image c.follow_names.new.image now left c.in-Make.path n c.in-Make.dir c.in_ok-copy-in-Make.field-0 (ap (λ (e : Event). (run e h).tree) (sym is) ∙ reads) place
    (c.in_ok-copy-in-Make.ensures ∙ node_read now.nodes.items n _ low c.index.ensures) (ap (λ v. v.items) c.follow_names.ensures.nodes ∙ c.in_ok-push-in-Make.ensures.items) names))
    c.follow_names.ensures.names

pub returns-in-Change-clause-image : goal.returns-in-Change-clause-image
returns-in-Change-clause-image c =
    let is = c.in-Change.is in
    on_ok_weaker c.follow_node.result
    (λ m h reads left. subst (λ (e : Event). IsLeft (run e h) c.follow_node.new.image) (sym is)
    (change_left h c.args.image.now c.follow_node.new.image c.args.now.now left c.in-Change.node c.in-Change.change m.0 (ap (λ (e : Event). (run e h).tree) (sym is) ∙ reads) m.1 c.follow_node.ensures.names m.2))
    c.follow_node.ensures.mixed

pub returns-in_ok-image-in-SyncFile-clause-image : goal.returns-in_ok-image-in-SyncFile-clause-image
returns-in_ok-image-in-SyncFile-clause-image c =
    let image = c.args.image.now in
    let now = c.args.now.now in
    let n = c.in-SyncFile.node in
    let is = c.in-SyncFile.is in
    let there : n < count_of image = ltb-true n (count_of image) (ap (suits (count_of image)) (sym is) ∙ c.requires.suits) in
    let same : count_of image + 0 ≡ count_of now = ap (λ (e : Event). count_of image + adds e) (sym is) ∙ c.requires.count in
    let low : n < count_of now = omega (arith, there, same) in
    on_ok_weaker c.adopt_names.result
    (λ names h reads left. subst (λ (e : Event). IsLeft (run e h) c.adopt_names.new.image) (sym is)
    (sync_left h image c.adopt_names.new.image now left n c.in_ok-image-in-SyncFile.field-0 (ap (λ (e : Event). (run e h).tree) (sym is) ∙ reads) there
    (c.in_ok-image-in-SyncFile.ensures ∙ node_read now.nodes.items n _ low c.index-in-SyncFile.ensures) names (ap (λ v. v.items) c.adopt_names.ensures.nodes)))
    c.adopt_names.ensures.names

pub returns-in_ok-add_copies-in-Rollback-clause-image : goal.returns-in_ok-add_copies-in-Rollback-clause-image
returns-in_ok-add_copies-in-Rollback-clause-image c =
    let image = c.args.image.now in
    let now = c.args.now.now in
    let first = c.in-Rollback.first in
    let nodes = c.in-Rollback.nodes.items in
    let is = c.in-Rollback.is in
    let place : first ≡ count_of image = eqb-true first (count_of image) (and_parts (first == count_of image) (links_below (count_of image + length nodes) c.in-Rollback.edits.items) (ap (suits (count_of image)) (sym is) ∙ c.requires.suits)).0 in
    on_ok_weaker c.adopt_names-in-Rollback.result
    (λ names h reads left. subst (λ (e : Event). IsLeft (run e h) c.adopt_names-in-Rollback.new.image) (sym is)
    (roll_left h image c.adopt_names-in-Rollback.new.image now left first nodes (edited c.in-Rollback.edits.items h.tree.at) (ap (λ (e : Event). (run e h).tree) (sym is) ∙ reads) place
    (ap (λ v. map version v.items) c.adopt_names-in-Rollback.ensures.nodes ∙ c.in_ok-add_copies-in-Rollback.ensures.ok ∙ ap (λ (l : List Node). map version image.nodes.items ++ map version l) c.deref.ensures.value) names))
    c.adopt_names-in-Rollback.ensures.names

pub returns-in_ok-add_copies-in-Rollback-clause-count : goal.returns-in_ok-add_copies-in-Rollback-clause-count
returns-in_ok-add_copies-in-Rollback-clause-count c =
    let image = c.args.image.now in
    let is = c.in-Rollback.is in
    let added = c.in_ok-add_copies-in-Rollback.ensures.ok ∙ ap (λ (l : List Node). map version image.nodes.items ++ map version l) c.deref.ensures.value in
    on_ok_weaker c.adopt_names-in-Rollback.result
    (λ names. ap (λ v. length v.items) c.adopt_names-in-Rollback.ensures.nodes ∙ count_added image.nodes.items c.add_copies.new.into.items (map version c.in-Rollback.nodes.items) added
    ∙ ap (λ (n : ℕ). count_of image + n) (length-map c.in-Rollback.nodes.items version) ∙ ap (λ (e : Event). count_of image + adds e) (sym is) ∙ c.requires.count)
    c.adopt_names-in-Rollback.ensures.names

pub returns-in_ok-push-in-Make-clause-oldest : goal.returns-in_ok-push-in-Make-clause-oldest
returns-in_ok-push-in-Make-clause-oldest c = λ never.
    let image = c.args.image.now in
    let now = c.args.now.now in
    let n = c.in-Make.node in
    let is = c.in-Make.is in
    let place : n ≡ count_of image = eqb-true n (count_of image) (ap (suits (count_of image)) (sym is) ∙ c.requires.suits) in
    let more : count_of image + 1 ≡ count_of now = ap (λ (e : Event). count_of image + adds e) (sym is) ∙ c.requires.count in
    let low : n < count_of now = omega (arith, place, more) in
    on_ok_weaker c.follow_names.result
    (λ names h reads was. subst (λ (e : Event). IsOldest (run e h) c.follow_names.new.image) (sym is)
    (make_oldest h image c.follow_names.new.image now was c.in-Make.path n c.in-Make.dir c.in_ok-copy-in-Make.field-0 (ap (λ (e : Event). (run e h).tree) (sym is) ∙ reads) place
    (c.in_ok-copy-in-Make.ensures ∙ node_read now.nodes.items n _ low c.index.ensures) (ap (λ v. v.items) c.follow_names.ensures.nodes ∙ c.in_ok-push-in-Make.ensures.items) (c.follow_names.ensures.kept never)))
    c.follow_names.ensures.names

pub returns-in-Change-clause-oldest : goal.returns-in-Change-clause-oldest
returns-in-Change-clause-oldest c = λ never.
    let is = c.in-Change.is in
    on_ok_weaker c.follow_node.result
    (λ m h reads was. subst (λ (e : Event). IsOldest (run e h) c.follow_node.new.image) (sym is)
    (change_oldest h c.args.image.now c.follow_node.new.image c.args.now.now was c.in-Change.node (changed c.in-Change.change (h.tree.node c.in-Change.node)) (ap names_at c.follow_node.ensures.names) (c.follow_node.ensures.kept never)))
    c.follow_node.ensures.mixed

pub returns-in_ok-image-in-SyncFile-clause-oldest : goal.returns-in_ok-image-in-SyncFile-clause-oldest
returns-in_ok-image-in-SyncFile-clause-oldest c = λ never.
    let image = c.args.image.now in
    let now = c.args.now.now in
    let n = c.in-SyncFile.node in
    let is = c.in-SyncFile.is in
    let there : n < count_of image = ltb-true n (count_of image) (ap (suits (count_of image)) (sym is) ∙ c.requires.suits) in
    let same : count_of image + 0 ≡ count_of now = ap (λ (e : Event). count_of image + adds e) (sym is) ∙ c.requires.count in
    let low : n < count_of now = omega (arith, there, same) in
    on_ok_weaker c.adopt_names.result
    (λ names h reads was. subst (λ (e : Event). IsOldest (run e h) c.adopt_names.new.image) (sym is)
    (sync_oldest h image c.adopt_names.new.image now was n c.in_ok-image-in-SyncFile.field-0 (ap (λ (e : Event). (run e h).tree) (sym is) ∙ reads) there
    (c.in_ok-image-in-SyncFile.ensures ∙ node_read now.nodes.items n _ low c.index-in-SyncFile.ensures) names (ap (λ v. v.items) c.adopt_names.ensures.nodes)))
    c.adopt_names.ensures.names

pub returns-in_ok-add_copies-in-Rollback-clause-oldest : goal.returns-in_ok-add_copies-in-Rollback-clause-oldest
returns-in_ok-add_copies-in-Rollback-clause-oldest c = λ never.
    let image = c.args.image.now in
    let now = c.args.now.now in
    let first = c.in-Rollback.first in
    let nodes = c.in-Rollback.nodes.items in
    let is = c.in-Rollback.is in
    let place : first ≡ count_of image = eqb-true first (count_of image) (and_parts (first == count_of image) (links_below (count_of image + length nodes) c.in-Rollback.edits.items) (ap (suits (count_of image)) (sym is) ∙ c.requires.suits)).0 in
    on_ok_weaker c.adopt_names-in-Rollback.result
    (λ names h reads was. subst (λ (e : Event). IsOldest (run e h) c.adopt_names-in-Rollback.new.image) (sym is)
    (roll_oldest h image c.adopt_names-in-Rollback.new.image now was first nodes (edited c.in-Rollback.edits.items h.tree.at) (ap (λ (e : Event). (run e h).tree) (sym is) ∙ reads) place
    (ap (λ v. map version v.items) c.adopt_names-in-Rollback.ensures.nodes ∙ c.in_ok-add_copies-in-Rollback.ensures.ok ∙ ap (λ (l : List Node). map version image.nodes.items ++ map version l) c.deref.ensures.value) names))
    c.adopt_names-in-Rollback.ensures.names

pub returns-in-Remove-clause-oldest : goal.returns-in-Remove-clause-oldest
returns-in-Remove-clause-oldest c = λ never.
    let new = c.follow_names-in-Remove.new.image in
    on_ok_weaker c.follow_names-in-Remove.result
    (λ names h reads was.
    let renames : (at : Names) → IsOldest (renamed at h) new =
    λ at. names_oldest h c.args.image.now new c.args.now.now was at (c.follow_names-in-Remove.ensures.kept never) c.follow_names-in-Remove.ensures.nodes in
    elim c.in-Remove.is [
      | inl one ↦ subst (λ (e : Event). IsOldest (run e h) new) (sym one.1) (renames (gone_at one.0 h.tree.at))
      | inr more ↦ elim more [
        | inl one ↦ subst (λ (e : Event). IsOldest (run e h) new) (sym one.3) (renames (gone_at one.0 (put_at one.1 one.2 h.tree.at)))
        | inr all ↦ subst (λ (e : Event). IsOldest (run e h) new) (sym all.1) (renames (edited all.0.items h.tree.at))
      ]
    ])
    c.follow_names-in-Remove.ensures.names

pub returns-in-SyncNames-clause-oldest : goal.returns-in-SyncNames-clause-oldest
returns-in-SyncNames-clause-oldest c = λ never.
    let new = c.adopt_names-in-SyncNames.new.image in
    let is = c.in-SyncNames.is in
    on_ok_weaker c.adopt_names-in-SyncNames.result
    (λ names h reads was. subst (λ (e : Event). IsOldest (run e h) new) (sym is)
    (sync_names_oldest h c.args.image.now new c.args.now.now was (ap (λ (e : Event). (run e h).tree) (sym is) ∙ reads) names c.adopt_names-in-SyncNames.ensures.nodes))
    c.adopt_names-in-SyncNames.ensures.names

pub returns-in-Snapshot-clause-oldest : goal.returns-in-Snapshot-clause-oldest
returns-in-Snapshot-clause-oldest c = λ never h reads was. snap_oldest h c.args.image.now c.args.event.now was c.in-Snapshot.is

pub returns-in-Snapshot-2-clause-oldest : goal.returns-in-Snapshot-2-clause-oldest
returns-in-Snapshot-2-clause-oldest c = λ never h reads was. snap_oldest h c.args.image.now c.args.event.now was c.in-Snapshot.is
