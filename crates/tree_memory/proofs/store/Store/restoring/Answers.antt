use Rattle.std.proofs.Common.{◌≡◌, ◌++◌, ℕ, sym, ap, ◌∙◌}
use Rattle.tree_api.specs.Tree.{current}
use Rattle.tree_memory.specs.Names.{unlinks, links, numbered}
use Rattle.tree_memory.specs.Kept.{rests_of}
use Rattle.tree_memory.specs.Told.{count_of}
use Rattle.tree_memory.specs.declared.event.Event.TheVariants.{Rollback}
use Rattle.tree_memory.proofs.store.Store.restoring.Goals as goal

pub returns : goal.returns
returns c =
    let s = c.args.self.now in
    let long : c.len-first.result ≡ count_of s = c.len-first.ensures ∙ s.nodes.ok.0 in
    let r = c.in_ok-restores.ensures in
    record {
      kept = c.in-Some.snap.now.kept.items;
      there = sym c.in-Some.ensures;
      each = c.in-Some.snap.now.each;
      nodes = c.in_ok-nodes.field-0;
      edits = c.in_ok-restores.field-0;
      names = r.0;
      is = ap (λ (n : ℕ). Rollback n c.in_ok-nodes.field-0 c.in_ok-restores.field-0) long;
      held = c.in_ok-nodes.ensures;
      below = r.1;
      moves = r.2 ∙ ap (λ (n : ℕ). unlinks current r.0 ++ links current (numbered n (rests_of c.in-Some.snap.now.kept.items))) long;
    }
