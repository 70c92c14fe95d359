use Rattle.std.proofs.Common.{◌≡◌, ◌==◌, true}
use Rattle.tree_memory.specs.Oldest.{IsOldest}
use Rattle.tree_memory.proofs.Replays.{IsFollowed, at_call}
use Rattle.tree_memory.proofs.memory.MemoryTree.image.Given as goal

abbrev pub invariant-loop-call : goal.invariant-loop-call
invariant-loop-call l = record {
  followed : IsFollowed l.self.origin l.self.log.items l.call-index l.now l.image;
  chooser : l.chooser.oldest ≡ (l.choice == 1);
  oldest : l.chooser.oldest ≡ true → IsOldest (at_call l.self.origin l.self.log.items l.call-index) l.image;
}
