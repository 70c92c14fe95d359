use Rattle.std.proofs.Common.{◌≡◌, take, All, string_bytes}
use Rattle.tree_real.specs.Places.{IsFileName, node_at, side_at}
use Rattle.tree_real.proofs.layout.Layout.place.Given as goal

abbrev pub invariant-loop-i : goal.invariant-loop-i
invariant-loop-i l = record {
  node : string_bytes l.node ≡ node_at (string_bytes l.self.root) (take l.i l.path);
  side : string_bytes l.side ≡ side_at (string_bytes l.self.root) (take l.i l.path);
  names : All IsFileName (take l.i l.path);
}
