use Rattle.std.proofs.Common.{◌≡◌, ◌≤◌, length, take, drop}
use Rattle.dev_file.specs.Honest.{replay, IsHonest}
use Rattle.dev_file.proofs.device.FileDeviceDevice.read_at.Given as goal

abbrev pub invariant-loop : goal.invariant-loop
invariant-loop g l =
    let first = g.S.Start.first in
    let was = g.C.Calls.history l.fn.self.calls in
    let now = g.C.Calls.history l.self.calls in
    record {
      within : l.done ≤ length l.into;
      long : length l.into ≡ length l.fn.into;
      size : l.self.size ≡ l.fn.self.size;
      faults : l.self.faults ≡ l.fn.self.faults;
      same : replay first now ≡ replay first was;
      honest : IsHonest first now → IsHonest first was;
      came : IsHonest first now → take l.done l.into ≡ take l.done (drop l.at (replay first was).disk.reads);
    }
