use Rattle.std.proofs.Common.{◌≡◌, ◌+◌, ◌≤◌, ◌∷◌, length}
use Rattle.dev_file.specs.Honest.{replay, IsHonest}
use Rattle.dev_file.proofs.Pieces.{so_far}
use Rattle.dev_file.proofs.device.FileDeviceDevice.write_at.Given as goal

abbrev pub invariant-loop : goal.invariant-loop
invariant-loop g l =
    let first = g.S.Start.first in
    let was = g.C.Calls.history l.fn.self.calls in
    let now = g.C.Calls.history l.self.calls in
    let old = replay first was in
    record {
      within : l.done ≤ length l.bytes;
      size : l.self.size ≡ l.fn.self.size;
      faults : l.self.faults ≡ l.fn.self.faults;
      honest : IsHonest first now → IsHonest first was;
      fits : IsHonest first now → l.at + length l.bytes ≤ length old.disk.reads;
      disk : IsHonest first now → (replay first now).disk ≡ so_far old.disk l.at l.bytes l.done;
      past : IsHonest first now → (replay first now).past ≡ so_far old.disk l.at l.bytes l.done ∷ old.past;
    }
