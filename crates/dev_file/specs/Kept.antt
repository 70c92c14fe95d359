-- What an honest record keeps of a file's content.
use Rattle.std.specs.Prelude.{◌≡◌, ℕ, List, length}
use Rattle.dev_api.specs.Disk.{Disk, HasSize, IsImage}
use Rattle.dev_file.specs.Calls.{Call}
use Rattle.dev_file.specs.Honest.{replay, IsHonest}

-- it has the file's length, and both what reads and what all writes asked would leave are images
pub record Kept (n : ℕ) (d : Disk) : Type 0 where
  pub size : HasSize n d
  pub image : IsImage d d.reads
  pub asked_image : IsImage d d.asked

-- the same of a file that held `first`, as long as its record of calls is honest
abbrev pub KeptIfHonest : ℕ → List ℕ → List Call → Type 0
KeptIfHonest n first history = length first ≡ n → IsHonest first history → Kept n (replay first history).disk
