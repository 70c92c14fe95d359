-- A header that begins at a later entry of the same bytes.
use Rattle.std.specs.Prelude.{◌≡◌, ◌⊎◌, ℕ, ◌+◌, ◌-◌, ◌<◌, ◌≤◌, List, [], length}
use Rattle.ring_frame.specs.Frame.{Entry}
use Rattle.ring_frame.specs.Heads.{Head}
use Rattle.ring_images.specs.Readable.{sizes}
use Rattle.ring_images.specs.Turned.{place_of}

-- A header that begins behind the entries `gone`, with `rest` to come, of those that stand under another.
pub record Begins_at (h g : Head) (size : ℕ) (gone rest : List Entry) : Type 0 where
  pub fsid : g.fsid ≡ h.fsid
  pub epoch : h.epoch ≤ g.epoch
  pub start : g.start ≡ place_of size h.start (sizes gone)
  -- the number of the first that is left, and else any number behind those that are gone
  pub number : (rest ≡ []) ⊎ (g.seq ≡ h.seq + length gone)
  pub ahead : 0 < length gone → h.seq < g.seq + length rest
