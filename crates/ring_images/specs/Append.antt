-- The next entry of a ring, its bytes, and where they go.
use Rattle.std.specs.Prelude.{◌≡◌, ◌⊎◌, ℕ, ◌+◌, ◌-◌, ◌<◌, ◌≤◌, List, ◌++◌, length, ◌^◌}
use Rattle.ring_images.specs.Turned.{place_of}
use Rattle.ring_frame.specs.Frame.{Entry, size_of, spelled, Fits, heads_size}
use Rattle.ring_frame.specs.Heads.{Head}
use Rattle.ring_images.specs.Readable.{sizes}

-- two places, either both outside what is put or at one place within it
pub record Away (at off n j i : ℕ) : Type 0 where
  pub there : (j < at) ⊎ (at + n ≤ j)
  pub here : (i < off) ⊎ (off + n ≤ i)

pub record Along (at off n j i : ℕ) : Type 0 where
  pub from : off ≤ i
  pub to : i < off + n
  pub moved : j ≡ at + (i - off)

-- n bytes at a place of the device lie together in the turned ring, at this offset
pub record Piece (size start at off n : ℕ) : Type 0 where
  pub behind : heads_size ≤ at
  pub fits : at + n ≤ size
  pub room : off + n ≤ size - heads_size
  pub each : (i : ℕ) → i < size - heads_size → Away at off n (place_of size start i) i ⊎ Along at off n (place_of size start i) i

-- the next entry of the ring
pub record Next (h : Head) (size : ℕ) (fs es : List Entry) (e : Entry) : Type 0 where
  pub fits : Fits e
  pub number : e.seq ≡ h.seq + length (fs ++ es)
  pub epoch_is : e.epoch ≡ h.epoch
  pub small : e.seq < 2 ^ 63
  pub long : 8 ≤ length h.fsid
  pub room : sizes (fs ++ es) + size_of e ≤ size - heads_size

-- its bytes
abbrev pub bytes_of : Head → ℕ → List Entry → List Entry → Entry → List ℕ
bytes_of h size fs es e = spelled h.fsid (place_of size h.start (sizes (fs ++ es))) e
