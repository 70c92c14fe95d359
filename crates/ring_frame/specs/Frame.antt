-- How an entry of the ring is spelled: 64 bytes in front, the payload, zeros up to whole blocks, and in the last 64
-- bytes the front again. The zeros are not read.
use Rattle.std.specs.Prelude.{◌≡◌, ℕ, ◌+◌, ◌-◌, ◌*◌, ◌/◌, ◌<◌, ◌^◌, Bool, ◌&&◌, leb, List, [], ◌∷◌, ◌++◌, length, take, drop, replicate, Option, Some, None, if◌then◌else◌}
use Rattle.std.specs.Str.{bytes_eq}
use Rattle.byteorder.specs.Endian.{big_bytes, big_number}
use Rattle.sha1.specs.Sha1.{sha1}

-- the bytes of a block
abbrev pub block_size : ℕ
block_size = 4096

-- the bytes of both headers' blocks, and so the place where the ring begins
abbrev pub heads_size : ℕ
heads_size = 8192

-- `FSENTRY1`
abbrev pub entry_magic : List ℕ
entry_magic = 70 ∷ 83 ∷ 69 ∷ 78 ∷ 84 ∷ 82 ∷ 89 ∷ 49 ∷ []

-- the bytes that an entry of a payload of n bytes takes
unfoldable pub need : ℕ → ℕ
need n = block_size * ((n + 128 + 4095) / block_size)

pub record Entry : Type 0 where
  pub seq : ℕ
  pub epoch : ℕ
  pub payload : List ℕ

-- the front before its digest: the magic, half of the ring's fsid, the place on the device, the number, the epoch and
-- the payload's length, the numbers highest byte first
unfoldable pub head : List ℕ → ℕ → Entry → List ℕ
head fsid place e =
    entry_magic ++ take 8 fsid ++ big_bytes 8 place ++ big_bytes 8 e.seq ++ big_bytes 8 e.epoch ++ big_bytes 4 (length e.payload)

-- the front, whose digest is over what stands before it and the payload
unfoldable pub front : List ℕ → ℕ → Entry → List ℕ
front fsid place e = head fsid place e ++ sha1 (head fsid place e ++ e.payload)

-- all bytes of an entry
unfoldable pub spelled : List ℕ → ℕ → Entry → List ℕ
spelled fsid place e =
    front fsid place e ++ (e.payload ++ (replicate (need (length e.payload) - (length e.payload + 128)) 0 ++ front fsid place e))

-- the length that the bytes of an entry tell
abbrev pub told_length : List ℕ → ℕ
told_length bytes = big_number 4 (drop 40 bytes)

-- what the bytes would tell, if they are an entry
abbrev pub told : List ℕ → Entry
told bytes = record {
  seq = big_number 8 (drop 24 bytes);
  epoch = big_number 8 (drop 32 bytes);
  payload = take (told_length bytes) (drop 64 bytes);
}

-- the bytes begin with the spelling of what they tell, the zeros before the foot aside
unfoldable pub is_sealed : List ℕ → ℕ → List ℕ → Bool
is_sealed fsid place bytes =
    leb (need (told_length bytes)) (length bytes)
    && (bytes_eq (take 64 bytes) (front fsid place (told bytes))
    && bytes_eq (take 64 (drop (need (told_length bytes) - 64) bytes)) (front fsid place (told bytes)))

-- the sealed entry that the bytes begin with
unfoldable pub entry : List ℕ → ℕ → List ℕ → Option Entry
entry fsid place bytes = if is_sealed fsid place bytes then Some (told bytes) else None

-- the numbers of an entry fit their fields
pub record Fits (e : Entry) : Type 0 where
  pub seq_fits : e.seq < 2 ^ 64
  pub epoch_fits : e.epoch < 2 ^ 64
  pub payload_fits : length e.payload < 2 ^ 32

-- the bytes that an entry takes
abbrev pub size_of : Entry → ℕ
size_of e = need (length e.payload)

-- this part stands at a place
abbrev pub stands_at : List ℕ → ℕ → List ℕ → Bool
stands_at bytes at part = bytes_eq (take (length part) (drop at bytes)) part

-- two lists agree on the bytes that an entry takes
abbrev pub AgreeOn : Entry → List ℕ → List ℕ → Type 0
AgreeOn e bytes others = take (size_of e) bytes ≡ take (size_of e) others
