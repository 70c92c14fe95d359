-- How a ring's header is spelled, one block each, and which of the two counts.
use Rattle.std.specs.Prelude.{◌≡◌, ℕ, ◌%◌, ◌<◌, ◌^◌, Bool, ◌&&◌, leb, ltb, ◌==◌, List, [], ◌∷◌, ◌++◌, length, take, drop, replicate, Option, Some, None, if◌then◌else◌}
use Rattle.std.specs.Str.{bytes_eq}
use Rattle.byteorder.specs.Endian.{big_bytes, big_number}
use Rattle.sha1.specs.Sha1.{sha1}
use Rattle.ring_frame.specs.Frame.{block_size, heads_size}
use Rattle.ring_frame.specs.declared.head.RingHead.{RingHead}

-- `FSRING01`
abbrev pub ring_magic : List ℕ
ring_magic = 70 ∷ 83 ∷ 82 ∷ 73 ∷ 78 ∷ 71 ∷ 48 ∷ 49 ∷ []

-- the fields of a header
abbrev pub Head : Type 0
Head = RingHead

-- what stands before the digest: the magic, the ring's fsid and the numbers, each in 8 bytes with the highest first
unfoldable pub head_bytes : Head → List ℕ
head_bytes h =
    ring_magic ++ h.fsid ++ big_bytes 8 h.generation ++ big_bytes 8 h.epoch ++ big_bytes 8 h.start ++ big_bytes 8 h.seq ++ big_bytes 8 h.size

-- the whole block: the digest of what stands before it, and zeros, which are not read
unfoldable pub head_block : Head → List ℕ
head_block h = head_bytes h ++ (sha1 (head_bytes h) ++ replicate 4012 0)

-- the numbers fit their fields
pub record HeadFits (h : Head) : Type 0 where
  pub fsid_fits : length h.fsid ≡ 16
  pub generation_fits : h.generation < 2 ^ 64
  pub epoch_fits : h.epoch < 2 ^ 64

-- what a block would tell, if it is a header
abbrev pub told_head : List ℕ → Head
told_head block = record {
  fsid = take 16 (drop 8 block);
  generation = big_number 8 (drop 24 block);
  epoch = big_number 8 (drop 32 block);
  start = big_number 8 (drop 40 block);
  seq = big_number 8 (drop 48 block);
  size = big_number 8 (drop 56 block);
}

-- a device may have this size
abbrev pub size_fits : ℕ → Bool
size_fits size = size % block_size == 0 && (leb 16384 size && leb size (2 ^ 40))

-- the numbers that a header of a device of this size may have
abbrev pub head_fits : ℕ → Head → Bool
head_fits size h =
    size_fits size && (h.size == size && (h.start % block_size == 0 && (leb heads_size h.start && (ltb h.start size && (leb 1 h.seq && leb h.seq (2 ^ 63))))))

-- the header that a block of a device of this size is
unfoldable pub head_in : ℕ → List ℕ → Option Head
head_in size block =
    if bytes_eq (take 64 block) (head_bytes (told_head block))
    && (bytes_eq (take 20 (drop 64 block)) (sha1 (head_bytes (told_head block))) && head_fits size (told_head block))
    then Some (told_head block) else None

-- the one with the higher generation, the second where they tie
abbrev pub newer : Option Head → Option Head → Option Head
newer None o = o
newer (Some a) None = Some a
newer (Some a) (Some b) = if leb a.generation b.generation then Some b else Some a

-- the newer sealed header of a device
unfoldable pub head_of : List ℕ → Option Head
head_of bytes = newer (head_in (length bytes) (take block_size bytes)) (head_in (length bytes) (take block_size (drop block_size bytes)))
