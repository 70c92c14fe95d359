-- Why bytes are no sealed entry.
use Rattle.std.specs.Prelude.{ℕ, ◌-◌, nat_lt, not, List, ◌++◌, length, take, drop, Option, Some, None, if◌then◌else◌}
use Rattle.byteorder.specs.Endian.{big_bytes}
use Rattle.sha1.specs.Sha1.{sha1}
use Rattle.ring_frame.specs.declared.reading.FrameFault.{FrameFault}
use Rattle.ring_frame.specs.declared.reading.FrameFault.TheVariants.{Short, NoMagic, WrongRing, WrongPlace, BadDigest, BadFooter}
use Rattle.ring_frame.specs.Frame.{entry_magic, need, told_length, stands_at}

-- the digest that the bytes should have, by the rest of their front and by their payload
abbrev pub due_digest : List ℕ → List ℕ
due_digest bytes = sha1 (take 44 bytes ++ take (told_length bytes) (drop 64 bytes))

-- the first fault of the seal itself, in bytes with a whole front
unfoldable pub seal_fault : List ℕ → Option FrameFault
seal_fault bytes =
    if nat_lt (length bytes) (need (told_length bytes)) then Some Short
    else if not (stands_at bytes 44 (due_digest bytes)) then Some BadDigest
    else if not (stands_at bytes (need (told_length bytes) - 64) (take 64 bytes)) then Some BadFooter
    else None

-- the first fault, in the order in which they are told
unfoldable pub frame_fault : List ℕ → ℕ → List ℕ → Option FrameFault
frame_fault fsid place bytes =
    if nat_lt (length bytes) 64 then Some Short
    else if not (stands_at bytes 0 entry_magic) then Some NoMagic
    else if not (stands_at bytes 8 (take 8 fsid)) then Some WrongRing
    else if not (stands_at bytes 16 (big_bytes 8 place)) then Some WrongPlace
    else seal_fault bytes
