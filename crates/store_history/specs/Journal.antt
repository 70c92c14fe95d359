-- What a device's bytes read as, and what a ring holds: transactions of a history.
use Rattle.std.specs.Prelude.{◌≡◌, ℕ, ◌+◌, ◌-◌, ◌≤◌, ◌<◌, List, map, drop, Some, Result, Ok}
use Rattle.fs_model.specs.declared.op.Op.{Op}
use Rattle.txn_codec.specs.declared.fault.CodecFault.{CodecFault}
use Rattle.txn_codec.specs.Reading.{decoded}
use Rattle.dev_api.specs.Disk.{Disk, IsImage}
use Rattle.ring_frame.specs.Frame.{Entry}
use Rattle.ring_frame.specs.Heads.{Head, head_of}
use Rattle.ring_images.specs.Held.{readable, IsSound}
use Rattle.ring_journal.specs.State.{State, NowHolds, IsUnspentImage}
use Rattle.store_history.specs.History.{History, end_of, part, IsTxn}

-- the transaction that an entry's payload spells
abbrev pub txn_of : Entry → Result (List Op) CodecFault
txn_of e = decoded e.payload

-- the payloads of these entries spell these transactions
abbrev pub Spells : List Entry → List (List Op) → Type 0
Spells es txns = map txn_of es ≡ map Ok txns

-- the entries with numbers above n, where the first has the number seq
abbrev pub above : ℕ → ℕ → List Entry → List Entry
above n seq es = drop (n + 1 - seq) es

-- each sound image of the device whose numbers may still be raised has P
abbrev pub EachImage : (List ℕ → Type 0) → Disk → Type 0
EachImage P d = (c : List ℕ) → IsImage d c → IsSound d c → IsUnspentImage c → P c

-- The bytes read as a journal of the history: behind number p, with all up to `synced` and none after hi.
pub record IsJournal (fsid : List ℕ) (h : History) (p synced hi : ℕ) (c : List ℕ) : Type 0 where
  pub head : Head
  pub header : head_of c ≡ Some head
  pub fsid_is : head.fsid ≡ fsid
  pub start : head.seq ≡ p + 1
  pub end : ℕ
  pub low : synced ≤ end
  pub high : end ≤ hi
  pub spelled : Spells (readable c) (part h p end)

-- The bytes have just these transactions above number n.
pub record IsAbove (fsid : List ℕ) (n : ℕ) (txns : List (List Op)) (c : List ℕ) : Type 0 where
  pub head : Head
  pub header : head_of c ≡ Some head
  pub fsid_is : head.fsid ≡ fsid
  pub no_gap : head.seq ≤ n + 1
  pub spelled : Spells (above n head.seq (readable c)) txns

-- The payload spells the history's transaction with the number seq, which comes behind number hi.
pub record IsNext (h : History) (hi seq : ℕ) (payload : List ℕ) : Type 0 where
  pub number : seq ≡ hi + 1
  pub room : hi < end_of h
  pub ops : List Op
  pub spells : decoded payload ≡ Ok ops
  pub is : IsTxn h (hi + 1) ops

-- The ring holds the history's transactions above p up to hi, and those up to `synced` are in every image.
pub record RingSide (fsid : List ℕ) (h : History) (p synced hi : ℕ) (s : State) (d : Disk) : Type 0 where
  pub base : h.base ≤ p
  pub low : p ≤ synced
  pub high : synced ≤ hi
  pub fits : hi ≤ end_of h
  pub fs : List Entry
  pub all : List Entry
  pub ring : NowHolds s fs all d
  pub fsid_is : s.head.fsid ≡ fsid
  pub start : s.head.seq ≡ p + 1
  pub stable : Spells fs (part h p synced)
  pub asked : Spells all (part h p hi)
