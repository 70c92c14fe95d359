-- What a read of an entry gives.
use Rattle.ring_frame.specs.declared.reading.Framed.{Framed}
use Rattle.ring_frame.specs.Frame.{Entry}

-- the entry that was read
abbrev pub framed : Framed → Entry
framed f = record { seq = f.seq; epoch = f.epoch; payload = f.payload.now }
