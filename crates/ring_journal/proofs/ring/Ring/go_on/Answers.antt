use Rattle.std.proofs.Common.{rules, ◌<◌, ◌^◌, ◌≡◌, ℕ, ◌+◌, ◌-◌, ◌*◌, ◌≤◌, List, [], length, take, drop, min, refl, sym, ap, ◌∙◌, subst, arith}
use Rattle.std.specs.Prelude.{ltb, cond, Some, true}
use Rattle.dev_api.specs.Disk.{Disk}
use Rattle.dev_api.specs.Run.{Keeps}
use Rattle.ring_frame.specs.Frame.{Entry}
use Rattle.ring_frame.specs.Heads.{Head, head_in}
use Rattle.ring_images.specs.Readable.{Stand, sizes}
use Rattle.ring_images.specs.Turned.{turned}
use Rattle.ring_images.specs.Held.{ring_of, readable, Ready, LeavesEither}
use Rattle.ring_journal.specs.State.{State, Ended, GoesOn, from, head_from, header_behind}
use Rattle.ring_journal.specs.Turning.{Turning}
use Rattle.ring_journal.proofs.Begins.{used_all, count_all, stands, rest_is, head_is, rest_used, rest_count, parts_are, turning, ended_keeps, begin_keeps, begin_holds, goes_on}
use Rattle.ring_journal.proofs.ring.Ring.go_on.Goals as goal

pub returns-in_err-gone-clause-crash : goal.returns-in_err-gone-clause-crash
returns-in_err-gone-clause-crash g c = λ told.
    let disk = λ (k : g.row.D.Denot). (g.D.Device.state k).disk in
    let past = λ (k : g.row.D.Denot). (g.D.Device.state k).past in
    let d : Disk = disk c.args.dev.now in
    let R : List Entry = readable d.stable in
    let v : State = record { head = c.self.inside.head; slot = c.self.inside.slot; used = c.self.inside.used; count = c.self.inside.count; low = c.self.inside.low; clean = c.self.inside.clean } in
    let is : v ≡ c.args.self.now = c.self.view_is in
    let ended : Ended v d = subst (λ (x : State). Ended x d) (sym is) (c.requires.ended (search rules)) in
    let mid : Disk = disk c.size_of_skipped.new.dev in
    let same : mid ≡ d = c.size_of_skipped.ensures.disk (search rules) in
    let still : past c.size_of_skipped.new.dev ≡ past c.args.dev.now = c.size_of_skipped.ensures.past (search rules) in
    subst (λ (x : State). Keeps (LeavesEither x.head R R (head_from x c.args.epoch c.args.seq R) (from c.args.seq R)) mid (past c.args.dev.now) (past c.size_of_skipped.new.dev)) is
    (ended_keeps v d mid (past c.args.dev.now) (past c.size_of_skipped.new.dev) (head_from v c.args.epoch c.args.seq R) (from c.args.seq R) ended same still)

pub returns-in_err-restart-clause-crash : goal.returns-in_err-restart-clause-crash
returns-in_err-restart-clause-crash g c = λ told.
    let disk = λ (k : g.row.D.Denot). (g.D.Device.state k).disk in
    let past = λ (k : g.row.D.Denot). (g.D.Device.state k).past in
    let d : Disk = disk c.args.dev.now in
    let R : List Entry = readable d.stable in
    let v : State = record { head = c.self.inside.head; slot = c.self.inside.slot; used = c.self.inside.used; count = c.self.inside.count; low = c.self.inside.low; clean = c.self.inside.clean } in
    let is : v ≡ c.args.self.now = c.self.view_is in
    let ended : Ended v d = subst (λ (x : State). Ended x d) (sym is) (c.requires.ended (search rules)) in
    let mid : Disk = disk c.size_of_skipped.new.dev in
    let same : mid ≡ d = c.size_of_skipped.ensures.disk (search rules) in
    let still : past c.size_of_skipped.new.dev ≡ past c.args.dev.now = c.size_of_skipped.ensures.past (search rules) in
    let seq = c.args.seq in
    let k : ℕ = c.below-skipped.result in
    let skip : k ≡ min (seq - v.head.seq) v.count = c.below-skipped.ensures in
    let reads : d.reads ≡ d.stable = ap (λ (x : Disk). x.reads) ended.1.is in
    let stand = subst (λ (b : List ℕ). Stand (ring_of v.head v.head.size) 0 v.head.seq 0 (turned v.head.start b) R) (sym reads) (stands v d c.self.invariant ended) in
    let enough : k ≤ v.count = omega (arith, skip) in
    let gone : ℕ = c.in_ok-gone.gone in
    let gone_is : gone ≡ sizes (take k R) = c.in_ok-gone.ensures.size (search rules) R stand (used_all v d c.self.invariant ended) (count_all v d c.self.invariant ended) enough in
    let number : ℕ = c.number_from-number.result in
    let number_is : number ≡ cond (ltb k v.count) (v.head.seq + k) seq = c.number_from-number.ensures in
    let rises : v.head.generation + 1 < 2 ^ 64 = subst (λ (x : State). x.head.generation + 1 < 2 ^ 64) (sym is) c.requires.rises in
    let later : v.head.epoch ≤ c.args.epoch = subst (λ (x : State). x.head.epoch ≤ c.args.epoch) (sym is) c.requires.epoch in
    let next : Head = c.next_header-next.result in
    let next_is : next ≡ header_behind v.head c.args.epoch gone number = c.next_header-next.ensures in
    let turn : Turning v.head next v.slot v.used gone v.clean (take k R) (drop k R) mid =
    subst (λ (x : Head). Turning v.head x v.slot v.used gone v.clean (take k R) (drop k R) mid) (sym next_is)
    (subst (Turning v.head (header_behind v.head c.args.epoch gone number) v.slot v.used gone v.clean (take k R) (drop k R)) (sym same)
    (turning v d c.self.invariant ended c.args.epoch seq k gone number skip gone_is number_is rises later (search rules) c.requires.least c.requires.most)) in
    let named : next ≡ head_from v c.args.epoch seq R = next_is ∙ head_is v d c.self.invariant ended c.args.epoch seq k gone number skip gone_is number_is in
    let after : drop k R ≡ from seq R = sym (rest_is v d c.self.invariant ended c.args.epoch seq k gone number skip gone_is number_is) in
    subst (λ (x : State). Keeps (LeavesEither x.head R R (head_from x c.args.epoch seq R) (from seq R)) (disk c.restart.new.dev) (past c.args.dev.now) (past c.restart.new.dev)) is
    (begin_keeps v d mid (disk c.restart.new.dev) (past c.args.dev.now) (past c.size_of_skipped.new.dev) (past c.restart.new.dev) (take k R) (drop k R) R (from seq R) next (head_from v c.args.epoch seq R) ended same still
    (parts_are v d c.self.invariant ended c.args.epoch seq k gone number skip gone_is number_is) refl after named (c.restart.ensures.crash (search rules) (take k R) (drop k R) turn))

pub returns-clause-crash : goal.returns-clause-crash
returns-clause-crash g c = λ told.
    let disk = λ (k : g.row.D.Denot). (g.D.Device.state k).disk in
    let past = λ (k : g.row.D.Denot). (g.D.Device.state k).past in
    let d : Disk = disk c.args.dev.now in
    let R : List Entry = readable d.stable in
    let v : State = record { head = c.self.inside.head; slot = c.self.inside.slot; used = c.self.inside.used; count = c.self.inside.count; low = c.self.inside.low; clean = c.self.inside.clean } in
    let is : v ≡ c.args.self.now = c.self.view_is in
    let ended : Ended v d = subst (λ (x : State). Ended x d) (sym is) (c.requires.ended (search rules)) in
    let mid : Disk = disk c.size_of_skipped.new.dev in
    let same : mid ≡ d = c.size_of_skipped.ensures.disk (search rules) in
    let still : past c.size_of_skipped.new.dev ≡ past c.args.dev.now = c.size_of_skipped.ensures.past (search rules) in
    let seq = c.args.seq in
    let k : ℕ = c.below-skipped.result in
    let skip : k ≡ min (seq - v.head.seq) v.count = c.below-skipped.ensures in
    let reads : d.reads ≡ d.stable = ap (λ (x : Disk). x.reads) ended.1.is in
    let stand = subst (λ (b : List ℕ). Stand (ring_of v.head v.head.size) 0 v.head.seq 0 (turned v.head.start b) R) (sym reads) (stands v d c.self.invariant ended) in
    let enough : k ≤ v.count = omega (arith, skip) in
    let gone : ℕ = c.in_ok-gone.gone in
    let gone_is : gone ≡ sizes (take k R) = c.in_ok-gone.ensures.size (search rules) R stand (used_all v d c.self.invariant ended) (count_all v d c.self.invariant ended) enough in
    let number : ℕ = c.number_from-number.result in
    let number_is : number ≡ cond (ltb k v.count) (v.head.seq + k) seq = c.number_from-number.ensures in
    let rises : v.head.generation + 1 < 2 ^ 64 = subst (λ (x : State). x.head.generation + 1 < 2 ^ 64) (sym is) c.requires.rises in
    let later : v.head.epoch ≤ c.args.epoch = subst (λ (x : State). x.head.epoch ≤ c.args.epoch) (sym is) c.requires.epoch in
    let next : Head = c.next_header-next.result in
    let next_is : next ≡ header_behind v.head c.args.epoch gone number = c.next_header-next.ensures in
    let turn : Turning v.head next v.slot v.used gone v.clean (take k R) (drop k R) mid =
    subst (λ (x : Head). Turning v.head x v.slot v.used gone v.clean (take k R) (drop k R) mid) (sym next_is)
    (subst (Turning v.head (header_behind v.head c.args.epoch gone number) v.slot v.used gone v.clean (take k R) (drop k R)) (sym same)
    (turning v d c.self.invariant ended c.args.epoch seq k gone number skip gone_is number_is rises later (search rules) c.requires.least c.requires.most)) in
    let named : next ≡ head_from v c.args.epoch seq R = next_is ∙ head_is v d c.self.invariant ended c.args.epoch seq k gone number skip gone_is number_is in
    let after : drop k R ≡ from seq R = sym (rest_is v d c.self.invariant ended c.args.epoch seq k gone number skip gone_is number_is) in
    subst (λ (x : State). Keeps (LeavesEither x.head R R (head_from x c.args.epoch seq R) (from seq R)) (disk c.restart.new.dev) (past c.args.dev.now) (past c.restart.new.dev)) is
    (begin_keeps v d mid (disk c.restart.new.dev) (past c.args.dev.now) (past c.size_of_skipped.new.dev) (past c.restart.new.dev) (take k R) (drop k R) R (from seq R) next (head_from v c.args.epoch seq R) ended same still
    (parts_are v d c.self.invariant ended c.args.epoch seq k gone number skip gone_is number_is) refl after named (c.restart.ensures.crash (search rules) (take k R) (drop k R) turn))

pub returns-clause-head : goal.returns-clause-head
returns-clause-head g c = λ told.
    let disk = λ (k : g.row.D.Denot). (g.D.Device.state k).disk in
    let past = λ (k : g.row.D.Denot). (g.D.Device.state k).past in
    let d : Disk = disk c.args.dev.now in
    let R : List Entry = readable d.stable in
    let v : State = record { head = c.self.inside.head; slot = c.self.inside.slot; used = c.self.inside.used; count = c.self.inside.count; low = c.self.inside.low; clean = c.self.inside.clean } in
    let is : v ≡ c.args.self.now = c.self.view_is in
    let ended : Ended v d = subst (λ (x : State). Ended x d) (sym is) (c.requires.ended (search rules)) in
    let mid : Disk = disk c.size_of_skipped.new.dev in
    let same : mid ≡ d = c.size_of_skipped.ensures.disk (search rules) in
    let still : past c.size_of_skipped.new.dev ≡ past c.args.dev.now = c.size_of_skipped.ensures.past (search rules) in
    let seq = c.args.seq in
    let k : ℕ = c.below-skipped.result in
    let skip : k ≡ min (seq - v.head.seq) v.count = c.below-skipped.ensures in
    let reads : d.reads ≡ d.stable = ap (λ (x : Disk). x.reads) ended.1.is in
    let stand = subst (λ (b : List ℕ). Stand (ring_of v.head v.head.size) 0 v.head.seq 0 (turned v.head.start b) R) (sym reads) (stands v d c.self.invariant ended) in
    let enough : k ≤ v.count = omega (arith, skip) in
    let gone : ℕ = c.in_ok-gone.gone in
    let gone_is : gone ≡ sizes (take k R) = c.in_ok-gone.ensures.size (search rules) R stand (used_all v d c.self.invariant ended) (count_all v d c.self.invariant ended) enough in
    let number : ℕ = c.number_from-number.result in
    let number_is : number ≡ cond (ltb k v.count) (v.head.seq + k) seq = c.number_from-number.ensures in
    let rises : v.head.generation + 1 < 2 ^ 64 = subst (λ (x : State). x.head.generation + 1 < 2 ^ 64) (sym is) c.requires.rises in
    let later : v.head.epoch ≤ c.args.epoch = subst (λ (x : State). x.head.epoch ≤ c.args.epoch) (sym is) c.requires.epoch in
    let next : Head = c.next_header-next.result in
    let next_is : next ≡ header_behind v.head c.args.epoch gone number = c.next_header-next.ensures in
    let turn : Turning v.head next v.slot v.used gone v.clean (take k R) (drop k R) mid =
    subst (λ (x : Head). Turning v.head x v.slot v.used gone v.clean (take k R) (drop k R) mid) (sym next_is)
    (subst (Turning v.head (header_behind v.head c.args.epoch gone number) v.slot v.used gone v.clean (take k R) (drop k R)) (sym same)
    (turning v d c.self.invariant ended c.args.epoch seq k gone number skip gone_is number_is rises later (search rules) c.requires.least c.requires.most)) in
    let named : next ≡ head_from v c.args.epoch seq R = next_is ∙ head_is v d c.self.invariant ended c.args.epoch seq k gone number skip gone_is number_is in
    let after : drop k R ≡ from seq R = sym (rest_is v d c.self.invariant ended c.args.epoch seq k gone number skip gone_is number_is) in
    subst (λ (x : State). next ≡ head_from x c.args.epoch seq R) is named

pub returns-clause-done : goal.returns-clause-done
returns-clause-done g c = λ told.
    let disk = λ (k : g.row.D.Denot). (g.D.Device.state k).disk in
    let past = λ (k : g.row.D.Denot). (g.D.Device.state k).past in
    let d : Disk = disk c.args.dev.now in
    let R : List Entry = readable d.stable in
    let v : State = record { head = c.self.inside.head; slot = c.self.inside.slot; used = c.self.inside.used; count = c.self.inside.count; low = c.self.inside.low; clean = c.self.inside.clean } in
    let is : v ≡ c.args.self.now = c.self.view_is in
    let ended : Ended v d = subst (λ (x : State). Ended x d) (sym is) (c.requires.ended (search rules)) in
    let mid : Disk = disk c.size_of_skipped.new.dev in
    let same : mid ≡ d = c.size_of_skipped.ensures.disk (search rules) in
    let still : past c.size_of_skipped.new.dev ≡ past c.args.dev.now = c.size_of_skipped.ensures.past (search rules) in
    let seq = c.args.seq in
    let k : ℕ = c.below-skipped.result in
    let skip : k ≡ min (seq - v.head.seq) v.count = c.below-skipped.ensures in
    let reads : d.reads ≡ d.stable = ap (λ (x : Disk). x.reads) ended.1.is in
    let stand = subst (λ (b : List ℕ). Stand (ring_of v.head v.head.size) 0 v.head.seq 0 (turned v.head.start b) R) (sym reads) (stands v d c.self.invariant ended) in
    let enough : k ≤ v.count = omega (arith, skip) in
    let gone : ℕ = c.in_ok-gone.gone in
    let gone_is : gone ≡ sizes (take k R) = c.in_ok-gone.ensures.size (search rules) R stand (used_all v d c.self.invariant ended) (count_all v d c.self.invariant ended) enough in
    let number : ℕ = c.number_from-number.result in
    let number_is : number ≡ cond (ltb k v.count) (v.head.seq + k) seq = c.number_from-number.ensures in
    let rises : v.head.generation + 1 < 2 ^ 64 = subst (λ (x : State). x.head.generation + 1 < 2 ^ 64) (sym is) c.requires.rises in
    let later : v.head.epoch ≤ c.args.epoch = subst (λ (x : State). x.head.epoch ≤ c.args.epoch) (sym is) c.requires.epoch in
    let next : Head = c.next_header-next.result in
    let next_is : next ≡ header_behind v.head c.args.epoch gone number = c.next_header-next.ensures in
    let turn : Turning v.head next v.slot v.used gone v.clean (take k R) (drop k R) mid =
    subst (λ (x : Head). Turning v.head x v.slot v.used gone v.clean (take k R) (drop k R) mid) (sym next_is)
    (subst (Turning v.head (header_behind v.head c.args.epoch gone number) v.slot v.used gone v.clean (take k R) (drop k R)) (sym same)
    (turning v d c.self.invariant ended c.args.epoch seq k gone number skip gone_is number_is rises later (search rules) c.requires.least c.requires.most)) in
    let named : next ≡ head_from v c.args.epoch seq R = next_is ∙ head_is v d c.self.invariant ended c.args.epoch seq k gone number skip gone_is number_is in
    let after : drop k R ≡ from seq R = sym (rest_is v d c.self.invariant ended c.args.epoch seq k gone number skip gone_is number_is) in
    let restarted = c.in_ok-restart.ensures.done (search rules) (take k R) (drop k R) turn in
    let ready : Ready next v.head.size (drop k R) [] (disk c.restart.new.dev) = restarted.0 in
    let size : next.size ≡ v.head.size = ap (λ (x : Head). x.size) next_is in
    begin_holds v next (1 - v.slot) (v.used - gone) (v.count - k) (drop k R) (from seq R) (disk c.restart.new.dev) after
    (rest_used v d c.self.invariant ended c.args.epoch seq k gone number skip gone_is number_is) (rest_count v d c.self.invariant ended c.args.epoch seq k gone number skip gone_is number_is)
    (subst (λ (n : ℕ). Ready next n (drop k R) [] (disk c.restart.new.dev)) (sym size) ready)
    (subst (λ (n : ℕ). head_in n (take 4096 (drop (4096 * (1 - v.slot)) (disk c.restart.new.dev).asked)) ≡ Some next) (sym size) restarted.2)

pub returns-clause-settled : goal.returns-clause-settled
returns-clause-settled g c = λ told.
    let disk = λ (k : g.row.D.Denot). (g.D.Device.state k).disk in
    let past = λ (k : g.row.D.Denot). (g.D.Device.state k).past in
    let d : Disk = disk c.args.dev.now in
    let R : List Entry = readable d.stable in
    let v : State = record { head = c.self.inside.head; slot = c.self.inside.slot; used = c.self.inside.used; count = c.self.inside.count; low = c.self.inside.low; clean = c.self.inside.clean } in
    let is : v ≡ c.args.self.now = c.self.view_is in
    let ended : Ended v d = subst (λ (x : State). Ended x d) (sym is) (c.requires.ended (search rules)) in
    let mid : Disk = disk c.size_of_skipped.new.dev in
    let same : mid ≡ d = c.size_of_skipped.ensures.disk (search rules) in
    let still : past c.size_of_skipped.new.dev ≡ past c.args.dev.now = c.size_of_skipped.ensures.past (search rules) in
    let seq = c.args.seq in
    let k : ℕ = c.below-skipped.result in
    let skip : k ≡ min (seq - v.head.seq) v.count = c.below-skipped.ensures in
    let reads : d.reads ≡ d.stable = ap (λ (x : Disk). x.reads) ended.1.is in
    let stand = subst (λ (b : List ℕ). Stand (ring_of v.head v.head.size) 0 v.head.seq 0 (turned v.head.start b) R) (sym reads) (stands v d c.self.invariant ended) in
    let enough : k ≤ v.count = omega (arith, skip) in
    let gone : ℕ = c.in_ok-gone.gone in
    let gone_is : gone ≡ sizes (take k R) = c.in_ok-gone.ensures.size (search rules) R stand (used_all v d c.self.invariant ended) (count_all v d c.self.invariant ended) enough in
    let number : ℕ = c.number_from-number.result in
    let number_is : number ≡ cond (ltb k v.count) (v.head.seq + k) seq = c.number_from-number.ensures in
    let rises : v.head.generation + 1 < 2 ^ 64 = subst (λ (x : State). x.head.generation + 1 < 2 ^ 64) (sym is) c.requires.rises in
    let later : v.head.epoch ≤ c.args.epoch = subst (λ (x : State). x.head.epoch ≤ c.args.epoch) (sym is) c.requires.epoch in
    let next : Head = c.next_header-next.result in
    let next_is : next ≡ header_behind v.head c.args.epoch gone number = c.next_header-next.ensures in
    let turn : Turning v.head next v.slot v.used gone v.clean (take k R) (drop k R) mid =
    subst (λ (x : Head). Turning v.head x v.slot v.used gone v.clean (take k R) (drop k R) mid) (sym next_is)
    (subst (Turning v.head (header_behind v.head c.args.epoch gone number) v.slot v.used gone v.clean (take k R) (drop k R)) (sym same)
    (turning v d c.self.invariant ended c.args.epoch seq k gone number skip gone_is number_is rises later (search rules) c.requires.least c.requires.most)) in
    let named : next ≡ head_from v c.args.epoch seq R = next_is ∙ head_is v d c.self.invariant ended c.args.epoch seq k gone number skip gone_is number_is in
    let after : drop k R ≡ from seq R = sym (rest_is v d c.self.invariant ended c.args.epoch seq k gone number skip gone_is number_is) in
    (c.in_ok-restart.ensures.done (search rules) (take k R) (drop k R) turn).1

pub returns-clause-numbers : goal.returns-clause-numbers
returns-clause-numbers g c =
    let v : State = record { head = c.self.inside.head; slot = c.self.inside.slot; used = c.self.inside.used; count = c.self.inside.count; low = c.self.inside.low; clean = c.self.inside.clean } in
    let is : v ≡ c.args.self.now = c.self.view_is in
    let k : ℕ = c.below-skipped.result in
    let gone : ℕ = c.in_ok-gone.gone in
    let next : Head = c.next_header-next.result in
    let t : State = record { head = next; slot = 1 - v.slot; used = v.used - gone; count = v.count - k; low = 0; clean = true } in
    subst (λ (x : State). GoesOn x c.args.epoch c.args.seq t) is
    (goes_on v c.args.epoch c.args.seq k gone c.number_from-number.result c.self.invariant c.below-skipped.ensures c.in_ok-gone.ensures.room.0 c.in_ok-gone.ensures.all c.number_from-number.ensures c.requires.most
    t c.next_header-next.ensures refl refl refl)
