use Rattle.std.proofs.Common.{rules, ◌≡◌, ℕ, List, length, take, drop, refl, sym, ap, ◌∙◌, arith}
use Rattle.std.specs.Prelude.{None}
use Rattle.ring_frame.specs.Frame.{entry, need, told_length}
use Rattle.ring_frame.specs.Told.{framed}
use Rattle.ring_frame.proofs.Facts.{entry_room}
use Rattle.ring_images.specs.Turned.{turned, place_of}
use Rattle.ring_journal.proofs.Nexts.{none_left, whole_read, bytes_none, bytes_sealed}
use Rattle.ring_journal.proofs.next.read_long.Goals as goal

pub returns-then-need-left-clause-entry : goal.returns-then-need-left-clause-entry
returns-then-need-left-clause-entry g c = λ told tells.
    let r = c.requires in
    let h = c.args.head.now in
    let reads : List ℕ = (g.D.Device.state c.args.dev.now).disk.reads in
    let l = (g.met.D.Device.has_size c.args.dev.now (search rules)).reads ∙ r.extent in
    let wide : c.from.result ≡ c.args.len = search rules in
    let m : c.need-need.result ≡ need (told_length (drop c.args.used (turned h.start reads))) = c.need-need.ensures ∙ ap need (wide ∙ tells) in
    sym (none_left h.size h.start c.args.used reads l r.low r.high r.room (omega (arith, c.if-need-left.true, m)) h.fsid (place_of h.size h.start c.args.used))

pub returns-in_default-clause-entry : goal.returns-in_default-clause-entry
returns-in_default-clause-entry g c = λ told tells.
    let r = c.requires in
    let h = c.args.head.now in
    let reads : List ℕ = (g.D.Device.state c.args.dev.now).disk.reads in
    let l = (g.met.D.Device.has_size c.args.dev.now (search rules)).reads ∙ r.extent in
    let n : ℕ = need (told_length (drop c.args.used (turned h.start reads))) in
    let wide : c.from.result ≡ c.args.len = search rules in
    let m : c.need-need.result ≡ n = c.need-need.ensures ∙ ap need (wide ∙ tells) in
    let k : length c.deref_mut.result.now ≡ c.need-need.result = search rules in
    let len : c.in_ok-bytes.bytes.len ≡ c.need-need.result = search rules in
    let is : c.deref.result.now ≡ take n (drop c.args.used (turned h.start reads)) =
    c.deref.ensures.value ∙ whole_read h.size h.start c.args.used reads l r.low r.high r.room reads c.read_span.new.into _ n (length c.deref_mut.result.now) c.in_ok-bytes.bytes.len
    refl (len ∙ m) (k ∙ m) (omega (arith, c.if-need-left.false, m)) (c.in_ok-read_span.ensures.bytes (search rules)) in
    let none : entry h.fsid c.place-pos.result c.deref.result.now ≡ None = search rules in
    sym (bytes_none h c.args.used c.place-pos.result reads c.deref.result.now is c.place-pos.ensures none)

pub returns-clause-entry : goal.returns-clause-entry
returns-clause-entry g c = λ told tells.
    let r = c.requires in
    let h = c.args.head.now in
    let reads : List ℕ = (g.D.Device.state c.args.dev.now).disk.reads in
    let l = (g.met.D.Device.has_size c.args.dev.now (search rules)).reads ∙ r.extent in
    let n : ℕ = need (told_length (drop c.args.used (turned h.start reads))) in
    let wide : c.from.result ≡ c.args.len = search rules in
    let m : c.need-need.result ≡ n = c.need-need.ensures ∙ ap need (wide ∙ tells) in
    let k : length c.deref_mut.result.now ≡ c.need-need.result = search rules in
    let len : c.in_ok-bytes.bytes.len ≡ c.need-need.result = search rules in
    let is : c.deref.result.now ≡ take n (drop c.args.used (turned h.start reads)) =
    c.deref.ensures.value ∙ whole_read h.size h.start c.args.used reads l r.low r.high r.room reads c.read_span.new.into _ n (length c.deref_mut.result.now) c.in_ok-bytes.bytes.len
    refl (len ∙ m) (k ∙ m) (omega (arith, c.if-need-left.false, m)) (c.in_ok-read_span.ensures.bytes (search rules)) in
    c.in_ok-told.ensures.entry ∙ sym (bytes_sealed h c.args.used c.place-pos.result reads c.deref.result.now is c.place-pos.ensures (framed c.in-Ok.found) c.in-Ok.ensures.sealed)

pub returns-clause-within : goal.returns-clause-within
returns-clause-within g c =
    let size : c.in-Ok.found.size ≡ need (length c.in-Ok.found.payload.now) = c.in-Ok.ensures.size in
    let same = c.in_ok-told.ensures.size in
    let room = entry_room c.args.head.now.fsid c.place-pos.result c.deref.result.now (framed c.in-Ok.found) c.in-Ok.ensures.sealed in
    let long : length c.deref.result.now ≡ c.need-need.result = search rules in
    record {
      size = same ∙ size ∙ ap (λ (p : List ℕ). need (length p)) (sym c.in_ok-told.ensures.payload);
      room = omega (arith, same, size, room, long, c.if-need-left.false);
    }
