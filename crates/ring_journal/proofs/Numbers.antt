-- The numbers of entries that are read, and images that are always sound.
use Rattle.std.proofs.Common.{◌≡◌, inl, inr, ⊎_elim, ℕ, suc, ◌+◌, ◌-◌, ◌<◌, ◌≤◌, List, [], ◌∷◌, length, drop, refl, sym, ◌∙◌, ap, arith}
use Rattle.std.specs.Prelude.{Some, ltb}
use Rattle.std.proofs.lemmas.List.{drop_all}
use Rattle.std.proofs.lemmas.Bool.{cases_lt, cond-true, cond-false, lt-ltb, le-ltb}
use Rattle.dev_api.specs.Disk.{Disk}
use Rattle.ring_frame.specs.Frame.{Entry, size_of}
use Rattle.ring_frame.specs.Heads.{Head, head_of}
use Rattle.ring_images.specs.Readable.{Ring, IsRead, NoChance, sizes}
use Rattle.ring_images.specs.Turned.{turned}
use Rattle.ring_images.proofs.Headers.{head_of_is}
use Rattle.ring_images.proofs.Crash.{is_read, readable_now}
use Rattle.ring_images.specs.Held.{ring_of, readable, IsSound}
use Rattle.ring_images.proofs.Standing.{next_goes}
use Rattle.ring_journal.specs.State.{State, IsState, Holds, Ended, Numbered, from}
use Rattle.ring_journal.proofs.Begins.{used_all, count_all}

read_numbered : (ring : Ring) (offset seq low : ℕ) (bytes : List ℕ) (es : List Entry) → IsRead ring offset seq low bytes es → Numbered seq es
read_numbered ring offset seq low bytes [] h = tt
read_numbered ring offset seq low bytes (e ∷ es) h =
    ((next_goes ring offset seq low bytes e h.0).number, read_numbered ring (offset + size_of e) (seq + 1) e.epoch (drop (size_of e) bytes) es h.1)

pub numbered : (bytes : List ℕ) (h : Head) → head_of bytes ≡ Some h → Numbered h.seq (readable bytes)
numbered bytes h e =
    let i = head_of_is bytes h e in
    read_numbered (ring_of h (length bytes)) 0 h.seq 0 (turned h.start bytes) (readable bytes) (is_read bytes h (length bytes) e refl i.low (omega (arith, i.high)))

nil_drop : (n : ℕ) (xs : List Entry) → xs ≡ [] → [] ≡ drop n xs
nil_drop n xs e = sym (ap (drop n) e ∙ drop_all n [] (omega arith))

pub from_numbered : (seq first : ℕ) (es : List Entry) → Numbered first es → from seq es ≡ drop (seq - first) es
from_numbered seq first [] h = nil_drop (seq - first) [] refl
from_numbered seq first (x ∷ xs) h = ⊎_elim
    (λ (lt : x.seq < seq).
    let k : suc (seq - (first + 1)) ≡ seq - first = omega (arith, h.0, lt) in
    cond-true _ _ _ (lt-ltb _ _ lt) ∙ from_numbered seq (first + 1) xs h.1 ∙ ap (λ (n : ℕ). drop n (x ∷ xs)) k)
    (λ (le : seq ≤ x.seq). cond-false _ _ _ (le-ltb _ _ le) ∙ ap (λ (n : ℕ). drop n (x ∷ xs)) (let e : 0 ≡ seq - first = omega (arith, h.0, le) in e))
    (cases_lt x.seq seq)

pub held_used : (s : State) (d : Disk) → IsState s → Holds s d → sizes (readable d.asked) ≡ s.used
held_used s d ok (fs, es, h) = ap sizes (readable_now s.head s.head.size fs es d h.ready.on) ∙ h.used_is

pub held_count : (s : State) (d : Disk) → IsState s → Holds s d → length (readable d.asked) ≡ s.count
held_count s d ok (fs, es, h) = ap length (readable_now s.head s.head.size fs es d h.ready.on) ∙ h.count_is

pub ended_counts : (s : State) (d : Disk) → IsState s → Ended s d → (sizes (readable d.stable) ≡ s.used) × (length (readable d.stable) ≡ s.count)
ended_counts s d ok ended = (used_all s d ok ended, count_all s d ok ended)

no_chance_before : (ring : Ring) (offset : ℕ) (xs ys : List ℕ) (es : List Entry) → NoChance ring offset xs ys xs es
no_chance_before ring offset xs ys [] = λ e is. inl is
no_chance_before ring offset xs ys (x ∷ es) = (λ e is. inl is, no_chance_before ring (offset + size_of x) (drop (size_of x) xs) (drop (size_of x) ys) es)

no_chance_after : (ring : Ring) (offset : ℕ) (xs ys : List ℕ) (es : List Entry) → NoChance ring offset xs ys ys es
no_chance_after ring offset xs ys [] = λ e is. inr is
no_chance_after ring offset xs ys (x ∷ es) = (λ e is. inr is, no_chance_after ring (offset + size_of x) (drop (size_of x) xs) (drop (size_of x) ys) es)

pub sound_stable : (d : Disk) → IsSound d d.stable
sound_stable d = record {
  first = λ h is. inl is;
  second = λ h is. inl is;
  entries = λ h is. no_chance_before (ring_of h (length d.stable)) 0 (turned h.start d.stable) (turned h.start d.asked) (readable d.stable);
}

pub sound_asked : (d : Disk) → IsSound d d.asked
sound_asked d = record {
  first = λ h is. inr is;
  second = λ h is. inr is;
  entries = λ h is. no_chance_after (ring_of h (length d.asked)) 0 (turned h.start d.stable) (turned h.start d.asked) (readable d.asked);
}
