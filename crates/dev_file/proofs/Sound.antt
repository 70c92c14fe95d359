-- An honest record keeps the file's length, and both what reads and what all writes asked would leave are images.
use Rattle.std.proofs.Common.{◌≡◌, ◌⊎◌, ⊎_elim, ℕ, ◌+◌, ◌<◌, ◌≤◌, Bool, true, false, List, [], ◌∷◌, length, refl, inl, inr, ◌∙◌, arith}
use Rattle.dev_api.specs.Disk.{Disk, put, Outside, wrote_in_part, settled, reading}
use Rattle.dev_api.proofs.Put.{length-put, put_other}
use Rattle.dev_file.specs.Calls.{Call, Asked, Wrote, Gave, Failed, Synced, NotSynced}
use Rattle.dev_file.specs.Honest.{Contents, InLast, after, Agrees, has_failed, replay, IsHonest}
use Rattle.dev_file.specs.Kept.{Kept, KeptIfHonest}

-- each write lies within
abbrev Within : ℕ → List (ℕ × ℕ) → Type 0
Within n [] = Unit {0}
Within n (span ∷ spans) = (span.0 + span.1 ≤ n) × Within n spans

-- what goes on from call to call
record Sound (n : ℕ) (d : Disk) : Type 0 where
  kept : Kept n d
  within : Within n d.written

sound_settled : (n : ℕ) (bytes : List ℕ) → length bytes ≡ n → Sound n (settled bytes)
sound_settled n bytes e =
    record {
      kept = record {
        size = record { stable = e; asked = e; reads = e };
        image = record { size = refl; same = λ i lt out. refl };
        asked_image = record { size = refl; same = λ i lt out. refl };
      };
      within = tt;
    }

sound_asked : (n : ℕ) (d : Disk) (at : ℕ) (bytes : List ℕ) → Sound n d → at + length bytes ≤ length d.reads → Sound n (wrote_in_part d at bytes d.reads)
sound_asked n d at bytes s fits =
    let k = s.kept in
    let within : at + length bytes ≤ length d.asked = omega (arith, k.size.asked, k.size.reads, fits) in
    let l = length-put d.asked at bytes within in
    record {
      kept = record {
        size = record { stable = k.size.stable; asked = l ∙ k.size.asked; reads = k.size.reads };
        image = record { size = k.image.size; same = λ i lt out. k.image.same i lt out.1 };
        asked_image = record { size = l ∙ k.asked_image.size; same = λ i lt out. put_other d.asked at bytes i within out.0 ∙ k.asked_image.same i lt out.1 };
      };
      within = (omega (arith, k.size.reads, fits), s.within);
    }

off_last : (spans : List (ℕ × ℕ)) (at n i : ℕ) → InLast spans at n → Outside spans i → (i < at) ⊎ (at + n ≤ i)
off_last [] at n i last out = absurd last
off_last (span ∷ spans) at n i last out = ⊎_elim (λ (a : i < span.0). inl (omega (arith, last.0, a))) (λ (b : span.0 + span.1 ≤ i). inr (omega (arith, last.1, b))) out.0

last_within : (m : ℕ) (spans : List (ℕ × ℕ)) (at n : ℕ) → InLast spans at n → Within m spans → at + n ≤ m
last_within m [] at n last w = absurd last
last_within m (span ∷ spans) at n last w = omega (arith, last.1, w.0)

sound_wrote : (n : ℕ) (d : Disk) (at : ℕ) (bytes : List ℕ) → Sound n d → InLast d.written at (length bytes) → Sound n (reading d (put d.reads at bytes))
sound_wrote n d at bytes s last =
    let k = s.kept in
    let fits : at + length bytes ≤ length d.reads = omega (arith, k.size.reads, last_within n d.written at (length bytes) last s.within) in
    let l = length-put d.reads at bytes fits in
    record {
      kept = record {
        size = record { stable = k.size.stable; asked = k.size.asked; reads = l ∙ k.size.reads };
        image = record { size = l ∙ k.image.size; same = λ i lt out. put_other d.reads at bytes i fits (off_last d.written at (length bytes) i last out) ∙ k.image.same i lt out };
        asked_image = record { size = k.asked_image.size; same = λ i lt out. k.asked_image.same i lt out };
      };
      within = s.within;
    }

sound_call : (n : ℕ) (failed : Bool) (call : Call) (c : Contents) → Sound n c.disk → Agrees call c → Sound n (after failed call c).disk
sound_call n failed (Asked at bytes) c s h = sound_asked n c.disk at bytes s h
sound_call n failed (Wrote at bytes) c s h = sound_wrote n c.disk at bytes s h
sound_call n failed (Gave at bytes) c s h = s
sound_call n failed Failed c s h = s
sound_call n true Synced c s h = s
sound_call n false Synced c s h = sound_settled n c.disk.reads s.kept.size.reads
sound_call n failed NotSynced c s h = s

sound_if_honest : (n : ℕ) (first : List ℕ) (history : List Call) → length first ≡ n → IsHonest first history → Sound n (replay first history).disk
sound_if_honest n first [] e h = sound_settled n first e
sound_if_honest n first (call ∷ earlier) e h =
    sound_call n (has_failed earlier) call (replay first earlier) (sound_if_honest n first earlier e h.0) h.1

pub kept_if_honest : (n : ℕ) (first : List ℕ) (history : List Call) → KeptIfHonest n first history
kept_if_honest n first history e h = (sound_if_honest n first history e h).kept
