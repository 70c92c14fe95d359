-- A device of zeros with a header in its second block.
use Rattle.std.proofs.Common.{◌≡◌, ◌≢◌, ℕ, zero, suc, ◌+◌, ◌-◌, ◌*◌, ◌≤◌, List, [], length, take, drop, replicate, refl, sym, ◌∙◌, ap, subst, arith}
use Rattle.std.specs.Prelude.{Option, Some}
use Rattle.std.proofs.lemmas.List.{length-replicate, take-replicate, drop-replicate, append-nil}
use Rattle.dev_api.specs.Disk.{put, settled}
use Rattle.dev_api.proofs.Put.{length-put, put_front, put_here}
use Rattle.ring_frame.specs.Frame.{Entry, entry_magic}
use Rattle.ring_frame.specs.Heads.{Head, head_in, newer, head_of}
use Rattle.ring_images.specs.Turned.{turned}
use Rattle.ring_images.proofs.Linear.{next_none, read_once}
use Rattle.ring_images.specs.Held.{ring_of, readable}
use Rattle.ring_images.proofs.Crash.{is_read}
use Rattle.ring_images.proofs.Headers.{head_zeros}
use Rattle.ring_images.proofs.HeadStep.{turned_front}
use Rattle.ring_images.specs.Cleaning.{Cleared, Quiet}
use Rattle.ring_images.proofs.Cleaning.{quiet_settled}

no_entry : (n : ℕ) → take 8 (replicate n 0) ≢ entry_magic
no_entry zero e = absurd (cc)
no_entry (suc n) e = let z : ◌≡◌ {A = ℕ} 0 70 = cc in absurd (omega (arith, z))

module _ (size : ℕ) (block : List ℕ) (h : Head) (big : 16384 ≤ size) (start : h.start ≡ 8192) (short : length block ≡ 4096) (sealed : head_in size block ≡ Some h) where
  -- all bytes of the device
  abbrev pub with_head : List ℕ
  with_head = put (replicate size 0) 4096 block

  long : length {A = ℕ} (replicate size 0) ≡ size
  long = length-replicate {A = ℕ} size 0

  pub length-with_head : length with_head ≡ size
  length-with_head = length-put (replicate size 0) 4096 block (omega (arith, long, short, big)) ∙ long

  first : take 4096 with_head ≡ replicate 4096 0
  first = put_front 4096 (replicate size 0) 4096 block (omega arith) (omega (arith, long, short, big)) ∙ take-replicate 4096 size 0 (omega (arith, big))

  second : take 4096 (drop 4096 with_head) ≡ block
  second = ap (λ (n : ℕ). take n (drop 4096 with_head)) (sym short) ∙ put_here (replicate size 0) 4096 block (omega (arith, long, short, big))

  pub head_made : head_of with_head ≡ Some h
  unfolding head_of
  head_made =
      ap (λ (n : ℕ). newer (head_in n (take 4096 with_head)) (head_in n (take 4096 (drop 4096 with_head)))) length-with_head
      ∙ ap (λ (b : List ℕ). newer (head_in size b) (head_in size (take 4096 (drop 4096 with_head)))) first
      ∙ ap (λ (o : Option Head). newer o (head_in size (take 4096 (drop 4096 with_head)))) (head_zeros size 4096)
      ∙ ap (head_in size) second ∙ sealed

  -- its ring has nothing but zeros
  ring_zeros : turned h.start with_head ≡ replicate (size - 8192) 0
  ring_zeros =
      ap (λ (s : ℕ). turned s with_head) start
      ∙ turned_front 8192 4096 (replicate size 0) block (omega arith) (omega (arith, long, big)) (omega (arith, short))
      ∙ append-nil (drop 8192 (replicate size 0)) ∙ drop-replicate 8192 size 0

  ends : (n : ℕ) → take 8 (drop n (turned h.start with_head)) ≢ entry_magic
  ends n e = no_entry (size - 8192 - n) (sym (ap (take 8) (ap (drop n) ring_zeros ∙ drop-replicate n (size - 8192) 0)) ∙ e)

  pub readable_made : readable with_head ≡ []
  readable_made =
      read_once (ring_of h size) 0 h.seq 0 (turned h.start with_head) (readable with_head) []
      (is_read with_head h size head_made length-with_head (omega (arith, start)) (omega (arith, start, big)))
      (next_none (ring_of h size) 0 h.seq 0 (turned h.start with_head) (λ e. ends 0 e))

  pub cleared_made : Cleared h size (take 8192 with_head) [] (size - 8192) (settled with_head)
  cleared_made = record {
    heads = refl;
    quiet = subst (λ (es : List Entry). Quiet h size es (settled with_head)) readable_made (quiet_settled h size with_head length-with_head (omega (arith, start)) (omega (arith, start, big)) head_made);
    same = refl;
    clean = λ k lt e. ends (0 + 4096 * k) e;
  }
