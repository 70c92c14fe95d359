-- How the content of a device in memory goes on from call to call.
use Rattle.std.proofs.Common.{◌≡◌, ◌⊎◌, inl, inr, ℕ, zero, suc, ◌+◌, ◌<◌, ◌≤◌, Bool, true, false, cond, List, [], ◌∷◌, ◌++◌, length, take, drop, get_or, refl, sym, ◌∙◌, ap, subst, arith, length-append, length-take}
use Rattle.std.specs.Prelude.{All, Vec, not}
use Rattle.std.specs.declared.alloc.Global.{Global}
use Rattle.std.proofs.lemmas.Bool.{cond-true, cond-false}
use Rattle.std.proofs.lemmas.List.{take_all, drop_all, take-append-le, drop-append-le, take_more, get_or-take}
use Rattle.std.proofs.lemmas.List.Elements.{All-append}
use Rattle.dev_api.specs.Disk.{Disk, IsImage, HasSize, Outside, put, Goes, wrote, wrote_in_part, settled, reading}
use Rattle.dev_api.proofs.Put.{length-put, put_other}
use Rattle.dev_edge.specs.declared.memory.Asked.{Asked}
use Rattle.dev_edge.specs.Replay.{after_write, after_sync, after_writes, with_sync, contents, content, history, spans, IsTied}

-- ---- one write more

pub after_writes-more : (d : Disk) (ws : List Asked) (a : Asked) → after_writes d (ws ++ a ∷ []) ≡ after_write (after_sync a.synced (after_writes d ws)) a
unfolding after_writes
after_writes-more d [] a = refl
after_writes-more d (x ∷ ws) a = after_writes-more (after_write (after_sync x.synced d) x) ws a

contents-more : (d : Disk) (past : List Disk) (ws : List Asked) (a : Asked)
    → contents d past (ws ++ a ∷ []) ≡ after_write (after_sync a.synced (after_writes d ws)) a ∷ with_sync a.synced (after_sync a.synced (after_writes d ws)) (contents d past ws)
unfolding contents after_writes
contents-more d past [] a = refl
contents-more d past (x ∷ ws) a =
    let e = after_sync x.synced d in contents-more (after_write e x) (after_write e x ∷ with_sync x.synced e past) ws a

spans-more : (ws : List Asked) (a : Asked) → spans (ws ++ a ∷ []) ≡ (a.at, length a.bytes.items) ∷ spans ws
unfolding spans
spans-more [] a = refl
spans-more (x ∷ ws) a = ap (λ (l : List (ℕ × ℕ)). l ++ (x.at, length x.bytes.items) ∷ []) (spans-more ws a)

-- the content goes on by the write
pub goes_write : (origin : List ℕ) (ws now : List Asked) (a : Asked) → now ≡ ws ++ a ∷ []
    → Goes (content origin ws a.synced) (content origin now false) (history origin ws a.synced) (history origin now false) (after_write (content origin ws a.synced) a)
goes_write origin ws now a e = record {
  is = ap (after_writes (settled origin)) e ∙ after_writes-more (settled origin) ws a;
  history = inl (ap (contents (settled origin) (settled origin ∷ [])) e ∙ contents-more (settled origin) (settled origin ∷ []) ws a);
}

-- and by a sync, which changes nothing where there was one since the last write
pub goes_sync : (origin : List ℕ) (ws : List Asked) (synced : Bool)
    → Goes (content origin ws synced) (content origin ws true) (history origin ws synced) (history origin ws true) (settled (content origin ws synced).reads)
goes_sync origin ws false = record { is = refl; history = inl refl }
goes_sync origin ws true = record { is = refl; history = inr (refl, refl) }

-- a refused sync changes nothing
pub goes_not : (origin : List ℕ) (ws : List Asked) (synced : Bool)
    → Goes (content origin ws synced) (content origin ws synced) (history origin ws synced) (history origin ws synced) (reading (content origin ws synced) (content origin ws synced).reads)
goes_not origin ws synced = record { is = refl; history = inr (refl, refl) }

-- ---- what the fields keep

one_fits : (size : ℕ) (w : Asked) → w.at + length w.bytes.items ≤ size → All (λ (a : Asked). a.at + length a.bytes.items ≤ size) (w ∷ [])
one_fits size w fits zero d lt = fits
one_fits size w fits (suc k) d lt = absurd (omega (arith, lt))

-- how a device reads after a write, and that it is one of its images
record Fine (size : ℕ) (d : Disk) : Type 0 where
  sized : HasSize size d
  image : IsImage d d.reads
  asked_image : IsImage d d.asked

fine_done : (size : ℕ) (d : Disk) (at : ℕ) (bs : List ℕ) → at + length bs ≤ size → Fine size d → Fine size (wrote d at bs)
fine_done size d at bs fits f =
    let lr = length-put d.reads at bs (omega (arith, f.sized.reads, fits)) in
    let la = length-put d.asked at bs (omega (arith, f.sized.asked, fits)) in
    record {
      sized = record { stable = f.sized.stable; asked = la ∙ f.sized.asked; reads = lr ∙ f.sized.reads };
      image = record {
        size = lr ∙ f.sized.reads ∙ sym f.sized.stable;
        same = λ i lt out. put_other d.reads at bs i (omega (arith, f.sized.reads, fits)) out.0 ∙ f.image.same i lt out.1;
      };
      asked_image = record {
        size = la ∙ f.sized.asked ∙ sym f.sized.stable;
        same = λ i lt out. put_other d.asked at bs i (omega (arith, f.sized.asked, fits)) out.0 ∙ f.asked_image.same i lt out.1;
      };
    }

fine_refused : (size : ℕ) (d : Disk) (at : ℕ) (bs : List ℕ) → at + length bs ≤ size → Fine size d → Fine size (wrote_in_part d at bs d.reads)
fine_refused size d at bs fits f =
    let la = length-put d.asked at bs (omega (arith, f.sized.asked, fits)) in
    record {
      sized = record { stable = f.sized.stable; asked = la ∙ f.sized.asked; reads = f.sized.reads };
      image = record { size = f.image.size; same = λ i lt out. f.image.same i lt out.1 };
      asked_image = record {
        size = la ∙ f.sized.asked ∙ sym f.sized.stable;
        same = λ i lt out. put_other d.asked at bs i (omega (arith, f.sized.asked, fits)) out.0 ∙ f.asked_image.same i lt out.1;
      };
    }

fine_either : (size : ℕ) (d : Disk) (at : ℕ) (bs : List ℕ) (done : Bool) → at + length bs ≤ size → Fine size d
    → Fine size (cond done (wrote d at bs) (wrote_in_part d at bs d.reads))
fine_either size d at bs true fits f = fine_done size d at bs fits f
fine_either size d at bs false fits f = fine_refused size d at bs fits f

-- what a write leaves alone, and where it lies
stable_either : (d : Disk) (at : ℕ) (bs : List ℕ) (done : Bool) → (cond done (wrote d at bs) (wrote_in_part d at bs d.reads)).stable ≡ d.stable
stable_either d at bs true = refl
stable_either d at bs false = refl

written_either : (d : Disk) (at : ℕ) (bs : List ℕ) (done : Bool) → (cond done (wrote d at bs) (wrote_in_part d at bs d.reads)).written ≡ (at, length bs) ∷ d.written
written_either d at bs true = refl
written_either d at bs false = refl

-- how the device reads after it
reads_either : (d : Disk) (at : ℕ) (bs : List ℕ) (done : Bool) → (cond done (wrote d at bs) (wrote_in_part d at bs d.reads)).reads ≡ cond done (put d.reads at bs) d.reads
reads_either d at bs true = refl
reads_either d at bs false = refl

pub tied_write : (origin bytes now : List ℕ) (size : ℕ) (ws next : List Asked) (since : ℕ) (w : Asked) → IsTied origin bytes size ws since w.synced
    → next ≡ ws ++ w ∷ [] → w.at + length w.bytes.items ≤ size → now ≡ cond w.done (put bytes w.at w.bytes.items) bytes → IsTied origin now size next since false
tied_write origin bytes now size ws next since w t e fits is =
    let d : Disk = content origin ws w.synced in
    let step : content origin next false ≡ after_write d w = (goes_write origin ws next w e).is in
    let fine : Fine size (after_write d w) =
    fine_either size d w.at w.bytes.items w.done fits (record { sized = t.sized; image = t.image; asked_image = t.asked_image }) in
    let reads : (after_write d w).reads ≡ now = reads_either d w.at w.bytes.items w.done ∙ ap (λ (l : List ℕ). cond w.done (put l w.at w.bytes.items) l) t.reads ∙ sym is in
    record {
      begun = t.begun;
      reads = ap (λ (x : Disk). x.reads) step ∙ reads;
      sized = subst (HasSize size) (sym step) fine.sized;
      image = subst (λ (x : Disk). IsImage x x.reads) (sym step) fine.image;
      asked_image = subst (λ (x : Disk). IsImage x x.asked) (sym step) fine.asked_image;
      low = omega (arith, ap length e, length-append ws (w ∷ []), t.low);
      stable = ap (λ (x : Disk). x.stable) step ∙ stable_either d w.at w.bytes.items w.done ∙ t.stable
          ∙ ap (λ (l : List Asked). (after_writes (settled origin) l).reads) (sym (ap (take since) e ∙ take-append-le since ws (w ∷ []) t.low));
      written = ap (λ (x : Disk). x.written) step ∙ written_either d w.at w.bytes.items w.done ∙ ap (λ (l : List (ℕ × ℕ)). (w.at, length w.bytes.items) ∷ l) t.written
          ∙ sym (ap spans (ap (drop since) e ∙ drop-append-le since ws (w ∷ []) t.low) ∙ spans-more (drop since ws) w);
      fit = subst (All (λ (a : Asked). a.at + length a.bytes.items ≤ size)) (sym e) (All-append (λ (a : Asked). a.at + length a.bytes.items ≤ size) ws (w ∷ []) t.fit (one_fits size w fits));
    }

reads_synced : (synced : Bool) (d : Disk) → (after_sync synced d).reads ≡ d.reads
reads_synced true d = refl
reads_synced false d = refl

pub tied_sync : (origin bytes : List ℕ) (size : ℕ) (ws : List Asked) (since : ℕ) (synced : Bool) → IsTied origin bytes size ws since synced → IsTied origin bytes size ws (length ws) true
unfolding spans
tied_sync origin bytes size ws since synced t =
    let all : Disk = after_writes (settled origin) ws in
    let reads : all.reads ≡ bytes = sym (reads_synced synced all) ∙ t.reads in
    let long : length all.reads ≡ size = ap length (sym (reads_synced synced all)) ∙ t.sized.reads in
    record {
      begun = t.begun;
      reads = reads;
      sized = record { stable = long; asked = long; reads = long };
      image = record { size = refl; same = λ i lt out. refl };
      asked_image = record { size = refl; same = λ i lt out. refl };
      low = omega arith;
      stable = ap (λ (l : List Asked). (after_writes (settled origin) l).reads) (sym (take_all (length ws) ws (omega arith)));
      written = ap spans (sym (drop_all (length ws) ws (omega arith)));
      fit = t.fit;
    }

pub tied_first : (origin bytes : List ℕ) (size : ℕ) (ws : List Asked) → bytes ≡ origin → length origin ≡ size → ws ≡ [] → IsTied origin bytes size ws 0 false
unfolding after_writes spans
tied_first origin bytes size ws e l k =
    subst (λ (b : List ℕ). IsTied origin b size ws 0 false) (sym e) (subst (λ (x : List Asked). IsTied origin origin size x 0 false) (sym k) (record {
      begun = l;
      reads = refl;
      sized = record { stable = l; asked = l; reads = l };
      image = record { size = refl; same = λ i lt out. refl };
      asked_image = record { size = refl; same = λ i lt out. refl };
      low = omega arith;
      stable = refl;
      written = refl;
      fit = λ i w lt. absurd (omega (arith, lt));
    }))

-- ---- the steps of a device, by the values that its code has

-- the list after a push that was no error
pub grew : (r b : Bool) (now old : List Asked) (w : Asked) → now ≡ cond r (old ++ w ∷ []) old → r ≡ not b → b ≡ false → now ≡ old ++ w ∷ []
grew r b now old w e k f = e ∙ cond-true r _ _ (k ∙ ap not f)

module _ (origin : List ℕ) (ws next : List Asked) (at : ℕ) (copy : Vec ℕ Global) (refused synced : Bool) (bs : List ℕ) (same : copy.items ≡ bs)
    (e : next ≡ ws ++ record { at = at; bytes = copy; done = not refused; synced = synced } ∷ []) where
  pub goes_done : refused ≡ false → Goes (content origin ws synced) (content origin next false) (history origin ws synced) (history origin next false) (wrote (content origin ws synced) at bs)
  goes_done f =
      subst (Goes (content origin ws synced) (content origin next false) (history origin ws synced) (history origin next false))
      (cond-true (not refused) _ _ (ap not f) ∙ ap (wrote (content origin ws synced) at) same)
      (goes_write origin ws next _ e)

  pub goes_refused : refused ≡ true
      → (r : List ℕ) × Goes (content origin ws synced) (content origin next false) (history origin ws synced) (history origin next false) (wrote_in_part (content origin ws synced) at bs r)
  goes_refused t = (
    (content origin ws synced).reads,
    subst (Goes (content origin ws synced) (content origin next false) (history origin ws synced) (history origin next false))
        (cond-false (not refused) _ _ (ap not t) ∙ ap (λ (l : List ℕ). wrote_in_part (content origin ws synced) at l (content origin ws synced).reads) same)
        (goes_write origin ws next _ e),
  )

  module _ (bytes : List ℕ) (size since : ℕ) (t : IsTied origin bytes size ws since synced) (fits : at + length bs ≤ size) where
    pub tied_done : (now : List ℕ) → refused ≡ false → now ≡ put bytes at bs → IsTied origin now size next since false
    tied_done now f is =
        tied_write origin bytes now size ws next since _ t e (omega (arith, ap length same, fits))
        (is ∙ sym (cond-true (not refused) _ _ (ap not f) ∙ ap (put bytes at) same))

    pub tied_refused : refused ≡ true → IsTied origin bytes size next since false
    tied_refused r = tied_write origin bytes bytes size ws next since _ t e (omega (arith, ap length same, fits)) (sym (cond-false (not refused) _ _ (ap not r)))

-- a device that was just made
pub content_first : (origin : List ℕ) (ws : List Asked) → ws ≡ [] → content origin ws false ≡ settled origin
unfolding after_writes
content_first origin ws e = ap (after_writes (settled origin)) e

pub history_first : (origin : List ℕ) (ws : List Asked) → ws ≡ [] → history origin ws false ≡ content origin ws false ∷ []
unfolding after_writes contents
history_first origin ws e = subst (λ (l : List Asked). history origin l false ≡ content origin l false ∷ []) (sym e) refl

-- ---- what a crash may leave

outside-append : (xs ys : List (ℕ × ℕ)) (i : ℕ) → Outside (xs ++ ys) i → Outside xs i × Outside ys i
outside-append [] ys i h = (tt, h)
outside-append (x ∷ xs) ys i h = let r = outside-append xs ys i h.1 in ((h.0, r.0), r.1)

-- a place outside of all writes is outside of each
pub outside_at : (ws : List Asked) (k i : ℕ) (d : Asked) → k < length ws → Outside (spans ws) i
    → (i < (get_or ws k d).at) ⊎ ((get_or ws k d).at + length (get_or ws k d).bytes.items ≤ i)
unfolding spans
outside_at [] k i d lt out = absurd (omega (arith, lt))
outside_at (w ∷ ws) zero i d lt out = ((outside-append (spans ws) ((w.at, length w.bytes.items) ∷ []) i out).1).0
outside_at (w ∷ ws) (suc k) i d lt out = outside_at ws k i d (omega (arith, lt)) (outside-append (spans ws) ((w.at, length w.bytes.items) ∷ []) i out).0

-- one write more is replayed
pub replayed-more : (origin now next : List ℕ) (ws : List Asked) (k : ℕ) (w : Asked) → k < length ws → w ≡ get_or ws k w → now ≡ (after_writes (settled origin) (take k ws)).reads
    → next ≡ cond w.done (put now w.at w.bytes.items) now → next ≡ (after_writes (settled origin) (take (k + 1) ws)).reads
replayed-more origin now next ws k w lt e is step =
    let d : Disk = after_writes (settled origin) (take k ws) in
    let d2 : Disk = after_sync w.synced d in
    let more : after_writes (settled origin) (take (k + 1) ws) ≡ after_write d2 w =
    ap (after_writes (settled origin)) (take_more ws k w lt ∙ ap (λ (x : Asked). take k ws ++ x ∷ []) (sym e)) ∙ after_writes-more (settled origin) (take k ws) w in
    let same : now ≡ d2.reads = is ∙ sym (reads_synced w.synced d) in
    step ∙ ap (λ (l : List ℕ). cond w.done (put l w.at w.bytes.items) l) same ∙ sym (reads_either d2 w.at w.bytes.items w.done) ∙ ap (λ (x : Disk). x.reads) (sym more)

pub outside_of : (ws : List Asked) (k i : ℕ) (w : Asked) → k < length ws → w ≡ get_or ws k w → Outside (spans ws) i → (i < w.at) ⊎ (w.at + length w.bytes.items ≤ i)
outside_of ws k i w lt e out =
    subst (λ (a : Asked). (i < a.at) ⊎ (a.at + length a.bytes.items ≤ i)) (sym e) (outside_at ws k i w lt out)

-- the writes before a moment lie within the device
pub fit_before : (size n since : ℕ) (ws xs : List Asked) → xs ≡ ws → n ≡ size → All (λ (a : Asked). a.at + length a.bytes.items ≤ size) ws
    → All (λ (a : Asked). a.at + length a.bytes.items ≤ n) (take since xs)
fit_before size n since ws xs e l fit k d lt =
    let same : get_or (take since xs) k d ≡ get_or ws k d = get_or-take since xs k d (omega (arith, length-take since xs)) ∙ ap (λ (x : List Asked). get_or x k d) e in
    subst (λ (a : Asked). a.at + length a.bytes.items ≤ n) (sym same) (subst (λ (m : ℕ). (get_or ws k d).at + length (get_or ws k d).bytes.items ≤ m) (sym l) (fit k d (omega (arith, ap length e, length-take since xs))))
