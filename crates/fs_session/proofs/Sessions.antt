-- What lines do to a session, one after another.
use Rattle.std.proofs.Common.{◌≡◌, ◌⊎◌, inl, inr, ℕ, zero, suc, ◌+◌, ◌<◌, ◌≤◌, Bool, true, false, cond, List, [], ◌∷◌, ◌++◌, length, get_or, refl, sym, ◌∙◌, ap, subst, arith, append_assoc, length-append}
use Rattle.std.proofs.lemmas.Grind.{flat_map-append}
use Rattle.std.specs.Prelude.{Option, None, Some, Ok, Err, Contains, nat_le, nat_lt, ◌||◌, ◌^◌}
use Rattle.std.specs.List.{flat_map}
use Rattle.ring_frame.specs.Frame.{need}
use Rattle.built_ops.specs.Built.{unbuilt_in}
use Rattle.fs_model.specs.declared.op.Op.{Op}
use Rattle.fs_model.specs.declared.op.Txn.{Txn}
use Rattle.fs_model.specs.declared.op.Why.{Why}
use Rattle.fs_model.specs.Objects.{Object, look}
use Rattle.fs_model.specs.Check.{txn_refusal}
use Rattle.fs_model.specs.declared.page.Page.{Page}
use Rattle.fs_model.specs.Listing.{listing}
use Rattle.fs_script.specs.declared.statement.Statement.{Statement}
use Rattle.fs_script.specs.declared.statement.Statement.TheVariants.{Do, Begin, End, Drain, Read, Stat, Attrs, Omap, List as ListIn, Colls, Acked}
use Rattle.fs_script.specs.declared.statement.Line.{Line}
use Rattle.fs_script.specs.declared.answer.Answer.{Answer}
use Rattle.fs_script.specs.declared.answer.Answer.TheVariants.{RefusedOp, NotBuilt, TooLarge, QueueFull, NumbersSpent, Drained}
use Rattle.fs_script.specs.Printed.{answer_text}
use Rattle.queue_rules.specs.declared.fault.QueueFault.TheVariants as queue
use Rattle.queue_rules.specs.Outcome.{Outcome, queue_limit, last_number, room_for, payload_len, built_or, refused_or}
use Rattle.fs_session.specs.Answers.{Session, IsCounted, Step, silent, answering, colls_queued, outcome_in, queued_if, txn_of, op_step, end_step, bytes_answer, size_answer, attrs_answer, omap_answer, page_answer, cursor_oid, step, followed_by, run_lines, session_after, queued_by, answers, answers_text}

-- lines behind others

joined : (a b c : Step) → followed_by a (followed_by b c) ≡ followed_by (followed_by a b) c
joined a b c =
    ap (λ l. record { session = c.session; answers = l; queued = a.queued ++ (b.queued ++ c.queued) }) (sym (append_assoc a.answers b.answers c.answers))
    ∙ ap (λ l. record { session = c.session; answers = (a.answers ++ b.answers) ++ c.answers; queued = l }) (sym (append_assoc a.queued b.queued c.queued))

pub run_lines-append : (s : Session) (xs ys : List Line) → run_lines s (xs ++ ys) ≡ followed_by (run_lines s xs) (run_lines (session_after s xs) ys)
unfolding run_lines
run_lines-append s [] ys = refl
run_lines-append s (x ∷ xs) ys =
    let first = step s x.statement in
    ap (followed_by first) (run_lines-append first.session xs ys)
    ∙ joined first (run_lines first.session xs) (run_lines (session_after first.session xs) ys)

pub answers_text-append : (s : Session) (xs ys : List Line) → answers_text s (xs ++ ys) ≡ answers_text s xs ++ answers_text (session_after s xs) ys
answers_text-append s xs ys =
    ap (λ (r : Step). flat_map answer_text r.answers) (run_lines-append s xs ys)
    ∙ flat_map-append answer_text (answers s xs) (answers (session_after s xs) ys)

-- a transaction is given a number only if it is the next one
abbrev OfQueue : ℕ → Outcome → Type 0
OfQueue n (Ok seq) = seq ≡ n
OfQueue n (Err fault) = Unit {0}

room-of_queue : (n : ℕ) (large many spent : Bool) (need size : ℕ)
    → OfQueue n (cond large (Err (queue.TooLarge need size)) (cond many (Err queue.QueueFull) (cond spent (Err queue.NumbersSpent) (Ok n))))
room-of_queue n true many spent need size = tt
room-of_queue n false true spent need size = tt
room-of_queue n false false true need size = tt
room-of_queue n false false false need size = refl

room_for-of_queue : (size waiting last len : ℕ) → OfQueue (last + 1) (room_for size waiting last len)
room_for-of_queue size waiting last len =
    room-of_queue (last + 1) (nat_lt size (need len) || nat_le (2 ^ 32) len) (nat_le queue_limit waiting) (nat_le last_number last) (need len) size

built-of_queue : (n : ℕ) (r : Option ℕ) (o : Outcome) → OfQueue n o → OfQueue n (built_or r o)
built-of_queue n None o h = h
built-of_queue n (Some op) o h = tt

refused-of_queue : (n : ℕ) (r : Option (ℕ × Why)) (o : Outcome) → OfQueue n o → OfQueue n (refused_or r o)
refused-of_queue n None o h = h
refused-of_queue n (Some (op, why)) o h = tt

queue-of_queue : (s : Session) (txn : Txn) → OfQueue (s.last + 1) (outcome_in s txn)
queue-of_queue s txn =
    let room = room_for s.size (length s.waiting) s.last (payload_len txn) in
    refused-of_queue (s.last + 1) (txn_refusal (colls_queued s) txn.ops) (built_or (unbuilt_in txn.ops) room)
    (built-of_queue (s.last + 1) (unbuilt_in txn.ops) room (room_for-of_queue s.size (length s.waiting) s.last (payload_len txn)))

-- what is answered acknowledges nothing
abbrev IsQuiet : Answer → Type 0
IsQuiet (Drained acked seq) = ⊥
IsQuiet _ = Unit {0}

bytes-quiet : (o : Option Object) (at len : ℕ) → IsQuiet (bytes_answer o at len)
bytes-quiet None at len = tt
bytes-quiet (Some x) at len = tt

size-quiet : (o : Option Object) → IsQuiet (size_answer o)
size-quiet None = tt
size-quiet (Some x) = tt

attrs-quiet : (o : Option Object) → IsQuiet (attrs_answer o)
attrs-quiet None = tt
attrs-quiet (Some x) = tt

omap-quiet : (o : Option Object) → IsQuiet (omap_answer o)
omap-quiet None = tt
omap-quiet (Some x) = tt

page-quiet : (page : Option Page) → IsQuiet (page_answer page)
page-quiet None = tt
page-quiet (Some x) = tt

-- what the answers acknowledge is at most this
abbrev pub Within : ℕ → List Answer → Type 0
Within n [] = Unit {0}
Within n (Drained acked seq ∷ more) = (acked ≤ n) × Within n more
Within n (_ ∷ more) = Within n more

quiet-within : (n : ℕ) (a : Answer) → IsQuiet a → Within n (a ∷ [])
quiet-within n (Drained acked seq) h = absurd h
quiet-within n _ h = tt

within-append : (n : ℕ) (xs ys : List Answer) → Within n xs → Within n ys → Within n (xs ++ ys)
within-append n [] ys h k = k
within-append n (Drained acked seq ∷ xs) ys h k = (h.0, within-append n xs ys h.1 k)
within-append n (_ ∷ xs) ys h k = within-append n xs ys h k

within-more : (n m : ℕ) (xs : List Answer) → n ≤ m → Within n xs → Within m xs
within-more n m [] le h = tt
within-more n m (Drained acked seq ∷ xs) le h = (omega (arith, le, h.0), within-more n m xs le h.1)
within-more n m (_ ∷ xs) le h = within-more n m xs le h

split-at : {X : Type 0} (x : X) (xs : List X) (q : X) (k : ℕ) → k < length (x ∷ xs) → get_or (x ∷ xs) k q ≡ q → (x ≡ q) ⊎ Contains xs q
split-at x xs q zero lt is = inl is
split-at x xs q (suc k) lt is = inr (k, omega (arith, lt), is)

within-tail : (n : ℕ) (x : Answer) (xs : List Answer) → Within n (x ∷ xs) → Within n xs
within-tail n (Drained acked seq) xs h = h.1
within-tail n _ xs h = h

within-head : (n : ℕ) (x : Answer) (xs : List Answer) (acked seq : ℕ) → x ≡ Drained acked seq → Within n (x ∷ xs) → acked ≤ n
within-head n x xs acked seq e h = (subst (λ (y : Answer). Within n (y ∷ xs)) e h).0

within-contains : (n : ℕ) (xs : List Answer) (acked seq : ℕ) → Within n xs → Contains xs (Drained acked seq) → acked ≤ n
within-contains n [] acked seq h c = absurd (omega (arith, c.1))
within-contains n (x ∷ xs) acked seq h c =
    elim (split-at x xs (Drained acked seq) c.0 c.1 c.2) as (λ _. acked ≤ n) [
      | inl e ↦ within-head n x xs acked seq e h
      | inr there ↦ within-contains n xs acked seq (within-tail n x xs h) there
    ]

-- what one step changes: the last number by what it queues; what was acknowledged and what waits stay all that was queued

pub record IsStep (s : Session) (d : Step) : Type 0 where
  pub number : d.session.last ≡ s.last + length d.queued
  pub counted : IsCounted s → IsCounted d.session
  pub later : IsCounted s → s.acked ≤ d.session.acked
  pub within : IsCounted s → Within d.session.acked d.answers

stays : (s : Session) (a : Answer) → IsQuiet a → IsStep s (answering s a)
stays s a h = record { number = omega arith; counted = λ c. c; later = λ _. omega arith; within = λ _. quiet-within s.acked a h }

is_silent : (s : Session) → IsStep s (silent s)
is_silent s = record { number = omega arith; counted = λ c. c; later = λ _. omega arith; within = λ _. tt }

queue-step : (s : Session) (txn : Txn) (o : Outcome) → OfQueue (s.last + 1) o → IsStep s (queued_if o s txn)
queue-step s txn (Ok seq) is =
    let more : length (s.waiting ++ txn ∷ []) ≡ length s.waiting + 1 = length-append s.waiting (txn ∷ []) in
    record { number = is; counted = λ c. omega (arith, is, more, c); later = λ _. omega arith; within = λ _. tt }
queue-step s txn (Err (queue.Txn op why)) is = stays s (RefusedOp op why) tt
queue-step s txn (Err (queue.NotBuilt op)) is = stays s NotBuilt tt
queue-step s txn (Err (queue.TooLarge need size)) is = stays s (TooLarge need size) tt
queue-step s txn (Err queue.QueueFull) is = stays s QueueFull tt
queue-step s txn (Err queue.NumbersSpent) is = stays s NumbersSpent tt
queue-step s txn (Err queue.Memory) is = is_silent s

op-step : (opened : Option (List Op)) (s : Session) (op : Op) → IsStep s (op_step opened s op)
op-step None s op = queue-step s (txn_of (op ∷ [])) (outcome_in s (txn_of (op ∷ []))) (queue-of_queue s (txn_of (op ∷ [])))
op-step (Some ops) s op = record { number = omega arith; counted = λ c. c; later = λ _. omega arith; within = λ _. tt }

end-step : (opened : Option (List Op)) (s : Session) → IsStep s (end_step opened s)
end-step None s = is_silent s
end-step (Some ops) s =
    let t : Session = record s { opened = None } in
    let is = queue-step t (txn_of ops) (outcome_in t (txn_of ops)) (queue-of_queue t (txn_of ops)) in
    record { number = is.number; counted = is.counted; later = is.later; within = is.within }

pub one-step : (s : Session) (t : Statement) → IsStep s (step s t)
unfolding step
one-step s (Do op) = op-step s.opened s op
one-step s Begin = record { number = omega arith; counted = λ c. c; later = λ _. omega arith; within = λ _. tt }
one-step s End = end-step s.opened s
one-step s Drain = record { number = omega arith; counted = λ c. omega arith; later = λ c. omega (arith, c); within = λ c. (omega arith, tt) }
one-step s (Read c o at len) = stays s (bytes_answer (look s.objects c o) at len) (bytes-quiet (look s.objects c o) at len)
one-step s (Stat c o) = stays s (size_answer (look s.objects c o)) (size-quiet (look s.objects c o))
one-step s (Attrs c o) = stays s (attrs_answer (look s.objects c o)) (attrs-quiet (look s.objects c o))
one-step s (Omap c o) = stays s (omap_answer (look s.objects c o)) (omap-quiet (look s.objects c o))
one-step s (ListIn c cursor max) = stays s (page_answer (listing s.objects c (cursor_oid cursor) max)) (page-quiet (listing s.objects c (cursor_oid cursor) max))
one-step s Colls = stays s _ tt
one-step s Acked = stays s _ tt

pub steps : (s : Session) (lines : List Line) → IsStep s (run_lines s lines)
unfolding run_lines
steps s [] = is_silent s
steps s (x ∷ xs) =
    let first = step s x.statement in
    let one = one-step s x.statement in
    let more = steps first.session xs in
    let long = length-append first.queued (queued_by first.session xs) in
    let end = session_after first.session xs in
    record {
      number = omega (arith, one.number, more.number, long);
      counted = λ c. more.counted (one.counted c);
      later = λ c. omega (arith, one.later c, more.later (one.counted c));
      within = λ c.
          let kept = one.counted c in
          within-append end.acked first.answers (answers first.session xs)
          (within-more first.session.acked end.acked first.answers (more.later kept) (one.within c)) (more.within kept);
    }

pub acked-within : (s : Session) (lines : List Line) (acked seq : ℕ) → IsCounted s → Contains (answers s lines) (Drained acked seq)
    → acked ≤ (session_after s lines).acked
acked-within s lines acked seq c there = within-contains (session_after s lines).acked (answers s lines) acked seq ((steps s lines).within c) there
