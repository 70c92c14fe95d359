-- Reading a stream into a buffer, piece by piece.
use Rattle.std.proofs.Common.{◌≡◌, ℕ, ◌+◌, ◌-◌, ◌<◌, ◌≤◌, List, [], ◌++◌, length, take, drop, sym, refl, ◌∙◌, ap, subst, arith}
use Rattle.std.proofs.lemmas.List.{take_all, take_at, take-take, take-append-le, length-take-le, length-drop, drop-drop}
use Rattle.std.proofs.Math.Seq.{take-add}
use Rattle.io_edge.specs.Flow.{Inflow}
use Rattle.io_edge.specs.Pieces.{Gives, IsLater, IsPast}

-- the buffer has the first bytes of the stream, and the others are left
pub record HasRead (before now : Inflow) (buffer : List ℕ) : Type 0 where
  pub rest : now.left ≡ drop (length buffer) before.left
  pub count : length buffer ≤ length before.left
  pub front : buffer ≡ take (length buffer) before.left

pub HasRead-none : (now : Inflow) (buffer : List ℕ) → buffer ≡ [] → HasRead now now buffer
HasRead-none now buffer e = subst (λ (b : List ℕ). HasRead now now b) (sym e) (record { rest = refl; count = omega arith; front = refl })

-- the front of a stream, with the next n bytes
longer : (bytes front more : List ℕ) (n : ℕ) → front ≡ take (length front) bytes → more ≡ take n (drop (length front) bytes) → front ++ more ≡ take (length front + n) bytes
longer bytes front more n e f =
    ap (λ (b : List ℕ). b ++ more) e ∙ ap (λ (b : List ℕ). take (length front) bytes ++ b) f ∙ sym (take-add (length front) n bytes)

module _ (before left now : Inflow) (buffer piece filled : List ℕ) (n : ℕ) (h : HasRead before left buffer) (gives : Gives left now n piece filled) where
  count : length buffer + n ≤ length before.left
  count = omega (arith, gives.count, ap length h.rest, length-drop (length buffer) before.left, h.count)

  rest : now.left ≡ drop (length buffer + n) before.left
  rest = gives.left ∙ ap (drop n) h.rest ∙ drop-drop n (length buffer) before.left

  -- the next n bytes of the stream were read, and added to the buffer
  pub HasRead-more : (next : List ℕ) → next ≡ buffer ++ take n filled → HasRead before now next
  HasRead-more next e =
      let k = length buffer in
      let front : take n filled ≡ take n (drop k before.left) =
      ap (take n) gives.front ∙ take_at (take n left.left) (drop n piece) n (length-take-le n left.left gives.count) ∙ ap (take n) h.rest in
      let all : next ≡ take (k + n) before.left = e ∙ longer before.left buffer (take n filled) n h.front front in
      let long : length next ≡ k + n = ap length all ∙ length-take-le (k + n) before.left count in
      record {
        rest = rest ∙ ap (λ (i : ℕ). drop i before.left) (sym long);
        count = omega (arith, long, count);
        front = all ∙ ap (λ (i : ℕ). take i before.left) (sym long);
      }

  -- more than there is room for
  pub HasRead-past : (limit : ℕ) → limit - length buffer < n → IsPast limit before now
  HasRead-past limit past = record { count = length buffer + n; past = omega (arith, past); within = count; rest = rest }

  pub HasRead-later : IsLater before now
  HasRead-later = (length buffer + n, rest)

  drop-nothing : (i : ℕ) (bytes : List ℕ) → bytes ≡ [] → drop i bytes ≡ []
  drop-nothing i bytes e = grind (arith, e)

  -- at the end nothing is left
  pub HasRead-end : left.left ≡ [] → now.left ≡ []
  HasRead-end end = gives.left ∙ drop-nothing n left.left end

-- and the buffer has it all
pub HasRead-whole : (before left : Inflow) (buffer : List ℕ) → HasRead before left buffer → left.left ≡ [] → buffer ≡ before.left
HasRead-whole before left buffer h end =
    h.front ∙ take_all (length buffer) before.left (omega (arith, ap length (sym h.rest ∙ end), length-drop (length buffer) before.left))

-- some bytes were read
pub HasRead-some : (before now : Inflow) (buffer : List ℕ) → HasRead before now buffer → IsLater before now
HasRead-some before now buffer h = (length buffer, h.rest)

-- and then a read failed
pub HasRead-failed : (before left now : Inflow) (buffer : List ℕ) → HasRead before left buffer → now.left ≡ left.left → IsLater before now
HasRead-failed before left now buffer h e = (length buffer, e ∙ h.rest)

-- the front of a buffer that a piece was lent from
pub lent : (piece after : List ℕ) (n size : ℕ) → n ≤ size → n ≤ length after → take n (take size (after ++ drop (length after) piece)) ≡ take n after
lent piece after n size h k =
    take-take n size (after ++ drop (length after) piece) h ∙ take-append-le n after (drop (length after) piece) k
