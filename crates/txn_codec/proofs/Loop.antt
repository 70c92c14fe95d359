-- Reading values one after the other, as a loop does.
use Rattle.std.proofs.Common.{◌≡◌, ℕ, suc, ◌-◌, ◌+◌, ◌<◌, List, [], ◌∷◌, ◌++◌, Result, Ok, Err, refl, sym, ap, ◌∙◌, append_assoc, arith}
use Rattle.txn_codec.specs.declared.fault.CodecFault.{CodecFault}
use Rattle.txn_codec.specs.declared.fault.CodecFault.TheVariants.{Short, BadTag, BadLength, Trailing, Memory}
use Rattle.txn_codec.specs.Reading.{Rest, Reader, ◌>>=◌, repeated, IsFault}

module _ {A : Type 0} (read : Reader A) where
  -- what was read before, and what is still read
  abbrev pub with_front : List A → Result (List A × Rest) CodecFault → Result (List A × Rest) CodecFault
  with_front front rest = rest >>= λ x. Ok (front ++ x.0, x.1)

  abbrev paired : A → Result (List A × Rest) CodecFault → Result ((A × List A) × Rest) CodecFault
  paired a rest = rest >>= λ b. Ok ((a, b.0), b.1)

  abbrev consed : Result ((A × List A) × Rest) CodecFault → Result (List A × Rest) CodecFault
  consed rest = rest >>= λ p. Ok (p.0.0 ∷ p.0.1, p.1)

  regroup : (front : List A) (a : A) (rest : Result (List A × Rest) CodecFault) → with_front front (consed (paired a rest)) ≡ with_front (front ++ a ∷ []) rest
  regroup front a (Ok x) = ap (λ (l : List A). Ok (l, x.1)) (sym (append_assoc front (a ∷ []) x.0))
  regroup front a (Err f) = refl

  pub goes_on : (front : List A) (count i : ℕ) (r : Rest) (a : A) (after : Rest) (total : Result (List A × Rest) CodecFault) → i < count → read r ≡ Ok (a, after)
      → with_front front (repeated (count - i) read r) ≡ total → with_front (front ++ a ∷ []) (repeated (count - (i + 1)) read after) ≡ total
  goes_on front count i r a after total lt h so_far =
      let k : count - i ≡ suc (count - (i + 1)) = omega arith in
      let one : with_front front (repeated (count - i) read r) ≡ with_front (front ++ a ∷ []) (repeated (count - (i + 1)) read after) = rw (k, h) (regroup front a (repeated (count - (i + 1)) read after)) in
      sym one ∙ so_far

  fails : (front : List A) (count i : ℕ) (r : Rest) (fault : CodecFault) (total : Result (List A × Rest) CodecFault) → i < count → read r ≡ Err fault
      → with_front front (repeated (count - i) read r) ≡ total → total ≡ Err fault
  fails front count i r fault total lt h so_far =
      let k : count - i ≡ suc (count - (i + 1)) = omega arith in
      let one : with_front front (repeated (count - i) read r) ≡ Err fault = rw (k, h) refl in
      sym so_far ∙ one

  -- a value's fault is that of the values
  pub fault_goes : (front : List A) (count i : ℕ) (r : Rest) (fault : CodecFault) (total : Result (List A × Rest) CodecFault) → i < count → IsFault fault (read r)
      → with_front front (repeated (count - i) read r) ≡ total → IsFault fault total
  fault_goes front count i r Memory total lt h so_far = tt
  fault_goes front count i r (Short at) total lt h so_far = fails front count i r (Short at) total lt h so_far
  fault_goes front count i r (BadTag at) total lt h so_far = fails front count i r (BadTag at) total lt h so_far
  fault_goes front count i r (BadLength at) total lt h so_far = fails front count i r (BadLength at) total lt h so_far
  fault_goes front count i r (Trailing at) total lt h so_far = fails front count i r (Trailing at) total lt h so_far
