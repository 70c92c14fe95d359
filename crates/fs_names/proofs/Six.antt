-- What six fields name, fault by fault.
use Rattle.std.proofs.Common.{◌≡◌, ℕ, ◌+◌, ◌≤◌, Bool, true, false, cond, ltb, length, List, Option, Some, None, Result, Ok, Err, IsOk, refl, sym, ap, subst, ◌∙◌}
use Rattle.std.proofs.lemmas.Bool.{cond-false, ltb-false, le-ltb}
use Rattle.std.specs.Option.{ok_or}
use Rattle.std.specs.Result.{IsOkAnd}
use Rattle.fs_names.specs.declared.fault.NameFault.{NameFault}
use Rattle.fs_names.specs.declared.fault.NameFault.TheVariants.{BadField, TooLong}
use Rattle.fs_names.specs.declared.oid.Snap.{Snap}
use Rattle.fs_names.specs.declared.oid.Oid.{Oid}
use Rattle.fs_names.specs.Reading.{◌>>=◌, within_limit, names_of, oid_of_six, snap_of, hash_of, pool_of}
use Rattle.fs_names.specs.Units.{field_of, name_of, counted}
use Rattle.fs_names.proofs.ReadLaws.{field_moved}

-- a step that succeeds, and one that does not
pub step : {A B : Type 0} (r : Result A NameFault) (f : A → Result B NameFault) (x : A) → r ≡ Ok x → (r >>= f) ≡ f x
step r f x e = ap (λ q. q >>= f) e

pub stop : {A B : Type 0} (r : Result A NameFault) (f : A → Result B NameFault) (fault : NameFault) → r ≡ Err fault → (r >>= f) ≡ Err fault
stop r f fault e = ap (λ q. q >>= f) e

pub record Went {A B : Type 0} (r : Result A NameFault) (f : A → Result B NameFault) (y : B) : Type 0 where
  pub value : A
  pub first : r ≡ Ok value
  pub then : f value ≡ Ok y

pub went : {A B : Type 0} (r : Result A NameFault) (f : A → Result B NameFault) (y : B) → (r >>= f) ≡ Ok y → Went r f y
went (Ok x) f y e = record { value = x; first = refl; then = e }
went (Err fault) f y e = cc

-- a value that is there
pub there : {A : Type 0} (r : Result A NameFault) (P : A → Type 0) → IsOkAnd r P → (x : A) × (r ≡ Ok x) × P x
there (Ok x) P h = (x, refl, h)
there (Err f) P h = absurd h

-- what is counted
pub counted_ok : (r : Result (List ℕ) NameFault) (n : ℕ) → counted r ≡ Ok n → (bytes : List ℕ) × (r ≡ Ok bytes) × (length bytes ≡ n)
counted_ok (Ok bytes) n e = (bytes, refl, cc)
counted_ok (Err f) n e = cc

pub counted_err : (r : Result (List ℕ) NameFault) (f : NameFault) → counted r ≡ Err f → r ≡ Err f
counted_err (Ok bytes) f e = cc
counted_err (Err g) f e = cc

pub short_limit : (field : ℕ) (bytes : List ℕ) → length bytes ≤ 1024 → within_limit field bytes ≡ Ok bytes
short_limit field bytes short = cond-false (ltb 1024 (length bytes)) (Err (TooLong field)) (Ok bytes) (le-ltb 1024 (length bytes) short)

pub within_gives : (field : ℕ) (bytes xs : List ℕ) → within_limit field bytes ≡ Ok xs → length bytes ≤ 1024
within_gives field bytes xs e = by (ltb 1024 (length bytes)) refl e
  where
    by : (b : Bool) → ltb 1024 (length bytes) ≡ b → cond b (Err (TooLong field)) (Ok bytes) ≡ Ok xs → length bytes ≤ 1024
    by true is f = cc
    by false is f = ltb-false 1024 (length bytes) is

-- a field's length, judged by its count
abbrev pub verdict : Bool → ℕ → Result (Unit {0}) NameFault
verdict b field = cond b (Err (TooLong field)) (Ok tt)

abbrev pub judged : ℕ → ℕ → Result (Unit {0}) NameFault
judged count field = verdict (ltb 1024 count) field

pub long_limit : (field count : ℕ) (bytes : List ℕ) (fault : NameFault) → length bytes ≡ count → judged count field ≡ Err fault → within_limit field bytes ≡ Err fault
long_limit field count bytes fault e h = by (ltb 1024 (length bytes)) (ap (λ n. judged n field) e ∙ h)
  where
    by : (b : Bool) → verdict b field ≡ Err fault → cond b (Err (TooLong field)) (Ok bytes) ≡ Err fault
    by true f = cc
    by false f = cc

pub fits_limit : (count : ℕ) (bytes : List ℕ) (field : ℕ) → length bytes ≡ count → judged count field ≡ Ok tt → length bytes ≤ 1024
fits_limit count bytes field e h = subst (λ n. n ≤ 1024) (sym e) (by (ltb 1024 count) refl h)
  where
    by : (b : Bool) → ltb 1024 count ≡ b → verdict b field ≡ Ok tt → count ≤ 1024
    by true is f = cc
    by false is f = ltb-false 1024 count is

pub record NamesRead (name key nspace n k s : List ℕ) (key_at nspace_at : ℕ) : Type 0 where
  pub name_is : name_of name ≡ Ok n
  pub key_is : field_of key_at key ≡ Ok k
  pub nspace_is : field_of nspace_at nspace ≡ Ok s

module _ (name key snap hash nspace : List ℕ) where
  abbrev key_at : ℕ
  key_at = length name + 1

  abbrev nspace_at : ℕ
  nspace_at = length name + 1 + length key + 1 + length snap + 1 + length hash + 1

  abbrev Names : Type 0
  Names = Result (List ℕ × List ℕ × List ℕ) NameFault

  abbrev limits : List ℕ → List ℕ → List ℕ → Names
  limits n k s = within_limit 0 n >>= λ _. within_limit 1 k >>= λ _. within_limit 4 s >>= λ _. Ok (n, k, s)

  pub names_name : (f : NameFault) → name_of name ≡ Err f → names_of name key snap hash nspace ≡ Err f
  names_name f e = stop (name_of name) (λ n. field_of key_at key >>= λ k. field_of nspace_at nspace >>= λ s. limits n k s) f e

  pub names_key : (n : List ℕ) (f : NameFault) → name_of name ≡ Ok n → field_of key_at key ≡ Err f → names_of name key snap hash nspace ≡ Err f
  names_key n f e g =
      step (name_of name) (λ n. field_of key_at key >>= λ k. field_of nspace_at nspace >>= λ s. limits n k s) n e
      ∙ stop (field_of key_at key) (λ k. field_of nspace_at nspace >>= λ s. limits n k s) f g

  pub names_nspace : (n k : List ℕ) (f : NameFault) → name_of name ≡ Ok n → field_of key_at key ≡ Ok k → field_of nspace_at nspace ≡ Err f
      → names_of name key snap hash nspace ≡ Err f
  names_nspace n k f e g h =
      step (name_of name) (λ n. field_of key_at key >>= λ k. field_of nspace_at nspace >>= λ s. limits n k s) n e
      ∙ step (field_of key_at key) (λ k. field_of nspace_at nspace >>= λ s. limits n k s) k g
      ∙ stop (field_of nspace_at nspace) (λ s. limits n k s) f h

  pub names_limits : (n k s : List ℕ) → NamesRead name key nspace n k s key_at nspace_at → names_of name key snap hash nspace ≡ limits n k s
  names_limits n k s r =
      step (name_of name) (λ n. field_of key_at key >>= λ k. field_of nspace_at nspace >>= λ s. limits n k s) n r.name_is
      ∙ step (field_of key_at key) (λ k. field_of nspace_at nspace >>= λ s. limits n k s) k r.key_is
      ∙ step (field_of nspace_at nspace) (λ s. limits n k s) s r.nspace_is

  pub limits_name : (n k s : List ℕ) (f : NameFault) → within_limit 0 n ≡ Err f → limits n k s ≡ Err f
  limits_name n k s f e = stop (within_limit 0 n) (λ _. within_limit 1 k >>= λ _. within_limit 4 s >>= λ _. Ok (n, k, s)) f e

  pub limits_key : (n k s : List ℕ) (f : NameFault) → length n ≤ 1024 → within_limit 1 k ≡ Err f → limits n k s ≡ Err f
  limits_key n k s f p e =
      step (within_limit 0 n) (λ _. within_limit 1 k >>= λ _. within_limit 4 s >>= λ _. Ok (n, k, s)) n (short_limit 0 n p)
      ∙ stop (within_limit 1 k) (λ _. within_limit 4 s >>= λ _. Ok (n, k, s)) f e

  pub limits_nspace : (n k s : List ℕ) (f : NameFault) → length n ≤ 1024 → length k ≤ 1024 → within_limit 4 s ≡ Err f → limits n k s ≡ Err f
  limits_nspace n k s f p q e =
      step (within_limit 0 n) (λ _. within_limit 1 k >>= λ _. within_limit 4 s >>= λ _. Ok (n, k, s)) n (short_limit 0 n p)
      ∙ step (within_limit 1 k) (λ _. within_limit 4 s >>= λ _. Ok (n, k, s)) k (short_limit 1 k q)
      ∙ stop (within_limit 4 s) (λ _. Ok (n, k, s)) f e

  pub limits_ok : (n k s : List ℕ) → length n ≤ 1024 → length k ≤ 1024 → length s ≤ 1024 → limits n k s ≡ Ok (n, k, s)
  limits_ok n k s p q r =
      step (within_limit 0 n) (λ _. within_limit 1 k >>= λ _. within_limit 4 s >>= λ _. Ok (n, k, s)) n (short_limit 0 n p)
      ∙ step (within_limit 1 k) (λ _. within_limit 4 s >>= λ _. Ok (n, k, s)) k (short_limit 1 k q)
      ∙ step (within_limit 4 s) (λ _. Ok (n, k, s)) s (short_limit 4 s r)

  -- what names that were read tell
  pub record AreRead (names : List ℕ × List ℕ × List ℕ) : Type 0 where
    pub read : NamesRead name key nspace names.0 names.1 names.2 key_at nspace_at
    pub name_short : length names.0 ≤ 1024
    pub key_short : length names.1 ≤ 1024
    pub nspace_short : length names.2 ≤ 1024

  pub names_are : (names : List ℕ × List ℕ × List ℕ) → names_of name key snap hash nspace ≡ Ok names → AreRead names
  names_are names e =
      let a = went (name_of name) (λ n. field_of key_at key >>= λ k. field_of nspace_at nspace >>= λ s. limits n k s) names e in
      let b = went (field_of key_at key) (λ k. field_of nspace_at nspace >>= λ s. limits a.value k s) names a.then in
      let c = went (field_of nspace_at nspace) (λ s. limits a.value b.value s) names b.then in
      let d = went (within_limit 0 a.value) (λ _. within_limit 1 b.value >>= λ _. within_limit 4 c.value >>= λ _. Ok (a.value, b.value, c.value)) names c.then in
      let f = went (within_limit 1 b.value) (λ _. within_limit 4 c.value >>= λ _. Ok (a.value, b.value, c.value)) names d.then in
      let g = went (within_limit 4 c.value) (λ _. Ok (a.value, b.value, c.value)) names f.then in
      let same : ◌≡◌ {A = List ℕ × List ℕ × List ℕ} (a.value, b.value, c.value) names = cc in
      subst AreRead same (record {
        read = record { name_is = a.first; key_is = b.first; nspace_is = c.first };
        name_short = within_gives 0 a.value d.value d.first;
        key_short = within_gives 1 b.value f.value f.first;
        nspace_short = within_gives 4 c.value g.value g.first;
      })

  pub some_names : IsOk (names_of name key snap hash nspace) → (names : List ℕ × List ℕ × List ℕ) × (names_of name key snap hash nspace ≡ Ok names)
  some_names ok = by (names_of name key snap hash nspace) refl ok
    where
      by : (r : Names) → names_of name key snap hash nspace ≡ r → IsOk r → (names : List ℕ × List ℕ × List ℕ) × (names_of name key snap hash nspace ≡ Ok names)
      by (Ok names) e h = (names, e)
      by (Err f) e h = cc

  module _ (pool : List ℕ) where
    abbrev pub from_names : List ℕ × List ℕ × List ℕ → Result Oid NameFault
    from_names names =
        ok_or (snap_of snap) (BadField 2) >>= λ s. ok_or (hash_of hash) (BadField 3) >>= λ h. ok_or (pool_of pool) (BadField 5) >>= λ p.
        Ok (record { name = names.0; key = names.1; nspace = names.2; snap = s; hash = h; pool = p })

    pub six_fault : (f : NameFault) → names_of name key snap hash nspace ≡ Err f → oid_of_six name key snap hash nspace pool ≡ Err f
    unfolding oid_of_six
    six_fault f e = stop (names_of name key snap hash nspace) from_names f e

    six_from : (names : List ℕ × List ℕ × List ℕ) → names_of name key snap hash nspace ≡ Ok names → oid_of_six name key snap hash nspace pool ≡ from_names names
    unfolding oid_of_six
    six_from names e = step (names_of name key snap hash nspace) from_names names e

    abbrev pub with_snap : List ℕ × List ℕ × List ℕ → Snap → Result Oid NameFault
    with_snap names s =
        ok_or (hash_of hash) (BadField 3) >>= λ h. ok_or (pool_of pool) (BadField 5) >>= λ p.
        Ok (record { name = names.0; key = names.1; nspace = names.2; snap = s; hash = h; pool = p })

    abbrev pub with_hash : List ℕ × List ℕ × List ℕ → Snap → ℕ → Result Oid NameFault
    with_hash names s h =
        ok_or (pool_of pool) (BadField 5) >>= λ p. Ok (record { name = names.0; key = names.1; nspace = names.2; snap = s; hash = h; pool = p })

    abbrev pub with_pool : List ℕ × List ℕ × List ℕ → Snap → ℕ → Option ℕ → Result Oid NameFault
    with_pool names s h p = Ok (record { name = names.0; key = names.1; nspace = names.2; snap = s; hash = h; pool = p })

    pub six_snap : IsOk (names_of name key snap hash nspace) → snap_of snap ≡ None → oid_of_six name key snap hash nspace pool ≡ Err (BadField 2)
    six_snap ok s =
        let n = some_names ok in
        six_from n.0 n.1 ∙ ap (λ o. ok_or o (BadField 2) >>= with_snap n.0) s

    pub six_hash : (x : Snap) → IsOk (names_of name key snap hash nspace) → snap_of snap ≡ Some x → hash_of hash ≡ None
        → oid_of_six name key snap hash nspace pool ≡ Err (BadField 3)
    six_hash x ok s h =
        let n = some_names ok in
        six_from n.0 n.1 ∙ ap (λ o. ok_or o (BadField 2) >>= with_snap n.0) s ∙ ap (λ o. ok_or o (BadField 3) >>= with_hash n.0 x) h

    pub six_pool : (x : Snap) (y : ℕ) → IsOk (names_of name key snap hash nspace) → snap_of snap ≡ Some x → hash_of hash ≡ Some y
        → pool_of pool ≡ None → oid_of_six name key snap hash nspace pool ≡ Err (BadField 5)
    six_pool x y ok s h p =
        let n = some_names ok in
        six_from n.0 n.1 ∙ ap (λ o. ok_or o (BadField 2) >>= with_snap n.0) s ∙ ap (λ o. ok_or o (BadField 3) >>= with_hash n.0 x) h
        ∙ ap (λ o. ok_or o (BadField 5) >>= with_pool n.0 x y) p

    pub six_ok : (n k z : List ℕ) (x : Snap) (y : ℕ) (w : Option ℕ) → names_of name key snap hash nspace ≡ Ok (n, k, z) → snap_of snap ≡ Some x → hash_of hash ≡ Some y
        → pool_of pool ≡ Some w
        → oid_of_six name key snap hash nspace pool ≡ Ok (record { name = n; key = k; nspace = z; snap = x; hash = y; pool = w })
    six_ok n k z x y w e s h p =
        six_from (n, k, z) e ∙ ap (λ o. ok_or o (BadField 2) >>= with_snap (n, k, z)) s ∙ ap (λ o. ok_or o (BadField 3) >>= with_hash (n, k, z) x) h
        ∙ ap (λ o. ok_or o (BadField 5) >>= with_pool (n, k, z) x y) p

    -- the object, where its names are read one by one
    pub six_read : (n k z : List ℕ) (x : Snap) (y : ℕ) (w : Option ℕ) → IsOk (names_of name key snap hash nspace) → snap_of snap ≡ Some x → hash_of hash ≡ Some y
        → pool_of pool ≡ Some w → name_of name ≡ Ok n → field_of 0 key ≡ Ok k → field_of 0 nspace ≡ Ok z
        → oid_of_six name key snap hash nspace pool ≡ Ok (record { name = n; key = k; nspace = z; snap = x; hash = y; pool = w })
    six_read n k z x y w ok s h p a b c =
        let names = some_names ok in
        let r = (names_are names.0 names.1).read in
        let same_name : names.0.0 ≡ n = (let i : Ok names.0.0 ≡ Ok n = sym r.name_is ∙ a in cc) in
        let same_key : names.0.1 ≡ k = (let i : Ok names.0.1 ≡ Ok k = sym (field_moved key_at 0 key names.0.1 r.key_is) ∙ b in cc) in
        let same_space : names.0.2 ≡ z = (let i : Ok names.0.2 ≡ Ok z = sym (field_moved nspace_at 0 nspace names.0.2 r.nspace_is) ∙ c in cc) in
        let same : ◌≡◌ {A = List ℕ × List ℕ × List ℕ} names.0 (n, k, z) = λ i. (same_name i, same_key i, same_space i) in
        six_ok n k z x y w (names.1 ∙ ap Ok same) s h p
