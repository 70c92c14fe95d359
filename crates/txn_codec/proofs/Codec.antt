-- What is read is what was spelled, and what was spelled is read again: one way of reading made of others.
use Rattle.std.proofs.Common.{◌≡◌, ℕ, zero, suc, ◌+◌, ◌<◌, ◌≤◌, Bool, true, false, cond, ltb, List, [], ◌∷◌, ◌++◌, length, get_or, take, drop, Option, Some, None, Result, Ok, Err, refl, sym, ap, subst, ◌∙◌, append_assoc, add-zero, arith, inl, inr}
use Rattle.std.specs.Option.{option_map_or}
use Rattle.std.specs.List.{flat_map, AllByRecursion}
use Rattle.std.proofs.lemmas.Bool.{cases_lt, ltb-false, le-ltb}
use Rattle.std.proofs.lemmas.List.{take_at, drop_at, take-append-drop, length-append, length-take, get_or-drop, get_or-take, get_or_past}
use Rattle.std.proofs.lemmas.List.Concat.{flat_map-cons}
use Rattle.std.proofs.lemmas.Option.{same_Some}
use Rattle.txn_codec.specs.declared.fault.CodecFault.{CodecFault}
use Rattle.txn_codec.specs.declared.fault.CodecFault.TheVariants.{Short, BadTag}
use Rattle.txn_codec.specs.Reading.{Rest, Reader, ◌>>=◌, ◌&◌, mapped, given, field, tagged, repeated}

abbrev pub IsBytes : List ℕ → Type 0
IsBytes bytes = (i : ℕ) → get_or bytes i 0 < 256

pub IsBytes-drop : (n : ℕ) (bytes : List ℕ) → IsBytes bytes → IsBytes (drop n bytes)
IsBytes-drop n bytes h i = rw get_or-drop (h (n + i))

pub IsBytes-take : (n : ℕ) (bytes : List ℕ) → IsBytes bytes → IsBytes (take n bytes)
IsBytes-take n bytes h i =
    elim (cases_lt i n) [
      | inl lt ↦ rw (get_or-take n bytes i 0 lt) (h i)
      | inr le ↦ rw (get_or_past (take n bytes) i 0 (omega (arith, length-take n bytes))) (omega arith)
    ]

abbrev pub rest_of : ℕ → List ℕ → Rest
rest_of at bytes = record { at = at; bytes = bytes }

-- what was read and is left
abbrev pub got : {A : Type 0} → A → Rest → Result (A × Rest) CodecFault
got a r = Ok (a, r)

-- the value of a step that did not fail
pub bind_ok : {A B : Type 0} (r : Result A CodecFault) (f : A → Result B CodecFault) (y : B) → (r >>= f) ≡ Ok y → (x : A) × ((r ≡ Ok x) × (f x ≡ Ok y))
bind_ok (Ok x) f y e = (x, (refl, e))
bind_ok (Err d) f y e = absurd (cc)

-- a test that did not fail
pub guard_ok : {A : Type 0} (b : Bool) (d : CodecFault) (r : Result A CodecFault) (y : A) → cond b (Err d) r ≡ Ok y → (b ≡ false) × (r ≡ Ok y)
guard_ok true d r y e = absurd (cc)
guard_ok false d r y e = (refl, e)

pub test_ok : {A : Type 0} (b : Bool) (d : CodecFault) (x y : A) → cond b (Ok x) (Err d) ≡ Ok y → (b ≡ true) × (x ≡ y)
test_ok true d x y e = (refl, cc)
test_ok false d x y e = absurd (cc)

abbrev done : {A : Type 0} → A → Result A CodecFault
done x = Ok x

pub ok_is : {A : Type 0} (x y : A) → done x ≡ done y → x ≡ y
ok_is x y e = cc

pub record Takes {A : Type 0} (spell : A → List ℕ) (fits : A → Type 0) (r : Rest) (x : A × Rest) : Type 0 where
  pub parts : r.bytes ≡ spell x.0 ++ x.1.bytes
  pub fit : fits x.0
  pub rest : IsBytes x.1.bytes

pub record Codec {A : Type 0} (spell : A → List ℕ) (fits : A → Type 0) (read : Reader A) : Type 0 where
  pub takes : (r : Rest) (x : A × Rest) → IsBytes r.bytes → read r ≡ Ok x → Takes spell fits r x
  pub again : (a : A) (at : ℕ) (bytes : List ℕ) → fits a → read (rest_of at (spell a ++ bytes)) ≡ got a (rest_of (at + length (spell a)) bytes)

-- ---- a field

pub record TakesField (n : ℕ) (r : Rest) (f : List ℕ × Rest) : Type 0 where
  pub parts : r.bytes ≡ f.0 ++ f.1.bytes
  pub len : length f.0 ≡ n
  pub bytes : IsBytes f.0
  pub rest : IsBytes f.1.bytes

pub field_takes : (n : ℕ) (r : Rest) (f : List ℕ × Rest) → IsBytes r.bytes → field n r ≡ Ok f → TakesField n r f
field_takes n r f fits e =
    let g = guard_ok (ltb (length r.bytes) n) (Short r.at) (Ok (take n r.bytes, rest_of (r.at + n) (drop n r.bytes))) f e in
    let long : n ≤ length r.bytes = ltb-false _ _ g.0 in
    subst (TakesField n r) (ok_is (take n r.bytes, rest_of (r.at + n) (drop n r.bytes)) f g.1)
    (record {
      parts = sym (take-append-drop n r.bytes);
      len = omega (arith, length-take n r.bytes);
      bytes = IsBytes-take n r.bytes fits;
      rest = IsBytes-drop n r.bytes fits;
    })

pub field_again : (n at : ℕ) (l bytes : List ℕ) → length l ≡ n → field n (rest_of at (l ++ bytes)) ≡ got l (rest_of (at + n) bytes)
field_again n at l bytes len =
    let long : ltb (length (l ++ bytes)) n ≡ false = le-ltb _ _ (omega (arith, length-append l bytes)) in
    rw (long, take_at l bytes n len, drop_at l bytes n len) refl

-- ---- one after the other

abbrev pub both_spell : {A B : Type 0} → (A → List ℕ) → (B → List ℕ) → A × B → List ℕ
both_spell s t p = s p.0 ++ t p.1

abbrev pub both_fit : {A B : Type 0} → (A → Type 0) → (B → Type 0) → A × B → Type 0
both_fit f g p = f p.0 × g p.1

abbrev paired : {A B : Type 0} → A → Result (B × Rest) CodecFault → Result ((A × B) × Rest) CodecFault
paired x r = r >>= λ v. Ok ((x, v.0), v.1)

module _ {A B : Type 0} {s : A → List ℕ} {t : B → List ℕ} {f : A → Type 0} {g : B → Type 0} {a : Reader A} {b : Reader B} where
  pub both : Codec s f a → Codec t g b → Codec (both_spell s t) (both_fit f g) (a & b)
  both first second = record {
    takes = λ r x fits e.
        let p = bind_ok (a r) (λ u. paired u.0 (b u.1)) x e in
        let u : A × Rest = p.0 in
        let q = bind_ok (b u.1) (λ v. Ok ((u.0, v.0), v.1)) x p.1.1 in
        let v : B × Rest = q.0 in
        let one : Takes s f r u = first.takes r u fits p.1.0 in
        let two : Takes t g u.1 v = second.takes u.1 v one.rest q.1.0 in
        let made : (A × B) × Rest = ((u.0, v.0), v.1) in
        subst (Takes (both_spell s t) (both_fit f g) r) (ok_is made x q.1.1)
        (record { parts = one.parts ∙ ap (λ (l : List ℕ). s u.0 ++ l) two.parts ∙ sym (append_assoc (s u.0) (t v.0) v.1.bytes); fit = (one.fit, two.fit); rest = two.rest });
    again = λ p at bytes fit.
        let mid : ℕ = at + length (s p.0) in
        let place : mid + length (t p.1) ≡ at + length (s p.0 ++ t p.1) = omega (arith, length-append (s p.0) (t p.1)) in
        ap (λ (l : List ℕ). (a & b) (rest_of at l)) (append_assoc (s p.0) (t p.1) bytes)
        ∙ ap (λ (r : Result (A × Rest) CodecFault). r >>= λ u. paired u.0 (b u.1)) (first.again p.0 at (t p.1 ++ bytes) fit.0)
        ∙ ap (paired p.0) (second.again p.1 mid bytes fit.1)
        ∙ ap (λ (n : ℕ). got p (rest_of n bytes)) place;
  }

-- ---- made of what was read

abbrev made_of : {A B : Type 0} → (A → B) → Result (A × Rest) CodecFault → Result (B × Rest) CodecFault
made_of make r = r >>= λ u. Ok (make u.0, u.1)

module _ {A B : Type 0} {s : A → List ℕ} {f : A → Type 0} {read : Reader A} (make : A → B) where
  pub mapped_again : Codec s f read → (x : A) (at : ℕ) (bytes : List ℕ) → f x → mapped make read (rest_of at (s x ++ bytes)) ≡ got (make x) (rest_of (at + length (s x)) bytes)
  mapped_again codec x at bytes fit = ap (made_of make) (codec.again x at bytes fit)

  pub mapped_takes : Codec s f read → (r : Rest) (y : B × Rest) → IsBytes r.bytes → mapped make read r ≡ Ok y → (u : A × Rest) × (Takes s f r u × ((make u.0, u.1) ≡ y))
  mapped_takes codec r y fits e =
      let p = bind_ok (read r) (λ u. Ok (make u.0, u.1)) y e in
      (p.0, (codec.takes r p.0 fits p.1.0, ok_is (make p.0.0, p.0.1) y p.1.1))

-- ---- behind a tag

pub record TakesTag {A : Type 0} (spell : A → List ℕ) (fits : A → Type 0) (tag : ℕ) (r : Rest) (x : A × Rest) : Type 0 where
  pub parts : tag ∷ r.bytes ≡ spell x.0 ++ x.1.bytes
  pub fit : fits x.0
  pub rest : IsBytes x.1.bytes

-- a value is spelled by a tag and a body, and what follows the tag reads the body
pub record ReadsTag {A : Type 0} (spell : A → List ℕ) (follows : ℕ → Option (Reader A)) (a : A) (tag : ℕ) (body : List ℕ) (read : Reader A) : Type 0 where
  pub spelled : spell a ≡ tag ∷ body
  pub known : follows tag ≡ Some read
  pub reads : (at : ℕ) (bytes : List ℕ) → read (rest_of at (body ++ bytes)) ≡ got a (rest_of (at + length body) bytes)

abbrev pub HasTag : {A : Type 0} → (A → List ℕ) → (ℕ → Option (Reader A)) → A → Type 0
HasTag {A} spell follows a = (tag : ℕ) × ((body : List ℕ) × ((read : Reader A) × ReadsTag spell follows a tag body read))

pub record Tags {A : Type 0} (spell : A → List ℕ) (fits : A → Type 0) (follows : ℕ → Option (Reader A)) : Type 0 where
  pub takes : (tag : ℕ) (read : Reader A) → follows tag ≡ Some read → (r : Rest) (x : A × Rest) → IsBytes r.bytes → read r ≡ Ok x → TakesTag spell fits tag r x
  pub again : (a : A) → fits a → HasTag spell follows a

IsBytes-rest : (b : ℕ) (bytes : List ℕ) → IsBytes (b ∷ bytes) → IsBytes bytes
IsBytes-rest b bytes h i = h (suc i)

-- what follows the tag reads on
abbrev read_on : {A : Type 0} → ℕ → Rest → Option (Reader A) → Result (A × Rest) CodecFault
read_on at r o = option_map_or (λ read. read r) o (Err (BadTag at))

module _ {A : Type 0} {spell : A → List ℕ} {fits : A → Type 0} {follows : ℕ → Option (Reader A)} (tags : Tags spell fits follows) where
  tag_takes : (at b : ℕ) (bs : List ℕ) (x : A × Rest) (o : Option (Reader A)) → follows b ≡ o → IsBytes bs → read_on at (rest_of (at + 1) bs) o ≡ Ok x
      → Takes spell fits (rest_of at (b ∷ bs)) x
  tag_takes at b bs x None is fits e = absurd (cc)
  tag_takes at b bs x (Some read) is fits e =
      let t = tags.takes b read is (rest_of (at + 1) bs) x fits e in
      record { parts = t.parts; fit = t.fit; rest = t.rest }

  bytes_take : (at : ℕ) (bytes : List ℕ) (x : A × Rest) → IsBytes bytes → tagged follows (rest_of at bytes) ≡ Ok x → Takes spell fits (rest_of at bytes) x
  bytes_take at [] x fits e = absurd (cc)
  bytes_take at (b ∷ bs) x fits e = tag_takes at b bs x (follows b) refl (IsBytes-rest b bs fits) e

  pub tagged_codec : Codec spell fits (tagged follows)
  tagged_codec = record {
    takes = λ r x fits e. bytes_take r.at r.bytes x fits e;
    again = λ a at bytes fit.
        let w = tags.again a fit in
        let tag : ℕ = w.0 in
        let body : List ℕ = w.1.0 in
        let read : Reader A = w.1.1.0 in
        let law : ReadsTag spell follows a tag body read = w.1.1.1 in
        let place : (at + 1) + length body ≡ at + length (spell a) = omega (arith, ap length law.spelled) in
        ap (λ (l : List ℕ). tagged follows (rest_of at (l ++ bytes))) law.spelled
        ∙ ap (read_on at (rest_of (at + 1) (body ++ bytes))) law.known
        ∙ law.reads (at + 1) bytes
        ∙ ap (λ (n : ℕ). got a (rest_of n bytes)) place;
  }

-- a tag with nothing behind it
module _ {A : Type 0} (spell : A → List ℕ) (fits : A → Type 0) (follows : ℕ → Option (Reader A)) (a : A) (tag : ℕ) (spelled : spell a ≡ tag ∷ []) where
  pub given_takes : fits a → (read : Reader A) → Some (given a) ≡ Some read → (r : Rest) (x : A × Rest) → IsBytes r.bytes → read r ≡ Ok x → TakesTag spell fits tag r x
  given_takes fit read is r x bytes e =
      let same : given a ≡ read = same_Some (given a) read is in
      let value : (a, r) ≡ x = ok_is (a, r) x (ap (λ (reader : Reader A). reader r) same ∙ e) in
      subst (TakesTag spell fits tag r) value (record { parts = ap (λ (l : List ℕ). l ++ r.bytes) (sym spelled); fit = fit; rest = bytes })

  pub given_again : follows tag ≡ Some (given a) → HasTag spell follows a
  given_again known =
      (tag, ([], (given a, record { spelled = spelled; known = known; reads = λ at bytes. ap (λ (n : ℕ). got a (rest_of n bytes)) (sym (add-zero at)) })))

-- a tag and fields behind it
module _ {A B : Type 0} {s : A → List ℕ} {f : A → Type 0} {fields : Reader A} (codec : Codec s f fields)
    (spell : B → List ℕ) (fits : B → Type 0) (follows : ℕ → Option (Reader B)) (make : A → B) (tag : ℕ) (spelled : (x : A) → spell (make x) ≡ tag ∷ s x) where
  pub fields_take : ((x : A) → f x → fits (make x)) → (read : Reader B) → Some (mapped make fields) ≡ Some read → (r : Rest) (y : B × Rest) → IsBytes r.bytes → read r ≡ Ok y → TakesTag spell fits tag r y
  fields_take fit read is r y bytes e =
      let same : mapped make fields ≡ read = same_Some (mapped make fields) read is in
      let t = mapped_takes make codec r y bytes (ap (λ (reader : Reader B). reader r) same ∙ e) in
      let u : A × Rest = t.0 in
      let one : Takes s f r u = t.1.0 in
      subst (TakesTag spell fits tag r) t.1.1
      (record {
        parts = ap (λ (l : List ℕ). tag ∷ l) one.parts ∙ ap (λ (l : List ℕ). l ++ u.1.bytes) (sym (spelled u.0));
        fit = fit u.0 one.fit;
        rest = one.rest;
      })

  pub fields_again : (x : A) → f x → follows tag ≡ Some (mapped make fields) → HasTag spell follows (make x)
  fields_again x fit known =
      (tag, (s x, (mapped make fields, record { spelled = spelled x; known = known; reads = λ at bytes. mapped_again make codec x at bytes fit })))

-- ---- many values

abbrev cons : {A : Type 0} → A × List A → List A
cons p = p.0 ∷ p.1

abbrev joined : {A : Type 0} → Result ((A × List A) × Rest) CodecFault → Result (List A × Rest) CodecFault
joined r = r >>= λ p. Ok (cons p.0, p.1)

pub record TakesAll {A : Type 0} (spell : A → List ℕ) (fits : A → Type 0) (n : ℕ) (r : Rest) (x : List A × Rest) : Type 0 where
  pub parts : r.bytes ≡ flat_map spell x.0 ++ x.1.bytes
  pub count : length x.0 ≡ n
  pub fit : AllByRecursion fits x.0
  pub rest : IsBytes x.1.bytes

module _ {A : Type 0} {spell : A → List ℕ} {fits : A → Type 0} {read : Reader A} (codec : Codec spell fits read) where
  pub all_take : (n : ℕ) (r : Rest) (x : List A × Rest) → IsBytes r.bytes → repeated n read r ≡ Ok x → TakesAll spell fits n r x
  all_take zero r x bytes e = subst (TakesAll spell fits 0 r) (ok_is ([], r) x e) (record { parts = refl; count = refl; fit = tt; rest = bytes })
  all_take (suc n) r x bytes e =
      let p = bind_ok ((read & repeated n read) r) (λ p. Ok (cons p.0, p.1)) x e in
      let m : (A × List A) × Rest = p.0 in
      let q = bind_ok (read r) (λ u. paired u.0 (repeated n read u.1)) m p.1.0 in
      let u : A × Rest = q.0 in
      let w = bind_ok (repeated n read u.1) (λ v. Ok ((u.0, v.0), v.1)) m q.1.1 in
      let v : List A × Rest = w.0 in
      let one : Takes spell fits r u = codec.takes r u bytes q.1.0 in
      let others : TakesAll spell fits n u.1 v = all_take n u.1 v one.rest w.1.0 in
      let pair : (A × List A) × Rest = ((u.0, v.0), v.1) in
      let made : List A × Rest = (u.0 ∷ v.0, v.1) in
      let whole : TakesAll spell fits (suc n) r made = record {
        parts = one.parts ∙ ap (λ (l : List ℕ). spell u.0 ++ l) others.parts ∙ sym (append_assoc (spell u.0) (flat_map spell v.0) v.1.bytes)
            ∙ ap (λ (l : List ℕ). l ++ v.1.bytes) (sym (flat_map-cons spell u.0 v.0));
        count = ap suc others.count;
        fit = (one.fit, others.fit);
        rest = others.rest;
      } in
      subst (TakesAll spell fits (suc n) r) (ap (λ (z : (A × List A) × Rest). (cons z.0, z.1)) (ok_is pair m w.1.1) ∙ ok_is (cons m.0, m.1) x p.1.1) whole

  pub all_again : (xs : List A) (at : ℕ) (bytes : List ℕ) → AllByRecursion fits xs
      → repeated (length xs) read (rest_of at (flat_map spell xs ++ bytes)) ≡ got xs (rest_of (at + length (flat_map spell xs)) bytes)
  all_again [] at bytes fit = ap (λ (n : ℕ). got [] (rest_of n bytes)) (sym (add-zero at))
  all_again (x ∷ xs) at bytes fit =
      let whole = flat_map-cons spell x xs in
      let mid : ℕ = at + length (spell x) in
      let place : mid + length (flat_map spell xs) ≡ at + length (flat_map spell (x ∷ xs)) =
      omega (arith, ap length whole, length-append (spell x) (flat_map spell xs)) in
      ap (λ (l : List ℕ). repeated (suc (length xs)) read (rest_of at (l ++ bytes))) whole
      ∙ ap (λ (l : List ℕ). repeated (suc (length xs)) read (rest_of at l)) (append_assoc (spell x) (flat_map spell xs) bytes)
      ∙ ap (λ (r : Result (A × Rest) CodecFault). joined (r >>= λ u. paired u.0 (repeated (length xs) read u.1))) (codec.again x at (flat_map spell xs ++ bytes) fit.0)
      ∙ ap (λ (r : Result (List A × Rest) CodecFault). joined (paired x r)) (all_again xs mid bytes fit.1)
      ∙ ap (λ (n : ℕ). got (x ∷ xs) (rest_of n bytes)) place
