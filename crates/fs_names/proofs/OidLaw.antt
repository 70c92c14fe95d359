-- An object's text is read as the object, and what is read as an object is the object's text.
use Rattle.std.proofs.Common.{◌≡◌, ℕ, true, false, List, [], ◌∷◌, ◌++◌, Option, Some, None, Ok, refl, sym, ap, subst, ◌∙◌, arith}
use Rattle.std.proofs.lemmas.Bool.{and_parts}
use Rattle.std.proofs.lemmas.Bool.Decides.{nat_tests}
use Rattle.std.proofs.lemmas.List.{append_assoc}
use Rattle.std.proofs.lemmas.List.Elements.{All-weaker, All-append, All-cons}
use Rattle.std.proofs.lemmas.List.Splits.{slice_split_at, slice_split_none, join_with_byte-slice_split}
use Rattle.std.specs.Char.{is_ascii_graphic}
use Rattle.std.specs.Cmp.Lexicographic.{slice_cmp}
use Rattle.std.specs.FinMap.{nat_cmp-IsAntisymmetric, slice_cmp-IsAntisymmetric}
use Rattle.std.specs.List.{All, AllPass, slice_split, join_with_byte}
use Rattle.std.specs.Option.{ok_or}
use Rattle.std.specs.Ordering.{nat_cmp, ordering_then}
use Rattle.std.specs.declared.cmp.Ordering.{Ordering}
use Rattle.std.specs.declared.cmp.Ordering.TheVariants.{Less, Equal, Greater}
use Rattle.fs_names.specs.declared.fault.NameFault.{NameFault}
use Rattle.fs_names.specs.declared.fault.NameFault.TheVariants.{BadField}
use Rattle.fs_names.specs.declared.oid.Oid.{Oid}
use Rattle.fs_names.specs.Laws.{OidTextsAreRead, OidsReadAreSpelled, OidTextsPrint, OidOrderIsByTexts}
use Rattle.fs_names.specs.Order.{oid_cmp, oid_key}
use Rattle.fs_names.specs.Reading.{OidFits, is_underscore, oid_of, oid_of_fields, oid_of_six, names_of, snap_of, hash_of, pool_of}
use Rattle.fs_names.specs.Text.{oid_text, name_text, field_text, snap_text, hash_text, pool_text, hash_digits}
use Rattle.fs_names.proofs.Hashes.{hash_of_gives, hash_of_reads}
use Rattle.fs_names.proofs.Inner.{is_inner, name_text-inner, field_text-inner, snap_text-inner, hash_text-inner, pool_text-inner}
use Rattle.fs_names.proofs.ReadLaws.{name_reads, name_gives, field_reads, field_gives}
use Rattle.fs_names.proofs.Six.{went, names_limits, limits_ok, names_are, six_ok, from_names, with_snap, with_hash, with_pool}
use Rattle.fs_names.proofs.SpelledOrder.{same_list}
use Rattle.fs_names.proofs.Spellings.{snap_of_text, pool_of_text, snap_given, pool_given}

inner_apart : (b : ℕ) → is_inner b ≡ true → is_underscore b ≡ false
inner_apart b h = grind (arith, nat_tests)

apart : (bytes : List ℕ) → AllPass is_inner bytes → All (λ b. is_underscore b ≡ false) bytes
apart bytes all = All-weaker (λ b. is_inner b ≡ true) (λ b. is_underscore b ≡ false) inner_apart bytes all

-- six fields, joined and split again
abbrev pub joined : List ℕ → List ℕ → List ℕ → List ℕ → List ℕ → List ℕ → List ℕ
joined a b c d e f = a ++ 95 ∷ b ++ 95 ∷ c ++ 95 ∷ d ++ 95 ∷ e ++ 95 ∷ f

to_the_right : (a b c d e f : List ℕ) → a ++ b ++ c ++ d ++ e ++ f ≡ a ++ (b ++ (c ++ (d ++ (e ++ f))))
to_the_right a b c d e f = simp append_assoc

nested : (a b c d e f : List ℕ) → joined a b c d e f ≡ a ++ (95 ∷ (b ++ (95 ∷ (c ++ (95 ∷ (d ++ (95 ∷ (e ++ (95 ∷ f)))))))))
nested a b c d e f = to_the_right a (95 ∷ b) (95 ∷ c) (95 ∷ d) (95 ∷ e) (95 ∷ f)

split_joined : (a b c d e f : List ℕ) → AllPass is_inner a → AllPass is_inner b → AllPass is_inner c → AllPass is_inner d → AllPass is_inner e → AllPass is_inner f
    → slice_split is_underscore (joined a b c d e f) ≡ a ∷ b ∷ c ∷ d ∷ e ∷ f ∷ []
split_joined a b c d e f p q r s t u =
    ap (slice_split is_underscore) (nested a b c d e f)
    ∙ slice_split_at is_underscore a 95 _ (apart a p) refl
    ∙ ap (λ l. a ∷ l) (slice_split_at is_underscore b 95 _ (apart b q) refl
    ∙ ap (λ l. b ∷ l) (slice_split_at is_underscore c 95 _ (apart c r) refl
    ∙ ap (λ l. c ∷ l) (slice_split_at is_underscore d 95 _ (apart d s) refl
    ∙ ap (λ l. d ∷ l) (slice_split_at is_underscore e 95 _ (apart e t) refl
    ∙ ap (λ l. e ∷ l) (slice_split_none is_underscore f (apart f u))))))

-- names are read as they are spelled
names_read : (o : Oid) → OidFits o
    → names_of (name_text o.name) (field_text o.key) (snap_text o.snap) (hash_text o.hash) (field_text o.nspace) ≡ Ok (o.name, o.key, o.nspace)
names_read o fits =
    names_limits (name_text o.name) (field_text o.key) (snap_text o.snap) (hash_text o.hash) (field_text o.nspace) o.name o.key o.nspace (record {
      name_is = name_reads o.name fits.name.small;
      key_is = field_reads _ o.key fits.key.small;
      nspace_is = field_reads _ o.nspace fits.nspace.small;
    })
    ∙ limits_ok (name_text o.name) (field_text o.key) (snap_text o.snap) (hash_text o.hash) (field_text o.nspace) o.name o.key o.nspace fits.name.short fits.key.short fits.nspace.short

pub text_joined : (o : Oid) → oid_text o ≡ joined (name_text o.name) (field_text o.key) (snap_text o.snap) (hash_text o.hash) (field_text o.nspace) (pool_text o.pool)
unfolding oid_text
text_joined o = refl

pub oid_texts_are_read : OidTextsAreRead
unfolding oid_of
oid_texts_are_read o fits =
    ap oid_of (text_joined o)
    ∙ ap oid_of_fields (split_joined (name_text o.name) (field_text o.key) (snap_text o.snap) (hash_text o.hash) (field_text o.nspace) (pool_text o.pool)
    (name_text-inner o.name fits.name.small) (field_text-inner o.key fits.key.small) (snap_text-inner o.snap) (hash_text-inner o.hash)
    (field_text-inner o.nspace fits.nspace.small) (pool_text-inner o.pool))
    ∙ six_ok (name_text o.name) (field_text o.key) (snap_text o.snap) (hash_text o.hash) (field_text o.nspace) (pool_text o.pool) o.name o.key o.nspace o.snap o.hash o.pool
    (names_read o fits) (snap_of_text o.snap fits.snap) (hash_of_reads o.hash fits.hash) (pool_of_text o.pool fits.pool)

-- what a value that is asked for tells
asked : {A : Type 0} (o : Option A) (f : NameFault) (x : A) → ok_or o f ≡ Ok x → o ≡ Some x
asked (Some y) f x e = cc
asked None f x e = cc

-- what an object that was read tells of the fields
record Read (a b c d e f : List ℕ) (o : Oid) : Type 0 where
  names : names_of a b c d e ≡ Ok (o.name, o.key, o.nspace)
  snap_is : snap_of c ≡ Some o.snap
  hash_is : hash_of d ≡ Some o.hash
  pool_is : pool_of f ≡ Some o.pool

read_from : (a b c d e f : List ℕ) (o : Oid) → oid_of_six a b c d e f ≡ Ok o → Read a b c d e f o
unfolding oid_of_six
read_from a b c d e f o h =
    let n = went (names_of a b c d e) (from_names a b c d e f) o h in
    let s = went (ok_or (snap_of c) (BadField 2)) (with_snap a b c d e f n.value) o n.then in
    let g = went (ok_or (hash_of d) (BadField 3)) (with_hash a b c d e f n.value s.value) o s.then in
    let p = went (ok_or (pool_of f) (BadField 5)) (with_pool a b c d e f n.value s.value g.value) o g.then in
    let whole : Ok (record { name = n.value.0; key = n.value.1; nspace = n.value.2; snap = s.value; hash = g.value; pool = p.value }) ≡ Ok o = p.then in
    let same : ◌≡◌ {A = Oid} (record { name = n.value.0; key = n.value.1; nspace = n.value.2; snap = s.value; hash = g.value; pool = p.value }) o = cc in
    record {
      names = n.first ∙ ap (λ x. Ok (x.name, x.key, x.nspace)) same;
      snap_is = asked (snap_of c) (BadField 2) s.value s.first ∙ ap (λ x. Some x.snap) same;
      hash_is = asked (hash_of d) (BadField 3) g.value g.first ∙ ap (λ x. Some x.hash) same;
      pool_is = asked (pool_of f) (BadField 5) p.value p.first ∙ ap (λ x. Some x.pool) same;
    }

six_spelled : (a b c d e f : List ℕ) (o : Oid) → oid_of_six a b c d e f ≡ Ok o → (oid_text o ≡ joined a b c d e f) × OidFits o
six_spelled a b c d e f o h =
    let r = read_from a b c d e f o h in
    let n = names_are a b c d e (o.name, o.key, o.nspace) r.names in
    let name = name_gives a o.name n.read.name_is in
    let key = field_gives _ b o.key n.read.key_is in
    let nspace = field_gives _ e o.nspace n.read.nspace_is in
    let snap = snap_given c o.snap r.snap_is in
    let hash = hash_of_gives d o.hash r.hash_is in
    let pool = pool_given f o.pool r.pool_is in
    let name_is : name_text o.name ≡ a = name.0 in
    let key_is : field_text o.key ≡ b = key.0 in
    let nspace_is : field_text o.nspace ≡ e = nspace.0 in
    let snap_is : snap_text o.snap ≡ c = snap.0 in
    let hash_is : hash_text o.hash ≡ d = sym hash.1 in
    let pool_is : pool_text o.pool ≡ f = pool.0 in
    let text : oid_text o ≡ joined (name_text o.name) (field_text o.key) (snap_text o.snap) (hash_text o.hash) (field_text o.nspace) (pool_text o.pool) = text_joined o in (
      cc,
      record {
        name = record { short = n.name_short; small = name.1 };
        key = record { short = n.key_short; small = key.1 };
        nspace = record { short = n.nspace_short; small = nspace.1 };
        snap = snap.1;
        hash = hash.0;
        pool = pool.1;
      },
    )

fields_spelled : (parts : List (List ℕ)) (o : Oid) → oid_of_fields parts ≡ Ok o → (oid_text o ≡ join_with_byte 95 parts) × OidFits o
fields_spelled [] o h = cc
fields_spelled (a ∷ []) o h = cc
fields_spelled (a ∷ b ∷ []) o h = cc
fields_spelled (a ∷ b ∷ c ∷ []) o h = cc
fields_spelled (a ∷ b ∷ c ∷ d ∷ []) o h = cc
fields_spelled (a ∷ b ∷ c ∷ d ∷ e ∷ []) o h = cc
fields_spelled (a ∷ b ∷ c ∷ d ∷ e ∷ f ∷ []) o h =
    let s = six_spelled a b c d e f o h in
    (s.0 ∙ nested a b c d e f, s.1)
fields_spelled (a ∷ b ∷ c ∷ d ∷ e ∷ f ∷ g ∷ parts) o h = cc

pub oids_read_are_spelled : OidsReadAreSpelled
unfolding oid_of
oids_read_are_spelled text o h =
    let s = fields_spelled (slice_split is_underscore text) o h in
    (s.0 ∙ join_with_byte-slice_split 95 text, s.1)

-- each byte prints
inner_prints : (b : ℕ) → is_inner b ≡ true → is_ascii_graphic b ≡ true
inner_prints b h = (and_parts _ _ h).0

prints : (bytes : List ℕ) → AllPass is_inner bytes → AllPass is_ascii_graphic bytes
prints bytes all = All-weaker (λ b. is_inner b ≡ true) (λ b. is_ascii_graphic b ≡ true) inner_prints bytes all

with_field : (text field : List ℕ) → AllPass is_ascii_graphic text → AllPass is_inner field → AllPass is_ascii_graphic (text ++ 95 ∷ field)
with_field text field all inner =
    All-append (λ b. is_ascii_graphic b ≡ true) text (95 ∷ field) all (All-cons (λ b. is_ascii_graphic b ≡ true) 95 field refl (prints field inner))

pub oid_texts_print : OidTextsPrint
oid_texts_print o fits =
    subst (AllPass is_ascii_graphic) (sym (text_joined o))
    (with_field _ _ (with_field _ _ (with_field _ _ (with_field _ _ (with_field _ _ (prints _ (name_text-inner o.name fits.name.small)) (field_text-inner o.key fits.key.small))
    (snap_text-inner o.snap)) (hash_text-inner o.hash)) (field_text-inner o.nspace fits.nspace.small)) (pool_text-inner o.pool))

-- No two objects have one text, and so the texts alone decide where the hashes are one.
pub same_text : (a b : Oid) → OidFits a → OidFits b → oid_text a ≡ oid_text b → a ≡ b
same_text a b f g e =
    let read : Ok a ≡ Ok b = sym (oid_texts_are_read a f) ∙ ap oid_of e ∙ oid_texts_are_read b g in
    cc

then_none : (r : Ordering) → ordering_then r Equal ≡ r
then_none Less = refl
then_none Equal = refl
then_none Greater = refl

no_key : (a b : Oid) → OidFits a → OidFits b → (r : Ordering) → slice_cmp nat_cmp (oid_text a) (oid_text b) ≡ r
    → ordering_then r (slice_cmp (slice_cmp nat_cmp) (oid_key a) (oid_key b)) ≡ r
no_key a b f g Less e = refl
no_key a b f g Greater e = refl
no_key a b f g Equal e =
    let text = slice_cmp-IsAntisymmetric nat_cmp-IsAntisymmetric (oid_text a) (oid_text b) e in
    let same = same_text a b f g text in
    ap (λ x. slice_cmp (slice_cmp nat_cmp) (oid_key x) (oid_key b)) same ∙ keys_same (oid_key b)
  where
    keys_same : (ks : List (List ℕ)) → slice_cmp (slice_cmp nat_cmp) ks ks ≡ Equal
    keys_same [] = refl
    keys_same (k ∷ ks) = ap (λ o. ordering_then o (slice_cmp (slice_cmp nat_cmp) ks ks)) (same_list k) ∙ keys_same ks

pub oid_order_by_texts : OidOrderIsByTexts
unfolding oid_cmp
oid_order_by_texts a b f g =
    ap (ordering_then (slice_cmp nat_cmp (hash_digits a.hash) (hash_digits b.hash))) (no_key a b f g (slice_cmp nat_cmp (oid_text a) (oid_text b)) refl)
