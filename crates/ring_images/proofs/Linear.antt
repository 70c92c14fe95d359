-- What a crash leaves of a ring reads as the synced entries and some of those that were written since.
use Rattle.std.proofs.Common.{◌≡◌, ⊎_elim, ℕ, zero, suc, ◌+◌, ◌*◌, ◌/◌, ◌<◌, ◌≤◌, ◌^◌, List, [], ◌∷◌, ◌++◌, length, take, drop, length-drop, refl, sym, ◌∙◌, ap, subst, add-zero, arith}
use Rattle.std.specs.Prelude.{Option, Some, None, Bool, true, false, cond}
use Rattle.std.proofs.lemmas.Bool.Decides.{Decides-eqb}
use Rattle.std.proofs.lemmas.Bool.{and_parts, and_from, leb-true, le-leb, lt-ltb, cond-true}
use Rattle.std.proofs.lemmas.List.{drop-drop, drop-take, take-take}
use Rattle.ring_frame.specs.Frame.{Entry, entry, size_of}
use Rattle.ring_frame.proofs.Facts.{entry_same, entry_magic_first, entry_room, need-blocks, need-room, not_some}
use Rattle.ring_images.specs.Readable.{Ring, goes_on, if_goes_on, next, IsRead, Stand, IsClean, EndsAt, NoChance, sizes, Begins, read_from}

cond_some : (b : Bool) (x e : Entry) → cond b (Some x) None ≡ Some e → Some x ≡ Some e
cond_some true x e h = h
cond_some false x e h = absurd (cc)

cond_true : (b : Bool) (x e : Entry) → cond b (Some x) None ≡ Some e → (b ≡ true) × (x ≡ e)
cond_true true x e h = (refl, cc)
cond_true false x e h = absurd (cc)

-- where the next entry is read, it is sealed
pub next_entry : (ring : Ring) (seq low : ℕ) (o : Option Entry) (e : Entry) → if_goes_on ring seq low o ≡ Some e → o ≡ Some e
next_entry ring seq low None e h = absurd (cc)
next_entry ring seq low (Some x) e h = cond_some (goes_on ring seq low x) x e h

clean_none : (ring : Ring) (offset : ℕ) (bytes : List ℕ) (e : Entry) → IsClean bytes → entry ring.fsid (ring.place offset) bytes ≡ Some e → ⊥
clean_none ring offset bytes e clean h = clean 0 (entry_magic_first _ _ bytes e h)

ends_none : (ring : Ring) (offset : ℕ) (bytes : List ℕ) (e : Entry) → EndsAt bytes → entry ring.fsid (ring.place offset) bytes ≡ Some e → ⊥
ends_none ring offset bytes e ends h = ends (entry_magic_first _ _ bytes e h)

pub clean_drop : (bytes : List ℕ) (e : Entry) → IsClean bytes → IsClean (drop (size_of e) bytes)
clean_drop bytes e clean k h =
    let b = (length e.payload + 128 + 4095) / 4096 in
    let same : drop (4096 * k) (drop (size_of e) bytes) ≡ drop (4096 * (b + k)) bytes =
    drop-drop (4096 * k) (size_of e) bytes ∙ ap (λ (n : ℕ). drop n bytes) (omega (arith, need-blocks (length e.payload))) in
    clean (b + k) (sym (ap (take 8) same) ∙ h)

pub some_none : (x : Entry) (a : Option Entry) → a ≡ Some x → a ≡ None → ⊥
some_none x a h k = cc

pub same_entry : (x y : Entry) (a b : Option Entry) → a ≡ Some x → b ≡ Some y → a ≡ b → x ≡ y
same_entry x y a b h k e = cc

-- of what was written since the last sync, a front is read
unsynced : (ring : Ring) (offset seq low : ℕ) (es cs : List Entry) (before after image : List ℕ)
    → Stand ring offset seq low after es → IsClean before → EndsAt (drop (sizes es) after)
    → IsRead ring offset seq low image cs → NoChance ring offset before after image cs → Begins cs es
unsynced ring offset seq low es [] before after image stand clean free read fair = (es, refl)
unsynced ring offset seq low [] (c ∷ cs) before after image stand clean free read fair =
    let here = next_entry ring seq low _ c read.0 in
    absurd (⊎_elim (clean_none ring offset before c clean) (ends_none ring offset after c free) (fair.0 c here))
unsynced ring offset seq low (e ∷ es) (c ∷ cs) before after image stand clean free read fair =
    let here = next_entry ring seq low _ c read.0 in
    let there = next_entry ring seq low _ e stand.0 in
    let same : c ≡ e = ⊎_elim (λ was. absurd (clean_none ring offset before c clean was)) (λ now. same_entry c e _ _ now there refl) (fair.0 c here) in
    let P : Entry → Type 0 = λ x. IsRead ring (offset + size_of x) (seq + 1) x.epoch (drop (size_of x) image) cs in
    let Q : Entry → Type 0 = λ x. NoChance ring (offset + size_of x) (drop (size_of x) before) (drop (size_of x) after) (drop (size_of x) image) cs in
    let rest = unsynced ring (offset + size_of e) (seq + 1) e.epoch es cs (drop (size_of e) before) (drop (size_of e) after) (drop (size_of e) image)
    stand.1 (clean_drop before e clean) (subst EndsAt (sym (drop-drop (sizes es) (size_of e) after)) free) (subst P same read.1) (subst Q same fair.1) in
    (rest.0, ap (λ (l : List Entry). e ∷ l) rest.1 ∙ ap (λ (x : Entry). x ∷ (cs ++ rest.0)) (sym same))

-- the bytes of an entry, and those behind it, where a front is the same
pub front_same : (a b : ℕ) (xs ys : List ℕ) → take (a + b) xs ≡ take (a + b) ys → take a xs ≡ take a ys
front_same a b xs ys h = sym (take-take a (a + b) xs (omega arith)) ∙ ap (take a) h ∙ take-take a (a + b) ys (omega arith)

pub back_same : (a b : ℕ) (xs ys : List ℕ) → take (a + b) xs ≡ take (a + b) ys → take b (drop a xs) ≡ take b (drop a ys)
back_same a b xs ys h = sym (drop-take a b xs) ∙ ap (drop a) h ∙ drop-take a b ys

-- What an image reads as, where the synced entries stand in it: all of them, and a front of the others.
pub after_crash : (ring : Ring) (offset seq low : ℕ) (fs es cs : List Entry) (before after image : List ℕ)
    → Stand ring offset seq low before fs → take (sizes fs) image ≡ take (sizes fs) before
    → Stand ring offset seq low after (fs ++ es)
    → IsClean (drop (sizes fs) before) → EndsAt (drop (sizes (fs ++ es)) after)
    → IsRead ring offset seq low image cs → NoChance ring offset before after image cs
    → Begins fs cs × Begins cs (fs ++ es)
after_crash ring offset seq low [] es cs before after image synced same stand clean free read fair =
    ((cs, refl), unsynced ring offset seq low es cs before after image stand clean free read fair)
after_crash ring offset seq low (f ∷ fs) es [] before after image synced same stand clean free read fair =
    let there = next_entry ring seq low _ f synced.0 in
    let here = entry_same ring.fsid (ring.place offset) before image f there (sym (front_same (size_of f) (sizes fs) image before same)) in
    let e : next ring offset seq low image ≡ next ring offset seq low before = ap (if_goes_on ring seq low) (here ∙ sym there) in
    absurd (some_none f (next ring offset seq low before) synced.0 (sym e ∙ read))
after_crash ring offset seq low (f ∷ fs) es (c ∷ cs) before after image synced same stand clean free read fair =
    let there = next_entry ring seq low _ f synced.0 in
    let here = entry_same ring.fsid (ring.place offset) before image f there (sym (front_same (size_of f) (sizes fs) image before same)) in
    let is : c ≡ f = same_entry c f _ _ (next_entry ring seq low _ c read.0) here refl in
    let P : Entry → Type 0 = λ x. IsRead ring (offset + size_of x) (seq + 1) x.epoch (drop (size_of x) image) cs in
    let Q : Entry → Type 0 = λ x. NoChance ring (offset + size_of x) (drop (size_of x) before) (drop (size_of x) after) (drop (size_of x) image) cs in
    let r = after_crash ring (offset + size_of f) (seq + 1) f.epoch fs es cs (drop (size_of f) before) (drop (size_of f) after) (drop (size_of f) image)
    synced.1 (back_same (size_of f) (sizes fs) image before same) stand.1
    (subst IsClean (sym (drop-drop (sizes fs) (size_of f) before)) clean) (subst EndsAt (sym (drop-drop (sizes (fs ++ es)) (size_of f) after)) free)
    (subst P is read.1) (subst Q is fair.1) in (
      (r.0.0, ap (λ (x : Entry). x ∷ cs) is ∙ ap (λ (l : List Entry). f ∷ l) r.0.1),
      (r.1.0, ap (λ (l : List Entry). f ∷ l) r.1.1 ∙ ap (λ (x : Entry). x ∷ (cs ++ r.1.0)) (sym is)),
    )

-- ---- the list that is read

is_read_by : (ring : Ring) (offset seq low : ℕ) (bytes : List ℕ) (more : Entry → List Entry) (o : Option Entry) → next ring offset seq low bytes ≡ o
    → ((e : Entry) → next ring offset seq low bytes ≡ Some e → IsRead ring (offset + size_of e) (seq + 1) e.epoch (drop (size_of e) bytes) (more e))
    → IsRead ring offset seq low bytes (elim o as (λ _. List Entry) [ None ↦ [] | Some e ↦ e ∷ more e ])
is_read_by ring offset seq low bytes more None h rest = h
is_read_by ring offset seq low bytes more (Some e) h rest = (h, rest e h)

pub read_is : (n : ℕ) (ring : Ring) (offset seq low : ℕ) (bytes : List ℕ) → length bytes < n → IsRead ring offset seq low bytes (read_from n ring offset seq low bytes)
unfolding read_from
read_is zero ring offset seq low bytes h = absurd (omega arith)
read_is (suc n) ring offset seq low bytes h =
    is_read_by ring offset seq low bytes (λ e. read_from n ring (offset + size_of e) (seq + 1) e.epoch (drop (size_of e) bytes)) (next ring offset seq low bytes) refl
    (λ e is.
    let room = entry_room ring.fsid (ring.place offset) bytes e (next_entry ring seq low _ e is) in
    let big = need-room (length e.payload) in
    read_is n ring (offset + size_of e) (seq + 1) e.epoch (drop (size_of e) bytes) (omega (arith, length-drop (size_of e) bytes)))

-- there is one such list
pub read_once : (ring : Ring) (offset seq low : ℕ) (bytes : List ℕ) (xs ys : List Entry) → IsRead ring offset seq low bytes xs → IsRead ring offset seq low bytes ys → xs ≡ ys
read_once ring offset seq low bytes [] [] h k = refl
read_once ring offset seq low bytes [] (y ∷ ys) h k = absurd (some_none y _ k.0 h)
read_once ring offset seq low bytes (x ∷ xs) [] h k = absurd (some_none x _ h.0 k)
read_once ring offset seq low bytes (x ∷ xs) (y ∷ ys) h k =
    let e : x ≡ y = same_entry x y _ _ h.0 k.0 refl in
    let P : Entry → Type 0 = λ z. IsRead ring (offset + size_of z) (seq + 1) z.epoch (drop (size_of z) bytes) xs in
    let rest = read_once ring (offset + size_of y) (seq + 1) y.epoch (drop (size_of y) bytes) xs ys (subst P e h.1) k.1 in
    ap (λ (z : Entry). z ∷ xs) e ∙ ap (λ (l : List Entry). y ∷ l) rest

-- ---- what stands

pub stand_same : (ring : Ring) (offset seq low : ℕ) (xs ys : List ℕ) (es : List Entry) → take (sizes es) xs ≡ take (sizes es) ys → Stand ring offset seq low xs es → Stand ring offset seq low ys es
stand_same ring offset seq low xs ys [] e h = tt
stand_same ring offset seq low xs ys (c ∷ cs) e h =
    let there = next_entry ring seq low _ c h.0 in
    let here = entry_same ring.fsid (ring.place offset) xs ys c there (front_same (size_of c) (sizes cs) xs ys e) in
    (ap (if_goes_on ring seq low) (here ∙ sym there) ∙ h.0, stand_same ring (offset + size_of c) (seq + 1) c.epoch (drop (size_of c) xs) (drop (size_of c) ys) cs (back_same (size_of c) (sizes cs) xs ys e) h.1)

pub next_none : (ring : Ring) (offset seq low : ℕ) (bytes : List ℕ) → EndsAt bytes → next ring offset seq low bytes ≡ None
next_none ring offset seq low bytes ends =
    ap (if_goes_on ring seq low) (not_some (entry ring.fsid (ring.place offset) bytes) (λ e h. ends_none ring offset bytes e ends h))

-- what stands, where nothing follows, is what is read
pub stand_read : (ring : Ring) (offset seq low : ℕ) (bytes : List ℕ) (es : List Entry) → Stand ring offset seq low bytes es → EndsAt (drop (sizes es) bytes) → IsRead ring offset seq low bytes es
stand_read ring offset seq low bytes [] h ends = next_none ring offset seq low bytes ends
stand_read ring offset seq low bytes (e ∷ es) h ends =
    (h.0, stand_read ring (offset + size_of e) (seq + 1) e.epoch (drop (size_of e) bytes) es h.1 (subst EndsAt (sym (drop-drop (sizes es) (size_of e) bytes)) ends))

pub some_on : (ring : Ring) (seq low : ℕ) (o : Option Entry) (e : Entry) → if_goes_on ring seq low o ≡ Some e → goes_on ring seq low e ≡ true
some_on ring seq low None e h = absurd (cc)
some_on ring seq low (Some x) e h =
    let p = cond_true (goes_on ring seq low x) x e h in subst (λ (y : Entry). goes_on ring seq low y ≡ true) p.1 p.0

top_low : (ring : Ring) (seq low : ℕ) (e : Entry) → goes_on ring seq low e ≡ true → e.epoch ≤ ring.top
top_low ring seq low e h =
    let a = and_parts _ _ h in
    let b = and_parts _ _ a.1 in
    let c = and_parts _ _ b.1 in
    leb-true _ _ c.0

-- an entry of the header's epoch and the next number goes on behind what stands
pub stand_more : (ring : Ring) (offset seq low : ℕ) (bytes : List ℕ) (xs : List Entry) (e : Entry)
    → low ≤ ring.top → Stand ring offset seq low bytes xs → e.seq ≡ seq + length xs → e.epoch ≡ ring.top → e.seq < 2 ^ 63
    → entry ring.fsid (ring.place (offset + sizes xs)) (drop (sizes xs) bytes) ≡ Some e → Stand ring offset seq low bytes (xs ++ e ∷ [])
stand_more ring offset seq low bytes [] e top h number epoch small is =
    let here : entry ring.fsid (ring.place offset) bytes ≡ Some e = ap (λ (k : ℕ). entry ring.fsid (ring.place k) bytes) (sym (add-zero offset)) ∙ is in
    let number1 : e.seq ≡ seq = omega arith in
    let on : goes_on ring seq low e ≡ true = and_from _ _ ((Decides-eqb e.seq seq).1 number1) (and_from _ _ (le-leb low e.epoch (omega arith)) (and_from _ _ (le-leb e.epoch ring.top (omega arith)) (lt-ltb seq (2 ^ 63) (omega (arith, small, number1))))) in
    (ap (if_goes_on ring seq low) here ∙ cond-true _ _ _ on, tt)
stand_more ring offset seq low bytes (x ∷ xs) e top h number epoch small is =
    let high : x.epoch ≤ ring.top = top_low ring seq low x (some_on ring seq low _ x h.0) in
    let number2 : e.seq ≡ seq + 1 + length xs = omega arith in
    let along : offset + size_of x + sizes xs ≡ offset + (size_of x + sizes xs) = omega arith in (
      h.0,
      stand_more ring (offset + size_of x) (seq + 1) x.epoch (drop (size_of x) bytes) xs e high h.1 number2 epoch small
          (ap (λ (k : ℕ). entry ring.fsid (ring.place k) (drop (sizes xs) (drop (size_of x) bytes))) along ∙ ap (entry ring.fsid (ring.place (offset + (size_of x + sizes xs)))) (drop-drop (sizes xs) (size_of x) bytes) ∙ is),
    )

pub sizes-append : (xs ys : List Entry) → sizes (xs ++ ys) ≡ sizes xs + sizes ys
sizes-append [] ys = omega arith
sizes-append (x ∷ xs) ys = omega (arith, sizes-append xs ys)
