-- The same under the weakest premise on the free space: where a reader may look, nothing goes on.
use Rattle.std.proofs.Common.{◌≡◌, ◌⊎◌, inl, inr, ⊎_elim, ℕ, ◌+◌, List, [], ◌∷◌, ◌++◌, take, drop, refl, sym, ◌∙◌, ap, subst}
use Rattle.std.specs.Prelude.{Some}
use Rattle.std.proofs.lemmas.Bool.{cond-true}
use Rattle.ring_frame.specs.Frame.{Entry, size_of}
use Rattle.ring_frame.proofs.Facts.{entry_same}
use Rattle.ring_images.specs.Readable.{Ring, if_goes_on, next, IsRead, IsClean, EntryOf, NoChance, sizes, Begins}
use Rattle.ring_images.proofs.Linear.{next_entry, some_on, some_none, same_entry, front_same, back_same, clean_drop, next_none}
use Rattle.ring_images.specs.Silent.{Silent, SilentAfter}

-- a clean space is silent
pub silent_clean : (ring : Ring) (offset seq low : ℕ) (before : List ℕ) (es : List Entry) → IsClean before → Silent ring offset seq low before es
silent_clean ring offset seq low before [] clean = next_none ring offset seq low before (λ e. clean 0 e)
silent_clean ring offset seq low before (e ∷ es) clean =
    (next_none ring offset seq low before (λ k. clean 0 k), silent_clean ring (offset + size_of e) (seq + 1) e.epoch (drop (size_of e) before) es (clean_drop before e clean))

-- an entry that the image goes on with goes on before the writes or after them
goes_either : (ring : Ring) (offset seq low : ℕ) (before after image : List ℕ) (c : Entry) → next ring offset seq low image ≡ Some c → EntryOf ring offset before after image
    → (next ring offset seq low before ≡ Some c) ⊎ (next ring offset seq low after ≡ Some c)
goes_either ring offset seq low before after image c read fair =
    let on = some_on ring seq low _ c read in
    let so : if_goes_on ring seq low (Some c) ≡ Some c = cond-true _ _ _ on in
    ⊎_elim (λ w. inl (ap (if_goes_on ring seq low) w ∙ so)) (λ w. inr (ap (if_goes_on ring seq low) w ∙ so)) (fair c (next_entry ring seq low _ c read))

unsynced_silent : (ring : Ring) (offset seq low : ℕ) (es cs : List Entry) (before after image : List ℕ)
    → IsRead ring offset seq low after es → Silent ring offset seq low before es
    → IsRead ring offset seq low image cs → NoChance ring offset before after image cs → Begins cs es
unsynced_silent ring offset seq low es [] before after image stand silent read fair = (es, refl)
unsynced_silent ring offset seq low [] (c ∷ cs) before after image stand silent read fair =
    absurd (⊎_elim (λ w. some_none c _ w silent) (λ w. some_none c _ w stand) (goes_either ring offset seq low before after image c read.0 fair.0))
unsynced_silent ring offset seq low (e ∷ es) (c ∷ cs) before after image stand silent read fair =
    let same : c ≡ e = ⊎_elim (λ w. absurd (some_none c _ w silent.0)) (λ w. same_entry c e _ _ w stand.0 refl) (goes_either ring offset seq low before after image c read.0 fair.0) in
    let P : Entry → Type 0 = λ x. IsRead ring (offset + size_of x) (seq + 1) x.epoch (drop (size_of x) image) cs in
    let Q : Entry → Type 0 = λ x. NoChance ring (offset + size_of x) (drop (size_of x) before) (drop (size_of x) after) (drop (size_of x) image) cs in
    let rest = unsynced_silent ring (offset + size_of e) (seq + 1) e.epoch es cs (drop (size_of e) before) (drop (size_of e) after) (drop (size_of e) image)
    stand.1 silent.1 (subst P same read.1) (subst Q same fair.1) in
    (rest.0, ap (λ (l : List Entry). e ∷ l) rest.1 ∙ ap (λ (x : Entry). x ∷ (cs ++ rest.0)) (sym same))

-- What an image reads as: all the synced entries, and a front of the others.
pub after_crash_silent : (ring : Ring) (offset seq low : ℕ) (fs es cs : List Entry) (before after image : List ℕ)
    → SilentAfter ring offset seq low before fs es → take (sizes fs) image ≡ take (sizes fs) before
    → IsRead ring offset seq low after (fs ++ es)
    → IsRead ring offset seq low image cs → NoChance ring offset before after image cs
    → Begins fs cs × Begins cs (fs ++ es)
after_crash_silent ring offset seq low [] es cs before after image synced same stand read fair =
    ((cs, refl), unsynced_silent ring offset seq low es cs before after image stand synced read fair)
after_crash_silent ring offset seq low (f ∷ fs) es [] before after image synced same stand read fair =
    let there = next_entry ring seq low _ f synced.0 in
    let here = entry_same ring.fsid (ring.place offset) before image f there (sym (front_same (size_of f) (sizes fs) image before same)) in
    let e : next ring offset seq low image ≡ next ring offset seq low before = ap (if_goes_on ring seq low) (here ∙ sym there) in
    absurd (some_none f (next ring offset seq low before) synced.0 (sym e ∙ read))
after_crash_silent ring offset seq low (f ∷ fs) es (c ∷ cs) before after image synced same stand read fair =
    let there = next_entry ring seq low _ f synced.0 in
    let here = entry_same ring.fsid (ring.place offset) before image f there (sym (front_same (size_of f) (sizes fs) image before same)) in
    let is : c ≡ f = same_entry c f _ _ (next_entry ring seq low _ c read.0) here refl in
    let P : Entry → Type 0 = λ x. IsRead ring (offset + size_of x) (seq + 1) x.epoch (drop (size_of x) image) cs in
    let Q : Entry → Type 0 = λ x. NoChance ring (offset + size_of x) (drop (size_of x) before) (drop (size_of x) after) (drop (size_of x) image) cs in
    let r = after_crash_silent ring (offset + size_of f) (seq + 1) f.epoch fs es cs (drop (size_of f) before) (drop (size_of f) after) (drop (size_of f) image)
    synced.1 (back_same (size_of f) (sizes fs) image before same) stand.1 (subst P is read.1) (subst Q is fair.1) in (
      (r.0.0, ap (λ (x : Entry). x ∷ cs) is ∙ ap (λ (l : List Entry). f ∷ l) r.0.1),
      (r.1.0, ap (λ (l : List Entry). f ∷ l) r.1.1 ∙ ap (λ (x : Entry). x ∷ (cs ++ r.1.0)) (sym is)),
    )
