use Rattle.std.proofs.Common.{◌≡◌, List, ◌∷◌, [], ◌++◌, ℕ, sym, ap, ◌∙◌, append_assoc}
use Rattle.fs_names.specs.Text.{name_text, field_text, snap_text, hash_text, pool_text}
use Rattle.fs_names.proofs.OidLaw.{text_joined}
use Rattle.fs_names.proofs.oid_text.encode_oid.Goals as goal

-- a field that is spelled after `_`
spelled_after : (old with_mark more field : List ℕ) → with_mark ≡ old ++ 95 ∷ [] → more ≡ with_mark ++ field → more ≡ old ++ 95 ∷ field
spelled_after old with_mark more field mark e = e ∙ ap (λ l. l ++ field) mark ∙ append_assoc old (95 ∷ []) field

pub returns : goal.returns
returns c =
    let o = c.args.oid.now in
    let one = c.spell_name.new.out.items in
    let two = c.spell_field.new.out.items in
    let three = c.push_field.new.text.items in
    let four = c.push_field-2.new.text.items in
    let five = c.spell_field-2.new.out.items in
    let name : one ≡ name_text o.name = c.in_ok-spell_name.ensures ∙ ap (λ l. l ++ name_text c.bytes.result.now) c.in_ok-bytes.ensures.items ∙ ap name_text c.bytes.ensures.value in
    let key : two ≡ one ++ 95 ∷ field_text o.key =
    spelled_after one c.push.new.self.items two (field_text c.bytes-2.result.now) c.in_ok-push.ensures.items c.in_ok-spell_field.ensures ∙ ap (λ l. one ++ 95 ∷ field_text l) c.bytes-2.ensures.value in
    let snap : three ≡ two ++ 95 ∷ snap_text o.snap = c.in_ok-push_field.ensures ∙ ap (λ l. two ++ 95 ∷ l) (c.slice.ensures.value ∙ c.of_snap-snap.ensures) in
    let hash : four ≡ three ++ 95 ∷ hash_text o.hash = c.in_ok-push_field-2.ensures ∙ ap (λ l. three ++ 95 ∷ l) c.hash_text.ensures in
    let nspace : five ≡ four ++ 95 ∷ field_text o.nspace =
    spelled_after four c.push-2.new.self.items five (field_text c.bytes-3.result.now) c.in_ok-push-2.ensures.items c.in_ok-spell_field-2.ensures ∙ ap (λ l. four ++ 95 ∷ field_text l) c.bytes-3.ensures.value in
    let pool : c.push_field-3.new.text.items ≡ five ++ 95 ∷ pool_text o.pool = c.in_ok-push_field-3.ensures ∙ ap (λ l. five ++ 95 ∷ l) (c.slice-2.ensures.value ∙ c.of_pool-pool.ensures) in
    pool ∙ ap (λ l. l ++ 95 ∷ pool_text o.pool) (nspace ∙ ap (λ l. l ++ 95 ∷ field_text o.nspace) (hash ∙ ap (λ l. l ++ 95 ∷ hash_text o.hash)
    (snap ∙ ap (λ l. l ++ 95 ∷ snap_text o.snap) (key ∙ ap (λ l. l ++ 95 ∷ field_text o.key) name)))) ∙ sym (text_joined o)
