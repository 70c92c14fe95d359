-- Taking back what was set.
use Rattle.std.proofs.Common.{◌≡◌, ℕ, true, Option, None, Some, List, [], ◌∷◌, ◌++◌, refl, sym, ap, subst, ◌∙◌}
use Rattle.std.specs.FinMap as map
use Rattle.fs_model.specs.declared.pair_map.Undo.{Undo}
use Rattle.fs_model.specs.Objects.{ByteMap}
use Rattle.fs_model.specs.Plain.{put_back, put_back_last, undone, IsUndoOf}
use Rattle.fs_model.proofs.Maps.{bytes_suit, insert-back, remove-back, has-inserted}

-- the last of a list is put back first
pub undone_last : (m : ByteMap) (us : List Undo) (u : Undo) → undone m (us ++ u ∷ []) ≡ undone (put_back_last u m) us
undone_last m [] u = refl
undone_last m (v ∷ us) u = ap (put_back_last v) (undone_last m us u)

pub is_undo_last : (m : ByteMap) (us : List Undo) (u : Undo) → IsUndoOf m (us ++ u ∷ []) → IsUndoOf (put_back_last u m) us × (map.contains_key m u.key ≡ true)
is_undo_last m [] u h = (tt, h.1)
is_undo_last m (v ∷ us) u h =
    let rest = is_undo_last m us u h.0 in
    ((rest.0, ap (λ n. map.contains_key n v.key) (sym (undone_last m us u)) ∙ h.1), rest.1)

pub is_undo_more : (m : ByteMap) (us : List Undo) (u : Undo) → IsUndoOf (put_back_last u m) us → map.contains_key m u.key ≡ true → IsUndoOf m (us ++ u ∷ [])
is_undo_more m [] u h there = (tt, there)
is_undo_more m (v ∷ us) u h there =
    (is_undo_more m us u h.0 there, ap (λ n. map.contains_key n v.key) (undone_last m us u) ∙ h.1)

-- a name that was set gets back what it had
pub back : (m : ByteMap) (key value : List ℕ) (old : Option (List ℕ)) → old ≡ map.get m key → put_back (map.insert m key value) key old ≡ m
back m key value None is = remove-back bytes_suit m key value (sym is)
back m key value (Some w) is = insert-back bytes_suit m key value w (sym is)

pub back_noted : (m : ByteMap) (us : List Undo) (u : Undo) (value : List ℕ) → u.old ≡ map.get m u.key
    → undone (map.insert m u.key value) (us ++ u ∷ []) ≡ undone m us
back_noted m us u value is = undone_last _ us u ∙ ap (λ n. undone n us) (back m u.key value u.old is)

pub is_undo_noted : (m : ByteMap) (us : List Undo) (u : Undo) (value : List ℕ) → u.old ≡ map.get m u.key → IsUndoOf m us
    → IsUndoOf (map.insert m u.key value) (us ++ u ∷ [])
is_undo_noted m us u value is h =
    is_undo_more _ us u (subst (λ n. IsUndoOf n us) (sym (back m u.key value u.old is)) h) (has-inserted bytes_suit m u.key value)
