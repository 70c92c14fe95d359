-- The parts of a collection's text.
use Rattle.std.proofs.Common.{◌≡◌, ℕ, true, false, List, [], ◌++◌, codes, length, Option, Some, None, refl, sym, ap, ◌∙◌}
use Rattle.std.proofs.lemmas.List.{append_assoc}
use Rattle.std.specs.Fmt.{digits}
use Rattle.std.specs.List.{position_or_len, before_first, after_first}
use Rattle.fs_names.specs.declared.coll.Coll.TheVariants.{Pg}
use Rattle.fs_names.specs.Numbers.{number_of}
use Rattle.fs_names.specs.Text.{coll_text}
use Rattle.fs_names.specs.Reading.{pg_of, pg_from, seed_of, kind_of, is_dot, is_underscore}
use Rattle.fs_names.proofs.Splits.{after_none}

pub pg_from_no_kind : (pool seed : Option ℕ) → pg_from pool seed None ≡ None
pg_from_no_kind None seed = refl
pg_from_no_kind (Some p) None = refl
pg_from_no_kind (Some p) (Some s) = refl

pub has_kind : (text group pool seed kind : List ℕ) → group ≡ after_first is_dot text → pool ≡ before_first is_dot text
    → seed ≡ before_first is_underscore group → kind ≡ after_first is_underscore group
    → pg_of text ≡ pg_from (number_of 10 pool) (seed_of seed) (kind_of kind)
unfolding pg_of
has_kind text group pool seed kind g p s k =
    let whole : group ≡ after_first is_dot text = g in
    ap (λ l. pg_from (number_of 10 l) (seed_of (before_first is_underscore (after_first is_dot text))) (kind_of (after_first is_underscore (after_first is_dot text)))) (sym p)
    ∙ ap (λ l. pg_from (number_of 10 pool) (seed_of (before_first is_underscore l)) (kind_of (after_first is_underscore l))) (sym g)
    ∙ ap (λ l. pg_from (number_of 10 pool) (seed_of l) (kind_of (after_first is_underscore group))) (sym s)
    ∙ ap (λ l. pg_from (number_of 10 pool) (seed_of seed) (kind_of l)) (sym k)

pub no_kind : (text group : List ℕ) → group ≡ after_first is_dot text → position_or_len is_underscore group ≡ length group → pg_of text ≡ None
no_kind text group g none =
    has_kind text group _ _ _ g refl refl refl
    ∙ ap (λ l. pg_from (number_of 10 (before_first is_dot text)) (seed_of (before_first is_underscore group)) (kind_of l)) (after_none is_underscore group none)
    ∙ pg_from_no_kind _ _

pub no_group : (text : List ℕ) → position_or_len is_dot text ≡ length text → pg_of text ≡ None
no_group text none = no_kind text [] (sym (after_none is_dot text none)) refl

-- the text of a group's collection, as it is written
pub head_text : (pool seed : ℕ) → coll_text (Pg pool seed false) ≡ digits 10 false pool ++ (codes "." ++ (digits 16 false seed ++ codes "_head"))
unfolding coll_text
head_text pool seed = simp append_assoc

pub temp_text : (pool seed : ℕ) → coll_text (Pg pool seed true) ≡ digits 10 false pool ++ (codes "." ++ (digits 16 false seed ++ codes "_TEMP"))
unfolding coll_text
temp_text pool seed = simp append_assoc
