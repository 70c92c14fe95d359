-- Collections that are made one after the other.
use Rattle.std.proofs.Common.{◌≡◌, ℕ, ◌+◌, ◌<◌, List, length, take, get_or, sym, ◌∙◌, ap, Result, Ok, Err, OnOk}
use Rattle.std.proofs.lemmas.List.{take_more}
use Rattle.std.specs.FinMap as map
use Rattle.std.specs.FinSet as set
use Rattle.fs_names.specs.declared.coll.Coll.{Coll}
use Rattle.fs_names.specs.Order.{coll_cmp_total, coll_cmp-IsAntisymmetric}
use Rattle.fs_model.specs.declared.op.Op.{Op}
use Rattle.fs_model.specs.declared.op.Op.TheVariants.{MkColl}
use Rattle.fs_model.specs.Objects.{Objects}
use Rattle.fs_model.specs.Colls.{CollSet, colls_of}
use Rattle.fs_model.specs.Check.{op_colls}
use Rattle.fs_model.specs.Rows.{row}

pub coll_made : {T E : Type 0} (r : Result T E) (O N : Objects) (c : Coll) → ((O : Objects) (op : Op) → colls_of (row O op) ≡ op_colls (colls_of O) op)
    → OnOk r (N ≡ row O (MkColl c)) → OnOk r (colls_of N ≡ set.insert (colls_of O) c)
coll_made (Ok x) O N c law is = ap colls_of is ∙ law O (MkColl c)
coll_made (Err e) O N c law is = tt

-- one more name
pub one_more : (names : List Coll) (i : ℕ) (c : Coll) (S T : CollSet) → i < length names → S ≡ set.from_list (take i names) → T ≡ set.insert S (get_or names i c)
    → T ≡ set.from_list (take (i + 1) names)
one_more names i c S T less before is =
    is ∙ ap (λ (s : CollSet). set.insert s (get_or names i c)) before
    ∙ sym (set.from_list_push coll_cmp_total coll_cmp-IsAntisymmetric (take i names) (get_or names i c))
    ∙ ap (λ (l : List Coll). let s : CollSet = set.from_list l in s) (sym (take_more names i c less))

-- the collections of objects, by their names
pub colls_are : (O : Objects) (names : List Coll) (S : CollSet) → names ≡ map.keys O → S ≡ set.from_list names → S ≡ colls_of O
unfolding colls_of
colls_are O names S is made = made ∙ ap (λ (l : List Coll). let s : CollSet = set.from_list l in s) is
