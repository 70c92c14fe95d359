-- What the code tests is what the actions say.
use Rattle.std.proofs.Common.{◌≡◌, ℕ, ◌-◌, Bool, true, false, cond, ◌&&◌, ◌||◌, List, [], ◌∷◌, Option, Some, None, is_some, refl, arith}
use Rattle.std.proofs.lemmas.Bool.Decides.{nat_tests}
use Rattle.std.specs.Prelude.{nat_lt, nat_le}
use Rattle.std.specs.List.{list_any}
use Rattle.std.specs.Option.{option_or}
use Rattle.std.specs.Ordering.{eq_by_cmp}
use Rattle.fs_names.specs.declared.coll.Coll.{Coll}
use Rattle.fs_names.specs.Order.{coll_cmp, coll_field_cmp, coll_cmp_total, coll_field_cmp_total, coll_cmp-IsAntisymmetric, coll_field_cmp-IsAntisymmetric, same_ties}
use Rattle.fs_model.specs.declared.pair.Pair.{Pair}
use Rattle.replay_laws.specs.Replay.{leaves}
use Rattle.fs_cells.specs.declared.cell.Act.TheVariants.{Leaves, Sets}
use Rattle.fs_cells.specs.Parts.{CellAct, same_bytes, value_in, set_to, gone_if, is_within}
use Rattle.fs_cells.specs.Actions.{kind}

pub coll_tie : (a b : Coll) → eq_by_cmp coll_field_cmp a b ≡ eq_by_cmp coll_cmp a b
coll_tie a b = same_ties coll_field_cmp_total coll_cmp_total coll_field_cmp-IsAntisymmetric coll_cmp-IsAntisymmetric a b

pub in_place : (at len place : ℕ) → (nat_le at place && nat_lt (place - at) len) ≡ is_within at len place
in_place at len place = grind (arith, nat_tests)

pub kind_if : (t : Bool) (a : CellAct) → kind (cond t a leaves) ≡ cond t (kind a) Leaves
kind_if true a = refl
kind_if false a = refl

pub kind_gone : (t : Bool) → kind (gone_if t) ≡ cond t Sets Leaves
kind_gone true = refl
kind_gone false = refl

pub kind_set : (v : Option (List ℕ)) → kind (set_to v) ≡ cond (is_some v) Sets Leaves
kind_set None = refl
kind_set (Some v) = refl

one_more : (v : Option (List ℕ)) (t others : Bool) (w : List ℕ) → kind (set_to v) ≡ cond others Sets Leaves
    → kind (set_to (option_or v (cond t (Some w) None))) ≡ cond (t || others) Sets Leaves
one_more None true others w is = refl
one_more None false others w is = is
one_more (Some v) true others w is = refl
one_more (Some v) false others w is = is

-- a key is set where the list has a pair of it
pub kind_set_by : (pairs : List Pair) (k : List ℕ) → kind (set_to (value_in pairs k)) ≡ cond (list_any (λ p. same_bytes k p.key) pairs) Sets Leaves
kind_set_by [] k = refl
kind_set_by (p ∷ pairs) k = one_more (value_in pairs k) (same_bytes k p.key) (list_any (λ q. same_bytes k q.key) pairs) p.value (kind_set_by pairs k)

pub ruleset kinds = (kind_if, kind_gone, kind_set, kind_set_by)
