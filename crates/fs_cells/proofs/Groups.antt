-- Transactions keep to the cells of their groups.
use Rattle.std.proofs.Common.{◌≡◌, ◌⊎◌, inl, inr, ℕ, zero, suc, Bool, true, false, ◌||◌, List, [], ◌∷◌, ◌++◌, map, length, get_or, ◌<◌, refl, sym, subst, arith}
use Rattle.std.specs.List.{list_any, flat_map, Contains}
use Rattle.std.proofs.lemmas.List.Folds.{Any-from_list_any}
use Rattle.fs_names.specs.declared.coll.Coll.{Coll}
use Rattle.fs_names.specs.declared.coll.GroupId.{GroupId}
use Rattle.fs_names.specs.Groups.{group_of}
use Rattle.fs_model.specs.declared.op.Op.{Op}
use Rattle.fs_model.specs.Named.{colls_named, groups_of}
use Rattle.turn_core.specs.Groups.{same, among}
use Rattle.turn_core.proofs.Places.{same_is}
use Rattle.slot_laws.specs.History.{idle_op, OpWithin}
use Rattle.fs_cells.specs.declared.cell.Cell.{Cell}
use Rattle.fs_cells.specs.Actions.{in_coll, act_of}
use Rattle.fs_cells.specs.Laws.{is_named}
use Rattle.fs_cells.specs.Standing.{group_at, txn_of, TxnsWithin, TxnsApart}
use Rattle.fs_cells.proofs.Looks.{is_coll}
use Rattle.fs_cells.proofs.Reading.{leaves_others, reads_own}

by_first : (a b : Bool) → a ≡ true → (a || b) ≡ true
by_first true b e = refl
by_first false b e = cc

by_second : (a b : Bool) → b ≡ true → (a || b) ≡ true
by_second true b e = refl
by_second false b e = e

-- what is true where it is false isn't
isnt_named : (a b : Bool) → (a ≡ true → b ≡ true) → b ≡ false → a ≡ false
isnt_named true b then e = let is : b ≡ true = then refl in cc
isnt_named false b then e = refl

same_self : (g : GroupId) → same g g ≡ true
same_self g = grind arith

first_or_rest : (a b : Bool) → (a || b) ≡ true → (a ≡ true) ⊎ (b ≡ true)
first_or_rest true b e = inl refl
first_or_rest false b e = inr e

-- the group of a named collection's cell stands among the groups, whatever groups follow
pub first_among : (cs ds : List Coll) (x : Cell) → list_any (λ c. in_coll c x) cs ≡ true → among (map group_of (cs ++ ds)) (group_at x) ≡ true
first_among [] ds x e = cc
first_among (c ∷ cs) ds x e = by (first_or_rest (in_coll c x) (list_any (λ d. in_coll d x) cs) e) (λ rest. first_among cs ds x rest)
  where
    by : (in_coll c x ≡ true) ⊎ (list_any (λ d. in_coll d x) cs ≡ true) → (list_any (λ d. in_coll d x) cs ≡ true → among (map group_of (cs ++ ds)) (group_at x) ≡ true) → among (map group_of ((c ∷ cs) ++ ds)) (group_at x) ≡ true
    by (inl is) later = by_first _ _ (subst (λ (d : Coll). same (group_at x) (group_of d) ≡ true) (is_coll x.c c is) (same_self (group_at x)))
    by (inr rest) later = by_second (same (group_at x) (group_of c)) _ (later rest)

pub later_among : (cs ds : List Coll) (g : GroupId) → among (map group_of ds) g ≡ true → among (map group_of (cs ++ ds)) g ≡ true
later_among [] ds g e = e
later_among (c ∷ cs) ds g e = by_second (same g (group_of c)) _ (later_among cs ds g e)

each_within : (names : Cell → Bool) (ops : List Op) → ((x : Cell) → among (groups_of ops) (group_at x) ≡ true → names x ≡ true) → (k : ℕ) → OpWithin names (get_or (map act_of ops) k idle_op)
each_within names [] all k = record { leaves_others = λ x e. refl; reads_own = λ z y s. absurd s }
each_within names (op ∷ ops) all zero = record {
  leaves_others = λ x e. leaves_others op x (isnt_named (is_named op x) (names x) (named x) e);
  reads_own = λ z y s. named y (reads_own op z y s);
}
  where
    named : (x : Cell) → is_named op x ≡ true → names x ≡ true
    named x is = all x (first_among (colls_named op) (flat_map colls_named ops) x is)
each_within names (op ∷ ops) all (suc k) = each_within names ops (λ x is. all x (later_among (colls_named op) (flat_map colls_named ops) (group_at x) is)) k

pub txns_within : TxnsWithin
txns_within ops k = each_within (txn_of ops).names ops (λ x is. is) k

contained : (groups : List GroupId) (g : GroupId) → among groups g ≡ true → Contains groups g
contained groups g is = by (Any-from_list_any (same g) groups is)
  where
    by : (k : ℕ) × (h : GroupId) × (k < length groups) × (get_or groups k h ≡ h) × (same g h ≡ true) → Contains groups g
    by (k, h, lt, here, ties) = subst (λ (i : GroupId). Contains groups i) (sym (same_is g h ties)) (k, lt, here)

pub txns_apart : TxnsApart
txns_apart a b none x = by (among (groups_of a) (group_at x)) (among (groups_of b) (group_at x)) refl refl
  where
    by : (p q : Bool) → among (groups_of a) (group_at x) ≡ p → among (groups_of b) (group_at x) ≡ q → ((txn_of a).names x ≡ false) ⊎ ((txn_of b).names x ≡ false)
    by false q one two = inl one
    by true false one two = inr two
    by true true one two = absurd (none (group_at x, contained (groups_of a) (group_at x) one, contained (groups_of b) (group_at x) two))
