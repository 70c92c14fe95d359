-- How sets of collections change.
use Rattle.std.proofs.Common.{◌≡◌, Bool, true, false, not, ◌&&◌, ◌||◌, Option, None, Some, List, [], ◌∷◌, ◌++◌, refl, sym, ap, subst, ◌∙◌}
use Rattle.std.specs.List.{fold, list_any}
use Rattle.std.specs.Ordering.{eq_by_cmp}
use Rattle.std.specs.FinSet.{empty, insert, remove, contains, union, difference, intersection, from_list, contains-empty, contains-insert, contains-remove, contains-union, contains-difference, contains-intersection, contains-from_list, contains_tied, from_list_push, same_set}
use Rattle.fs_names.specs.declared.coll.Coll.{Coll}
use Rattle.fs_names.specs.Order.{coll_cmp, coll_cmp_total, coll_cmp-IsAntisymmetric}
use Rattle.fs_model.specs.declared.check.CollChange.{CollChange}
use Rattle.fs_model.specs.declared.op.Op.{Op}
use Rattle.fs_model.specs.Changes.{changed}
use Rattle.fs_model.specs.Check.{lacks, remakes, op_colls, is_missing}
use Rattle.fs_model.specs.Colls.{CollSet}
use Rattle.fs_model.specs.Named.{made, gone, few, first_and_second, colls_named, needed_by}
use Rattle.fs_model.proofs.Cells.{tie}

alike : (S U : CollSet) → ((q : Coll) → contains S q ≡ contains U q) → S ≡ U
alike S U e = same_set coll_cmp_total coll_cmp-IsAntisymmetric S U e

pub contains_changed : (S : CollSet) (d : CollChange) (q : Coll) → contains (changed S d) q ≡ ((contains S q || contains d.made q) && not (contains d.gone q))
contains_changed S d q =
    contains-difference coll_cmp_total (union S d.made) d.gone q
    ∙ ap (λ b. b && not (contains d.gone q)) (contains-union coll_cmp_total S d.made q)

make_bool : (s m g t : Bool) → ((s || (t || m)) && not (not t && g)) ≡ (t || ((s || m) && not g))
make_bool true m g true = refl
make_bool false m g true = refl
make_bool s m g false = refl

take_bool : (a g t : Bool) → (a && not (t || g)) ≡ (not t && (a && not g))
take_bool true g true = refl
take_bool false g true = refl
take_bool a g false = refl

module _ (S M G : CollSet) (c : Coll) where
  pub change-made : difference (union S (insert M c)) (remove G c) ≡ insert (difference (union S M) G) c
  change-made = alike _ _ (λ q.
      contains-difference coll_cmp_total (union S (insert M c)) (remove G c) q
      ∙ ap (λ b. b && not (contains (remove G c) q)) (contains-union coll_cmp_total S (insert M c) q ∙ ap (λ b. contains S q || b) (contains-insert coll_cmp_total M c q))
      ∙ ap (λ b. (contains S q || (eq_by_cmp coll_cmp q c || contains M q)) && not b) (contains-remove coll_cmp_total G c q)
      ∙ make_bool (contains S q) (contains M q) (contains G q) (eq_by_cmp coll_cmp q c)
      ∙ ap (λ b. eq_by_cmp coll_cmp q c || (b && not (contains G q))) (sym (contains-union coll_cmp_total S M q))
      ∙ ap (λ b. eq_by_cmp coll_cmp q c || b) (sym (contains-difference coll_cmp_total (union S M) G q))
      ∙ sym (contains-insert coll_cmp_total (difference (union S M) G) c q))

  pub change-gone : difference (union S M) (insert G c) ≡ remove (difference (union S M) G) c
  change-gone = alike _ _ (λ q.
      contains-difference coll_cmp_total (union S M) (insert G c) q
      ∙ ap (λ b. contains (union S M) q && not b) (contains-insert coll_cmp_total G c q)
      ∙ take_bool (contains (union S M) q) (contains G q) (eq_by_cmp coll_cmp q c)
      ∙ ap (λ b. not (eq_by_cmp coll_cmp q c) && b) (sym (contains-difference coll_cmp_total (union S M) G q))
      ∙ sym (contains-remove coll_cmp_total (difference (union S M) G) c q))

pub no_change : (S : CollSet) → difference (union S empty) empty ≡ S
no_change S = alike _ _ (λ q.
    contains-difference coll_cmp_total (union S empty) empty q
    ∙ ap (λ b. b && not (contains (empty {R = coll_cmp}) q)) (contains-union coll_cmp_total S empty q)
    ∙ ap (λ b. (contains S q || b) && not b) (contains-empty coll_cmp q)
    ∙ none (contains S q))
  where
    none : (s : Bool) → ((s || false) && true) ≡ s
    none true = refl
    none false = refl

-- what an operation needs, makes and takes away
pub or_false : (b : Bool) → b ≡ (b || false)
or_false true = refl
or_false false = refl

pub lacks_none : (S : CollSet) (op : Op) (c : Coll) → few (Some c) ≡ made op → false ≡ lacks S op
lacks_none S op c is = ap (λ m. list_any (is_missing S) (needed_by m (colls_named op))) is

pub lacks_some : (S : CollSet) (op : Op) (p : Coll × Option Coll) → few None ≡ made op → first_and_second p ≡ colls_named op
    → list_any (is_missing S) (first_and_second p) ≡ lacks S op
lacks_some S op p none is =
    ap (list_any (is_missing S)) is ∙ ap (λ m. list_any (is_missing S) (needed_by m (colls_named op))) none

pub remakes_none : (S : CollSet) (op : Op) → few None ≡ made op → false ≡ remakes S op
remakes_none S op is = ap (list_any (contains S)) is

pub remakes_some : (S : CollSet) (op : Op) (c : Coll) → few (Some c) ≡ made op → contains S c ≡ remakes S op
remakes_some S op c is = or_false (contains S c) ∙ ap (list_any (contains S)) is

pub followed : (S : CollSet) (op : Op) (m g : Option Coll) → few m ≡ made op → few g ≡ gone op
    → fold remove (fold insert S (few m)) (few g) ≡ op_colls S op
followed S op m g is_made is_gone = ap (λ l. fold remove (fold insert S l) (few g)) is_made ∙ ap (λ l. fold remove (fold insert S (made op)) l) is_gone

-- collections taken one by one
pub removed_more : (S : CollSet) (ys : List Coll) (c : Coll) → remove (difference S (from_list ys)) c ≡ difference S (from_list (ys ++ c ∷ []))
removed_more S ys c = alike _ _ (λ q.
    contains-remove coll_cmp_total (difference S (from_list ys)) c q
    ∙ ap (λ b. not (eq_by_cmp coll_cmp q c) && b) (contains-difference coll_cmp_total S (from_list ys) q)
    ∙ sym (take_bool (contains S q) (contains (from_list {R = coll_cmp} ys) q) (eq_by_cmp coll_cmp q c))
    ∙ ap (λ b. contains S q && not b) (sym (contains-insert coll_cmp_total (from_list ys) c q) ∙ ap (λ X. contains X q) (sym (from_list_push coll_cmp_total coll_cmp-IsAntisymmetric ys c)))
    ∙ sym (contains-difference coll_cmp_total S (from_list (ys ++ c ∷ [])) q))

added_bool : (s t y : Bool) → (t || (s || y)) ≡ (s || (t || y))
added_bool true true y = refl
added_bool false true y = refl
added_bool true false y = refl
added_bool false false y = refl

pub added_more : (S : CollSet) (ys : List Coll) (c : Coll) → insert (union S (from_list ys)) c ≡ union S (from_list (ys ++ c ∷ []))
added_more S ys c = alike _ _ (λ q.
    contains-insert coll_cmp_total (union S (from_list ys)) c q
    ∙ ap (λ b. eq_by_cmp coll_cmp q c || b) (contains-union coll_cmp_total S (from_list ys) q)
    ∙ added_bool (contains S q) (eq_by_cmp coll_cmp q c) (contains (from_list {R = coll_cmp} ys) q)
    ∙ ap (λ b. contains S q || b) (sym (contains-insert coll_cmp_total (from_list ys) c q) ∙ ap (λ X. contains X q) (sym (from_list_push coll_cmp_total coll_cmp-IsAntisymmetric ys c)))
    ∙ sym (contains-union coll_cmp_total S (from_list (ys ++ c ∷ [])) q))

pub added_none : (S : CollSet) → S ≡ union S (from_list [])
added_none S = alike _ _ (λ q.
    or_false (contains S q) ∙ ap (λ b. contains S q || b) (sym (contains-from_list coll_cmp_total [] q))
    ∙ sym (contains-union coll_cmp_total S (from_list []) q))

pub removed_none : (S : CollSet) → S ≡ difference S (from_list [])
removed_none S = alike _ _ (λ q.
    and_true (contains S q) ∙ ap (λ b. contains S q && not b) (sym (contains-from_list coll_cmp_total [] q))
    ∙ sym (contains-difference coll_cmp_total S (from_list []) q))
  where
    and_true : (b : Bool) → b ≡ (b && true)
    and_true true = refl
    and_true false = refl

-- what is added is not there before, and no more than what is asked
apart_bool : (s m : Bool) → (s && (m && not s)) ≡ false
apart_bool true true = refl
apart_bool true false = refl
apart_bool false m = refl

pub apart : (S M : CollSet) → intersection S (difference M S) ≡ empty
apart S M = alike _ _ (λ q.
    contains-intersection coll_cmp_total S (difference M S) q
    ∙ ap (λ b. contains S q && b) (contains-difference coll_cmp_total M S q)
    ∙ apart_bool (contains S q) (contains M q) ∙ sym (contains-empty coll_cmp q))

rest_bool : (s m : Bool) → (s || (m && not s)) ≡ (s || m)
rest_bool true m = refl
rest_bool false true = refl
rest_bool false false = refl

pub added_rest : (S M : CollSet) → union S (difference M S) ≡ union S M
added_rest S M = alike _ _ (λ q.
    contains-union coll_cmp_total S (difference M S) q
    ∙ ap (λ b. contains S q || b) (contains-difference coll_cmp_total M S q)
    ∙ rest_bool (contains S q) (contains M q) ∙ sym (contains-union coll_cmp_total S M q))

any_append : {A : Type 0} (p : A → Bool) (xs ys : List A) → list_any p (xs ++ ys) ≡ (list_any p xs || list_any p ys)
any_append p [] ys = refl
any_append p (x ∷ xs) ys = ap (λ b. p x || b) (any_append p xs ys) ∙ or_assoc (p x) (list_any p xs) (list_any p ys)
  where
    or_assoc : (a b d : Bool) → (a || (b || d)) ≡ ((a || b) || d)
    or_assoc true b d = refl
    or_assoc false b d = refl

back_bool : (s y r : Bool) → (s && (y || r)) ≡ false → ((s || y) && not (y || r)) ≡ s
back_bool true true r h = absurd (cc)
back_bool true false true h = absurd (cc)
back_bool true false false h = refl
back_bool false true r h = refl
back_bool false false r h = refl

-- some of the collections of a list were added, none of which was there, and all of the list are taken away
pub taken_back : (S L : CollSet) (ys rest : List Coll) → intersection S L ≡ empty → L ≡ from_list (ys ++ rest) → difference (union S (from_list ys)) L ≡ S
taken_back S L ys rest none is = alike _ _ (λ q.
    let y = list_any (eq_by_cmp coll_cmp q) ys in
    let r = list_any (eq_by_cmp coll_cmp q) rest in
    let inside : contains L q ≡ (y || r) = ap (λ X. contains X q) is ∙ contains-from_list coll_cmp_total (ys ++ rest) q ∙ any_append (eq_by_cmp coll_cmp q) ys rest in
    let never : (contains S q && (y || r)) ≡ false =
    ap (λ b. contains S q && b) (sym inside) ∙ sym (contains-intersection coll_cmp_total S L q) ∙ ap (λ X. contains X q) none ∙ contains-empty coll_cmp q in
    contains-difference coll_cmp_total (union S (from_list ys)) L q
    ∙ ap (λ b. b && not (contains L q)) (contains-union coll_cmp_total S (from_list ys) q ∙ ap (λ b. contains S q || b) (contains-from_list coll_cmp_total ys q))
    ∙ ap (λ b. (contains S q || y) && not b) inside
    ∙ back_bool (contains S q) y r never)

-- what a set lacks of a list, one by one
pub lacked_none : (S : CollSet) → empty ≡ difference (from_list []) S
lacked_none S = alike _ _ (λ q.
    contains-empty coll_cmp q ∙ sym (contains-difference coll_cmp_total (from_list []) S q ∙ ap (λ b. b && not (contains S q)) (contains-from_list coll_cmp_total [] q)))

more_bool : (s y t : Bool) → (t ≡ true → s ≡ false) → (t || (y && not s)) ≡ ((t || y) && not s)
more_bool true y true h = absurd (no (h refl))
  where
    no : true ≡ false → ⊥
    no e = cc
more_bool false y true h = refl
more_bool s y false h = refl

same_coll_has : (S : CollSet) (c q : Coll) (b : Bool) → contains S c ≡ b → eq_by_cmp coll_cmp q c ≡ true → contains S q ≡ b
same_coll_has S c q b is t = ap (contains S) (coll_cmp-IsAntisymmetric q c (tie _ t)) ∙ is

pushed : (ys : List Coll) (c q : Coll) → contains (from_list {R = coll_cmp} (ys ++ c ∷ [])) q ≡ (eq_by_cmp coll_cmp q c || contains (from_list {R = coll_cmp} ys) q)
pushed ys c q = ap (λ X. contains X q) (from_list_push coll_cmp_total coll_cmp-IsAntisymmetric ys c) ∙ contains-insert coll_cmp_total (from_list ys) c q

pub lacked_more : (S : CollSet) (ys : List Coll) (c : Coll) → contains S c ≡ false → insert (difference (from_list ys) S) c ≡ difference (from_list (ys ++ c ∷ [])) S
lacked_more S ys c out = alike _ _ (λ q.
    contains-insert coll_cmp_total (difference (from_list ys) S) c q
    ∙ ap (λ b. eq_by_cmp coll_cmp q c || b) (contains-difference coll_cmp_total (from_list ys) S q)
    ∙ more_bool (contains S q) (contains (from_list {R = coll_cmp} ys) q) (eq_by_cmp coll_cmp q c) (same_coll_has S c q false out)
    ∙ ap (λ b. b && not (contains S q)) (sym (pushed ys c q))
    ∙ sym (contains-difference coll_cmp_total (from_list (ys ++ c ∷ [])) S q))

less_bool : (s y t : Bool) → (t ≡ true → s ≡ true) → (y && not s) ≡ ((t || y) && not s)
less_bool true true true h = refl
less_bool true false true h = refl
less_bool false y true h = absurd (no (h refl))
  where
    no : false ≡ true → ⊥
    no e = cc
less_bool s y false h = refl

pub lacked_same : (S : CollSet) (ys : List Coll) (c : Coll) → contains S c ≡ true → difference (from_list ys) S ≡ difference (from_list (ys ++ c ∷ [])) S
lacked_same S ys c inside = alike _ _ (λ q.
    contains-difference coll_cmp_total (from_list ys) S q
    ∙ less_bool (contains S q) (contains (from_list {R = coll_cmp} ys) q) (eq_by_cmp coll_cmp q c) (same_coll_has S c q true inside)
    ∙ ap (λ b. b && not (contains S q)) (sym (pushed ys c q))
    ∙ sym (contains-difference coll_cmp_total (from_list (ys ++ c ∷ [])) S q))
