-- The entries of a directory.
use Rattle.std.proofs.Common.{◌≡◌, ℕ, suc, ◌+◌, ◌<◌, List, [], ◌∷◌, ◌++◌, length, take, get_or, map, true, false, cond, Option, Some, None, refl, sym, ◌∙◌, ap, subst, arith}
use Rattle.std.specs.List.{All, AllByRecursion, Contains}
use Rattle.std.specs.List.Sorted.{IsStrictlySortedBy}
use Rattle.std.specs.declared.cmp.Ordering.{Ordering}
use Rattle.std.specs.declared.cmp.Ordering.TheVariants.{Less, Equal, Greater}
use Rattle.std.specs.Ordering.{nat_cmp, ordering_then}
use Rattle.std.specs.Cmp.Lexicographic.{slice_cmp}
use Rattle.std.proofs.lemmas.List.{take_more, append-nil}
use Rattle.std.proofs.lemmas.List.Elements.{All-contains}
use Rattle.tree_api.specs.Tree.{Path, Version, Tree}
use Rattle.tree_api.specs.Answer.{kind_of, HaveSteps, IsListing}
use Rattle.tree_api.specs.declared.tree.Entry.{Entry}
use Rattle.tree_memory.specs.Paths.{path_cmp, same_path}
use Rattle.tree_memory.specs.Names.{find_name, IsBelow}
use Rattle.tree_memory.specs.declared.names.Name.{Name}
use Rattle.tree_memory.proofs.Orders.{same_path_is}
use Rattle.tree_memory.proofs.Rising.{rising_steps}
use Rattle.tree_memory.proofs.Lists.{all_head, all_tail, all_cons, all_nil}

-- the step of a path of one step
abbrev pub single : Path → Option (List ℕ)
single [] = None
single (s ∷ []) = Some s
single (s ∷ t ∷ p) = None

abbrev pub if_single : {A : Type 0} → Option (List ℕ) → (List ℕ → A) → List A → List A
if_single None f l = l
if_single (Some s) f l = f s ∷ l

abbrev pub listed : (ℕ → Version) → List Name → List Entry
listed node [] = []
listed node (x ∷ xs) = if_single (single x.rest) (λ s. record { step = x.rest; kind = kind_of (node x.node).dir }) (listed node xs)

steps_of : List Name → List (List ℕ)
steps_of [] = []
steps_of (x ∷ xs) = if_single (single x.rest) (λ s. s) (steps_of xs)

single_is : (p : Path) (s : List ℕ) → single p ≡ Some s → p ≡ s ∷ []
single_is [] s e = cc
single_is (t ∷ []) s e = let z : t ≡ s = cc in ap (λ x. x ∷ []) z
single_is (t ∷ u ∷ p) s e = cc

single_some : (p : Path) → length p ≡ 1 → (s : List ℕ) × (single p ≡ Some s)
single_some [] e = absurd (omega arith)
single_some (s ∷ []) e = (s, refl)
single_some (s ∷ t ∷ p) e = absurd (omega arith)

pub single_none : (p : Path) → (length p ≡ 1 → ⊥) → single p ≡ None
single_none [] not = refl
single_none (s ∷ []) not = absurd (not refl)
single_none (s ∷ t ∷ p) not = refl

have : (node : ℕ → Version) (l : List Name) → HaveSteps (listed node l) (steps_of l)
unfolding steps_of
have node [] = tt
have node (x ∷ xs) = elim (single x.rest) as (λ o. single x.rest ≡ o → HaveSteps (if_single o (λ s. record { step = x.rest; kind = kind_of (node x.node).dir }) (listed node xs)) (if_single o (λ s. s) (steps_of xs))) [
  | None ↦ λ e. have node xs
  | Some s ↦ λ e. (single_is x.rest s e, have node xs)
] refl

less_of : (o : Ordering) → ordering_then o Equal ≡ Less → o ≡ Less
less_of Less e = refl
less_of Equal e = e
less_of Greater e = e

less_steps : (s : List ℕ) (l : List Name) → AllByRecursion (λ y. path_cmp (s ∷ []) y ≡ Less) (map (λ (x : Name). x.rest) l) → AllByRecursion (λ y. slice_cmp nat_cmp s y ≡ Less) (steps_of l)
unfolding steps_of
less_steps s [] all = tt
less_steps s (x ∷ xs) all = elim (single x.rest) as (λ o. single x.rest ≡ o → AllByRecursion (λ y. slice_cmp nat_cmp s y ≡ Less) (if_single o (λ u. u) (steps_of xs))) [
  | None ↦ λ e. less_steps s xs all.1
  | Some u ↦ λ e. (less_of (slice_cmp nat_cmp s u) (ap (path_cmp (s ∷ [])) (sym (single_is x.rest u e)) ∙ all.0), less_steps s xs all.1)
] refl

sorted_steps : (l : List Name) → IsStrictlySortedBy path_cmp (map (λ (x : Name). x.rest) l) → IsStrictlySortedBy (slice_cmp nat_cmp) (steps_of l)
unfolding steps_of IsStrictlySortedBy
sorted_steps [] s = tt
sorted_steps (x ∷ xs) s = elim (single x.rest) as (λ o. single x.rest ≡ o → IsStrictlySortedBy (slice_cmp nat_cmp) (if_single o (λ u. u) (steps_of xs))) [
  | None ↦ λ e. sorted_steps xs s.1
  | Some u ↦ λ e. (less_steps u xs (subst (λ (p : Path). AllByRecursion (λ y. path_cmp p y ≡ Less) (map (λ (x : Name). x.rest) xs)) (single_is x.rest u e) s.0), sorted_steps xs s.1)
] refl

abbrev IsEntry : Tree → Path → Entry → Type 0
IsEntry t dir e = (n : ℕ) × (length e.step ≡ 1) × (t.at (dir ++ e.step) ≡ Some n) × (e.kind ≡ kind_of (t.node n).dir)

all_entries : (t : Tree) (dir : Path) (l : List Name) → All (λ (x : Name). t.at (dir ++ x.rest) ≡ Some x.node) l → All (IsEntry t dir) (listed t.node l)
all_entries t dir [] each = all_nil (IsEntry t dir)
all_entries t dir (x ∷ xs) each =
    let rest = all_entries t dir xs (all_tail (λ (y : Name). t.at (dir ++ y.rest) ≡ Some y.node) x xs each) in
    elim (single x.rest) as (λ o. single x.rest ≡ o → All (IsEntry t dir) (if_single o (λ s. record { step = x.rest; kind = kind_of (t.node x.node).dir }) (listed t.node xs))) [
      | None ↦ λ e. rest
      | Some s ↦ λ e. all_cons (IsEntry t dir) (record { step = x.rest; kind = kind_of (t.node x.node).dir }) (listed t.node xs)
          (x.node, ap length (single_is x.rest s e), all_head (λ (y : Name). t.at (dir ++ y.rest) ≡ Some y.node) x xs each, refl) rest
    ] refl

contains_head : (e x : Entry) (es : List Entry) → x ≡ e → Contains (x ∷ es) e
contains_head e x es is = (0, omega arith, is)

contains_tail : (e x : Entry) (es : List Entry) → Contains es e → Contains (x ∷ es) e
contains_tail e x es c = (suc c.0, omega (arith, c.1), c.2)

listed_has : (node : ℕ → Version) (l : List Name) (e : Entry) (n : ℕ) → length e.step ≡ 1 → find_name l e.step ≡ Some n → e.kind ≡ kind_of (node n).dir → Contains (listed node l) e
listed_has node [] e n one found kind = cc
listed_has node (x ∷ xs) e n one found kind =
    elim (same_path e.step x.rest) as (λ b. same_path e.step x.rest ≡ b → cond b (Some x.node) (find_name xs e.step) ≡ Some n → Contains (listed node (x ∷ xs)) e) [
      | true ↦ λ same is.
          let step : e.step ≡ x.rest = same_path_is e.step x.rest same in
          let number : x.node ≡ n = cc in
          let there = single_some x.rest (ap length (sym step) ∙ one) in
          let entry : record { step = x.rest; kind = kind_of (node x.node).dir } ≡ e = λ i. record { step = sym step i; kind = (ap (λ (m : ℕ). kind_of (node m).dir) number ∙ sym kind) i } in
          subst (λ (o : Option (List ℕ)). Contains (if_single o (λ s. record { step = x.rest; kind = kind_of (node x.node).dir }) (listed node xs)) e) (sym there.1)
          (contains_head e (record { step = x.rest; kind = kind_of (node x.node).dir }) (listed node xs) entry)
      | false ↦ λ same is.
          let rest = listed_has node xs e n one is kind in
          elim (single x.rest) as (λ o. Contains (if_single o (λ s. record { step = x.rest; kind = kind_of (node x.node).dir }) (listed node xs)) e) [
            | None ↦ rest
            | Some s ↦ contains_tail e (record { step = x.rest; kind = kind_of (node x.node).dir }) (listed node xs) rest
          ]
    ] refl found

pub is_listing : (t : Tree) (dir : Path) (l : List Name) (es : List Entry) → IsBelow t.at dir l → es ≡ listed t.node l → IsListing t dir es
is_listing t dir l es below is = subst (IsListing t dir) (sym is) (record {
  steps = steps_of l;
  have = have t.node l;
  rising = rising_steps (steps_of l) (sorted_steps l below.rises);
  entries = λ e. (
    λ c. All-contains (IsEntry t dir) (listed t.node l) e (all_entries t dir l below.each) c,
    λ c. listed_has t.node l e c.0 c.1 (below.find e.step ∙ c.2) c.3,
  );
})

listed_append : (node : ℕ → Version) (xs ys : List Name) → listed node (xs ++ ys) ≡ listed node xs ++ listed node ys
listed_append node [] ys = refl
listed_append node (x ∷ xs) ys = elim (single x.rest) as (λ o. if_single o (λ s. record { step = x.rest; kind = kind_of (node x.node).dir }) (listed node (xs ++ ys)) ≡ if_single o (λ s. record { step = x.rest; kind = kind_of (node x.node).dir }) (listed node xs) ++ listed node ys) [
  | None ↦ listed_append node xs ys
  | Some s ↦ ap (λ l. record { step = x.rest; kind = kind_of (node x.node).dir } ∷ l) (listed_append node xs ys)
]

-- one name more
pub listed_some : (node : ℕ → Version) (l : List Name) (i : ℕ) (x : Name) (old new : List Entry) (e : Entry) → old ≡ listed node (take i l) → new ≡ old ++ e ∷ [] → i < length l → x ≡ get_or l i x → length x.rest ≡ 1 → e.step ≡ x.rest → e.kind ≡ kind_of (node x.node).dir
    → new ≡ listed node (take (i + 1) l)
listed_some node l i x old new e so_far grew lt is one step kind =
    let there = single_some x.rest one in
    let entry : e ≡ record { step = x.rest; kind = kind_of (node x.node).dir } = λ j. record { step = step j; kind = kind j } in
    let last : listed node (x ∷ []) ≡ record { step = x.rest; kind = kind_of (node x.node).dir } ∷ [] = ap (λ (o : Option (List ℕ)). if_single o (λ s. record { step = x.rest; kind = kind_of (node x.node).dir }) []) there.1 in
    grew ∙ ap (λ o. o ++ e ∷ []) so_far ∙ ap (λ y. listed node (take i l) ++ y ∷ []) entry ∙ ap (λ m. listed node (take i l) ++ m) (sym last)
    ∙ sym (listed_append node (take i l) (x ∷ [])) ∙ ap (listed node) (ap (λ y. take i l ++ y ∷ []) is ∙ sym (take_more l i x lt))

pub listed_none : (node : ℕ → Version) (l : List Name) (i : ℕ) (x : Name) (old : List Entry) → old ≡ listed node (take i l) → i < length l → x ≡ get_or l i x → (length x.rest ≡ 1 → ⊥) → old ≡ listed node (take (i + 1) l)
listed_none node l i x old so_far lt is not =
    let last : listed node (x ∷ []) ≡ [] = ap (λ (o : Option (List ℕ)). if_single o (λ s. record { step = x.rest; kind = kind_of (node x.node).dir }) []) (single_none x.rest not) in
    so_far ∙ sym (append-nil (listed node (take i l))) ∙ ap (λ m. listed node (take i l) ++ m) (sym last)
    ∙ sym (listed_append node (take i l) (x ∷ [])) ∙ ap (listed node) (ap (λ y. take i l ++ y ∷ []) is ∙ sym (take_more l i x lt))
