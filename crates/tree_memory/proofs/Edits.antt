-- What many changes of names leave.
use Rattle.std.proofs.Common.{◌≡◌, ◌≢◌, ℕ, suc, ◌+◌, ◌<◌, ◌≤◌, List, [], ◌∷◌, ◌++◌, length, Bool, true, false, cond, Option, Some, None, refl, sym, ◌∙◌, ap, arith}
use Rattle.std.specs.List.{All}
use Rattle.std.specs.Ordering.{is_eq}
use Rattle.tree_api.specs.Tree.{Path, Names, MovedDir}
use Rattle.tree_memory.specs.Paths.{same_path}
use Rattle.tree_memory.specs.Names.{put_at, gone_at, edited, edited_once, find_name, unlinks, links, numbered, IsBelow}
use Rattle.tree_memory.specs.declared.names.Name.{Name}
use Rattle.tree_memory.specs.declared.event.Edit.{Edit}
use Rattle.tree_memory.proofs.Orders.{same_path_is, same_path_not, same_path_flip, same_path_refl, cmp_append}
use Rattle.tree_memory.proofs.Lists.{all_head, all_tail}

pub put_here : (p : Path) (n : ℕ) (at : Names) → put_at p n at p ≡ Some n
put_here p n at = ap (λ (b : Bool). cond b (Some n) (at p)) (same_path_refl p)

pub put_other : (p : Path) (n : ℕ) (at : Names) (q : Path) → q ≢ p → put_at p n at q ≡ at q
put_other p n at q not = ap (λ (b : Bool). cond b (Some n) (at q)) (same_path_not p q (λ e. not (sym e)))

pub gone_here : (p : Path) (at : Names) → gone_at p at p ≡ None
gone_here p at = ap (λ (b : Bool). cond b None (at p)) (same_path_refl p)

pub gone_other : (p : Path) (at : Names) (q : Path) → q ≢ p → gone_at p at q ≡ at q
gone_other p at q not = ap (λ (b : Bool). cond b None (at q)) (same_path_not p q (λ e. not (sym e)))

pub edited_append : (xs ys : List Edit) (at : Names) → edited (xs ++ ys) at ≡ edited ys (edited xs at)
edited_append [] ys at = refl
edited_append (x ∷ xs) ys at = edited_append xs ys (edited_once x at)

-- one that is there, or another
abbrev pub chosen : Option ℕ → Option ℕ → Option ℕ → Option ℕ
chosen None a b = b
chosen (Some n) a b = a

same_front : (d p q : Path) → same_path (d ++ p) (d ++ q) ≡ same_path q p
same_front d p q = ap is_eq (cmp_append d p q) ∙ same_path_flip p q

pub links_off : (d : Path) (m : List Name) (at : Names) (q : Path) → ((r : Path) → q ≢ d ++ r) → edited (links d m) at q ≡ at q
links_off d [] at q off = refl
links_off d (x ∷ m) at q off = links_off d m (put_at (d ++ x.rest) x.node at) q off ∙ put_other (d ++ x.rest) x.node at q (off x.rest)

pub unlinks_off : (d : Path) (m : List Name) (at : Names) (q : Path) → ((r : Path) → q ≢ d ++ r) → edited (unlinks d m) at q ≡ at q
unlinks_off d [] at q off = refl
unlinks_off d (x ∷ m) at q off = unlinks_off d m (gone_at (d ++ x.rest) at) q off ∙ gone_other (d ++ x.rest) at q (off x.rest)

one_link : (o : Option ℕ) (b : Bool) (n : ℕ) (g old : Option ℕ) → (b ≡ true → Some n ≡ g) → chosen o g (cond b (Some n) old) ≡ chosen (cond b (Some n) o) g old
one_link None true n g old is = is refl
one_link None false n g old is = refl
one_link (Some m) true n g old is = refl
one_link (Some m) false n g old is = refl

pub links_at : (d : Path) (g : Names) (m : List Name) → All (λ (x : Name). g x.rest ≡ Some x.node) m → (at : Names) (r : Path) → edited (links d m) at (d ++ r) ≡ chosen (find_name m r) (g r) (at (d ++ r))
links_at d g [] all at r = refl
links_at d g (x ∷ m) all at r =
    links_at d g m (all_tail (λ (y : Name). g y.rest ≡ Some y.node) x m all) (put_at (d ++ x.rest) x.node at) r
    ∙ ap (λ (b : Bool). chosen (find_name m r) (g r) (cond b (Some x.node) (at (d ++ r)))) (same_front d x.rest r)
    ∙ one_link (find_name m r) (same_path r x.rest) x.node (g r) (at (d ++ r)) (λ e. sym (ap g (same_path_is r x.rest e) ∙ all_head (λ (y : Name). g y.rest ≡ Some y.node) x m all))

one_unlink : (o : Option ℕ) (b : Bool) (n : ℕ) (old : Option ℕ) → chosen o None (cond b None old) ≡ chosen (cond b (Some n) o) None old
one_unlink None true n old = refl
one_unlink None false n old = refl
one_unlink (Some m) true n old = refl
one_unlink (Some m) false n old = refl

pub unlinks_at : (d : Path) (m : List Name) (at : Names) (r : Path) → edited (unlinks d m) at (d ++ r) ≡ chosen (find_name m r) None (at (d ++ r))
unlinks_at d [] at r = refl
unlinks_at d (x ∷ m) at r =
    unlinks_at d m (gone_at (d ++ x.rest) at) r
    ∙ ap (λ (b : Bool). chosen (find_name m r) None (cond b None (at (d ++ r)))) (same_front d x.rest r)
    ∙ one_unlink (find_name m r) (same_path r x.rest) x.node (at (d ++ r))

pub chosen_self : (o g old : Option ℕ) → o ≡ g → old ≡ None → chosen o g old ≡ g
chosen_self None g old e f = f ∙ e
chosen_self (Some n) g old e f = refl

chosen_none : (o old : Option ℕ) → o ≡ old → chosen o None old ≡ None
chosen_none None old e = sym e
chosen_none (Some n) old e = refl

-- a directory with all below it is gone
pub unlinked : (d : Path) (l : List Name) (at : Names) → IsBelow at d l → (r : Path) → edited (unlinks d l) at (d ++ r) ≡ None
unlinked d l at below r = unlinks_at d l at r ∙ chosen_none (find_name l r) (at (d ++ r)) (below.find r)

-- it moves with all below it
pub moved_dir : (from to : Path) (l : List Name) (at : Names) → IsBelow at from l → ((r x : Path) → to ++ r ≢ from ++ x) → ((r : Path) → at (to ++ r) ≡ None)
    → MovedDir from to at (edited (unlinks from l ++ links to l) at)
moved_dir from to l at below apart free = record {
  moved = λ r.
      both (to ++ r) ∙ links_at to (λ x. at (from ++ x)) l below.each (edited (unlinks from l) at) r
      ∙ chosen_self (find_name l r) (at (from ++ r)) _ (below.find r) (unlinks_off from l at (to ++ r) (λ x. apart r x) ∙ free r);
  gone = λ r. both (from ++ r) ∙ links_off to l (edited (unlinks from l) at) (from ++ r) (λ x e. apart x r (sym e)) ∙ unlinked from l at below r;
  others = λ q not nor. both q ∙ links_off to l (edited (unlinks from l) at) q nor ∙ unlinks_off from l at q not;
}
  where
    both : (q : Path) → edited (unlinks from l ++ links to l) at q ≡ edited (links to l) (edited (unlinks from l) at) q
    both q = ap (λ (f : Names). f q) (edited_append (unlinks from l) (links to l) at)

-- ---- numbered paths

pub find_low : (k : ℕ) (ps : List Path) (r : Path) (n : ℕ) → find_name (numbered k ps) r ≡ Some n → (k ≤ n) × (n < k + length ps)
find_low k [] r n e = cc
find_low k (p ∷ ps) r n e = by (same_path r p) e (find_low (suc k) ps r n)
  where
    by : (b : Bool) → cond b (Some k) (find_name (numbered (suc k) ps) r) ≡ Some n → (find_name (numbered (suc k) ps) r ≡ Some n → (suc k ≤ n) × (n < suc k + length ps)) → (k ≤ n) × (n < k + length (p ∷ ps))
    by true e rest = let is : k ≡ n = cc in (omega arith, omega arith)
    by false e rest = let low = rest e in (omega (arith, low.0), omega (arith, low.1))

-- a number stands for one path
pub find_single : (k : ℕ) (ps : List Path) (r q : Path) (n : ℕ) → find_name (numbered k ps) r ≡ Some n → find_name (numbered k ps) q ≡ Some n → r ≡ q
find_single k [] r q n e f = cc
find_single k (p ∷ ps) r q n e f =
    by (same_path r p) (same_path q p) (same_path_is r p) (same_path_is q p) (λ h. (find_low (suc k) ps r n h).0) (λ h. (find_low (suc k) ps q n h).0) (find_single (suc k) ps r q n) e f
  where
    by : (a b : Bool) → (a ≡ true → r ≡ p) → (b ≡ true → q ≡ p) → (find_name (numbered (suc k) ps) r ≡ Some n → suc k ≤ n) → (find_name (numbered (suc k) ps) q ≡ Some n → suc k ≤ n)
        → (find_name (numbered (suc k) ps) r ≡ Some n → find_name (numbered (suc k) ps) q ≡ Some n → r ≡ q)
        → cond a (Some k) (find_name (numbered (suc k) ps) r) ≡ Some n → cond b (Some k) (find_name (numbered (suc k) ps) q) ≡ Some n → r ≡ q
    by true true ra qb rl ql rest e f = ra refl ∙ sym (qb refl)
    by true false ra qb rl ql rest e f = let is : k ≡ n = cc in let lt = ql f in absurd (omega arith)
    by false true ra qb rl ql rest e f = let is : k ≡ n = cc in let lt = rl e in absurd (omega arith)
    by false false ra qb rl ql rest e f = rest e f
