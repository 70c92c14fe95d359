-- Trees as data.
use Rattle.std.proofs.Common.{Result, Ok, Err, OnOk, OnErr, is_err, ◌≡◌, inl, inr, ℕ, zero, suc, ◌+◌, ◌<◌, List, [], ◌∷◌, ◌++◌, length, take, get_or, set, map, Bool, true, false, cond, Option, Some, refl, sym, ◌∙◌, ap, subst, append_assoc, arith}
use Rattle.std.specs.List.{AllByRecursion}
use Rattle.std.specs.declared.cmp.Ordering.TheVariants.{Less}
use Rattle.std.specs.List.Sorted.{IsStrictlySortedBy}
use Rattle.std.specs.Ordering.{is_eq}
use Rattle.std.proofs.lemmas.Bool.{cases_eq, cases_lt}
use Rattle.std.proofs.lemmas.List.{append-nil, length-append, length-map, get_or-map, get_or_append_left, get_or_push, get_or_past, map-append, take_more}
use Rattle.tree_api.specs.Tree.{Path, Version, Names, Tree, new_dir, held, current, content}
use Rattle.tree_memory.specs.Paths.{path_cmp, same_path}
use Rattle.tree_memory.specs.History.{put, fill}
use Rattle.tree_memory.specs.Names.{find_name, links, unlinks, numbered, IsBelow}
use Rattle.tree_memory.specs.Nodes.{version, node_of}
use Rattle.tree_memory.specs.Kept.{content_of, rests_of, IsEach, pair}
use Rattle.tree_memory.specs.declared.node.Node.{Node}
use Rattle.tree_memory.specs.declared.names.Name.{Name}
use Rattle.tree_memory.specs.declared.event.Edit.TheVariants.{Link, Unlink}
use Rattle.tree_memory.specs.declared.snap.Kept.{Kept}
use Rattle.tree_memory.specs.Images.{put_here, put_other}
use Rattle.tree_memory.proofs.Orders.{same_path_refl, same_path_flip}
use Rattle.tree_memory.proofs.Keeps.{paired, content_paired}

-- ---- nodes by their numbers

set_at : (xs : List Node) (i : ℕ) (x : Node) → i < length xs → (n : ℕ) → node_of (set xs i x) n ≡ put (node_of xs) i (version x) n
set_at [] i x lt n = absurd (omega arith)
set_at (y ∷ xs) zero x lt zero = refl
set_at (y ∷ xs) zero x lt (suc n) = sym (put_other (node_of (y ∷ xs)) 0 (version x) (suc n) (λ e. absurd (omega arith)))
set_at (y ∷ xs) (suc i) x lt zero = sym (put_other (node_of (y ∷ xs)) (suc i) (version x) 0 (λ e. absurd (omega arith)))
set_at (y ∷ xs) (suc i) x lt (suc n) = set_at xs i x (omega arith) n ∙ elim (cases_eq n i) [
  | inl same ↦ subst (λ (m : ℕ). put (node_of xs) i (version x) m ≡ put (node_of (y ∷ xs)) (suc i) (version x) (suc m)) (sym same) (put_here (node_of xs) i (version x) ∙ sym (put_here (node_of (y ∷ xs)) (suc i) (version x)))
  | inr not ↦ put_other (node_of xs) i (version x) n not ∙ sym (put_other (node_of (y ∷ xs)) (suc i) (version x) (suc n) (λ e. not (omega arith)))
]

pub node_set : (xs : List Node) (i : ℕ) (x : Node) → i < length xs → node_of (set xs i x) ≡ put (node_of xs) i (version x)
node_set xs i x lt = λ j n. set_at xs i x lt n j

pub node_read : (xs : List Node) (i : ℕ) (x : Node) → i < length xs → x ≡ get_or xs i x → version x ≡ node_of xs i
node_read xs i x lt e = ap version e ∙ sym (get_or-map version xs i x new_dir lt)

pub put_same : {A : Type 0} (f : ℕ → A) (i : ℕ) (v : A) → v ≡ f i → put f i v ≡ f
put_same f i v e = λ j n. at n j
  where
    at : (n : ℕ) → put f i v n ≡ f n
    at n = elim (cases_eq n i) [ inl same ↦ ap (put f i v) same ∙ put_here f i v ∙ e ∙ ap f (sym same) | inr not ↦ put_other f i v n not ]

-- nodes that are added
add_one : (xs : List Version) (v : Version) → (λ n. get_or (xs ++ v ∷ []) n new_dir) ≡ put (λ n. get_or xs n new_dir) (length xs) v
add_one xs v = λ j n. at n j
  where
    at : (n : ℕ) → get_or (xs ++ v ∷ []) n new_dir ≡ put (λ n. get_or xs n new_dir) (length xs) v n
    at n = elim (cases_eq n (length xs)) [
      | inl same ↦ get_or_push xs v new_dir n (sym same) ∙ sym (put_here (λ n. get_or xs n new_dir) (length xs) v) ∙ ap (put (λ n. get_or xs n new_dir) (length xs) v) (sym same)
      | inr not ↦ elim (cases_lt n (length xs)) [
        | inl lt ↦ get_or_append_left xs (v ∷ []) new_dir n lt ∙ sym (put_other (λ n. get_or xs n new_dir) (length xs) v n not)
        | inr le ↦
            get_or_past (xs ++ v ∷ []) n new_dir (omega (arith, length-append xs (v ∷ []), not))
            ∙ sym (get_or_past xs n new_dir le) ∙ sym (put_other (λ n. get_or xs n new_dir) (length xs) v n not)
      ]
    ]

pub node_push : (xs : List Node) (x : Node) → node_of (xs ++ x ∷ []) ≡ put (node_of xs) (length xs) (version x)
node_push xs x =
    ap (λ (l : List Version). λ n. get_or l n new_dir) (map-append version xs (x ∷ [])) ∙ add_one (map version xs) (version x)
    ∙ ap (λ (k : ℕ). put (node_of xs) k (version x)) (length-map xs version)

add_all : (xs ys : List Version) → (λ n. get_or (xs ++ ys) n new_dir) ≡ fill (length xs) ys (λ n. get_or xs n new_dir)
add_all xs [] = ap (λ (l : List Version). λ n. get_or l n new_dir) (append-nil xs)
add_all xs (y ∷ ys) =
    let long : length (xs ++ y ∷ []) ≡ suc (length xs) = omega (arith, length-append xs (y ∷ [])) in
    ap (λ (l : List Version). λ n. get_or l n new_dir) (sym (append_assoc xs (y ∷ []) ys)) ∙ add_all (xs ++ y ∷ []) ys
    ∙ ap (λ (k : ℕ). fill k ys (λ n. get_or (xs ++ y ∷ []) n new_dir)) long
    ∙ ap (fill (suc (length xs)) ys) (add_one xs y)

pub node_added : (old new : List Node) (vs : List Version) → map version new ≡ map version old ++ vs → node_of new ≡ fill (length old) vs (node_of old)
node_added old new vs e =
    ap (λ (l : List Version). λ n. get_or l n new_dir) e ∙ add_all (map version old) vs ∙ ap (λ (k : ℕ). fill k vs (node_of old)) (length-map old version)

pub count_added : (old new : List Node) (vs : List Version) → map version new ≡ map version old ++ vs → length new ≡ length old + length vs
count_added old new vs e = sym (length-map new version) ∙ ap length e ∙ length-append (map version old) vs ∙ ap (λ (k : ℕ). k + length vs) (length-map old version)

-- ---- lists of changes

pub links_push : (d : Path) (xs : List Name) (x : Name) → links d (xs ++ x ∷ []) ≡ links d xs ++ Link (d ++ x.rest) x.node ∷ []
links_push d [] x = refl
links_push d (y ∷ xs) x = ap (λ l. Link (d ++ y.rest) y.node ∷ l) (links_push d xs x)

pub unlinks_push : (d : Path) (xs : List Name) (x : Name) → unlinks d (xs ++ x ∷ []) ≡ unlinks d xs ++ Unlink (d ++ x.rest) ∷ []
unlinks_push d [] x = refl
unlinks_push d (y ∷ xs) x = ap (λ l. Unlink (d ++ y.rest) ∷ l) (unlinks_push d xs x)

pub numbered_push : (k : ℕ) (ps : List Path) (p : Path) → numbered k (ps ++ p ∷ []) ≡ numbered k ps ++ record { rest = p; node = k + length ps } ∷ []
numbered_push k [] p = let e : k ≡ k + 0 = omega arith in ap (λ n. record { rest = p; node = n } ∷ []) e
numbered_push k (q ∷ ps) p =
    let e : suc k + length ps ≡ k + suc (length ps) = omega arith in
    ap (λ l. record { rest = q; node = k } ∷ l) (numbered_push (suc k) ps p ∙ ap (λ n. numbered (suc k) ps ++ record { rest = p; node = n } ∷ []) e)

-- ---- what stands in `current`

found_content : (node : ℕ → Version) (l : List Name) (r : Path) → paired (map (λ (x : Name). (x.rest, node x.node)) l) r ≡ held (find_name l r) node
found_content node [] r = refl
found_content node (x ∷ l) r = ap (cond (same_path r x.rest) (Some (node x.node))) (found_content node l r) ∙ by (same_path r x.rest)
  where
    by : (b : Bool) → cond b (Some (node x.node)) (held (find_name l r) node) ≡ held (cond b (Some x.node) (find_name l r)) node
    by true = refl
    by false = refl

pub kept_content : (t : Tree) (l : List Name) (kept : List Kept) → IsBelow t.at current l → map pair kept ≡ map (λ (x : Name). (x.rest, t.node x.node)) l → content_of kept ≡ content t
kept_content t l kept below e = λ i r. (
    content_paired kept r ∙ ap (λ (ps : List (Path × Version)). paired ps r) e ∙ found_content t.node l r ∙ ap (λ (o : Option ℕ). held o t.node) (below.find r)
    ) i

-- no path comes twice
pub find_shift : (k n : ℕ) (ps : List Path) (r : Path) (m : ℕ) → find_name (numbered k ps) r ≡ Some m → find_name (numbered (k + n) ps) r ≡ Some (m + n)
find_shift k n [] r m e = cc
find_shift k n (p ∷ ps) r m e = by (same_path r p) e (λ h. let s : suc (k + n) ≡ suc k + n = omega arith in ap (λ (j : ℕ). find_name (numbered j ps) r) s ∙ find_shift (suc k) n ps r m h)
  where
    by : (b : Bool) → cond b (Some k) (find_name (numbered (suc k) ps) r) ≡ Some m → (find_name (numbered (suc k) ps) r ≡ Some m → find_name (numbered (suc (k + n)) ps) r ≡ Some (m + n))
        → cond b (Some (k + n)) (find_name (numbered (suc (k + n)) ps) r) ≡ Some (m + n)
    by true e rest = let is : k ≡ m = cc in ap (λ (j : ℕ). Some (j + n)) is
    by false e rest = rest e

recursion_at : (ps : List Path) (p : Path) (k : ℕ) (d : Path) → k < length ps → AllByRecursion (λ y. path_cmp p y ≡ Less) ps → path_cmp p (get_or ps k d) ≡ Less
recursion_at [] p k d lt all = absurd (omega arith)
recursion_at (q ∷ ps) p zero d lt all = all.0
recursion_at (q ∷ ps) p (suc k) d lt all = recursion_at ps p k d (omega arith) all.1

each_sorted : (j : ℕ) (ps : List Path) → IsStrictlySortedBy path_cmp ps → (k : ℕ) (d : Path) → k < length ps → find_name (numbered j ps) (get_or ps k d) ≡ Some (j + k)
unfolding IsStrictlySortedBy
each_sorted j [] s k d lt = absurd (omega arith)
each_sorted j (p ∷ ps) s zero d lt = let e : j ≡ j + 0 = omega arith in ap (λ (b : Bool). cond b (Some j) (find_name (numbered (suc j) ps) p)) (same_path_refl p) ∙ ap Some e
each_sorted j (p ∷ ps) s (suc k) d lt =
    let less = recursion_at ps p k d (omega arith) s.0 in
    let e : suc j + k ≡ j + suc k = omega arith in
    ap (λ (b : Bool). cond b (Some j) (find_name (numbered (suc j) ps) (get_or ps k d))) (same_path_flip (get_or ps k d) p ∙ ap is_eq less)
    ∙ each_sorted (suc j) ps s.1 k d (omega arith) ∙ ap Some e

pub sorted_each : (ps : List Path) → IsStrictlySortedBy path_cmp ps → IsEach ps
sorted_each ps s k d lt = let e : 0 + k ≡ k = omega arith in each_sorted 0 ps s k d lt ∙ ap Some e

rests_same : (kept : List Kept) (l : List Name) (node : ℕ → Version) → map pair kept ≡ map (λ (x : Name). (x.rest, node x.node)) l → rests_of kept ≡ map (λ (x : Name). x.rest) l
rests_same kept l node e = firsts kept ∙ ap (map (λ (p : Path × Version). p.0)) e ∙ sym (seconds l)
  where
    firsts : (kept : List Kept) → rests_of kept ≡ map (λ (p : Path × Version). p.0) (map pair kept)
    firsts [] = refl
    firsts (x ∷ kept) = ap (λ m. x.rest ∷ m) (firsts kept)

    seconds : (l : List Name) → map (λ (x : Name). x.rest) l ≡ map (λ (p : Path × Version). p.0) (map (λ (x : Name). (x.rest, node x.node)) l)
    seconds [] = refl
    seconds (x ∷ l) = ap (λ m. x.rest ∷ m) (seconds l)

pub kept_each : (t : Tree) (l : List Name) (kept : List Kept) → IsBelow t.at current l → map pair kept ≡ map (λ (x : Name). (x.rest, t.node x.node)) l → IsEach (rests_of kept)
kept_each t l kept below e = subst IsEach (sym (rests_same kept l t.node e)) (sorted_each (map (λ (x : Name). x.rest) l) below.rises)

-- a name below leads to a node
pub item_low : (k : ℕ) (at : Names) (d : Path) (l : List Name) (i : ℕ) (x : Name) → IsBelow at d l → ((p : Path) (n : ℕ) → at p ≡ Some n → n < k) → i < length l → x ≡ get_or l i x → x.node < k
item_low k at d l i x below low lt is = low (d ++ x.rest) x.node (subst (λ (y : Name). at (d ++ y.rest) ≡ Some y.node) (sym is) (below.each i x lt))

pub ok_part : {T E P : Type 0} (r : Result T E) → is_err r ≡ false → OnOk r P → P
ok_part (Ok x) e p = p
ok_part (Err x) e p = cc

pub err_part : {T E P : Type 0} (r : Result T E) → is_err r ≡ true → OnErr r P → P
err_part (Ok x) e p = cc
err_part (Err x) e p = p

-- one node more is kept
pub kept_more : (node : ℕ → Version) (kept new : List Kept) (l : List Name) (i : ℕ) (x : Name) (k : Kept) → map pair kept ≡ map (λ (y : Name). (y.rest, node y.node)) (take i l) → new ≡ kept ++ k ∷ []
    → k.rest ≡ x.rest → version k.node ≡ node x.node → i < length l → x ≡ get_or l i x → map pair new ≡ map (λ (y : Name). (y.rest, node y.node)) (take (i + 1) l)
kept_more node kept new l i x k so_far grew rest held lt is =
    let same : pair k ≡ (x.rest, node x.node) = λ j. (rest j, held j) in
    ap (map pair) grew ∙ map-append pair kept (k ∷ [])
    ∙ ap (λ ps. ps ++ pair k ∷ []) so_far
    ∙ ap (λ p. map (λ (y : Name). (y.rest, node y.node)) (take i l) ++ p ∷ []) same
    ∙ sym (map-append (λ (y : Name). (y.rest, node y.node)) (take i l) (x ∷ []))
    ∙ ap (map (λ (y : Name). (y.rest, node y.node))) (ap (λ y. take i l ++ y ∷ []) is ∙ sym (take_more l i x lt))
