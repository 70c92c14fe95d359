-- What the trait says of a rollback.
use Rattle.std.proofs.Common.{◌≡◌, ◌≢◌, ◌⊎◌, inl, inr, ℕ, zero, suc, ◌+◌, ◌<◌, ◌≤◌, ◌^◌, ◌==◌, List, [], ◌∷◌, ◌++◌, length, get_or, map, Bool, true, false, cond, Option, Some, None, Result, Ok, Err, OnOk, OnErr, IfOk, refl, sym, ◌∙◌, ap, subst, append_assoc, arith, nat_lt}
use Rattle.std.specs.List.{All}
use Rattle.std.specs.declared.alloc.AllocError.{AllocError}
use Rattle.std.proofs.lemmas.Bool.{cases_eq, cases_lt, eq-eqb, lt-ltb, and_from, ltb-true}
use Rattle.std.proofs.lemmas.List.{length-map}
use Rattle.tree_api.specs.Tree.{Path, Version, Names, Content, Tree, held, look, current, IsContent, RolledBack}
use Rattle.tree_api.specs.Disk.{Rollback}
use Rattle.tree_api.specs.declared.tree.TreeError.TheVariants.{Memory}
use Rattle.tree_api.proofs.Images.{none_rolled}
use Rattle.tree_memory.specs.History.{History, Among, IsMix, IsImage, State, next, disk, put, rolled, fill, unchanged}
use Rattle.tree_memory.specs.Paths.{same_path}
use Rattle.tree_memory.specs.Names.{edited, find_name, numbered, unlinks, links, links_below, IsBelow}
use Rattle.tree_memory.specs.Nodes.{version}
use Rattle.tree_memory.specs.Kept.{content_of, rests_of, IsEach}
use Rattle.tree_memory.specs.Valid.{dir_at, kept_dir, IsGood, IsWhole, IsValid}
use Rattle.tree_memory.specs.Mixes.{one_mix}
use Rattle.tree_memory.specs.Images.{put_here, put_other, self_mix}
use Rattle.tree_memory.specs.Sounds.{steps, same_state}
use Rattle.tree_memory.specs.declared.names.Name.{Name}
use Rattle.tree_memory.specs.declared.snap.Kept.{Kept}
use Rattle.tree_memory.specs.Log.{run, adds, suits}
use Rattle.tree_memory.specs.Told.{tree_of, count_of}
use Rattle.tree_memory.specs.Tells.{Follows, Did}
use Rattle.tree_memory.specs.Events.{IsRestoring}
use Rattle.tree_memory.specs.declared.event.Edit.{Edit}
use Rattle.tree_memory.specs.declared.event.Event.{Event}
use Rattle.tree_memory.specs.declared.store.Store.{Store}
use Rattle.tree_memory.proofs.Dones.{Answer, if_ok}
use Rattle.tree_memory.proofs.Edits.{edited_append, links_off, links_at, unlinks_off, unlinked, chosen_self, find_low, find_single}
use Rattle.tree_memory.proofs.Goods.{cases_below, last, push_same}
use Rattle.tree_memory.proofs.Lists.{all_cons, all_nil}
use Rattle.tree_memory.proofs.Stores.{find_shift}
use Rattle.tree_memory.proofs.Valids.{dirs, held_dir}

abbrev answered : Answer
answered = Ok tt

-- ---- functions that are filled

pub fill_below : {A : Type 0} (first : ℕ) (vs : List A) (f : ℕ → A) (n : ℕ) → n < first → fill first vs f n ≡ f n
fill_below first [] f n lt = refl
fill_below first (v ∷ vs) f n lt = fill_below (suc first) vs (put f first v) n (omega arith) ∙ put_other f first v n (λ e. absurd (omega arith))

pub fill_first : {A : Type 0} (first : ℕ) (v : A) (vs : List A) (f : ℕ → A) → fill first (v ∷ vs) f first ≡ v
fill_first first v vs f = fill_below (suc first) vs (put f first v) first (omega arith) ∙ put_here f first v

pub fill_beyond : {A : Type 0} (first : ℕ) (vs : List A) (f : ℕ → A) (n : ℕ) → first + length vs ≤ n → fill first vs f n ≡ f n
fill_beyond first [] f n le = refl
fill_beyond first (v ∷ vs) f n le = fill_beyond (suc first) vs (put f first v) n (omega arith) ∙ put_other f first v n (λ e. absurd (omega arith))

length_unchanged : (vs : List Version) → length (unchanged vs) ≡ length vs
length_unchanged [] = refl
length_unchanged (v ∷ vs) = ap suc (length_unchanged vs)

pub fill_none : (first : ℕ) (vs : List Version) (f : ℕ → List Version) (n : ℕ) → first ≤ n → n < first + length vs → fill first (unchanged vs) f n ≡ []
fill_none first [] f n le lt = absurd (omega arith)
fill_none first (v ∷ vs) f n le lt = elim (cases_eq n first) [
  | inl same ↦ ap (fill (suc first) (unchanged vs) (put f first [])) same ∙ fill_first first [] (unchanged vs) f
  | inr not ↦ fill_none (suc first) vs (put f first []) n (omega arith) (omega arith)
]

-- what is filled in at a number
pub fill_all : (P : Version → Type 0) (first : ℕ) (vs : List Version) (f : ℕ → Version) (n : ℕ) → All P vs → first ≤ n → n < first + length vs → P (fill first vs f n)
fill_all P first [] f n all le lt = absurd (omega arith)
fill_all P first (v ∷ vs) f n all le lt = elim (cases_eq n first) [
  | inl same ↦ subst P (sym (ap (fill (suc first) vs (put f first v)) same ∙ fill_first first v vs f)) (all 0 v (omega arith))
  | inr not ↦ fill_all P (suc first) vs (put f first v) n (λ k d l. all (suc k) d (omega arith)) (omega arith) (omega arith)
]

abbrev pub versions : List Kept → List Version
versions kept = map (λ k. version k.node) kept

pub held_filled : (kept : List Kept) (j : ℕ) (f : ℕ → Version) (r : Path) → held (find_name (numbered j (rests_of kept)) r) (fill j (versions kept) f) ≡ content_of kept r
held_filled [] j f r = refl
held_filled (x ∷ kept) j f r = by (same_path r x.rest) (held_filled kept (suc j) (put f j (version x.node)) r)
  where
    by : (b : Bool) → held (find_name (numbered (suc j) (rests_of kept)) r) (fill (suc j) (versions kept) (put f j (version x.node))) ≡ content_of kept r
        → held (cond b (Some j) (find_name (numbered (suc j) (rests_of kept)) r)) (fill (suc j) (versions kept) (put f j (version x.node))) ≡ cond b (Some (version x.node)) (content_of kept r)
    by true rest = ap Some (fill_first j (version x.node) (versions kept) f)
    by false rest = rest

-- ---- the names after a rollback

module _ (k : ℕ) (at : Names) (l : List Name) (ps : List Path) (below : IsBelow at current l) (each : IsEach ps) where
  pub rolled_names : Names
  rolled_names = edited (unlinks current l ++ links current (numbered k ps)) at

  both : (q : Path) → rolled_names q ≡ edited (links current (numbered k ps)) (edited (unlinks current l) at) q
  unfolding rolled_names
  both q = ap (λ (f : Names). f q) (edited_append (unlinks current l) (links current (numbered k ps)) at)

  pub rolled_off : (q : Path) → ((r : Path) → q ≢ current ++ r) → rolled_names q ≡ at q
  rolled_off q off = both q ∙ links_off current (numbered k ps) (edited (unlinks current l) at) q off ∙ unlinks_off current l at q off

  pub rolled_in : (r : Path) → rolled_names (current ++ r) ≡ find_name (numbered k ps) r
  rolled_in r =
      both (current ++ r) ∙ links_at current (find_name (numbered k ps)) (numbered k ps) (each_number k) (edited (unlinks current l) at) r
      ∙ chosen_self (find_name (numbered k ps) r) (find_name (numbered k ps) r) _ refl (unlinked current l at below r)
    where
      at_number : (j : ℕ) (qs : List Path) (g : Names) → ((i : ℕ) (d : Path) → i < length qs → g (get_or qs i d) ≡ Some (i + j)) → All (λ (x : Name). g x.rest ≡ Some x.node) (numbered j qs)
      at_number j [] g is = all_nil (λ (x : Name). g x.rest ≡ Some x.node)
      at_number j (q ∷ qs) g is = all_cons (λ (x : Name). g x.rest ≡ Some x.node) (record { rest = q; node = j }) (numbered (suc j) qs)
          (is 0 q (omega arith) ∙ ap Some (let e : 0 + j ≡ j = omega arith in e))
          (at_number (suc j) qs g (λ i d lt. is (suc i) d (omega arith) ∙ ap Some (let e : suc i + j ≡ i + suc j = omega arith in e)))

      each_number : (j : ℕ) → All (λ (x : Name). find_name (numbered j ps) x.rest ≡ Some x.node) (numbered j ps)
      each_number j = at_number j ps (find_name (numbered j ps)) (λ i d lt.
          let e : 0 + j ≡ j = omega arith in
          ap (λ (m : ℕ). find_name (numbered m ps) (get_or ps i d)) (sym e) ∙ find_shift 0 j ps (get_or ps i d) i (each i d lt))

module _ (s : State) (k : ℕ) (valid : IsValid k s.now) (l : List Name) (kept : List Kept) (below : IsBelow s.now.tree.at current l) (each : IsEach (rests_of kept)) where
  pub new_names : Names
  new_names = rolled_names k s.now.tree.at l (rests_of kept) below each

  off_current : (q : Path) → ((r : Path) → q ≢ current ++ r) → new_names q ≡ s.now.tree.at q
  unfolding new_names
  off_current q off = rolled_off k s.now.tree.at l (rests_of kept) below each q off

  in_current : (r : Path) → new_names (current ++ r) ≡ find_name (numbered k (rests_of kept)) r
  unfolding new_names
  in_current r = rolled_in k s.now.tree.at l (rests_of kept) below each r

  good : IsGood k (dirs s.now.tree) s.now.tree.at
  good = valid.maps s.now.tree.at (inl refl)

  pub after : History
  after = rolled k (versions kept) new_names s.now

  many : length (rests_of kept) ≡ length (versions kept)
  many = length-map kept (λ (x : Kept). x.rest) ∙ sym (length-map kept (λ (x : Kept). version x.node))

  -- `current` in a tree with these names and nodes
  has_content : (c : Tree) → c.at ≡ new_names → ((n : ℕ) → k ≤ n → n < k + length (versions kept) → c.node n ≡ fill k (versions kept) s.now.tree.node n) → IsContent (content_of kept) c
  has_content c names nodes q =
      ap (λ (f : Names). held (f (current ++ q)) c.node) names ∙ ap (λ (o : Option ℕ). held o c.node) (in_current q)
      ∙ same (find_name (numbered k (rests_of kept)) q) (λ n is. find_low k (rests_of kept) q n is)
      ∙ held_filled kept k s.now.tree.node q
    where
      same : (o : Option ℕ) → ((n : ℕ) → o ≡ Some n → (k ≤ n) × (n < k + length (rests_of kept))) → held o c.node ≡ held o (fill k (versions kept) s.now.tree.node)
      same None low = refl
      same (Some n) low = let b = low n refl in ap Some (nodes n b.0 (omega (arith, b.1, many)))

  -- outside of it all stays
  outer_same : (c d : Tree) → c.at ≡ new_names → d.at ≡ s.now.tree.at → ((n : ℕ) → n < k → c.node n ≡ d.node n) → (q : Path) → ((r : Path) → q ≢ current ++ r) → (c.at q ≡ d.at q) × (look c q ≡ look d q)
  outer_same c d c_names d_names nodes q off =
      let names : c.at q ≡ d.at q = ap (λ (f : Names). f q) c_names ∙ off_current q off ∙ sym (ap (λ (f : Names). f q) d_names) in (
        names,
        ap (λ (o : Option ℕ). held o c.node) names ∙ same (d.at q) (λ n is. good.low q n (sym (ap (λ (f : Names). f q) d_names) ∙ is)),
      )
    where
      same : (o : Option ℕ) → ((n : ℕ) → o ≡ Some n → n < k) → held o c.node ≡ held o d.node
      same None low = refl
      same (Some n) low = ap Some (nodes n (low n refl))

  module _ (c : Tree) (is : IsImage after c) where
    image_names : c.at ≡ new_names
    unfolding after
    image_names = elim is.names [ inl e ↦ e | inr none ↦ absurd none ]

    old_mix : (n : ℕ) → n < k → IsMix (s.now.tree.node n) (s.now.older n) (c.node n)
    unfolding after
    old_mix n lt =
        subst (λ (vs : List Version). IsMix (s.now.tree.node n) vs (c.node n)) (fill_below k (unchanged (versions kept)) s.now.older n lt)
        (subst (λ (v : Version). IsMix v (fill k (unchanged (versions kept)) s.now.older n) (c.node n)) (fill_below k (versions kept) s.now.tree.node n lt) (is.nodes n))

    new_node : (n : ℕ) → k ≤ n → n < k + length (versions kept) → c.node n ≡ fill k (versions kept) s.now.tree.node n
    unfolding after
    new_node n le lt = one_mix (fill k (versions kept) s.now.tree.node n) (c.node n)
        (subst (λ (vs : List Version). IsMix (fill k (versions kept) s.now.tree.node n) vs (c.node n)) (fill_none k (versions kept) s.now.older n le lt) (is.nodes n))

    -- the image that it was
    was_node : ℕ → Version
    was_node n = cond (nat_lt n k) (c.node n) (s.now.tree.node n)

    was_mix : (n : ℕ) → IsMix (s.now.tree.node n) (s.now.older n) (was_node n)
    unfolding was_node
    was_mix n = by (nat_lt n k) (λ e. old_mix n (ltb-true n k e))
      where
        by : (b : Bool) → (b ≡ true → IsMix (s.now.tree.node n) (s.now.older n) (c.node n)) → IsMix (s.now.tree.node n) (s.now.older n) (cond b (c.node n) (s.now.tree.node n))
        by true mix = mix refl
        by false mix = self_mix (s.now.tree.node n) (s.now.older n)

    pub rolled_image : (d : Tree) × IsImage s.now d × RolledBack (content_of kept) d c
    unfolding was_node after
    rolled_image =
        let d : Tree = record c { at = s.now.tree.at; node = was_node } in
        let same : (n : ℕ) → n < k → c.node n ≡ was_node n = λ n lt. sym (ap (λ (b : Bool). cond b (c.node n) (s.now.tree.node n)) (lt-ltb n k lt)) in (
          d,
          record { names = inl refl; snaps = is.snaps; nodes = was_mix },
          record {
            snaps = refl;
            outside = λ q off. (outer_same c d image_names refl same q off).0;
            outer = λ q off. (outer_same c d image_names refl same q off).1;
            inside = inr (has_content c image_names new_node);
          },
        )

    pub rolled_content : IsContent (content_of kept) c
    rolled_content = has_content c image_names new_node

  pub rolled_now : RolledBack (content_of kept) s.now.tree after.tree
  unfolding after
  rolled_now =
      let same : (n : ℕ) → n < k → fill k (versions kept) s.now.tree.node n ≡ s.now.tree.node n = λ n lt. fill_below k (versions kept) s.now.tree.node n lt in
      record {
        snaps = refl;
        outside = λ q off. (outer_same after.tree s.now.tree refl refl same q off).0;
        outer = λ q off. (outer_same after.tree s.now.tree refl refl same q off).1;
        inside = inr (has_content after.tree refl (λ n le lt. refl));
      }

  not_memory : answered ≡ Err Memory → ⊥
  not_memory e = cc

  pub rolls : (f y l0 f2 y2 l2 : ℕ) → Rollback {T = Unit {0}} (content_of kept) (disk s f y l0) (disk (next after s) f2 y2 l2) (Ok tt)
  rolls f y l0 f2 y2 l2 = record {
    step = steps s after f y l0 f2 y2 l2 (RolledBack (content_of kept)) (λ c may. rolled_image c may);
    partly = rolled_now;
    ok = λ c may. rolled_content c may;
    memory = λ e. absurd (not_memory e);
  }

  -- ---- it stays valid

  shorts : IsWhole (content_of kept) → All (λ (v : Version). length v.bytes < 2 ^ 63) (versions kept)
  shorts whole i d lt =
      let lt2 : i < length (rests_of kept) = omega (arith, many, lt) in
      let named = each i [] lt2 in
      let there : content_of kept (get_or (rests_of kept) i []) ≡ Some (fill 0 (versions kept) (λ n. d) i) = sym (held_filled kept 0 (λ n. d) (get_or (rests_of kept) i [])) ∙ ap (λ (o : Option ℕ). held o (fill 0 (versions kept) (λ n. d))) named in
      subst (λ (v : Version). length v.bytes < 2 ^ 63) (fill_get (versions kept) d i lt) (whole.short (get_or (rests_of kept) i []) (fill 0 (versions kept) (λ n. d) i) there)
    where
      fill_from : (j : ℕ) (vs : List Version) (g : ℕ → Version) (d : Version) (i : ℕ) → i < length vs → fill j vs g (j + i) ≡ get_or vs i d
      fill_from j [] g d i lt = absurd (omega arith)
      fill_from j (v ∷ vs) g d zero lt = ap (fill j (v ∷ vs) g) (let e : j + 0 ≡ j = omega arith in e) ∙ fill_first j v vs g
      fill_from j (v ∷ vs) g d (suc i) lt = ap (fill (suc j) vs (put g j v)) (let e : j + suc i ≡ suc j + i = omega arith in e) ∙ fill_from (suc j) vs (put g j v) d i (omega arith)

      fill_get : (vs : List Version) (d : Version) (i : ℕ) → i < length vs → fill 0 vs (λ n. d) i ≡ get_or vs i d
      fill_get vs d i lt = ap (fill 0 vs (λ n. d)) (let e : i ≡ 0 + i = omega arith in e) ∙ fill_from 0 vs (λ n. d) d i lt

  module _ (whole : IsWhole (content_of kept)) where
    kind_now : (n : ℕ) → n < k → dirs after.tree n ≡ dirs s.now.tree n
    unfolding after
    kind_now n lt = ap (λ (v : Version). v.dir) (fill_below k (versions kept) s.now.tree.node n lt)

    keeps_dir : (o : Option ℕ) → ((n : ℕ) → o ≡ Some n → n < k) → dir_at (dirs s.now.tree) o ≡ true → dir_at (dirs after.tree) o ≡ true
    keeps_dir None low e = e
    keeps_dir (Some n) low e = kind_now n (low n refl) ∙ e

    -- a name is outside of `current` and was there, or inside
    abbrev Where : Path → ℕ → Type 0
    Where p n = (((r : Path) → p ≢ current ++ r) × (s.now.tree.at p ≡ Some n)) ⊎ ((r : Path) × (p ≡ current ++ r) × (find_name (numbered k (rests_of kept)) r ≡ Some n))

    where_is : (p : Path) (n : ℕ) → new_names p ≡ Some n → Where p n
    where_is p n one = elim (cases_below current p) [
      | inl there ↦ inr (there.0, there.1, sym (in_current there.0) ∙ ap new_names (sym there.1) ∙ one)
      | inr off ↦ inl (off, sym (off_current p off) ∙ one)
    ]

    one_name : (p q : Path) (n : ℕ) → Where p n → Where q n → p ≡ q
    one_name p q n (inl a) (inl b) = good.single p q n a.1 b.1
    one_name p q n (inl a) (inr b) = let x = good.low p n a.1 in let y = find_low k (rests_of kept) b.0 n b.2 in absurd (omega (arith, x, y.0))
    one_name p q n (inr a) (inl b) = let x = good.low q n b.1 in let y = find_low k (rests_of kept) a.0 n a.2 in absurd (omega (arith, x, y.0))
    one_name p q n (inr a) (inr b) = a.1 ∙ ap (λ (r : Path). current ++ r) (find_single k (rests_of kept) a.0 b.0 n a.2 b.2) ∙ sym b.1

    root_off : (r : Path) → [] ≢ current ++ r
    root_off r e = let z : 0 ≡ length (current ++ r) = ap length e in absurd (omega arith)

    root_now : new_names [] ≡ Some 0
    root_now = off_current [] root_off ∙ good.root

    top_now : dirs after.tree 0 ≡ true
    top_now = kind_now 0 (good.low [] 0 good.root) ∙ good.top

    inside_dir : (q : Path) → dir_at (dirs after.tree) (new_names (current ++ q)) ≡ kept_dir (content_of kept q)
    unfolding after
    inside_dir q =
        ap (dir_at (dirs after.tree)) (in_current q) ∙ sym (held_dir after.tree.node (find_name (numbered k (rests_of kept)) q)) ∙ ap kept_dir (held_filled kept k s.now.tree.node q)

    pub rolled_good : IsGood (k + length (versions kept)) (dirs after.tree) new_names
    unfolding after
    rolled_good = record {
      root = root_now;
      top = top_now;
      parents = λ p t n one. elim (where_is (p ++ t ∷ []) n one) [
        | inl a ↦
            let off : (r : Path) → p ≢ current ++ r = λ r e. a.0 (r ++ t ∷ []) (ap (λ (x : Path). x ++ t ∷ []) e ∙ append_assoc current r (t ∷ [])) in
            ap (dir_at (dirs after.tree)) (off_current p off) ∙ keeps_dir (s.now.tree.at p) (λ m is. good.low p m is) (good.parents p t n a.1)
        | inr a ↦ elim (last a.0) [
          | inl none ↦
              let is_root : p ≡ [] = push_same p [] t _ (a.1 ∙ ap (λ (r : Path). current ++ r) none) in
              ap (λ (x : Path). dir_at (dirs after.tree) (new_names x)) is_root ∙ ap (dir_at (dirs after.tree)) root_now ∙ top_now
          | inr more ↦
              let is_p : p ≡ current ++ more.0 = push_same p (current ++ more.0) t more.1 (a.1 ∙ ap (λ (r : Path). current ++ r) more.2 ∙ sym (append_assoc current more.0 (more.1 ∷ []))) in
              let kept_one : content_of kept (more.0 ++ more.1 ∷ []) ≡ Some (after.tree.node n) =
              sym (held_filled kept k s.now.tree.node (more.0 ++ more.1 ∷ [])) ∙ ap (λ (o : Option ℕ). held o after.tree.node) (ap (find_name (numbered k (rests_of kept))) (sym more.2) ∙ a.2) in
              ap (λ (x : Path). dir_at (dirs after.tree) (new_names x)) is_p ∙ inside_dir more.0 ∙ whole.parents more.0 more.1 (after.tree.node n) kept_one
        ]
      ];
      single = λ p q n one two. one_name p q n (where_is p n one) (where_is q n two);
      low = λ p n one. elim (where_is p n one) [
        | inl a ↦ let x = good.low p n a.1 in omega arith
        | inr a ↦ let x = find_low k (rests_of kept) a.0 n a.2 in omega (arith, x.1, many)
      ];
    }

    -- a number is new, or its versions are those that it had
    fresh_or_old : (n : ℕ) → ((k ≤ n) × (n < k + length (versions kept))) ⊎ ((fill k (versions kept) s.now.tree.node n ≡ s.now.tree.node n) × (fill k (unchanged (versions kept)) s.now.older n ≡ s.now.older n))
    fresh_or_old n = elim (cases_lt n k) [
      | inl lt ↦ inr (fill_below k (versions kept) s.now.tree.node n lt, fill_below k (unchanged (versions kept)) s.now.older n lt)
      | inr le ↦ elim (cases_lt n (k + length (versions kept))) [
        | inl lt ↦ inl (le, lt)
        | inr past ↦ inr (fill_beyond k (versions kept) s.now.tree.node n past, fill_beyond k (unchanged (versions kept)) s.now.older n (omega (arith, past, length_unchanged (versions kept))))
      ]
    ]

    of_versions : (P : Version → Version → Type 0) → ((v : Version) → P v v) → ((n : ℕ) (v : Version) → Among (s.now.tree.node n ∷ s.now.older n) v → P (s.now.tree.node n) v)
        → (n : ℕ) (v : Version) → Among (fill k (versions kept) s.now.tree.node n ∷ fill k (unchanged (versions kept)) s.now.older n) v → P (fill k (versions kept) s.now.tree.node n) v
    of_versions P same old n v is = elim (fresh_or_old n) [
      | inl new ↦ elim is [
        | inl e ↦ subst (P (fill k (versions kept) s.now.tree.node n)) (sym e) (same (fill k (versions kept) s.now.tree.node n))
        | inr more ↦ absurd (subst (λ (vs : List Version). Among vs v) (fill_none k (versions kept) s.now.older n new.0 new.1) more)
      ]
      | inr was ↦
          subst (λ (w : Version). P w v) (sym was.0) (old n v (subst (λ (vs : List Version). Among (s.now.tree.node n ∷ vs) v) was.1
          (subst (λ (w : Version). Among (w ∷ fill k (unchanged (versions kept)) s.now.older n) v) was.0 is)))
    ]

    short_now : (n : ℕ) (v : Version) → Among (fill k (versions kept) s.now.tree.node n ∷ fill k (unchanged (versions kept)) s.now.older n) v → length v.bytes < 2 ^ 63
    short_now n v is = elim (fresh_or_old n) [
      | inl new ↦ elim is [
        | inl e ↦ subst (λ (w : Version). length w.bytes < 2 ^ 63) (sym e) (fill_all (λ (w : Version). length w.bytes < 2 ^ 63) k (versions kept) s.now.tree.node n (shorts whole) new.0 new.1)
        | inr more ↦ absurd (subst (λ (vs : List Version). Among vs v) (fill_none k (versions kept) s.now.older n new.0 new.1) more)
      ]
      | inr was ↦ valid.short n v (subst (λ (vs : List Version). Among (s.now.tree.node n ∷ vs) v) was.1
          (subst (λ (w : Version). Among (w ∷ fill k (unchanged (versions kept)) s.now.older n) v) was.0 is))
    ]

    pub rolled_valid : IsValid (k + length (versions kept)) after
    unfolding after
    rolled_valid = record {
      maps = λ m is. elim is [ inl e ↦ subst (IsGood (k + length (versions kept)) (dirs after.tree)) (sym e) rolled_good | inr none ↦ absurd none ];
      kinds = of_versions (λ w u. u.dir ≡ w.dir) (λ v. refl) valid.kinds;
      short = short_now;
      whole = valid.whole;
    }

-- ---- the call

some_is : (a b : Content) → Some a ≡ Some b → a ≡ b
some_is a b e = cc

unlinks_low : (k : ℕ) (d : Path) (l : List Name) (rest : List Edit) → links_below k (unlinks d l ++ rest) ≡ links_below k rest
unlinks_low k d [] rest = refl
unlinks_low k d (x ∷ l) rest = unlinks_low k d l rest

numbers_low : (m k : ℕ) (d : Path) (ps : List Path) → k + length ps ≤ m → links_below m (links d (numbered k ps)) ≡ true
numbers_low m k d [] le = refl
numbers_low m k d (p ∷ ps) le = and_from (nat_lt k m) (links_below m (links d (numbered (suc k) ps))) (lt-ltb k m (omega arith)) (numbers_low m (suc k) d ps (omega arith))

module _ (s : State) (store : Store) (valid : IsValid (count_of store) s.now) (reads : s.now.tree ≡ tree_of store) (f y l f2 y2 l2 : ℕ) (seq : ℕ) where
  k : ℕ
  k = count_of store

  module _ (e : Event) (is : IsRestoring store seq e) where
    below_now : IsBelow s.now.tree.at current is.names
    below_now = subst (λ (t : Tree). IsBelow t.at current is.names) (sym reads) is.below

    next_one : History
    next_one = after s (count_of store) valid is.names is.kept below_now is.each

    ran_one : run e s.now ≡ next_one
    unfolding next_one after rolled_names new_names
    ran_one = ap (λ (x : Event). run x s.now) is.is
        ∙ (λ i. rolled (count_of store) (is.held i) (edited (is.moves i) s.now.tree.at) s.now)

    kept_there : (kept : Content) → s.now.tree.snap seq ≡ Some kept → content_of is.kept ≡ kept
    kept_there kept there = some_is (content_of is.kept) kept (sym is.there ∙ ap (λ (t : Tree). t.snap seq) (sym reads) ∙ there)

    suits_one : suits (count_of store) e ≡ true
    suits_one =
        let long : length (rests_of is.kept) ≡ length is.nodes.items = length-map is.kept (λ (x : Kept). x.rest) ∙ sym (length-map is.kept (λ (x : Kept). version x.node)) ∙ ap length (sym is.held) ∙ length-map is.nodes.items version in
        ap (suits (count_of store)) is.is
        ∙ and_from (count_of store == count_of store) (links_below (count_of store + length is.nodes.items) is.edits.items) (eq-eqb (count_of store) (count_of store) refl)
        (ap (links_below (count_of store + length is.nodes.items)) is.moves ∙ unlinks_low (count_of store + length is.nodes.items) current is.names (links current (numbered (count_of store) (rests_of is.kept)))
        ∙ numbers_low (count_of store + length is.nodes.items) (count_of store) current (rests_of is.kept) (omega (arith, long)))

    valid_one : IsValid (count_of store + adds e) (run e s.now)
    unfolding next_one
    valid_one =
        let long : length (versions is.kept) ≡ adds e = ap length (sym is.held) ∙ length-map is.nodes.items version ∙ ap adds (sym is.is) in
        let whole : IsWhole (content_of is.kept) = valid.whole seq (content_of is.kept) (ap (λ (t : Tree). t.snap seq) reads ∙ is.there) in
        subst (λ (h : History). IsValid (count_of store + adds e) h) (sym ran_one)
        (subst (λ (n : ℕ). IsValid (count_of store + n) next_one) long (rolled_valid s (count_of store) valid is.names is.kept below_now is.each whole))

  pub restore_suits : (ev : Result Event AllocError) → IfOk ev (IsRestoring store seq) → IfOk ev (λ e. suits (count_of store) e ≡ true)
  restore_suits ev is = if_ok ev suits_one is

  pub restore_valid : (ev : Result Event AllocError) → IfOk ev (IsRestoring store seq) → IfOk ev (λ e. IsValid (count_of store + adds e) (run e s.now))
  restore_valid ev is = if_ok ev valid_one is

  none_done : (kept : Content) (new : State) (r : Answer) → (OnOk r ⊥ × OnErr r (new ≡ s)) → Rollback kept (disk s f y l) (disk new f2 y2 l2) r
  none_done kept new (Ok x) did = absurd did.0
  none_done kept new (Err e) did = subst (λ (t : State). Rollback {T = Unit {0}} kept (disk s f y l) (disk t f2 y2 l2) (Err e)) (sym did.1) (none_rolled (disk s f y l) (disk s f2 y2 l2) e (same_state s f y l f2 y2 l2) kept)

  one_done : (kept : Content) → s.now.tree.snap seq ≡ Some kept → (e : Event) → IsRestoring store seq e → (new : State) (r : Answer) → Follows (run e s.now) s new r → Rollback kept (disk s f y l) (disk new f2 y2 l2) r
  unfolding next_one
  one_done kept there e is new (Ok tt) did =
      subst (λ (t : State). Rollback {T = Unit {0}} kept (disk s f y l) (disk t f2 y2 l2) (Ok tt)) (sym did.ok)
      (subst (λ (h : History). Rollback {T = Unit {0}} kept (disk s f y l) (disk (next h s) f2 y2 l2) (Ok tt)) (sym (ran_one e is))
      (subst (λ (x : Content). Rollback {T = Unit {0}} x (disk s f y l) (disk (next (next_one e is) s) f2 y2 l2) (Ok tt)) (kept_there e is kept there)
      (rolls s (count_of store) valid is.names is.kept (below_now e is) is.each f y l f2 y2 l2)))
  one_done kept there e is new (Err x) did = none_done kept new (Err x) (tt, did.err)

  pub restore_call : (kept : Content) → s.now.tree.snap seq ≡ Some kept → (ev : Result Event AllocError) (new : State) (r : Answer) → IfOk ev (IsRestoring store seq) → Did ev s new r → Rollback kept (disk s f y l) (disk new f2 y2 l2) r
  restore_call kept there (Ok e) new r is did = one_done kept there e is new r did
  restore_call kept there (Err x) new r is did = none_done kept new r did
