-- What the trait says of a rename.
use Rattle.std.proofs.Common.{◌≡◌, ◌≢◌, ◌⊎◌, inl, inr, ℕ, ◌+◌, ◌<◌, List, [], ◌∷◌, ◌++◌, Bool, true, false, Option, Some, None, Result, IfOk, refl, sym, ◌∙◌, ap, subst, arith, nat_lt}
use Rattle.std.specs.List.{All}
use Rattle.std.specs.declared.alloc.AllocError.{AllocError}
use Rattle.std.proofs.lemmas.Bool.{lt-ltb, and_from}
use Rattle.std.proofs.lemmas.List.{append-nil}
use Rattle.tree_api.specs.Tree.{Path, Names, Tree, IsFile, IsDir, IsAbove, HasParent, MovedFile, MovedDir}
use Rattle.tree_api.specs.Disk.{NameChange}
use Rattle.tree_api.proofs.Images.{none_named}
use Rattle.tree_memory.specs.History.{History, State, disk, renamed}
use Rattle.tree_memory.specs.Paths.{strip}
use Rattle.tree_memory.specs.Names.{put_at, gone_at, edited, unlinks, links, links_below}
use Rattle.tree_memory.specs.Log.{run, adds, suits}
use Rattle.tree_memory.specs.Valid.{IsGood, IsValid}
use Rattle.tree_memory.specs.Told.{tree_of}
use Rattle.tree_memory.specs.declared.store.Store.{Store}
use Rattle.tree_memory.specs.Tells.{Did}
use Rattle.tree_memory.specs.Events.{IsMoving}
use Rattle.tree_memory.specs.declared.names.Name.{Name}
use Rattle.tree_memory.specs.declared.event.Edit.{Edit}
use Rattle.tree_memory.specs.declared.event.Event.{Event}
use Rattle.tree_memory.proofs.Edits.{put_here, put_other, gone_here, gone_other, moved_dir}
use Rattle.tree_memory.proofs.Orders.{cases_path, strip_append, strip_some}
use Rattle.tree_memory.proofs.Lists.{all_head, all_tail}
use Rattle.tree_memory.specs.Sounds.{same_state}
use Rattle.tree_memory.proofs.Calls.{renames}
use Rattle.tree_memory.proofs.Goods.{good_file, good_dir, none_below, fronts, cases_below, not_both, same_some}
use Rattle.tree_memory.proofs.Valids.{dirs, valid_renamed}
use Rattle.tree_memory.proofs.Dones.{Answer, by_did, if_ok, dir_of}

-- the names after a file moved, and after a directory did
moved_away : (from to : Path) (n : ℕ) (at : Names) → from ≢ to → at from ≡ Some n → MovedFile from to at (gone_at from (put_at to n at))
moved_away from to n at not here = record {
  moved = gone_other from (put_at to n at) to (λ e. not (sym e)) ∙ put_here to n at ∙ sym here;
  gone = λ apart. gone_here from (put_at to n at);
  others = λ q q_from q_to. gone_other from (put_at to n at) q q_from ∙ put_other to n at q q_to;
}

moved_nowhere : (from to : Path) (at : Names) → from ≡ to → MovedFile from to at at
moved_nowhere from to at same = record { moved = ap at (sym same); gone = λ apart. absurd (apart same); others = λ q a b. refl }

-- a name map after the move, with what it means
record Moved (R : Names → Names → Type 0) (at : Names) : Type 0 where
  pub to : Names
  pub is : R at to

some_file_move : (from to : Path) (n : ℕ) (at : Names) → at from ≡ Some n → Moved (MovedFile from to) at
some_file_move from to n at here = elim (cases_path from to) [
  | inl same ↦ record { to = at; is = moved_nowhere from to at same }
  | inr not ↦ record { to = gone_at from (put_at to n at); is = moved_away from to n at not here }
]

same_file_move : (from to : Path) (at a b : Names) → MovedFile from to at a → MovedFile from to at b → a ≡ b
same_file_move from to at a b x y = λ i q. at_q q i
  where
    at_q : (q : Path) → a q ≡ b q
    at_q q = elim (cases_path q to) [
      | inl is_to ↦ ap a is_to ∙ x.moved ∙ sym y.moved ∙ ap b (sym is_to)
      | inr not_to ↦ elim (cases_path q from) [
        | inl is_from ↦
            let apart : from ≢ to = λ e. not_to (is_from ∙ e) in
            ap a is_from ∙ x.gone apart ∙ sym (y.gone apart) ∙ ap b (sym is_from)
        | inr not_from ↦ x.others q not_from not_to ∙ sym (y.others q not_from not_to)
      ]
    ]

same_dir_move : (from to : Path) (at a b : Names) → MovedDir from to at a → MovedDir from to at b → a ≡ b
same_dir_move from to at a b x y = λ i q. at_q q i
  where
    at_q : (q : Path) → a q ≡ b q
    at_q q = elim (cases_below to q) [
      | inl is_to ↦ ap a is_to.1 ∙ x.moved is_to.0 ∙ sym (y.moved is_to.0) ∙ ap b (sym is_to.1)
      | inr not_to ↦ elim (cases_below from q) [
        | inl is_from ↦ ap a is_from.1 ∙ x.gone is_from.0 ∙ sym (y.gone is_from.0) ∙ ap b (sym is_from.1)
        | inr not_from ↦ x.others q not_from not_to ∙ sym (y.others q not_from not_to)
      ]
    ]

-- the names after a directory moved, as a function
then_from : Option Path → Option ℕ → Option ℕ
then_from None o = o
then_from (Some r) o = None

then_to : Option Path → (Path → Option ℕ) → Option ℕ → Option ℕ
then_to None f o = o
then_to (Some r) f o = f r

dir_moved : Path → Path → Names → Names
dir_moved from to at q = then_to (strip to q) (λ r. at (from ++ r)) (then_from (strip from q) (at q))

none_strip : (d q : Path) → ((r : Path) → q ≢ d ++ r) → strip d q ≡ None
none_strip d q off = by (strip d q) refl
  where
    by : (o : Option Path) → strip d q ≡ o → o ≡ None
    by None e = refl
    by (Some r) e = absurd (off r (strip_some d q r e))

dir_moved_is : (from to : Path) (at : Names) → ((r x : Path) → to ++ r ≢ from ++ x) → MovedDir from to at (dir_moved from to at)
unfolding dir_moved then_from then_to
dir_moved_is from to at apart = record {
  moved = λ r. ap (λ (o : Option Path). then_to o (λ x. at (from ++ x)) (then_from (strip from (to ++ r)) (at (to ++ r)))) (strip_append to r);
  gone = λ r.
      ap (λ (o : Option Path). then_to o (λ x. at (from ++ x)) (then_from (strip from (from ++ r)) (at (from ++ r)))) (none_strip to (from ++ r) (λ x e. apart x r (sym e)))
      ∙ ap (λ (o : Option Path). then_from o (at (from ++ r))) (strip_append from r);
  others = λ q not nor.
      ap (λ (o : Option Path). then_to o (λ x. at (from ++ x)) (then_from (strip from q) (at q))) (none_strip to q nor)
      ∙ ap (λ (o : Option Path). then_from o (at q)) (none_strip from q not);
}

true_false : true ≡ false → ⊥
true_false e = cc

unlinks_low : (k : ℕ) (d : Path) (l : List Name) (rest : List Edit) → links_below k (unlinks d l ++ rest) ≡ links_below k rest
unlinks_low k d [] rest = refl
unlinks_low k d (x ∷ l) rest = unlinks_low k d l rest

links_low : (k : ℕ) (d : Path) (l : List Name) (at : Names) (f : Path) → ((p : Path) (n : ℕ) → at p ≡ Some n → n < k) → All (λ (x : Name). at (f ++ x.rest) ≡ Some x.node) l → links_below k (links d l) ≡ true
links_low k d [] at f low each = refl
links_low k d (x ∷ l) at f low each =
    and_from (nat_lt x.node k) (links_below k (links d l)) (lt-ltb x.node k (low (f ++ x.rest) x.node (all_head (λ (y : Name). at (f ++ y.rest) ≡ Some y.node) x l each)))
    (links_low k d l at f low (all_tail (λ (y : Name). at (f ++ y.rest) ≡ Some y.node) x l each))

module _ (s : State) (k : ℕ) (valid : IsValid k s.now) (f y l f2 y2 l2 : ℕ) (from to : Path) (away : IsAbove from to → ⊥) (parent : HasParent s.now.tree to) where
  t : Tree
  t = s.now.tree

  good : IsGood k (dirs s.now.tree) s.now.tree.at
  good = valid.maps s.now.tree.at (inl refl)

  same_k : k ≡ k + 0
  same_k = omega arith

  one_kind : (n m : ℕ) → s.now.tree.at from ≡ Some n → s.now.tree.at from ≡ Some m → (s.now.tree.node n).dir ≡ (s.now.tree.node m).dir
  one_kind n m a b = ap (dirs s.now.tree) (same_some (s.now.tree.at from) n m a b)

  -- ---- a file

  module _ (file : IsFile s.now.tree from) (over : (s.now.tree.at to ≡ None) ⊎ (IsFile s.now.tree from × IsFile s.now.tree to)) where
    file_to : Moved (MovedFile from to) s.now.tree.at
    file_to = some_file_move from to file.0 s.now.tree.at file.1

    ran_file : (e : Event) → IsMoving s.now.tree from to e → run e s.now ≡ renamed file_to.to s.now
    unfolding file_to
    ran_file e (inl one) = ap (λ (x : Event). run x s.now) one.is ∙ ap (λ (at : Names). renamed at s.now)
        (same_file_move from to s.now.tree.at _ file_to.to (moved_away from to one.node s.now.tree.at one.apart one.here) file_to.is)
    ran_file e (inr (inl one)) = ap (λ (x : Event). run x s.now) one.is ∙ ap (λ (es : List Edit). renamed (edited es s.now.tree.at) s.now) one.none ∙ ap (λ (at : Names). renamed at s.now)
        (same_file_move from to s.now.tree.at _ file_to.to (moved_nowhere from to s.now.tree.at one.same) file_to.is)
    ran_file e (inr (inr one)) = absurd (true_false (sym one.dir ∙ one_kind one.node file.0 one.here file.1 ∙ file.2))

    pub file_call : (ev : Result Event AllocError) (new : State) (r : Answer) → IfOk ev (IsMoving s.now.tree from to) → Did ev s new r → NameChange (MovedFile from to) (disk s f y l) (disk new f2 y2 l2) r
    unfolding file_to
    file_call ev new r is did =
        by_did s (renamed file_to.to s.now) y2 l2 f2 (λ d x. NameChange (MovedFile from to) (disk s f y l) d x)
        (renames s f y l f2 y2 l2 tt (MovedFile from to) file_to.to file_to.is)
        (λ e. none_named (disk s f y l) (disk s f2 y2 l2) e (same_state s f y l f2 y2 l2) (MovedFile from to) file_to.to file_to.is)
        ev (if_ok ev ran_file is) new r did

    file_over : (m : ℕ) → s.now.tree.at to ≡ Some m → (s.now.tree.node m).dir ≡ false
    file_over m here = elim over [ inl free ↦ absurd (not_both (s.now.tree.at to) m free here) | inr both ↦ ap (dirs s.now.tree) (same_some (s.now.tree.at to) m both.1.0 here both.1.1) ∙ both.1.2 ]

    file_good : IsGood k (dirs s.now.tree) file_to.to
    unfolding file_to
    file_good = elim (cases_path from to) [
      | inl same ↦ subst (IsGood k (dirs s.now.tree)) (same_file_move from to s.now.tree.at s.now.tree.at file_to.to (moved_nowhere from to s.now.tree.at same) file_to.is) good
      | inr not ↦ good_file k (dirs s.now.tree) s.now.tree.at good to parent.0 parent.1 parent.2 (dir_of s.now.tree parent.0 parent.3) from file.0 file_to.to file_to.is not file.1 file.2 file_over
    ]

    pub file_valid : (ev : Result Event AllocError) → IfOk ev (IsMoving s.now.tree from to) → IfOk ev (λ e. IsValid (k + adds e) (run e s.now))
    file_valid ev is = if_ok ev (λ e one. subst (λ (h : History). IsValid (k + adds e) h) (sym (ran_file e one)) (subst (λ (m : ℕ). IsValid m (renamed file_to.to s.now)) (no_more e one) (valid_renamed k file_to.to s.now valid file_good))) is
      where
        no_more : (e : Event) → IsMoving s.now.tree from to e → k ≡ k + adds e
        no_more e (inl one) = same_k ∙ ap (λ (x : Event). k + adds x) (sym one.is)
        no_more e (inr (inl one)) = same_k ∙ ap (λ (x : Event). k + adds x) (sym one.is)
        no_more e (inr (inr one)) = same_k ∙ ap (λ (x : Event). k + adds x) (sym one.is)

  -- ---- a directory

  module _ (dir : IsDir s.now.tree from) (free : s.now.tree.at to ≡ None) where
    to_free : (r : Path) → s.now.tree.at (to ++ r) ≡ None
    to_free r = none_below k (dirs s.now.tree) s.now.tree.at good to r free

    -- `to` isn't below the directory
    off : (r : Path) → to ≢ from ++ r
    off [] e = not_both (s.now.tree.at to) dir.0 free (ap s.now.tree.at (e ∙ append-nil from) ∙ dir.1)
    off (x ∷ r) e = away (x, r, e)

    apart : (r x : Path) → to ++ r ≢ from ++ x
    apart r x e = elim (fronts to from r x e) [
      | inl more ↦ not_both (s.now.tree.at (to ++ more.0)) dir.0 (to_free more.0) (ap s.now.tree.at (sym more.1) ∙ dir.1)
      | inr more ↦ off more.0 more.1
    ]

    dir_to : Names
    dir_to = dir_moved from to s.now.tree.at

    dir_is : MovedDir from to s.now.tree.at dir_to
    unfolding dir_to
    dir_is = dir_moved_is from to s.now.tree.at apart

    ran_dir : (e : Event) → IsMoving s.now.tree from to e → run e s.now ≡ renamed dir_to s.now
    ran_dir e (inl one) = absurd (true_false (sym dir.2 ∙ one_kind dir.0 one.node dir.1 one.here ∙ one.file))
    ran_dir e (inr (inl one)) = absurd (true_false (sym dir.2 ∙ one_kind dir.0 one.node dir.1 one.here ∙ one.file))
    ran_dir e (inr (inr one)) =
        ap (λ (x : Event). run x s.now) one.is ∙ ap (λ (es : List Edit). renamed (edited es s.now.tree.at) s.now) one.moves
        ∙ ap (λ (at : Names). renamed at s.now) (same_dir_move from to s.now.tree.at _ dir_to (moved_dir from to one.names s.now.tree.at one.below apart to_free) dir_is)

    pub dir_call : (ev : Result Event AllocError) (new : State) (r : Answer) → IfOk ev (IsMoving s.now.tree from to) → Did ev s new r → NameChange (MovedDir from to) (disk s f y l) (disk new f2 y2 l2) r
    dir_call ev new r is did =
        by_did s (renamed dir_to s.now) y2 l2 f2 (λ d x. NameChange (MovedDir from to) (disk s f y l) d x)
        (renames s f y l f2 y2 l2 tt (MovedDir from to) dir_to dir_is)
        (λ e. none_named (disk s f y l) (disk s f2 y2 l2) e (same_state s f y l f2 y2 l2) (MovedDir from to) dir_to dir_is)
        ev (if_ok ev ran_dir is) new r did

    from_not_root : from ≢ []
    from_not_root e = off to (ap (λ p. p ++ to) (sym e))

    dir_good : IsGood k (dirs s.now.tree) dir_to
    dir_good = good_dir k (dirs s.now.tree) s.now.tree.at good to parent.0 parent.1 parent.2 (dir_of s.now.tree parent.0 parent.3) from dir_to dir_is from_not_root off

    pub dir_valid : (ev : Result Event AllocError) → IfOk ev (IsMoving s.now.tree from to) → IfOk ev (λ e. IsValid (k + adds e) (run e s.now))
    dir_valid ev is = if_ok ev (λ e one. subst (λ (h : History). IsValid (k + adds e) h) (sym (ran_dir e one)) (subst (λ (m : ℕ). IsValid m (renamed dir_to s.now)) (no_more e one) (valid_renamed k dir_to s.now valid dir_good))) is
      where
        no_more : (e : Event) → IsMoving s.now.tree from to e → k ≡ k + adds e
        no_more e (inl one) = same_k ∙ ap (λ (x : Event). k + adds x) (sym one.is)
        no_more e (inr (inl one)) = same_k ∙ ap (λ (x : Event). k + adds x) (sym one.is)
        no_more e (inr (inr one)) = same_k ∙ ap (λ (x : Event). k + adds x) (sym one.is)

  -- ---- either

  pub move_suits : (ev : Result Event AllocError) → IfOk ev (IsMoving s.now.tree from to) → IfOk ev (λ e. suits k e ≡ true)
  move_suits ev is = if_ok ev (λ e one. by e one) is
    where
      by : (e : Event) → IsMoving s.now.tree from to e → suits k e ≡ true
      by e (inl one) = ap (suits k) one.is ∙ lt-ltb one.node k (good.low from one.node one.here)
      by e (inr (inl one)) = ap (suits k) one.is ∙ ap (links_below k) one.none
      by e (inr (inr one)) = ap (suits k) one.is ∙ ap (links_below k) one.moves ∙ unlinks_low k from one.names (links to one.names) ∙ links_low k to one.names s.now.tree.at from good.low one.below.each

  pub move_valid : s.now.tree.at from ≢ None → (s.now.tree.at to ≡ None) ⊎ (IsFile s.now.tree from × IsFile s.now.tree to) → (ev : Result Event AllocError) → IfOk ev (IsMoving s.now.tree from to) → IfOk ev (λ e. IsValid (k + adds e) (run e s.now))
  move_valid there over ev is = by (s.now.tree.at from) refl there
    where
      kind : (b : Bool) (n : ℕ) → s.now.tree.at from ≡ Some n → (s.now.tree.node n).dir ≡ b → IfOk ev (λ e. IsValid (k + adds e) (run e s.now))
      kind false n here e = file_valid (n, here, e) over ev is
      kind true n here e = elim over [
        | inl free ↦ dir_valid (n, here, e) free ev is
        | inr both ↦ absurd (true_false (sym e ∙ one_kind n both.0.0 here both.0.1 ∙ both.0.2))
      ]

      by : (o : Option ℕ) → s.now.tree.at from ≡ o → o ≢ None → IfOk ev (λ e. IsValid (k + adds e) (run e s.now))
      by None e not = absurd (not refl)
      by (Some n) e not = kind (s.now.tree.node n).dir n e refl

pub if_moving : (store : Store) {t : Tree} (reads : t ≡ tree_of store) (from to : Path) (ev : Result Event AllocError) → IfOk ev (IsMoving (tree_of store) from to) → IfOk ev (IsMoving t from to)
if_moving store reads from to ev is = subst (λ (x : Tree). IfOk ev (IsMoving x from to)) (sym reads) is

pub free_target : (t : Tree) (from to : Path) → IsDir t from → (t.at to ≡ None) ⊎ (IsFile t from × IsFile t to) → t.at to ≡ None
free_target t from to dir (inl free) = free
free_target t from to dir (inr both) = absurd (true_false (sym dir.2 ∙ ap (dirs t) (same_some (t.at from) dir.0 both.0.0 dir.1 both.0.1) ∙ both.0.2))
