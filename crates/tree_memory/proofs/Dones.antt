-- What the trait says of each call, by what its event did.
use Rattle.std.proofs.Common.{◌≡◌, ◌≢◌, inl, ℕ, suc, ◌+◌, ◌<◌, ◌^◌, List, [], ◌∷◌, ◌++◌, length, Bool, true, false, cond, Option, Some, None, Result, Ok, Err, OnOk, OnErr, IfOk, refl, sym, ◌∙◌, ap, subst, arith, lit<, nat_lt}
use Rattle.std.specs.declared.alloc.AllocError.{AllocError}
use Rattle.std.proofs.lemmas.Bool.{eq-eqb, lt-ltb, and_from}
use Rattle.std.proofs.lemmas.Grind.{common_steps}
use Rattle.tree_api.specs.Tree.{Path, Version, Content, Tree, IsFile, IsDir, HasParent, IsEmptyDir, Gone, AttrIs, content}
use Rattle.tree_api.specs.Disk.{Disk, Still, NameChange, Creation, Change, Synced, SyncedNames, SyncedAll, SnapChange}
use Rattle.tree_api.specs.declared.tree.TreeError.{TreeError}
use Rattle.tree_api.proofs.Images.{none_created, none_named, none_changed, none_synced, none_synced_names, none_snapped}
use Rattle.tree_memory.specs.History.{History, IsImage, State, next, disk, renamed, wrote, made, synced, synced_names, synced_all, snapped}
use Rattle.tree_memory.specs.Paths.{same_step}
use Rattle.tree_memory.specs.Names.{names_at, put_at, gone_at}
use Rattle.tree_memory.specs.Nodes.{fresh, written_in, cut_to, with_attr, fits}
use Rattle.tree_memory.specs.Log.{run, adds, suits, flush}
use Rattle.tree_memory.specs.Valid.{dir_at, IsGood, IsWhole, IsValid}
use Rattle.tree_memory.specs.Told.{tree_of}
use Rattle.tree_memory.specs.declared.store.Store.{Store}
use Rattle.tree_memory.specs.Tells.{Follows, Did}
use Rattle.tree_memory.specs.Events.{IsChange}
use Rattle.tree_memory.specs.declared.event.Event.{Event}
use Rattle.tree_memory.specs.declared.event.Event.TheVariants.{Make, Remove, SyncFile, SyncNames, Snapshot, DropSnapshot}
use Rattle.tree_memory.proofs.Edits.{put_here, put_other, gone_here, gone_other}
use Rattle.tree_memory.proofs.Orders.{same_step_refl, same_step_is}
use Rattle.tree_memory.specs.Sounds.{same_state}
use Rattle.tree_memory.proofs.Calls.{renames, creates, changes, syncs_node, syncs_names, syncs_all, snaps}
use Rattle.tree_memory.proofs.Goods.{good_gone, none_below_file}
use Rattle.tree_memory.specs.Images.{synced_all_image}
use Rattle.tree_memory.proofs.Valids.{dirs, valid_renamed, valid_wrote, valid_made, valid_synced, valid_synced_names, valid_snapped, whole_content}

abbrev pub Answer : Type 0
Answer = Result (Unit {0}) TreeError

module _ (s : State) (h : History) (y2 l2 f2 : ℕ) (R : Disk → Answer → Type 0) (done : R (disk (next h s) f2 y2 l2) (Ok tt)) (none : (e : TreeError) → R (disk s f2 y2 l2) (Err e)) where
  by_follows : (new : State) (r : Answer) → Follows h s new r → R (disk new f2 y2 l2) r
  by_follows new (Ok x) k = subst (λ (t : State). R (disk t f2 y2 l2) (Ok tt)) (sym k.ok) done
  by_follows new (Err e) k = subst (λ (t : State). R (disk t f2 y2 l2) (Err e)) (sym k.err) (none e)

  by_none : (new : State) (r : Answer) → (OnOk r ⊥ × OnErr r (new ≡ s)) → R (disk new f2 y2 l2) r
  by_none new (Ok x) k = absurd k.0
  by_none new (Err e) k = subst (λ (t : State). R (disk t f2 y2 l2) (Err e)) (sym k.1) (none e)

  pub by_did : (ev : Result Event AllocError) → IfOk ev (λ e. run e s.now ≡ h) → (new : State) (r : Answer) → Did ev s new r → R (disk new f2 y2 l2) r
  by_did (Ok e) is new r did = by_follows new r (subst (λ (g : History). Follows g s new r) is did)
  by_did (Err x) is new r did = by_none new r did

pub if_ok : {P Q : Event → Type 0} (ev : Result Event AllocError) → ((e : Event) → P e → Q e) → IfOk ev P → IfOk ev Q
if_ok (Ok e) f p = f e p
if_ok (Err x) f p = tt

found : (o : Option ℕ) → o ≢ None → (n : ℕ) × (o ≡ Some n)
found None not = absurd (not refl)
found (Some n) not = (n, refl)

one_node : (o : Option ℕ) (a b : ℕ) → o ≡ Some a → o ≡ Some b → a ≡ b
one_node o a b e f = let z : Some a ≡ Some b = sym e ∙ f in cc

pub dir_of : (t : Tree) (d : Path) → IsDir t d → dir_at (dirs t) (t.at d) ≡ true
dir_of t d is = ap (dir_at (dirs t)) is.1 ∙ is.2

module _ (s : State) (k : ℕ) (valid : IsValid k s.now) (f y l f2 y2 l2 : ℕ) where
  now_good : IsGood k (dirs s.now.tree) s.now.tree.at
  now_good = valid.maps s.now.tree.at (inl refl)

  still : Still (disk s f y l) (disk s f2 y2 l2)
  still = same_state s f y l f2 y2 l2

  -- ---- a new node

  unused : (c : Tree) → IsImage s.now c → (q : Path) → c.at q ≢ Some k
  unused c may q here = let lt = (valid.maps c.at may.names).low q k here in absurd (omega arith)

  pub make_call : (p : Path) (dir : Bool) (ev : Result Event AllocError) (new : State) (r : Answer) → IfOk ev (λ e. e ≡ Make p k dir) → Did ev s new r → Creation p (fresh dir) (disk s f y l) (disk new f2 y2 l2) r
  make_call p dir ev new r is did =
      let at = put_at p k s.now.tree.at in
      by_did s (made k (fresh dir) at s.now) y2 l2 f2 (λ d x. Creation p (fresh dir) (disk s f y l) d x)
      (creates s f y l f2 y2 l2 tt p (fresh dir) k at (put_here p k s.now.tree.at) (put_other p k s.now.tree.at) unused)
      (λ e. none_created (disk s f y l) (disk s f2 y2 l2) e still p (fresh dir) k at (put_here p k s.now.tree.at) (put_other p k s.now.tree.at) unused)
      ev (if_ok ev (λ e same. ap (λ (x : Event). run x s.now) same) is) new r did

  pub make_valid : (p : Path) (dir : Bool) (ev : Result Event AllocError) → s.now.tree.at p ≡ None → HasParent s.now.tree p → IfOk ev (λ e. e ≡ Make p k dir) → IfOk ev (λ e. IsValid (k + adds e) (run e s.now))
  make_valid p dir ev free parent is =
      let at = put_at p k s.now.tree.at in
      let more : suc k ≡ k + 1 = omega arith in
      let made_one = valid_made k (fresh dir) at s.now p parent.0 parent.1 valid (lit< tt) parent.2 (dir_of s.now.tree parent.0 parent.3) free (put_here p k s.now.tree.at) (put_other p k s.now.tree.at) in
      if_ok ev (λ e same. subst (λ (x : Event). IsValid (k + adds x) (run x s.now)) (sym same) (subst (λ (m : ℕ). IsValid m (made k (fresh dir) at s.now)) more made_one)) is

  pub make_suits : (p : Path) (dir : Bool) (ev : Result Event AllocError) → IfOk ev (λ e. e ≡ Make p k dir) → IfOk ev (λ e. suits k e ≡ true)
  make_suits p dir ev is = if_ok ev (λ e same. ap (suits k) same ∙ eq-eqb k k refl) is

  -- ---- a name that goes

  gone_is : (p : Path) → Gone p s.now.tree.at (gone_at p s.now.tree.at)
  gone_is p = record { gone = gone_here p s.now.tree.at; others = gone_other p s.now.tree.at }

  pub gone_call : (p : Path) (ev : Result Event AllocError) (new : State) (r : Answer) → IfOk ev (λ e. e ≡ Remove p) → Did ev s new r → NameChange (Gone p) (disk s f y l) (disk new f2 y2 l2) r
  gone_call p ev new r is did =
      by_did s (renamed (gone_at p s.now.tree.at) s.now) y2 l2 f2 (λ d x. NameChange (Gone p) (disk s f y l) d x)
      (renames s f y l f2 y2 l2 tt (Gone p) (gone_at p s.now.tree.at) (gone_is p))
      (λ e. none_named (disk s f y l) (disk s f2 y2 l2) e still (Gone p) (gone_at p s.now.tree.at) (gone_is p))
      ev (if_ok ev (λ e same. ap (λ (x : Event). run x s.now) same) is) new r did

  gone_valid : (p : Path) (ev : Result Event AllocError) → p ≢ [] → ((t : List ℕ) → s.now.tree.at (p ++ t ∷ []) ≡ None) → IfOk ev (λ e. e ≡ Remove p) → IfOk ev (λ e. IsValid (k + adds e) (run e s.now))
  gone_valid p ev named empty is =
      let same_k : k ≡ k + 0 = omega arith in
      let ok = valid_renamed k (gone_at p s.now.tree.at) s.now valid (good_gone k (dirs s.now.tree) s.now.tree.at now_good p (gone_at p s.now.tree.at) (gone_is p) named empty) in
      if_ok ev (λ e same. subst (λ (x : Event). IsValid (k + adds x) (run x s.now)) (sym same) (subst (λ (m : ℕ). IsValid m (renamed (gone_at p s.now.tree.at) s.now)) same_k ok)) is

  file_named : (p : Path) → IsFile s.now.tree p → p ≢ []
  file_named p file e =
      let z : 0 ≡ file.0 = one_node (s.now.tree.at []) 0 file.0 now_good.root (ap s.now.tree.at (sym e) ∙ file.1) in
      let w : true ≡ false = sym now_good.top ∙ ap (dirs s.now.tree) z ∙ file.2 in cc

  pub gone_file_valid : (p : Path) (ev : Result Event AllocError) → IsFile s.now.tree p → IfOk ev (λ e. e ≡ Remove p) → IfOk ev (λ e. IsValid (k + adds e) (run e s.now))
  gone_file_valid p ev file is = gone_valid p ev (file_named p file) (λ t. none_below_file k (dirs s.now.tree) s.now.tree.at now_good p file.0 t file.1 file.2) is

  pub gone_dir_valid : (p : Path) (ev : Result Event AllocError) → p ≢ [] → IsEmptyDir s.now.tree p → IfOk ev (λ e. e ≡ Remove p) → IfOk ev (λ e. IsValid (k + adds e) (run e s.now))
  gone_dir_valid p ev named empty is = gone_valid p ev named empty.1 is

  pub gone_suits : (p : Path) (ev : Result Event AllocError) → IfOk ev (λ e. e ≡ Remove p) → IfOk ev (λ e. suits k e ≡ true)
  gone_suits p ev is = if_ok ev (λ e same. ap (suits k) same) is

  -- ---- a node that changes

  module _ (p : Path) (R : Version → Version → Type 0) (fn : Version → Version) (means : (v : Version) → R v (fn v)) (dir : (v : Version) → (fn v).dir ≡ v.dir) (there : s.now.tree.at p ≢ None) where
    node : (n : ℕ) × (s.now.tree.at p ≡ Some n)
    node = found (s.now.tree.at p) there

    to : Version
    to = fn (s.now.tree.node node.0)

    ran_change : (e : Event) → IsChange s.now.tree p fn e → run e s.now ≡ wrote node.0 to s.now
    unfolding node to
    ran_change e is =
        let same : is.node ≡ node.0 = one_node (s.now.tree.at p) is.node node.0 is.here node.1 in
        ap (λ (x : Event). run x s.now) is.is ∙ (λ i. wrote (same i) (is.does (s.now.tree.node (same i)) i) s.now)

    pub change_call : (ev : Result Event AllocError) (new : State) (r : Answer) → IfOk ev (IsChange s.now.tree p fn) → Did ev s new r → Change p R (disk s f y l) (disk new f2 y2 l2) r
    unfolding node to
    change_call ev new r is did =
        by_did s (wrote node.0 to s.now) y2 l2 f2 (λ d x. Change p R (disk s f y l) d x)
        (changes s f y l f2 y2 l2 tt p R node.0 to node.1 (means (s.now.tree.node node.0)) (dir (s.now.tree.node node.0)))
        (λ e. none_changed (disk s f y l) (disk s f2 y2 l2) e still p R node.0 to node.1 (means (s.now.tree.node node.0)))
        ev (if_ok ev ran_change is) new r did

    pub change_valid : (ev : Result Event AllocError) → ((v : Version) → length v.bytes < 2 ^ 63 → length (fn v).bytes < 2 ^ 63) → IfOk ev (IsChange s.now.tree p fn) → IfOk ev (λ e. IsValid (k + adds e) (run e s.now))
    unfolding node to
    change_valid ev short is =
        let same_k : k ≡ k + 0 = omega arith in
        let ok = valid_wrote k node.0 to s.now valid (dir (s.now.tree.node node.0)) (short (s.now.tree.node node.0) (valid.short node.0 (s.now.tree.node node.0) (inl refl))) in
        if_ok ev (λ e one. subst (λ (x : Event). IsValid (k + adds x) (run e s.now)) (sym one.is) (subst (λ (g : History). IsValid (k + 0) g) (sym (ran_change e one)) (subst (λ (m : ℕ). IsValid m (wrote node.0 to s.now)) same_k ok))) is

  pub change_suits : (p : Path) (fn : Version → Version) (ev : Result Event AllocError) → IfOk ev (IsChange s.now.tree p fn) → IfOk ev (λ e. suits k e ≡ true)
  change_suits p fn ev is = if_ok ev (λ e one. ap (suits k) one.is ∙ and_from (nat_lt one.node k) (fits one.change) (lt-ltb one.node k (now_good.low p one.node one.here)) one.fit) is

  -- ---- syncs

  pub sync_call : (p : Path) (ev : Result Event AllocError) (new : State) (r : Answer) → s.now.tree.at p ≢ None → IfOk ev (λ e. (n : ℕ) × (e ≡ SyncFile n) × (s.now.tree.at p ≡ Some n)) → Did ev s new r → Synced p (disk s f y l) (disk new f2 y2 l2) r
  sync_call p ev new r there is did =
      let n = found (s.now.tree.at p) there in
      by_did s (synced n.0 s.now) y2 l2 f2 (λ d x. Synced p (disk s f y l) d x)
      (syncs_node s f y l f2 y2 l2 tt p n.0 n.1)
      (λ e. none_synced (disk s f y l) (disk s f2 y2 l2) e still p)
      ev (if_ok ev (λ e one. ap (λ (x : Event). run x s.now) one.1 ∙ ap (λ (m : ℕ). synced m s.now) (one_node (s.now.tree.at p) one.0 n.0 one.2 n.1)) is) new r did

  pub sync_valid : (p : Path) (ev : Result Event AllocError) → IfOk ev (λ e. (n : ℕ) × (e ≡ SyncFile n) × (s.now.tree.at p ≡ Some n)) → IfOk ev (λ e. IsValid (k + adds e) (run e s.now))
  sync_valid p ev is =
      let same_k : k ≡ k + 0 = omega arith in
      if_ok ev (λ e one. subst (λ (x : Event). IsValid (k + adds x) (run x s.now)) (sym one.1) (subst (λ (m : ℕ). IsValid m (synced one.0 s.now)) same_k (valid_synced k one.0 s.now valid))) is

  pub sync_suits : (p : Path) (ev : Result Event AllocError) → IfOk ev (λ e. (n : ℕ) × (e ≡ SyncFile n) × (s.now.tree.at p ≡ Some n)) → IfOk ev (λ e. suits k e ≡ true)
  sync_suits p ev is = if_ok ev (λ e one. ap (suits k) one.1 ∙ lt-ltb one.0 k (now_good.low p one.0 one.2)) is

  pub names_call : (new : State) (r : Answer) → Did {T = Unit {0}} {E = TreeError} (Ok SyncNames) s new r → SyncedNames (disk s f y l) (disk new f2 y2 l2) r
  names_call new r did =
      by_did s (synced_names s.now) y2 l2 f2 (λ d x. SyncedNames (disk s f y l) d x)
      (syncs_names s f y l f2 y2 l2 tt)
      (λ e. none_synced_names (disk s f y l) (disk s f2 y2 l2) e still)
      (Ok SyncNames) refl new r did

  pub names_valid : IsValid (k + 0) (synced_names s.now)
  names_valid = let same_k : k ≡ k + 0 = omega arith in subst (λ (m : ℕ). IsValid m (synced_names s.now)) same_k (valid_synced_names k s.now valid)

  -- ---- snapshots

  pub snap_call : (seq : ℕ) (new : State) (r : Answer) → Did {T = Unit {0}} {E = TreeError} (Ok (Snapshot seq)) s new r → SnapChange seq (Some (content s.now.tree)) (disk s f y l) (disk new f2 y2 l2) r
  snap_call seq new r did =
      by_did s (snapped seq (Some (content s.now.tree)) s.now) y2 l2 f2 (λ d x. SnapChange seq (Some (content s.now.tree)) (disk s f y l) d x)
      (snaps s f y l f2 y2 l2 tt seq (Some (content s.now.tree)))
      (λ e. none_snapped (disk s f y l) (disk s f2 y2 l2) e still seq (Some (content s.now.tree)))
      (Ok (Snapshot seq)) refl new r did

  pub snap_valid : (seq : ℕ) → IsValid (k + 0) (snapped seq (Some (content s.now.tree)) s.now)
  snap_valid seq = let same_k : k ≡ k + 0 = omega arith in
      subst (λ (m : ℕ). IsValid m (snapped seq (Some (content s.now.tree)) s.now)) same_k (valid_snapped k seq (Some (content s.now.tree)) s.now valid (λ c e. subst IsWhole (some_same (content s.now.tree) c e) (whole_content k s.now valid)))
    where
      some_same : (a b : Content) → Some a ≡ Some b → a ≡ b
      some_same a b e = cc

  pub drop_call : (seq : ℕ) (new : State) (r : Answer) → Did {T = Unit {0}} {E = TreeError} (Ok (DropSnapshot seq)) s new r → SnapChange seq None (disk s f y l) (disk new f2 y2 l2) r
  drop_call seq new r did =
      by_did s (snapped seq None s.now) y2 l2 f2 (λ d x. SnapChange seq None (disk s f y l) d x)
      (snaps s f y l f2 y2 l2 tt seq None)
      (λ e. none_snapped (disk s f y l) (disk s f2 y2 l2) e still seq None)
      (Ok (DropSnapshot seq)) refl new r did

  pub drop_valid : (seq : ℕ) → IsValid (k + 0) (snapped seq None s.now)
  drop_valid seq = let same_k : k ≡ k + 0 = omega arith in
      subst (λ (m : ℕ). IsValid m (snapped seq None s.now)) same_k (valid_snapped k seq None s.now valid (λ c e. cc))

-- ---- what changes of a node mean

pub attr_is : (name : List ℕ) (value : Option (List ℕ)) (v : Version) → AttrIs name value v (with_attr v name value)
attr_is name value v = record {
  dir = refl;
  bytes = refl;
  here = ap (λ (b : Bool). cond b value (v.attr name)) (same_step_refl name);
  others = λ k not. by (same_step name k) (λ e. not (sym (same_step_is name k e))) (v.attr k);
}
  where
    by : (b : Bool) → (b ≡ true → ⊥) → (old : Option (List ℕ)) → cond b value old ≡ old
    by true never old = absurd (never refl)
    by false never old = refl

pub written_short : (v : Version) (at : ℕ) (bytes : List ℕ) → at + length bytes < 2 ^ 63 → length v.bytes < 2 ^ 63 → length (written_in v at bytes).bytes < 2 ^ 63
written_short v at [] fit short = short
written_short v at (b ∷ bs) fit short = grind (arith, common_steps)

pub cut_short : (v : Version) (len : ℕ) → len < 2 ^ 63 → length v.bytes < 2 ^ 63 → length (cut_to v len).bytes < 2 ^ 63
cut_short v len fit short = grind (arith, common_steps)

-- a whole sync, also of a tree that is synced
pub sync_all_call : (s : State) (b : Bool) (f y l f2 y2 : ℕ) (done : Type 0) → SyncedAll (disk (flush b s) f y l) (disk (flush true s) f2 y2 l) done
sync_all_call s false f y l f2 y2 done = syncs_all s f y l f2 y2 l done
sync_all_call s true f y l f2 y2 done = record {
  stays = (same_state (flush true s) f y l f2 y2 l).stays;
  all = λ is c may. (synced_all_image (synced_all s.now) c may).1;
}

-- ---- what the data shows of the tree as it reads

module _ (store : Store) {t : Tree} (reads : t ≡ tree_of store) where
  pub seen_there : (p : Path) → t.at p ≢ None → names_at store.names p ≢ None
  seen_there p there e = there (ap (λ (x : Tree). x.at p) reads ∙ e)

  pub seen_snap : (seq : ℕ) → t.snap seq ≢ None → (tree_of store).snap seq ≢ None
  seen_snap seq there e = there (ap (λ (x : Tree). x.snap seq) reads ∙ e)

  pub if_changed : (p : Path) (fn : Version → Version) (ev : Result Event AllocError) → IfOk ev (IsChange (tree_of store) p fn) → IfOk ev (IsChange t p fn)
  if_changed p fn ev is = subst (λ (x : Tree). IfOk ev (IsChange x p fn)) (sym reads) is

  pub if_synced : (p : Path) (ev : Result Event AllocError) → IfOk ev (λ e. (n : ℕ) × (e ≡ SyncFile n) × (names_at store.names p ≡ Some n)) → IfOk ev (λ e. (n : ℕ) × (e ≡ SyncFile n) × (t.at p ≡ Some n))
  if_synced p ev is = subst (λ (x : Tree). IfOk ev (λ e. (n : ℕ) × (e ≡ SyncFile n) × (x.at p ≡ Some n))) (sym reads) is

pub file_there : (t : Tree) (p : Path) → IsFile t p → t.at p ≢ None
file_there t p file e = let z : None ≡ Some file.0 = sym e ∙ file.1 in cc
