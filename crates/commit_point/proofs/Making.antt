-- A file is built at p.
use Rattle.std.proofs.Common.{◌≡◌, ◌≢◌, ◌⊎◌, inl, inr, ⊎_elim, ℕ, List, [], length, refl, sym, ◌∙◌, ap, subst, Option, Some, None, Result, OnOk, arith}
use Rattle.std.proofs.lemmas.Bool.{cases_eq}
use Rattle.std.proofs.lemmas.List.{length_push}
use Rattle.tree_api.specs.Answer.{IsStat}
use Rattle.tree_api.specs.declared.tree.Stat.{Stat}
use Rattle.tree_api.specs.declared.tree.TreeError.{TreeError}
use Rattle.tree_api.specs.Tree.{Path, Version, Names, Tree, IsFile, IsFree, HasParent, Named, Made, Wrote, Gone, Written, written, file_of, look, held}
use Rattle.tree_api.specs.Disk.{Disk, Sound, Stays, NameChange, Creation, Change, Synced, Leaves}
use Rattle.tree_api.proofs.Images.{on_ok2, same_some, names_now, written_first}
use Rattle.tree_api.proofs.Moments.{Step, leaves_same, leaves_more, leaves_stays}
use Rattle.commit_point.specs.Replacing.{Replaces, Cleared, Filled}
use Rattle.commit_point.proofs.Steps.{replaces_same, replaces_joins, replaces_by, free_stays}

-- what may be told of a path that is free or a file
pub free_file : (t : Tree) (p : Path) (s : Stat) → IsFree t p → IsStat (look t p) (Some s) → IsFile t p
free_file t p s (inl none) is = absurd (subst (λ (o : Option ℕ). IsStat (held o t.node) (Some s)) none is)
free_file t p s (inr file) is = file

pub looked_none : (t : Tree) (p : Path) → IsStat (look t p) None → t.at p ≡ None
looked_none t p is = one (t.at p) refl
  where
    one : (o : Option ℕ) → t.at p ≡ o → t.at p ≡ None
    one None at = at
    one (Some n) at = absurd (subst (λ (x : Option ℕ). IsStat (held x t.node) None) at is)

-- the directory of p stays
pub parent_kept : (p : Path) (t now : Tree) → ((q : Path) → q ≢ p → now.at q ≡ t.at q) → now.node ≡ t.node → HasParent t p → HasParent now p
parent_kept p t now others nodes parent =
    let d = parent.0 in
    let off : d ≢ p = λ same. absurd (omega (arith, ap length (same ∙ parent.2), length_push d parent.1)) in
    (d, parent.1, parent.2, (parent.3.0, others d off ∙ parent.3.1, ap (λ (f : ℕ → Version). (f parent.3.0).dir) nodes ∙ parent.3.2))

-- an image with the names that read in t, or as it is
module _ (p to : Path) (v : Version) (apart : to ≢ p) where
  abbrev pub R : Tree → Tree → Type 0
  R = Replaces p to v

  pub same_named : (a c : Tree) → c.at ≡ a.at → c.snap ≡ a.snap → c.node ≡ a.node → R a c
  same_named a c names snaps nodes = replaces_by p to v apart a c snaps (λ q not. ap (λ (f : Names). f q) names) (λ q m not here. ap (λ (f : ℕ → Version). f m) nodes)
      (free_stays a c p (ap (λ (f : Names). f p) names) (λ m here. ap (λ (f : ℕ → Version). (f m).dir) nodes))

  -- p's name goes
  module _ {T : Type 0} (d1 d2 : Disk) (r : Result T TreeError) (s1 : Sound d1) (change : NameChange (Gone p) d1 d2 r) where
    gone_pair : (d c : Tree) → c.at ≡ change.at → Named change.at d c → R (record d { at = d1.tree.at }) c
    gone_pair d c names is = replaces_by p to v apart (record d { at = d1.tree.at }) c is.snaps
        (λ q not. ap (λ (f : Names). f q) names ∙ change.is.others q not) (λ q m not here. ap (λ (f : ℕ → Version). f m) is.nodes)
        (λ free. inl (ap (λ (f : Names). f p) names ∙ change.is.gone))

    pub gone_step : Step R d1 d2
    gone_step = record {
      steps = record {
        time = change.step.time;
        image = λ c may.
            let from = change.step.image c may in
            ⊎_elim
            (λ same. (from.0, from.1, same_named from.0 c same from.2.snaps from.2.nodes))
            (λ new. (record (from.0) { at = d1.tree.at }, names_now d1 s1 from.0 from.1, gone_pair from.0 c new from.2)) from.2.names;
      };
      now = ⊎_elim (λ same. same_named d1.tree d2.tree same change.partly.snaps change.partly.nodes) (λ new. gone_pair d1.tree d2.tree new change.partly) change.partly.names;
    }

  -- a new node comes to p
  module _ {T : Type 0} (d1 d2 : Disk) (r : Result T TreeError) (s1 : Sound d1) (creation : Creation p (file_of []) d1 d2 r) where
    apart_node : (d : Tree) → d1.may d → (q : Path) (m : ℕ) → d.at q ≡ Some m → m ≢ creation.n
    apart_node d may q m here same = creation.fresh d may q (here ∙ ap Some same)

    old_pair : (d c : Tree) → d1.may d → c.at ≡ d.at → Made creation.n (file_of []) creation.at d c → R d c
    old_pair d c may names is = replaces_by p to v apart d c is.snaps
        (λ q not. ap (λ (f : Names). f q) names) (λ q m not here. is.others m (apart_node d may q m here))
        (free_stays d c p (ap (λ (f : Names). f p) names) (λ m here. ap (λ (w : Version). w.dir) (is.others m (apart_node d may p m here))))

    new_pair : (d c : Tree) → c.at ≡ creation.at → c.node creation.n ≡ file_of [] → Made creation.n (file_of []) creation.at d c → R (record d { at = d1.tree.at }) c
    new_pair d c names node is = replaces_by p to v apart (record d { at = d1.tree.at }) c is.snaps
        (λ q not. ap (λ (f : Names). f q) names ∙ creation.others q not) (λ q m not here. is.others m (apart_node d1.tree s1.now q m here))
        (λ free. inr (creation.n, ap (λ (f : Names). f p) names ∙ creation.added, ap (λ (w : Version). w.dir) node))

    pub created_step : Step R d1 d2
    created_step = record {
      steps = record {
        time = creation.step.time;
        image = λ c may.
            let from = creation.step.image c may in
            ⊎_elim
            (λ same. (from.0, from.1, old_pair from.0 c from.1 same from.2))
            (λ made. (record (from.0) { at = d1.tree.at }, names_now d1 s1 from.0 from.1, new_pair from.0 c made.0 made.1 from.2)) from.2.names;
      };
      now = ⊎_elim (λ same. old_pair d1.tree d2.tree s1.now same creation.partly) (λ made. new_pair d1.tree d2.tree made.0 made.1 creation.partly) creation.partly.names;
    }

  -- the node at p alone changes
  module _ {T : Type 0} (S : Version → Version → Type 0) (d2 d3 : Disk) (r : Result T TreeError) (s2 : Sound d2) (change : Change p S d2 d3 r)
      (alone : (d : Tree) (q : Path) → d2.may d → q ≢ p → d.at q ≢ Some change.n) where
    wrote_pair : (d c : Tree) → d2.may d → Wrote change.n change.to d c → R d c
    wrote_pair d c may is = replaces_by p to v apart d c is.snaps
        (λ q not. ap (λ (f : Names). f q) is.names) (λ q m not here. is.others m (λ same. alone d q may not (here ∙ ap Some same)))
        (free_stays d c p (ap (λ (f : Names). f p) is.names) (λ m here. ⊎_elim
        (λ (same : m ≡ change.n). subst (λ (k : ℕ). (c.node k).dir ≡ (d.node k).dir) (sym same) is.mixed.dir)
        (λ (other : m ≢ change.n). ap (λ (w : Version). w.dir) (is.others m other)) (cases_eq m change.n)))

    pub wrote_step : Step R d2 d3
    wrote_step = record {
      steps = record { time = change.step.time; image = λ c may. let from = change.step.image c may in (from.0, from.1, wrote_pair from.0 c from.1 from.2) };
      now = wrote_pair d2.tree d3.tree s2.now change.partly;
    }

-- a new node stands at its path alone
pub made_alone : {T : Type 0} (p : Path) (v : Version) (old new : Disk) (r : Result T TreeError) → Sound old → (creation : Creation p v old new r)
    → (c : Tree) (q : Path) → new.may c → q ≢ p → c.at q ≢ Some creation.n
made_alone p v old new r sound creation c q may not is =
    let from = creation.step.image c may in
    ⊎_elim
    (λ same. creation.fresh from.0 from.1 q (sym (ap (λ (f : Names). f q) same) ∙ is))
    (λ made. creation.fresh old.tree sound.now q (sym (creation.others q not) ∙ sym (ap (λ (f : Names). f q) made.0) ∙ is)) from.2.names

-- the calls in a row: a look, and perhaps the old file's removal
module _ (p to : Path) (v : Version) (apart : to ≢ p) (d0 d1 : Disk) (s0 : Sound d0) (s1 : Sound d1) (stays : Stays d0 d1) where
  pub looked_leaves : Leaves (Replaces p to v) d0 d1
  looked_leaves = leaves_stays (Replaces p to v) (replaces_same p to v) (replaces_joins p to v) d0 d0 d1 s0 (leaves_same (Replaces p to v) (replaces_same p to v) (replaces_joins p to v) d0 s0) stays

  pub cleared_leaves : {T : Type 0} (d2 : Disk) (r : Result T TreeError) → NameChange (Gone p) d1 d2 r → Leaves (Replaces p to v) d0 d2
  cleared_leaves d2 r change = leaves_more (Replaces p to v) (replaces_same p to v) (replaces_joins p to v) d0 d1 d2 s1 looked_leaves (gone_step p to v apart d1 d2 r s1 change)

pub cleared_now : {T : Type 0} (p : Path) (d0 d1 d2 : Disk) (r : Result T TreeError) → d1.tree ≡ d0.tree → NameChange (Gone p) d1 d2 r → OnOk r (Cleared p d0.tree d2.tree)
cleared_now p d0 d1 d2 r same change = on_ok2 r change.ok change.ok (λ is again. record {
  free = ap (λ (t : Tree). t.at p) is ∙ change.is.gone;
  others = λ q not. ap (λ (t : Tree). t.at q) is ∙ change.is.others q not ∙ ap (λ (t : Tree). t.at q) same;
  nodes = ap (λ (t : Tree). t.node) is ∙ ap (λ (t : Tree). t.node) same;
  snaps = ap (λ (t : Tree). t.snap) is ∙ ap (λ (t : Tree). t.snap) same;
})

-- and its making, its text and its sync
module _ (p to : Path) (v : Version) (apart : to ≢ p) (text : List ℕ) (d0 d1 d2 d3 d4 : Disk) (s1 : Sound d1) (s2 : Sound d2) (s3 : Sound d3) (so_far : Leaves (Replaces p to v) d0 d1)
    {A : Type 0} (r : Result A TreeError) (creation : Creation p (file_of []) d1 d2 r) where
  pub created_leaves : Leaves (Replaces p to v) d0 d2
  created_leaves = leaves_more (Replaces p to v) (replaces_same p to v) (replaces_joins p to v) d0 d1 d2 s1 so_far (created_step p to v apart d1 d2 r s1 creation)

  module _ (done : (d2.tree.at ≡ creation.at) × (d2.tree.node creation.n ≡ file_of [])) {B : Type 0} (w : Result B TreeError) (change : Change p (Written 0 text) d2 d3 w) where
    pub same_node : creation.n ≡ change.n
    same_node = same_some creation.n change.n (sym creation.added ∙ sym (ap (λ (f : Names). f p) done.0) ∙ change.here)

    alone : (d : Tree) (q : Path) → d2.may d → q ≢ p → d.at q ≢ Some change.n
    alone d q may not = subst (λ (k : ℕ). d.at q ≢ Some k) same_node (made_alone p (file_of []) d1 d2 r s1 creation d q may not)

    pub written_leaves : Leaves (Replaces p to v) d0 d3
    written_leaves = leaves_more (Replaces p to v) (replaces_same p to v) (replaces_joins p to v) d0 d2 d3 s2 created_leaves (wrote_step p to v apart (Written 0 text) d2 d3 w s2 change alone)

    pub synced_leaves : {C : Type 0} (z : Result C TreeError) → Synced p d3 d4 z → Leaves (Replaces p to v) d0 d4
    synced_leaves z synced = leaves_stays (Replaces p to v) (replaces_same p to v) (replaces_joins p to v) d0 d3 d4 s3 written_leaves synced.stays

-- what stands there in the end
module _ (p : Path) (text : List ℕ) (d0 d1 d2 d3 d4 : Disk) (s1 : Sound d1) (cleared : Cleared p d0.tree d1.tree) {A B C : Type 0} (r : Result A TreeError) (creation : Creation p (file_of []) d1 d2 r)
    (done : (d2.tree.at ≡ creation.at) × (d2.tree.node creation.n ≡ file_of [])) (w : Result B TreeError) (change : Change p (Written 0 text) d2 d3 w) (wrote : d3.tree.node change.n ≡ change.to)
    (z : Result C TreeError) (synced : Synced p d3 d4 z) where
  same : creation.n ≡ change.n
  same = same_some creation.n change.n (sym creation.added ∙ sym (ap (λ (f : Names). f p) done.0) ∙ change.here)

  pub filled : OnOk z (Filled p (file_of text) d0 d4)
  filled = on_ok2 z synced.names synced.node (λ names node.
      let n = change.n in
      let empty : d2.tree.node n ≡ file_of [] = subst (λ (m : ℕ). d2.tree.node m ≡ file_of []) same done.1 in
      let to : change.to ≡ file_of text =
      change.is ∙ ap (λ (a : Version). record a { bytes = written a.bytes 0 text }) empty ∙ ap file_of (written_first text) in
      let at3 : d3.tree.at ≡ d2.tree.at = change.partly.names in
      let here3 : d3.tree.at p ≡ Some n = ap (λ (f : Names). f p) at3 ∙ change.here in
      let same4 : d4.tree ≡ d3.tree = synced.stays.tree in
      let at4 : d4.tree.at ≡ d3.tree.at = ap (λ (t : Tree). t.at) same4 in
      record {
        n = n;
        here = ap (λ (f : Names). f p) at4 ∙ here3;
        others = λ q not. ap (λ (f : Names). f q) (at4 ∙ at3 ∙ done.0) ∙ creation.others q not ∙ cleared.others q not;
        nodes = λ q m not here.
            let off : m ≢ creation.n = λ is. creation.fresh d1.tree s1.now q (cleared.others q not ∙ here ∙ ap Some is) in
            ap (λ (t : Tree). t.node m) same4 ∙ change.partly.others m (λ is. off (is ∙ sym same)) ∙ creation.partly.others m off ∙ ap (λ (f : ℕ → Version). f m) cleared.nodes;
        holds = ap (λ (t : Tree). t.node n) same4 ∙ wrote ∙ to;
        names = λ c may. names c may ∙ sym at4;
        stable = λ c may. node c n may here3 ∙ wrote ∙ to;
      })
