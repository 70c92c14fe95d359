-- What a crash leaves of one object, over runs of calls.
use Rattle.std.proofs.Common.{◌≡◌, inl, inr, ⊎_elim, sym, ◌∙◌, ap, subst, Option}
use Rattle.fs_names.specs.declared.settings.Settings.{Settings}
use Rattle.tree_api.specs.Tree.{Version, Tree}
use Rattle.tree_api.specs.Disk.{Disk, Sound, Stays, Leaves}
use Rattle.tree_api.proofs.Moments.{Joins, wider, stays_same, leaves_run, leaves_wider}
use Rattle.tree_api.proofs.Renaming.{only_stays}
use Rattle.lfn_index.specs.Maps.{Map, IsMap, content}
use Rattle.lfn_index.specs.OneObject.{OnlyOne}
use Rattle.lfn_index.proofs.Only.{only_same, only_joins, only_wider}
use Rattle.tree_stands.specs.Names.{Name, NameFits}
use Rattle.tree_stands.specs.Shown.{seen, Paired}
use Rattle.tree_stands.specs.Trees.{dir_of, ForObject}
use Rattle.tree_stands.specs.Standing.{ObjectCrash}
use Rattle.tree_stands.proofs.Joining.{Amid, one_then}
use Rattle.tree_stands.proofs.Only.{only_object}
use Rattle.tree_stands.proofs.Trees.{one_content}
use Rattle.op_effects.specs.Ready.{Ready, OffStays}
use Rattle.object_ops.specs.Object.{Holds, Among, GoesBy, ReadsBy}

pub paired_same : (a b x y : Option Version) → y ≡ x → Paired a b x y
paired_same a b x y same part = inl (ap (λ (v : Option Version). seen v part) same)

pub paired_then : (a b x y z : Option Version) → Paired a b x y → Paired a b y z → Paired a b x z
paired_then a b x y z one two part = one_then (seen x part) (seen y part) (seen a part) (seen b part) (seen z part) (one part) (two part)

-- by way of a version whose cells are of the two ends
pub paired_right : (a b w x v : Option Version) → Amid a b w → Paired a w x v → Paired a b x v
paired_right a b w x v amid one part =
    ⊎_elim (λ is. inl is) (λ rest. ⊎_elim (λ is. inr (inl is)) (λ is. ⊎_elim (λ at. inr (inl (is ∙ at))) (λ at. inr (inr (is ∙ at))) (amid part)) rest) (one part)

pub paired_left : (a b w x v : Option Version) → Amid a b w → Paired w b x v → Paired a b x v
paired_left a b w x v amid one part =
    ⊎_elim (λ is. inl is) (λ rest. ⊎_elim (λ is. ⊎_elim (λ at. inr (inl (is ∙ at))) (λ at. inr (inr (is ∙ at))) (amid part)) (λ is. inr (inr is)) rest) (one part)

module _ (set : Settings) (n : Name) (fits : NameFits n) where
  pub among_same : (a b : Option Version) (c : Tree) → Among set n a b c c
  among_same a b c = only_same set (dir_of n.coll) n.oid (Paired a b) (paired_same a b) c fits.oid

  pub among_joins : (a b : Option Version) → Joins (Among set n a b)
  among_joins a b x y z one two = only_joins set (dir_of n.coll) n.oid (Paired a b) (Paired a b) (Paired a b) (paired_then a b) x y z one two

  pub among_wider : (K : Option Version → Option Version → Type 0) (a b : Option Version) → ((x y : Option Version) → K x y → Paired a b x y) → (d0 d1 : Disk)
      → Leaves (OnlyOne set (dir_of n.coll) n.oid K) d0 d1 → Leaves (Among set n a b) d0 d1
  among_wider K a b f d0 d1 is =
      leaves_wider (OnlyOne set (dir_of n.coll) n.oid K) (Among set n a b) (λ e u one. only_wider set (dir_of n.coll) n.oid K (Paired a b) f e u one) d0 d1 is

  -- calls that only look, and none
  pub looked : (F : Option Version → Option Version) (d0 d1 : Disk) → Sound d0 → Stays d0 d1 → GoesBy set n F d0 d1
  looked F d0 d1 s0 stays x holds = only_stays (Among set n x (F x)) (among_same x (F x)) (among_joins x (F x)) d0 d1 s0 stays

  pub unmoved : (F : Option Version → Option Version) (d : Disk) → Sound d → GoesBy set n F d d
  unmoved F d s = looked F d d s (stays_same d)

  -- E is on the way to F
  module _ (E F : Option Version → Option Version) (amid : (x : Option Version) → Amid x (F x) (E x)) where
    pub goes_amid : (d0 d1 : Disk) → GoesBy set n E d0 d1 → GoesBy set n F d0 d1
    goes_amid d0 d1 goes x holds = among_wider (Paired x (E x)) x (F x) (λ p q is. paired_right x (F x) (E x) p q (amid x) is) d0 d1 (goes x holds)

    pub goes_then : (d0 d1 d2 : Disk) → Sound d1 → GoesBy set n E d0 d1 → ((x : Option Version) → Holds set n d0.tree x → Leaves (Among set n (E x) (F x)) d1 d2) → GoesBy set n F d0 d2
    goes_then d0 d1 d2 s1 one two x holds =
        leaves_run (Among set n x (F x)) (among_same x (F x)) (among_joins x (F x)) d0 d1 d2 s1 (goes_amid d0 d1 one x holds)
        (among_wider (Paired (E x) (F x)) x (F x) (λ p q is. paired_left x (F x) (E x) p q (amid x) is) d1 d2 (two x holds))

  pub held_in : (t : Tree) (m : Map) → IsMap set t (dir_of n.coll) m → Holds set n t (content m t n.oid)
  held_in t m is w of_w = one_content set t (dir_of n.coll) w m of_w is n.oid fits.oid

  -- what is promised of the whole operation
  module _ (F : Option Version → Option Version) (d0 d1 : Disk) (goes : GoesBy set n F d0 d1) where
    pub crash_by : ObjectCrash set n F d0 d1
    crash_by M of_t =
        let x = content (M n.coll) d0.tree n.oid in
        wider (Among set n x (F x)) (ForObject set n (Paired x (F x))) (λ e f only. only_object set n fits (Paired x (F x)) e f only) d0 d1
        (goes x (held_in d0.tree (M n.coll) (of_t n.coll fits.coll))).any_moment

    pub off_by : Ready set d0 → Sound d0 → Leaves (OffStays (dir_of n.coll)) d0 d1
    off_by ready sound =
        let was = ready.whole d0.tree sound.now n.coll fits.coll in
        let x = content was.0 d0.tree n.oid in
        leaves_wider (Among set n x (F x)) (OffStays (dir_of n.coll)) (λ e f only. only.looks) d0 d1 (goes x (held_in d0.tree was.0 was.1))

  pub done_by : (F : Option Version → Option Version) (t u : Tree) → ReadsBy set n F t u → ForObject set n (λ x y. y ≡ F x) t u
  done_by F t u reads = only_object set n fits (λ x y. y ≡ F x) t u reads

  -- with what is known of the object at entry
  module _ (F : Option Version → Option Version) (a : Option Version) (K : Option Version → Option Version → Type 0) (e f : Tree) (holds : Holds set n e a) where
    with_known : OnlyOne set (dir_of n.coll) n.oid K e f → OnlyOne set (dir_of n.coll) n.oid (λ x y. (x ≡ a) × K x y) e f
    with_known one = record { here = λ m is. let w = one.here m is in (w.0, w.1, w.2, (holds m is, w.3)); rest = one.rest; looks = one.looks }

    pub reads_as : ((y : Option Version) → K a y → y ≡ F a) → OnlyOne set (dir_of n.coll) n.oid K e f → ReadsBy set n F e f
    reads_as to one =
        only_wider set (dir_of n.coll) n.oid (λ x y. (x ≡ a) × K x y) (λ x y. y ≡ F x)
        (λ x y both. subst (λ (v : Option Version). K v y → y ≡ F v) (sym both.0) (to y) both.1) e f (with_known one)
