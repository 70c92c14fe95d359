-- A tree that is the only image is ready for what comes next.
use Rattle.std.proofs.Common.{◌≡◌, ℕ, List, inl, sym, ap, subst, codes, Some}
use Rattle.fs_names.specs.declared.settings.Settings.{Settings}
use Rattle.tree_api.specs.Tree.{Tree}
use Rattle.tree_api.specs.Disk.{Disk, Sound, Everywhere}
use Rattle.lfn_index.specs.Directory.{lfn_name, entry}
use Rattle.replay_guard.specs.Guards.{guard_name}
use Rattle.tree_stands.specs.Trees.{dir_of, dir_guard, AllWhole}
use Rattle.op_effects.specs.Ready.{Ready}
use Rattle.commit_point.specs.Number.{IsReady}
use Rattle.tree_places.specs.Images.{IsOwn, IsLaid}

module _ (set : Settings) (d : Disk) (sound : Sound d) (only : Everywhere d (λ c. c ≡ d.tree)) (laid : IsLaid set d.tree) where
  node_is : (c : Tree) (n : ℕ) (key : List ℕ) → d.may c → (c.node n).attr key ≡ (d.tree.node n).attr key
  node_is c n key may = ap (λ (t : Tree). (t.node n).attr key) (only c may)

  pub ready : Ready set d
  ready = record {
    dir = laid.own.building;
    places = laid.own.places;
    whole = λ c may. subst (AllWhole set) (sym (only c may)) laid.whole;
    colls = λ c may coll fits there. ap (λ (t : Tree). dir_guard t coll) (only c may);
    level = λ coll fits. record {
      alone = λ c step q n may here there.
          inl (sound.single d.tree q (entry (dir_of coll) step) n sound.now (subst (λ (t : Tree). t.at q ≡ Some n) (only c may) there) here);
      called = λ c step n may here. node_is c n lfn_name may;
    };
    guards = λ coll fits c step n may here. node_is c n guard_name may;
  }

pub may_number : (t : Tree) → IsOwn t → IsReady t
may_number t own = record { dir = own.building; place = own.places (codes "seq"); target = own.target }
