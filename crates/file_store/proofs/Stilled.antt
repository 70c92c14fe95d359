-- A tree that only was read.
use Rattle.std.proofs.Common.{◌≡◌, ℕ, List, sym, ◌∙◌, ap, subst, Some}
use Rattle.fs_names.specs.declared.coll.Coll.{Coll}
use Rattle.fs_names.specs.declared.settings.Settings.{Settings}
use Rattle.tree_api.specs.Tree.{Tree, IsDir, IsFree}
use Rattle.tree_api.specs.Disk.{Disk, Stays}
use Rattle.lfn_index.specs.Directory.{lfn_name, entry}
use Rattle.lfn_index.specs.Changes.{aside}
use Rattle.replay_guard.specs.Guards.{guard_name}
use Rattle.tree_stands.specs.Trees.{dir_of}
use Rattle.op_effects.specs.Ready.{HasColls, Ready}
use Rattle.apply_ops.specs.Next.{IsReady}
use Rattle.dev_api.specs.Disk.{Disk as Bytes}
use Rattle.ring_journal.specs.State.{State}
use Rattle.store_files.specs.declared.reading.Identity.{Identity}
use Rattle.store_history.specs.History.{History}
use Rattle.store_turns.specs.declared.numbers.Numbers.{Numbers}
use Rattle.store_turns.specs.declared.numbers.How.TheVariants.{Live}
use Rattle.store_turns.specs.State.{Holding}
use Rattle.tree_places.specs.Images.{StoreImage, IsOwn, reads}
use Rattle.file_store.specs.Store.{Store}
use Rattle.file_store.specs.Holds.{Holds}

module _ (old new : Disk) (stays : Stays old new) where
  back : old.tree ≡ new.tree
  back = sym stays.tree

  pub ready_stays : (set : Settings) → Ready set old → Ready set new
  ready_stays set r = record {
    dir = subst (λ (t : Tree). IsDir t aside) back r.dir;
    places = λ step. subst (λ (t : Tree). IsFree t (entry aside step)) back (r.places step);
    whole = λ c may. r.whole c (stays.image c may);
    colls = λ c may. subst (λ (t : Tree). HasColls t c) back (r.colls c (stays.image c may));
    level = λ coll fits. record {
      alone = λ c step q n may here there. (r.level coll fits).alone c step q n (stays.image c may) (then_here coll step n here) there;
      called = λ c step n may here.
          (r.level coll fits).called c step n (stays.image c may) (then_here coll step n here) ∙ ap (λ (t : Tree). (t.node n).attr lfn_name) back;
    };
    guards = λ coll fits c step n may here.
        r.guards coll fits c step n (stays.image c may) (then_here coll step n here) ∙ ap (λ (t : Tree). (t.node n).attr guard_name) back;
  }
    where
      then_here : (coll : Coll) (step : List ℕ) (n : ℕ) → new.tree.at (entry (dir_of coll) step) ≡ Some n → old.tree.at (entry (dir_of coll) step) ≡ Some n
      then_here coll step n here = ap (λ (t : Tree). t.at (entry (dir_of coll) step)) back ∙ here

  pub is_ready_stays : (set : Settings) → IsReady set old → IsReady set new
  is_ready_stays set r = record {
    ready = ready_stays set r.ready;
    own = subst IsOwn back r.own;
  }

  pub holding_stays : (id : Identity) (fsid : List ℕ) (h : History) (core : Numbers) (s : State) (d : Bytes)
      → Holding (StoreImage id) (reads id.settings) fsid h core old s d → Holding (StoreImage id) (reads id.settings) fsid h core new s d
  holding_stays id fsid h core s d k = record {
    small = k.small;
    images = λ t may. k.images t (stays.image t may);
    reads = subst (reads id.settings Live h core.journalled) back k.reads;
    ring = k.ring;
  }

  -- what was held is held
  pub holds_stays : (h : History) (s : Store) (d : Bytes) → Holds h s old d → Holds h s new d
  holds_stays h s d k = record {
    works = k.works;
    long = k.long;
    tail = k.tail;
    end = k.end;
    on = holding_stays s.identity s.identity.fsid k.long s.numbers s.ring d k.on;
    waits = k.waits;
  }
