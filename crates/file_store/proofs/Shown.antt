-- A tree that reads as a history's objects shows them.
use Rattle.std.proofs.Common.{◌≡◌, ℕ, ◌-◌, take, sym, ◌∙◌, ap, subst, arith}
use Rattle.fs_names.specs.declared.settings.Settings.{Settings}
use Rattle.fs_model.specs.Objects.{Objects}
use Rattle.tree_api.specs.Tree.{Tree}
use Rattle.tree_api.specs.Disk.{Disk as Files}
use Rattle.dev_api.specs.Disk.{Disk}
use Rattle.store_history.specs.History.{History, end_of, at}
use Rattle.tree_places.specs.Line.{ops_to, Past}
use Rattle.tree_places.proofs.Flat.{fold_flat}
use Rattle.tree_places.proofs.Histories.{plain_to}
use Rattle.tree_shows.specs.Shows.{Shows}
use Rattle.tree_shows.proofs.Showing.{done}
use Rattle.history_tails.proofs.Tails.{at_tail}
use Rattle.file_store.specs.Store.{Store}
use Rattle.file_store.specs.Holds.{Holds, Reads}

pub shown_at : (set : Settings) (h : History) (m : ℕ) (t : Tree) → Past set h m m t → Shows set (at h m) t
shown_at set h m t past =
    subst (λ (O : Objects). Shows set O t) (fold_flat h.origin (take (m - h.base) h.txns))
    (done set h.origin (ops_to h m) t (plain_to h m past.plain) past.past)

pub shown : (h : History) (s : Store) (t : Files) → Reads h s t → Shows s.identity.settings (at h (end_of h)) t.tree
shown h s t r =
    let same : at r.long s.numbers.journalled ≡ at h (end_of h) = ap (at r.long) (sym r.end) ∙ at_tail h r.long (end_of h) r.tail (omega arith) in
    subst (λ (O : Objects). Shows s.identity.settings O t.tree) same (shown_at s.identity.settings r.long s.numbers.journalled t.tree r.shown)

-- what both sides hold the tree shows
pub reads_held : (h : History) (s : Store) (t : Files) (d : Disk) → Holds h s t d → Reads h s t
reads_held h s t d k = record { works = k.works; long = k.long; tail = k.tail; end = k.end; shown = k.on.reads }
