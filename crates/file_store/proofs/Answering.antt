-- What a reading that gives up tells.
use Rattle.std.proofs.Common.{◌≡◌, codes, sym, ◌∙◌, ap, Result, Err}
use Rattle.index_fault.specs.declared.IndexFault.{IndexFault}
use Rattle.index_fault.specs.declared.IndexFault.TheVariants as index
use Rattle.tree_api.specs.Tree.{Path, IsDir, current}
use Rattle.tree_api.specs.Disk.{Disk, Sound}
use Rattle.fs_names.specs.declared.settings.Settings.{Settings}
use Rattle.tree_stands.specs.Trees.{AllWhole}
use Rattle.apply_ops.specs.Next.{IsReady}
use Rattle.file_store.specs.declared.fault.ReadFault.{ReadFault}
use Rattle.file_store.specs.declared.fault.ReadFault.TheVariants as reading
use Rattle.file_store.specs.Faults.{of_index}

module _ {A B : Type 0} where
  pub damaged_back : (fault : IndexFault) (p : Path) → ◌≡◌ {A = Result A ReadFault} (Err (of_index fault)) (Err (reading.Damaged p)) → ◌≡◌ {A = Result B IndexFault} (Err fault) (Err (index.Damaged p))
  damaged_back index.Memory p e = absurd (cc)
  damaged_back index.Tree p e = absurd (cc)
  damaged_back (index.Damaged q) p e = let same : q ≡ p = cc in ap (λ (x : Path). Err (index.Damaged x)) same

  pub damaged_via : (r : ReadFault) (fault : IndexFault) (p : Path) → r ≡ of_index fault → ◌≡◌ {A = Result A ReadFault} (Err r) (Err (reading.Damaged p)) → ◌≡◌ {A = Result B IndexFault} (Err fault) (Err (index.Damaged p))
  damaged_via r fault p of is = damaged_back fault p (sym (ap (λ (x : ReadFault). Err x) of) ∙ is)

pub whole_now : (set : Settings) (d : Disk) → Sound d → IsReady set d → AllWhole set d.tree
whole_now set d sound ready = ready.ready.whole d.tree sound.now

-- the directory of all collections stands
pub current_there : (set : Settings) (d : Disk) → Sound d → IsReady set d → IsDir d.tree current
current_there set d sound ready = sound.parents d.tree current (codes "aside") ready.own.building.0 sound.now ready.own.building.1
