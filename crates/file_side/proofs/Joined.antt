-- Images stay where what they are past and which store they are stay.
use Rattle.std.proofs.Common.{ℕ}
use Rattle.tree_api.specs.Disk.{Disk, Everywhere, Keeps}
use Rattle.store_files.specs.declared.reading.Identity.{Identity}
use Rattle.store_files.specs.Stores.{IsStore}
use Rattle.store_history.specs.History.{History}
use Rattle.tree_places.specs.Images.{Image, StoreImage}
use Rattle.tree_places.proofs.Underway.{both_keep}

module _ (id : Identity) (h : History) (n lo hi : ℕ) (old : Disk) where
  pub past_of : Everywhere old (StoreImage id h n lo hi) → Everywhere old (Image id.settings h n lo hi)
  past_of images c may = (images c may).image

  pub stores_of : Everywhere old (StoreImage id h n lo hi) → Everywhere old (λ t. IsStore t id.fsid id.settings)
  stores_of images c may = (images c may).store

  pub images_join : (new : Disk) → Keeps (Image id.settings h n lo hi) old new → Keeps (λ t. IsStore t id.fsid id.settings) old new → Keeps (StoreImage id h n lo hi) old new
  images_join new past stores = both_keep (Image id.settings h n lo hi) (λ t. IsStore t id.fsid id.settings) (StoreImage id h n lo hi) old new past stores
      (λ t image store. record { store = store; image = image })
