-- What the faults of making a store tell.
use Rattle.std.proofs.Common.{◌≡◌, ℕ, refl, subst, Result, Err}
use Rattle.tree_api.specs.Tree.{Tree}
use Rattle.ring_images.specs.Headers.{IsSize}
use Rattle.store_files.specs.News.{IsNew}
use Rattle.store_making.specs.declared.fault.MakeFault.{MakeFault}
use Rattle.store_making.specs.declared.fault.MakeFault.TheVariants.{NotEmpty, DeviceSize, Tree as TreeFailed, Device, Memory}
use Rattle.store_making.specs.Making.{IsRefusal, TellsNew, TellsSize}

module _ (T : Type 0) where
  pub tells_size : (size : ℕ) → IsSize size → (fault : MakeFault) → ((n : ℕ) → ◌≡◌ {A = Result T MakeFault} (Err fault) (Err (DeviceSize n)) → ⊥) → TellsSize {T = T} size (Err fault)
  tells_size size is NotEmpty not = is
  tells_size size is (DeviceSize n) not = absurd (not n refl)
  tells_size size is TreeFailed not = is
  tells_size size is Device not = is
  tells_size size is Memory not = is

  pub size_begun : (size : ℕ) → IsSize size → (fault : MakeFault) → (IsRefusal fault → ⊥) → TellsSize {T = T} size (Err fault)
  size_begun size is NotEmpty begun = is
  size_begun size is (DeviceSize n) begun = absurd (begun tt)
  size_begun size is TreeFailed begun = is
  size_begun size is Device begun = is
  size_begun size is Memory begun = is

  pub new_begun : (t : Tree) (fault : MakeFault) → (IsRefusal fault → ⊥) → TellsNew {T = T} t (Err fault)
  new_begun t NotEmpty begun = absurd (begun tt)
  new_begun t (DeviceSize n) begun = tt
  new_begun t TreeFailed begun = tt
  new_begun t Device begun = tt
  new_begun t Memory begun = tt

  -- a new tree isn't refused once more
  pub begun_new : (t : Tree) (fault : MakeFault) → IsNew t → TellsNew {T = T} t (Err fault) → ((n : ℕ) → ◌≡◌ {A = Result T MakeFault} (Err fault) (Err (DeviceSize n)) → ⊥) → IsRefusal fault → ⊥
  begun_new t NotEmpty new told not is = told new
  begun_new t (DeviceSize n) new told not is = not n refl
  begun_new t TreeFailed new told not is = is
  begun_new t Device new told not is = is
  begun_new t Memory new told not is = is

pub tree_begun : (fault : MakeFault) → fault ≡ TreeFailed → IsRefusal fault → ⊥
tree_begun fault is refusal = subst IsRefusal is refusal
