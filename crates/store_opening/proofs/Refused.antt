-- A tree that is a store, and one that is none.
use Rattle.std.proofs.Common.{◌≡◌, ℕ, List, subst, Err}
use Rattle.fs_names.specs.declared.settings.Settings.{Settings}
use Rattle.tree_api.specs.Tree.{Tree}
use Rattle.store_files.specs.Stores.{IsStore}
use Rattle.store_files.specs.declared.reading.Identity.{Identity}
use Rattle.store_files.proofs.Once.{not_lacking, not_other, not_bad}
use Rattle.store_opening.specs.declared.fault.MountFault.{MountFault}
use Rattle.store_opening.specs.declared.fault.MountFault.TheVariants.{NotAStore, WrongVersion, BadSettings, NoHeader, WrongFsid, Spent, BadSeq, JournalGap, Damaged, BadEntry, Tree as OfTree, Device, Memory}
use Rattle.store_opening.specs.Mounts.{ExplainsOf, IsOutside, Refuses, TellsStore}

-- which store a tree is is one
pub as_store : (P : Identity → Type 0) (x id : Identity) → (x.fsid ≡ id.fsid) × (x.settings ≡ id.settings) → P x → P id
as_store P x id same is =
    subst (λ (s : Settings). let y : Identity = record { fsid = id.fsid; settings = s } in P y) same.1
    (subst (λ (f : List ℕ). let y : Identity = record { fsid = f; settings = x.settings } in P y) same.0 is)

pub refuses : (t : Tree) (bytes : List ℕ) (id : Identity) → IsStore t id.fsid id.settings → (f : MountFault) → ExplainsOf id t bytes f → Refuses t bytes f
refuses t bytes id store NotAStore is = absurd is
refuses t bytes id store (WrongVersion found) is = absurd is
refuses t bytes id store BadSettings is = absurd is
refuses t bytes id store NoHeader is = (id, store, is)
refuses t bytes id store (WrongFsid tree ring) is = (id, store, is)
refuses t bytes id store Spent is = (id, store, is)
refuses t bytes id store BadSeq is = (id, store, is)
refuses t bytes id store (JournalGap start committed) is = (id, store, is)
refuses t bytes id store (Damaged path) is = (id, store, is)
refuses t bytes id store (BadEntry seq) is = (id, store, is)
refuses t bytes id store OfTree is = tt
refuses t bytes id store Device is = tt
refuses t bytes id store Memory is = tt

pub told_refuses : (t : Tree) (bytes : List ℕ) (f : MountFault) → TellsStore t (Err f) → Refuses t bytes f
told_refuses t bytes NotAStore is = is
told_refuses t bytes (WrongVersion found) is = is
told_refuses t bytes BadSettings is = is
told_refuses t bytes NoHeader is = absurd is
told_refuses t bytes (WrongFsid tree ring) is = absurd is
told_refuses t bytes Spent is = absurd is
told_refuses t bytes BadSeq is = absurd is
told_refuses t bytes (JournalGap start committed) is = absurd is
told_refuses t bytes (Damaged path) is = absurd is
told_refuses t bytes (BadEntry seq) is = absurd is
told_refuses t bytes OfTree is = tt
told_refuses t bytes Device is = tt
told_refuses t bytes Memory is = tt

pub told_outside : (t : Tree) (id : Identity) → IsStore t id.fsid id.settings → (f : MountFault) → TellsStore t (Err f) → IsOutside f
told_outside t id store NotAStore is = not_lacking t id.fsid id.settings store is
told_outside t id store (WrongVersion found) is = not_other t id.fsid id.settings found store is.0 is.1
told_outside t id store BadSettings is = not_bad t id.fsid id.settings store is.1
told_outside t id store NoHeader is = is
told_outside t id store (WrongFsid tree ring) is = is
told_outside t id store Spent is = is
told_outside t id store BadSeq is = is
told_outside t id store (JournalGap start committed) is = is
told_outside t id store (Damaged path) is = is
told_outside t id store (BadEntry seq) is = is
told_outside t id store OfTree is = tt
told_outside t id store Device is = tt
told_outside t id store Memory is = tt
