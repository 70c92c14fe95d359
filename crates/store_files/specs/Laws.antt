-- What the files that were made spell.
use Rattle.std.specs.Prelude.{◌≡◌, List, ℕ}
use Rattle.fs_names.specs.declared.settings.Settings.{Settings}
use Rattle.tree_api.specs.Tree.{Tree}
use Rattle.commit_point.specs.Number.{HasNumber}
use Rattle.store_files.specs.Texts.{IsFsid}
use Rattle.store_files.specs.Stores.{IsUsable, IsStore}
use Rattle.store_files.specs.Steps.{AllIn, store_items}

abbrev pub MadeIsStore : Type 0
MadeIsStore = (fsid : List ℕ) (set : Settings) (t : Tree) → IsFsid fsid → IsUsable set → AllIn (store_items fsid set) t → IsStore t fsid set × HasNumber t 0

-- a tree is one store at most
abbrev pub OneStore : Type 0
OneStore = (t : Tree) (fsid fsid2 : List ℕ) (set set2 : Settings) → IsStore t fsid set → IsStore t fsid2 set2 → (fsid ≡ fsid2) × (set ≡ set2)
