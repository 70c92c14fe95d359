-- What a mount wants to know of a store of files.
use Rattle.std.specs.Prelude.{ℕ, List}
use Rattle.fs_model.specs.Objects.{Objects}
use Rattle.built_ops.specs.Built.{CanDo}
use Rattle.tree_api.specs.Tree.{Tree}
use Rattle.store_files.specs.declared.reading.Identity.{Identity}
use Rattle.store_history.specs.Pair.{StandsAt}
use Rattle.store_mount.specs.Causes.{AreFit}
use Rattle.tree_places.specs.Images.{StoreImage}

-- the transactions of a pair that stands for some objects can all be done
abbrev pub FitLaw : Type 0
FitLaw = (id : Identity) (fsid : List ℕ) (t : Tree) (c : List ℕ) (o : Objects) (n last : ℕ) (s : StandsAt (StoreImage id) fsid t c o n last) → AreFit CanDo s.txns
