-- All snapshots, as data.
use Rattle.std.specs.Prelude.{ℕ, Option}
use Rattle.std.specs.Option.{option_map}
use Rattle.std.specs.BTreeMap.{get}
use Rattle.std.specs.Ordering.{nat_cmp}
use Rattle.tree_api.specs.Tree.{Content}
use Rattle.tree_memory.specs.Kept.{content_of}
use Rattle.tree_memory.specs.declared.snaps.Snaps.{Snaps}

abbrev pub snaps_of : Snaps → ℕ → Option Content
snaps_of s k = option_map (λ x. content_of x.kept.items) (get nat_cmp s.map k)
