-- Where a listing begins.
use Rattle.std.specs.Prelude.{Bool, true}
use Rattle.std.specs.Ordering.{is_ge}
use Rattle.fs_names.specs.Order.{oid_cmp}
use Rattle.fs_names.specs.declared.oid.Oid.{Oid}
use Rattle.hash_order.specs.declared.cursor.Cursor.{Cursor}
use Rattle.hash_order.specs.declared.cursor.Cursor.TheVariants.{Start, At}

abbrev pub at_or_after : Cursor → Oid → Bool
at_or_after Start o = true
at_or_after (At first) o = is_ge (oid_cmp o first)
