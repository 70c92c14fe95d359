-- Operations on one object, and what they make of its file. An operation more is a line of each.
use Rattle.std.specs.Prelude.{◌≡◌, Option, Some, None}
use Rattle.fs_names.specs.Text.{oid_text}
use Rattle.fs_model.specs.declared.op.Op.{Op}
use Rattle.fs_model.specs.declared.op.Op.TheVariants.{Touch, Write, Zero, Truncate, Remove, SetAttrs, RmAttr, RmAttrs}
use Rattle.fs_names.specs.declared.settings.Settings.{Settings}
use Rattle.tree_api.specs.Tree.{Version, Tree, zeros}
use Rattle.tree_stands.specs.Names.{Name}
use Rattle.tree_stands.specs.Trees.{name_at, ForObject}
use Rattle.tree_stands.specs.Files.{touched_file, written_file, cut_file, attrs_file, attr_gone_file, attrs_gone_file, no_file}

-- the object that an operation changes, where it changes one and no collection
abbrev pub edited : Op → Option Name
edited (Touch c o) = Some (name_at c o)
edited (Write c o at bytes) = Some (name_at c o)
edited (Zero c o at len) = Some (name_at c o)
edited (Truncate c o len) = Some (name_at c o)
edited (Remove c o) = Some (name_at c o)
edited (SetAttrs c o pairs) = Some (name_at c o)
edited (RmAttr c o name) = Some (name_at c o)
edited (RmAttrs c o) = Some (name_at c o)
edited _ = None

-- and what its file is afterwards
abbrev pub file_after : Op → Option Version → Option Version
file_after (Touch c o) x = touched_file (oid_text o) x
file_after (Write c o at bytes) x = written_file (oid_text o) at bytes x
file_after (Zero c o at len) x = written_file (oid_text o) at (zeros len) x
file_after (Truncate c o len) x = cut_file (oid_text o) len x
file_after (Remove c o) x = no_file x
file_after (SetAttrs c o pairs) x = attrs_file (oid_text o) pairs x
file_after (RmAttr c o name) x = attr_gone_file (oid_text o) name x
file_after (RmAttrs c o) x = attrs_gone_file (oid_text o) x
file_after _ x = x

-- the object's file is that, and all else that is shown stays
abbrev pub IsEdited : Settings → Name → Op → Tree → Tree → Type 0
IsEdited set n op t u = ForObject set n (λ x y. y ≡ file_after op x) t u
