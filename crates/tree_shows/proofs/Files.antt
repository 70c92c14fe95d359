-- A file with the cells of an object is the object's.
use Rattle.std.proofs.Common.{◌≡◌, ℕ, true, false, List, [], length, get_or, refl, sym, ◌∙◌, Option, Some, None}
use Rattle.std.proofs.lemmas.Grind.{same_number_lists}
use Rattle.std.specs.Cmp.Lexicographic.{slice_cmp, nat_list_cmp_total}
use Rattle.std.specs.Ordering.{nat_cmp}
use Rattle.std.specs.FinMap as map
use Rattle.std.specs.FinMap.{nat_cmp-IsAntisymmetric, slice_cmp-IsAntisymmetric}
use Rattle.fs_model.specs.Objects.{ByteMap, Object}
use Rattle.tree_api.specs.Tree.{Version}
use Rattle.object_file.specs.Attrs.{attr_name}
use Rattle.fs_cells.specs.declared.cell.Part.{Part}
use Rattle.fs_cells.specs.declared.cell.Part.TheVariants.{Exists, Length, Byte, Attr, OmapHeader, OmapKey}
use Rattle.fs_cells.specs.Values.{value_at}
use Rattle.fs_cells.proofs.Determined.{number_is, content_is, flag_is}
use Rattle.tree_stands.specs.Shown.{value_in}
use Rattle.tree_shows.specs.Shows.{IsFileOf, Matches}

same_text : (a b : List ℕ) → Some a ≡ Some b → b ≡ a
same_text a b e = cc

no_keys : (m : ByteMap) → ((k : List ℕ) → map.get m k ≡ None) → m ≡ map.empty
no_keys m none = map.same_map nat_list_cmp_total (slice_cmp-IsAntisymmetric nat_cmp-IsAntisymmetric) m map.empty (λ k. none k ∙ sym (map.get-empty (slice_cmp nat_cmp) k))

pub is_file : (v : Version) (x : Object) → ((part : Part) → value_in (Some v) part ≡ value_at (Some x) part) → IsFileOf v x
is_file v x same = record {
  bytes = same_number_lists v.bytes x.bytes (number_is (length v.bytes) (length x.bytes) (same Length)) (λ k lt. number_is (get_or v.bytes k 0) (get_or x.bytes k 0) (same (Byte k)));
  attrs = λ k. content_is (v.attr (attr_name k)) (map.get x.attrs k) (same (Attr k));
  header = same_text [] x.header (content_is (Some []) (Some x.header) (same OmapHeader));
  omap = no_keys x.omap (λ k. sym (content_is None (map.get x.omap k) (same (OmapKey k))));
}

pub matches : (v : Option Version) (x : Option Object) → ((part : Part) → value_in v part ≡ value_at x part) → Matches v x
matches None None same = tt
matches None (Some x) same = let e : false ≡ true = flag_is false true (same Exists) in cc
matches (Some v) None same = let e : true ≡ false = flag_is true false (same Exists) in cc
matches (Some v) (Some x) same = is_file v x same

-- where there is no file there is no object
pub no_object : (v : Option Version) (x : Option Object) → v ≡ None → ((part : Part) → value_in v part ≡ value_at x part) → x ≡ None
no_object v None none same = refl
no_object None (Some x) none same = let e : false ≡ true = flag_is false true (same Exists) in cc
no_object (Some v) (Some x) none same = cc
