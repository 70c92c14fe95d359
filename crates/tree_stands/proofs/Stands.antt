-- The objects that a tree and a journal stand for.
use Rattle.std.proofs.Common.{◌≡◌, ◌-◌, true, false, length, get_or, refl, sym, ◌∙◌, ap, arith, Option, Some, None}
use Rattle.std.proofs.lemmas.Grind.{same_number_lists}
use Rattle.std.specs.FinMap as fin
use Rattle.fs_model.specs.Objects.{Object, look}
use Rattle.tree_api.specs.Tree.{Version}
use Rattle.lfn_index.specs.Maps.{content}
use Rattle.object_file.specs.Attrs.{attr_name}
use Rattle.fs_cells.specs.declared.cell.Part.{Part}
use Rattle.fs_cells.specs.declared.cell.Part.TheVariants.{Exists, Length, Byte, Attr}
use Rattle.fs_cells.specs.Values.{value_at, is_omap}
use Rattle.fs_cells.proofs.Determined.{number_is, content_is, flag_is}
use Rattle.fs_cells.proofs.Standing.{join_law, once_law}
use Rattle.tree_stands.specs.Names.{cell_at}
use Rattle.tree_stands.specs.Shown.{value_in, cells_in, guards_in}
use Rattle.tree_stands.specs.Trees.{shown}
use Rattle.tree_stands.specs.Standing.{count_to}
use Rattle.tree_stands.specs.Stands.{IsLaid, StandsLaw}
use Rattle.tree_stands.proofs.Names.{name_is_fit}
use Rattle.tree_stands.proofs.Trees.{maps, maps_are, shows}

laid : (v : Option Version) (x : Option Object) → ((part : Part) → is_omap part ≡ false → value_in v part ≡ value_at x part) → IsLaid v x
laid None None same = tt
laid None (Some x) same = let e : false ≡ true = flag_is false true (same Exists refl) in cc
laid (Some v) None same = let e : true ≡ false = flag_is true false (same Exists refl) in cc
laid (Some v) (Some x) same = (
  same_number_lists v.bytes x.bytes (number_is (length v.bytes) (length x.bytes) (same Length refl)) (λ k lt. number_is (get_or v.bytes k 0) (get_or x.bytes k 0) (same (Byte k) refl)),
  λ k. content_is (v.attr (attr_name k)) (fin.get x.attrs k) (same (Attr k) refl),
)

pub stands_law : StandsLaw
stands_law = record {
  join = λ set g h allowed p number started end low one two three four passed bound t at M of_t.
      join_law h.objects h.txns allowed (p - h.base) (number - h.base) (started - h.base) (end - h.base) (omega (arith, one)) (omega (arith, two)) (omega (arith, three)) four
      (cells_in (shown M t)) (guards_in g (shown M t)) passed bound (at M of_t);
  once = λ set g h number ops t whole O P there one other.
      once_law ops (cells_in (shown (maps set t whole) t)) (λ x. guards_in g (shown (maps set t whole) t) x - count_to h number) O P there
      (one (maps set t whole) (maps_are set t whole)) (other (maps set t whole) (maps_are set t whole));
  laid = λ set t M of_t O same n fits. laid (content (M n.coll) t n.oid) (look O n.coll n.oid) (λ part off.
      ap (λ (v : Option Version). value_in v part) (sym (shows M t n (name_is_fit n fits))) ∙ same (cell_at n part) off);
}
