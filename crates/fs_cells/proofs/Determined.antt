-- Objects are determined by their cells.
use Rattle.std.proofs.Common.{◌≡◌, ℕ, Bool, true, false, List, length, get_or, refl, ap, Option, Some, None}
use Rattle.std.proofs.lemmas.Grind.{same_number_lists}
use Rattle.std.specs.Cmp.Lexicographic.{nat_list_cmp_total}
use Rattle.std.specs.FinMap as map
use Rattle.std.specs.FinMap.{nat_cmp-IsAntisymmetric, slice_cmp-IsAntisymmetric}
use Rattle.fs_model.specs.Objects.{ByteMap, Object, look}
use Rattle.fs_model.proofs.Cells.{same_objects}
use Rattle.fs_cells.specs.declared.cell.Part.{Part}
use Rattle.fs_cells.specs.declared.cell.Part.TheVariants.{Exists, Length, Byte, Attr, OmapHeader, OmapKey}
use Rattle.fs_cells.specs.Values.{Value, flag, number, content, part_of, value_at}
use Rattle.fs_cells.specs.Laws.{DeterminedLaw}

number_in : Value → ℕ
number_in (flag b) = 0
number_in (number n) = n
number_in (content v) = 0

content_in : Value → Option (List ℕ)
content_in (flag b) = None
content_in (number n) = None
content_in (content v) = v

flag_in : Value → Bool
flag_in (flag b) = b
flag_in (number n) = false
flag_in (content v) = false

pub number_is : (m n : ℕ) → number m ≡ number n → m ≡ n
unfolding number_in
number_is m n e = ap number_in e

pub content_is : (a b : Option (List ℕ)) → content a ≡ content b → a ≡ b
unfolding content_in
content_is a b e = ap content_in e

pub flag_is : (a b : Bool) → flag a ≡ flag b → a ≡ b
unfolding flag_in
flag_is a b e = ap flag_in e

some_or : List ℕ → Option (List ℕ) → List ℕ
some_or d None = d
some_or d (Some x) = x

some_is : (a b : List ℕ) → Some a ≡ Some b → a ≡ b
unfolding some_or
some_is a b e = ap (some_or a) e

same_byte_map : (m n : ByteMap) → ((k : List ℕ) → map.get m k ≡ map.get n k) → m ≡ n
same_byte_map m n e = map.same_map nat_list_cmp_total (slice_cmp-IsAntisymmetric nat_cmp-IsAntisymmetric) m n e

module _ (x y : Object) (same : (p : Part) → part_of x p ≡ part_of y p) where
  bytes : x.bytes ≡ y.bytes
  bytes = same_number_lists x.bytes y.bytes (number_is (length x.bytes) (length y.bytes) (same Length)) (λ k lt. number_is (get_or x.bytes k 0) (get_or y.bytes k 0) (same (Byte k)))

  attrs : x.attrs ≡ y.attrs
  attrs = same_byte_map x.attrs y.attrs (λ k. content_is (map.get x.attrs k) (map.get y.attrs k) (same (Attr k)))

  header : x.header ≡ y.header
  header = some_is x.header y.header (content_is (Some x.header) (Some y.header) (same OmapHeader))

  omap : x.omap ≡ y.omap
  omap = same_byte_map x.omap y.omap (λ k. content_is (map.get x.omap k) (map.get y.omap k) (same (OmapKey k)))

  same_object : x ≡ y
  same_object = λ i. record { bytes = bytes i; attrs = attrs i; header = header i; omap = omap i }

same_maybe : (a b : Option Object) → ((p : Part) → value_at a p ≡ value_at b p) → a ≡ b
same_maybe None None same = refl
same_maybe None (Some y) same = let e : false ≡ true = flag_is false true (same Exists) in cc
same_maybe (Some x) None same = let e : true ≡ false = flag_is true false (same Exists) in cc
same_maybe (Some x) (Some y) same = ap Some (same_object x y same)

pub determined : DeterminedLaw
determined O P there same = same_objects O P there (λ c o. same_maybe (look O c o) (look P c o) (λ p. same (record { c = c; o = o; part = p })))
