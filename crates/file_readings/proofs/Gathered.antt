-- The objects of files, gathered in a set and taken out of it in order.
use Rattle.std.proofs.Common.{◌≡◌, ℕ, ◌<◌, ◌≤◌, Bool, true, false, cond, ◌||◌, List, [], ◌∷◌, ◌++◌, length, take, refl, sym, ◌∙◌, ap, arith, Option, Some, None}
use Rattle.std.specs.Prelude.{◌↔◌, IsSome, slice_get}
use Rattle.std.specs.List.{filter, list_any}
use Rattle.std.specs.Ordering.{eq_by_cmp}
use Rattle.std.specs.Cmp.{eq_by_cmp_equiv}
use Rattle.std.proofs.Math.Seq.{take-append_seam}
use Rattle.std.proofs.lemmas.List.{take_all, append-nil, map-append}
use Rattle.std.proofs.lemmas.List.Folds.{list_any-append}
use Rattle.std.proofs.lemmas.Option.{slice_get_past}
use Rattle.fs_names.specs.declared.oid.Oid.{Oid}
use Rattle.fs_names.specs.Order.{oid_cmp, oid_cmp_total}
use Rattle.fs_model.specs.Listing.{page_of}
use Rattle.lfn_index.specs.declared.listing.Found.{Found}
use Rattle.file_readings.specs.Listed.{oids_of}

-- what gives no element more is empty
pub emptied : {X : Type 0} (xs : List X) (n : ℕ) (r : Option X) → n ≡ length xs → (IsSome r ↔ (0 < n)) → ((x : X) → r ≡ Some x → ⊥) → xs ≡ []
emptied [] n r len some none = refl
emptied {X} (x ∷ xs) n None len some none = let h : IsSome {T = X} None = some.1 (omega (arith, len)) in cc
emptied (x ∷ xs) n (Some y) len some none = absurd (none y refl)

abbrev any : Oid → List Oid → Bool
any q = list_any (eq_by_cmp oid_cmp q)

-- each file that was there is left, or its object is in the set
abbrev pub AreGathered : List Found → List Found → List Oid → Type 0
AreGathered files left oids = (q : Oid) → list_any (eq_by_cmp oid_cmp q) (oids_of files) ≡ (list_any (eq_by_cmp oid_cmp q) (oids_of left) || list_any (eq_by_cmp oid_cmp q) oids)

pub gathered_more : (files left now : List Found) (old new : List Oid) (f : Found) → AreGathered files left old → left ≡ now ++ f ∷ []
    → ((q : Oid) → list_any (eq_by_cmp oid_cmp q) new ≡ cond (eq_by_cmp oid_cmp f.oid q) true (list_any (eq_by_cmp oid_cmp q) old)) → AreGathered files now new
gathered_more files left now old new f are is added q =
    are q ∙ ap (λ (l : List Found). any q (oids_of l) || any q old) is
    ∙ ap (λ (l : List Oid). any q l || any q old) (map-append (λ (x : Found). x.oid) now (f ∷ []))
    ∙ ap (λ (b : Bool). b || any q old) (list_any-append (eq_by_cmp oid_cmp q) (oids_of now) (f.oid ∷ []))
    ∙ joined (any q (oids_of now)) (eq_by_cmp oid_cmp q f.oid) (any q old)
    ∙ ap (λ (b : Bool). any q (oids_of now) || cond b true (any q old)) ((eq_by_cmp_equiv oid_cmp_total).symm q f.oid)
    ∙ ap (λ (b : Bool). any q (oids_of now) || b) (sym (added q))
  where
    joined : (a b o : Bool) → ((a || (b || false)) || o) ≡ (a || cond b true o)
    joined true b o = refl
    joined false true o = refl
    joined false false o = refl

-- ---- a page

seam : (page rest : List Oid) (x : Oid) → slice_get (page ++ x ∷ rest) (length page) ≡ Some x
seam [] rest x = refl
seam (o ∷ page) rest x = seam page rest x

module _ (p : Oid → Bool) (all page left : List Oid) (are : filter p all ≡ page ++ filter p left) where
  taken : (x : Oid) (rest : List Oid) → left ≡ x ∷ rest → p x ≡ true → filter p left ≡ x ∷ filter p rest
  taken x rest is passes = ap (filter p) is ∙ ap (λ (b : Bool). cond b (x ∷ filter p rest) (filter p rest)) passes

  pub page_full : (x : Oid) (rest : List Oid) (max : ℕ) → left ≡ x ∷ rest → p x ≡ true → length page ≡ max → record { oids = page; next = Some x } ≡ page_of (filter p all) max
  page_full x rest max is passes n =
      let e : filter p all ≡ page ++ x ∷ filter p rest = are ∙ ap (λ (l : List Oid). page ++ l) (taken x rest is passes) in
      let front : take max (filter p all) ≡ page = ap (take max) e ∙ ap (λ (k : ℕ). take k (page ++ x ∷ filter p rest)) (sym n) ∙ take-append_seam page (x ∷ filter p rest) in
      let next : slice_get (filter p all) max ≡ Some x = ap (λ (l : List Oid). slice_get l max) e ∙ ap (slice_get (page ++ x ∷ filter p rest)) (sym n) ∙ seam page (filter p rest) x in
      λ i. record { oids = sym front i; next = sym next i }

  pub page_last : (max : ℕ) → left ≡ [] → length page ≤ max → record { oids = page; next = None } ≡ page_of (filter p all) max
  page_last max none few =
      let e : filter p all ≡ page = are ∙ ap (λ (l : List Oid). page ++ filter p l) none ∙ append-nil page in
      let front : take max (filter p all) ≡ page = ap (take max) e ∙ take_all max page few in
      let next : slice_get (filter p all) max ≡ None = slice_get_past (filter p all) max (omega (arith, ap length e, few)) in
      λ i. record { oids = sym front i; next = sym next i }
