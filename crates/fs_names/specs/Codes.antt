-- How object names and collections are stored in the value of a model.
use Rattle.std.specs.Prelude.{◌≡◌, ℕ, Bool, List, [], ◌∷◌, Option, None, Some, refl}
use Rattle.std.specs.Coded.{Coded, code_by, coded×, coded_ℕ, coded_bool, coded_list, coded_option}
use Rattle.fs_names.specs.declared.oid.Snap.{Snap}
use Rattle.fs_names.specs.declared.oid.Snap.TheVariants.{Head, Dir, Id}
use Rattle.fs_names.specs.declared.oid.Oid.{Oid}
use Rattle.fs_names.specs.declared.coll.Coll.{Coll}
use Rattle.fs_names.specs.declared.coll.Coll.TheVariants.{Meta, Pg}
use Rattle.fs_names.specs.Order.{snap_key}

abbrev pub snap_from : List ℕ → Snap
snap_from [] = Head
snap_from (k ∷ []) = Dir
snap_from (k ∷ n ∷ _) = Id n

abbrev pub snap_back : (s : Snap) → snap_from (snap_key s) ≡ s
snap_back Head = refl
snap_back Dir = refl
snap_back (Id n) = refl

abbrev pub snap_code : Coded Snap
snap_code = code_by (List ℕ) (coded_list coded_ℕ) snap_key snap_from snap_back

abbrev pub oid_pack : Oid → List ℕ × (List ℕ × (List ℕ × (Snap × (ℕ × Option ℕ))))
oid_pack o = (o.name, (o.key, (o.nspace, (o.snap, (o.hash, o.pool)))))

abbrev pub oid_unpack : List ℕ × (List ℕ × (List ℕ × (Snap × (ℕ × Option ℕ)))) → Oid
oid_unpack p = record { name = p.0; key = p.1.0; nspace = p.1.1.0; snap = p.1.1.1.0; hash = p.1.1.1.1.0; pool = p.1.1.1.1.1 }

abbrev pub oid_code : Coded Oid
oid_code =
    code_by (List ℕ × (List ℕ × (List ℕ × (Snap × (ℕ × Option ℕ)))))
    (coded× (coded_list coded_ℕ) (coded× (coded_list coded_ℕ) (coded× (coded_list coded_ℕ) (coded× snap_code (coded× coded_ℕ (coded_option coded_ℕ))))))
    oid_pack oid_unpack (λ _. refl)

abbrev pub coll_pack : Coll → Option (ℕ × (ℕ × Bool))
coll_pack Meta = None
coll_pack (Pg pool seed temp) = Some (pool, (seed, temp))

abbrev pub coll_unpack : Option (ℕ × (ℕ × Bool)) → Coll
coll_unpack None = Meta
coll_unpack (Some p) = Pg p.0 p.1.0 p.1.1

abbrev pub coll_back : (c : Coll) → coll_unpack (coll_pack c) ≡ c
coll_back Meta = refl
coll_back (Pg pool seed temp) = refl

abbrev pub coll_code : Coded Coll
coll_code = code_by (Option (ℕ × (ℕ × Bool))) (coded_option (coded× coded_ℕ (coded× coded_ℕ coded_bool))) coll_pack coll_unpack coll_back
