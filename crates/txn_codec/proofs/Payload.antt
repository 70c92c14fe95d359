-- Each part of a payload is read as it was spelled.
use Rattle.std.proofs.Common.{◌≡◌, ℕ, zero, suc, ◌+◌, ◌^◌, ◌<◌, ◌≤◌, Bool, true, false, cond, ltb, eqb, List, [], ◌∷◌, ◌++◌, length, Option, Some, None, Result, Ok, Err, refl, sym, ap, subst, ◌∙◌, append_assoc, arith}
use Rattle.std.specs.List.{flat_map, All}
use Rattle.std.specs.Prelude.{IfSome}
use Rattle.std.proofs.lemmas.Bool.{ltb-false, le-ltb, eqb-true}
use Rattle.std.proofs.lemmas.List.{append-nil, nil_from_length, length-append, get_or_default}
use Rattle.std.proofs.lemmas.Nat.{be_bytes_2, be_bytes_4, be_bytes_8}
use Rattle.byteorder.specs.Endian.{big_bytes, big_number}
use Rattle.byteorder.specs.Numbers.{big_number-reads_back, length-bytes_high_first}
use Rattle.fs_names.specs.declared.coll.Coll.{Coll}
use Rattle.fs_names.specs.declared.coll.Coll.TheVariants.{Meta, Pg}
use Rattle.fs_names.specs.declared.oid.Oid.{Oid}
use Rattle.fs_names.specs.declared.oid.Snap.{Snap}
use Rattle.fs_names.specs.declared.oid.Snap.TheVariants.{Head, Dir, Id}
use Rattle.fs_names.specs.Names.{IsName}
use Rattle.fs_names.specs.Codes.{oid_pack, oid_unpack}
use Rattle.fs_names.specs.Reading.{CollFits, OidFits, SnapFits}
use Rattle.fs_model.specs.declared.op.Op.{Op}
use Rattle.fs_model.specs.declared.op.Op.TheVariants.{Touch, Write, Zero, Truncate, Remove, SetAttrs, RmAttr, RmAttrs, Clone, CloneRange, MoveRename, MkColl, RmColl, OmapClear, OmapSet, OmapRemove, OmapRange}
use Rattle.txn_codec.specs.declared.fault.CodecFault.{CodecFault}
use Rattle.txn_codec.specs.declared.fault.CodecFault.TheVariants.{BadLength, Trailing}
use Rattle.txn_codec.specs.Spelling.{sized, flag, coll, snap, pool, oid, blob, pair, header, counted, op, payload, BlobFits, PairFits, HeaderFits, AllFit, OpFits, OpsFit}
use Rattle.txn_codec.specs.Reading.{Rest, Reader, ◌>>=◌, ◌&◌, mapped, field, number, tagged, flag_follows, coll_follows, snap_follows, pool_follows, name_at, blob_at, coll_at, oid_at, op_follows, op_at, repeated, counted_at, pair_of, pair_at, pairs_at, blobs_at, header_follows, object_at, touch, write, zero_part, truncate, remove, set_attrs, rm_attr, rm_attrs, clone, clone_range, move_rename, omap_clear, omap_set, omap_remove, omap_range, ops_at, decoded}
use Rattle.txn_codec.proofs.Codec.{IsBytes, rest_of, got, bind_ok, guard_ok, test_ok, ok_is, Takes, Codec, TakesField, field_takes, field_again, both, both_spell, both_fit, mapped_takes, mapped_again, TakesTag, HasTag, tagged_codec, given_takes, given_again, fields_take, fields_again, TakesAll, all_take, all_again}

-- ---- numbers

pub record IsWide (n limit : ℕ) : Type 0 where
  pub back : (bytes : List ℕ) → length bytes ≡ n → IsBytes bytes → big_bytes n (big_number n bytes) ≡ bytes
  pub below : (bytes : List ℕ) → IsBytes bytes → big_number n bytes < limit
  pub again : (x : ℕ) → x < limit → big_number n (big_bytes n x) ≡ x

again_by : (n x : ℕ) → x < 256 ^ n → big_number n (big_bytes n x) ≡ x
again_by n x h = ap (big_number n) (sym (append-nil (big_bytes n x))) ∙ big_number-reads_back n x [] h

pub wide2 : IsWide 2 (2 ^ 16)
wide2 = record {
  back = λ bytes len fits. be_bytes_2 bytes _ len fits (omega arith);
  below = λ bytes fits. omega (arith, fits 0, fits 1);
  again = λ x h. again_by 2 x h;
}

pub wide4 : IsWide 4 (2 ^ 32)
wide4 = record {
  back = λ bytes len fits. be_bytes_4 bytes _ len fits (omega arith);
  below = λ bytes fits. omega (arith, fits 0, fits 1, fits 2, fits 3);
  again = λ x h. again_by 4 x h;
}

pub wide8 : IsWide 8 (2 ^ 64)
wide8 = record {
  back = λ bytes len fits. be_bytes_8 bytes _ len fits (omega arith);
  below = λ bytes fits. omega (arith, fits 0, fits 1, fits 2, fits 3, fits 4, fits 5, fits 6, fits 7);
  again = λ x h. again_by 8 x h;
}

abbrev Below : ℕ → ℕ → Type 0
Below limit x = x < limit

pub number_codec : (n limit : ℕ) → IsWide n limit → Codec (big_bytes n) (Below limit) (number n)
number_codec n limit wide = record {
  takes = λ r x fits e.
      let p = bind_ok (field n r) (λ f. Ok (big_number n f.0, f.1)) x e in
      let f : List ℕ × Rest = p.0 in
      let t : TakesField n r f = field_takes n r f fits p.1.0 in
      subst (Takes (big_bytes n) (Below limit) r) (ok_is (big_number n f.0, f.1) x p.1.1)
      (record { parts = t.parts ∙ ap (λ (l : List ℕ). l ++ f.1.bytes) (sym (wide.back f.0 t.len t.bytes)); fit = wide.below f.0 t.bytes; rest = t.rest });
  again = λ x at bytes fit.
      let len : length (big_bytes n x) ≡ n = length-bytes_high_first n x in
      ap (λ (r : Result (List ℕ × Rest) CodecFault). r >>= λ f. Ok (big_number n f.0, f.1)) (field_again n at (big_bytes n x) bytes len)
      ∙ ap (λ (y : ℕ). got y (rest_of (at + n) bytes)) (wide.again x fit)
      ∙ ap (λ (k : ℕ). got x (rest_of (at + k) bytes)) (sym len);
}

-- ---- bytes behind their length

abbrev FitsIn : ℕ → List ℕ → Type 0
FitsIn limit bytes = length bytes < limit

sized_place : (at k m : ℕ) (l : List ℕ) → m ≡ k → (at + m) + length l ≡ at + (k + length l)
sized_place at k m l e = omega arith

module _ (n limit : ℕ) (wide : IsWide n limit) where
  sized_takes : (r : Rest) (len : ℕ × Rest) (f : List ℕ × Rest) → IsBytes r.bytes → number n r ≡ Ok len → field len.0 len.1 ≡ Ok f → Takes (sized n) (FitsIn limit) r f
  sized_takes r len f fits e d =
      let a : Takes (big_bytes n) (Below limit) r len = (number_codec n limit wide).takes r len fits e in
      let t : TakesField len.0 len.1 f = field_takes len.0 len.1 f a.rest d in
      record {
        parts = a.parts ∙ ap (λ (l : List ℕ). big_bytes n len.0 ++ l) t.parts ∙ sym (append_assoc (big_bytes n len.0) f.0 f.1.bytes)
            ∙ ap (λ (k : ℕ). (big_bytes n k ++ f.0) ++ f.1.bytes) (sym t.len);
        fit = subst (λ (k : ℕ). k < limit) (sym t.len) a.fit;
        rest = t.rest;
      }

  length_sized : (l : List ℕ) (at : ℕ) → (at + length (big_bytes n (length l))) + length l ≡ at + length (sized n l)
  length_sized l at = omega (arith, length-append (big_bytes n (length l)) l)

pub blob_codec : Codec (sized 4) (FitsIn (2 ^ 32)) blob_at
unfolding blob_at
blob_codec = record {
  takes = λ r x fits e.
      let p = bind_ok (number 4 r) (λ len. field len.0 len.1) x e in
      sized_takes 4 (2 ^ 32) wide4 r p.0 x fits p.1.0 p.1.1;
  again = λ l at bytes fit.
      ap (λ (w : List ℕ). blob_at (rest_of at w)) (append_assoc (big_bytes 4 (length l)) l bytes)
      ∙ ap (λ (r : Result (ℕ × Rest) CodecFault). r >>= λ len. field len.0 len.1) ((number_codec 4 (2 ^ 32) wide4).again (length l) at (l ++ bytes) fit)
      ∙ field_again (length l) _ l bytes refl
      ∙ ap (λ (k : ℕ). got l (rest_of k bytes)) (length_sized 4 (2 ^ 32) wide4 l at);
}

small_bytes : (l : List ℕ) → IsBytes l → All (λ b. b < 256) l
small_bytes l h = λ k d within. subst (λ (b : ℕ). b < 256) (get_or_default l k 0 d within) (h k)

pub name_codec : Codec (sized 2) IsName name_at
unfolding name_at
name_codec = record {
  takes = λ r x fits e.
      let p = bind_ok (number 2 r) (λ len. cond (ltb 1024 len.0) (Err (BadLength r.at)) (field len.0 len.1)) x e in
      let len : ℕ × Rest = p.0 in
      let g = guard_ok (ltb 1024 len.0) (BadLength r.at) (field len.0 len.1) x p.1.1 in
      let t : Takes (sized 2) (FitsIn (2 ^ 16)) r x = sized_takes 2 (2 ^ 16) wide2 r len x fits p.1.0 g.1 in
      let a : Takes (big_bytes 2) (Below (2 ^ 16)) r len = (number_codec 2 (2 ^ 16) wide2).takes r len fits p.1.0 in
      let d : TakesField len.0 len.1 x = field_takes len.0 len.1 x a.rest g.1 in
      let few : len.0 ≤ 1024 = ltb-false _ _ g.0 in
      record { parts = t.parts; fit = record { short = subst (λ (k : ℕ). k ≤ 1024) (sym d.len) few; small = small_bytes x.0 d.bytes }; rest = t.rest };
  again = λ l at bytes fit.
      let few : ltb 1024 (length l) ≡ false = le-ltb _ _ fit.short in
      let m : ℕ = at + length (big_bytes 2 (length l)) in
      ap (λ (w : List ℕ). name_at (rest_of at w)) (append_assoc (big_bytes 2 (length l)) l bytes)
      ∙ ap (λ (r : Result (ℕ × Rest) CodecFault). r >>= λ len. cond (ltb 1024 len.0) (Err (BadLength at)) (field len.0 len.1)) ((number_codec 2 (2 ^ 16) wide2).again (length l) at (l ++ bytes) (omega (arith, fit.short)))
      ∙ ap (λ (b : Bool). cond b (Err (BadLength at)) (field (length l) (rest_of m (l ++ bytes)))) few
      ∙ field_again (length l) m l bytes refl
      ∙ ap (λ (k : ℕ). got l (rest_of k bytes)) (length_sized 2 (2 ^ 16) wide2 l at);
}

-- ---- flags, collections, snapshots and pools

abbrev Any : {A : Type 0} → A → Type 0
Any a = Unit {0}

abbrev flag_takes : (tag : ℕ) (read : Reader Bool) → flag_follows tag ≡ Some read → (r : Rest) (x : Bool × Rest) → IsBytes r.bytes → read r ≡ Ok x → TakesTag flag Any tag r x
flag_takes zero read is r x bytes e = given_takes flag Any flag_follows false 0 refl tt read is r x bytes e
flag_takes (suc zero) read is r x bytes e = given_takes flag Any flag_follows true 1 refl tt read is r x bytes e
flag_takes (suc (suc n)) read is r x bytes e = absurd (cc)

abbrev flag_again : (b : Bool) → HasTag flag flag_follows b
flag_again false = given_again flag Any flag_follows false 0 refl refl
flag_again true = given_again flag Any flag_follows true 1 refl refl

pub flag_codec : Codec flag Any (tagged flag_follows)
flag_codec = tagged_codec (record { takes = flag_takes; again = λ b fit. flag_again b })

abbrev pg_spell : ℕ × (ℕ × Bool) → List ℕ
pg_spell = both_spell (big_bytes 8) (both_spell (big_bytes 4) flag)

abbrev PgFits : ℕ × (ℕ × Bool) → Type 0
PgFits = both_fit (Below (2 ^ 64)) (both_fit (Below (2 ^ 32)) Any)

pg_codec : Codec pg_spell PgFits (number 8 & number 4 & tagged flag_follows)
pg_codec = both (number_codec 8 (2 ^ 64) wide8) (both (number_codec 4 (2 ^ 32) wide4) flag_codec)

abbrev pg : ℕ × (ℕ × Bool) → Coll
pg p = Pg p.0 p.1.0 p.1.1

coll_takes : (tag : ℕ) (read : Reader Coll) → coll_follows tag ≡ Some read → (r : Rest) (x : Coll × Rest) → IsBytes r.bytes → read r ≡ Ok x → TakesTag coll CollFits tag r x
coll_takes zero read is r x bytes e = given_takes coll CollFits coll_follows Meta 0 refl tt read is r x bytes e
coll_takes (suc zero) read is r x bytes e = fields_take pg_codec coll CollFits coll_follows pg 1 (λ p. refl) (λ p fit. (fit.0, fit.1.0)) read is r x bytes e
coll_takes (suc (suc n)) read is r x bytes e = absurd (cc)

coll_again : (c : Coll) → CollFits c → HasTag coll coll_follows c
coll_again Meta fit = given_again coll CollFits coll_follows Meta 0 refl refl
coll_again (Pg pool seed temp) fit = fields_again pg_codec coll CollFits coll_follows pg 1 (λ p. refl) (pool, (seed, temp)) (fit.0, (fit.1, tt)) refl

pub coll_codec : Codec coll CollFits coll_at
unfolding coll_at
coll_codec = tagged_codec (record { takes = coll_takes; again = coll_again })

snap_takes : (tag : ℕ) (read : Reader Snap) → snap_follows tag ≡ Some read → (r : Rest) (x : Snap × Rest) → IsBytes r.bytes → read r ≡ Ok x → TakesTag snap SnapFits tag r x
snap_takes zero read is r x bytes e = given_takes snap SnapFits snap_follows Head 0 refl tt read is r x bytes e
snap_takes (suc zero) read is r x bytes e = given_takes snap SnapFits snap_follows Dir 1 refl tt read is r x bytes e
snap_takes (suc (suc zero)) read is r x bytes e =
    fields_take (number_codec 8 (2 ^ 64) wide8) snap SnapFits snap_follows Id 2 (λ n. refl) (λ n fit. fit) read is r x bytes e
snap_takes (suc (suc (suc n))) read is r x bytes e = absurd (cc)

snap_again : (s : Snap) → SnapFits s → HasTag snap snap_follows s
snap_again Head fit = given_again snap SnapFits snap_follows Head 0 refl refl
snap_again Dir fit = given_again snap SnapFits snap_follows Dir 1 refl refl
snap_again (Id n) fit = fields_again (number_codec 8 (2 ^ 64) wide8) snap SnapFits snap_follows Id 2 (λ n. refl) n fit refl

pub snap_codec : Codec snap SnapFits (tagged snap_follows)
snap_codec = tagged_codec (record { takes = snap_takes; again = snap_again })

abbrev PoolFits : Option ℕ → Type 0
PoolFits o = IfSome o (λ p. p < 2 ^ 64)

pool_takes : (tag : ℕ) (read : Reader (Option ℕ)) → pool_follows tag ≡ Some read → (r : Rest) (x : Option ℕ × Rest) → IsBytes r.bytes → read r ≡ Ok x → TakesTag pool PoolFits tag r x
pool_takes zero read is r x bytes e = given_takes pool PoolFits pool_follows None 0 refl tt read is r x bytes e
pool_takes (suc zero) read is r x bytes e =
    fields_take (number_codec 8 (2 ^ 64) wide8) pool PoolFits pool_follows Some 1 (λ n. refl) (λ n fit. fit) read is r x bytes e
pool_takes (suc (suc n)) read is r x bytes e = absurd (cc)

pool_again : (o : Option ℕ) → PoolFits o → HasTag pool pool_follows o
pool_again None fit = given_again pool PoolFits pool_follows None 0 refl refl
pool_again (Some n) fit = fields_again (number_codec 8 (2 ^ 64) wide8) pool PoolFits pool_follows Some 1 (λ n. refl) n fit refl

pub pool_codec : Codec pool PoolFits (tagged pool_follows)
pool_codec = tagged_codec (record { takes = pool_takes; again = pool_again })

-- ---- objects

abbrev Fields : Type 0
Fields = List ℕ × (List ℕ × (List ℕ × (Snap × (ℕ × Option ℕ))))

abbrev fields_spell : Fields → List ℕ
fields_spell = both_spell (sized 2) (both_spell (sized 2) (both_spell (sized 2) (both_spell snap (both_spell (big_bytes 4) pool))))

abbrev FieldsFit : Fields → Type 0
FieldsFit = both_fit IsName (both_fit IsName (both_fit IsName (both_fit SnapFits (both_fit (Below (2 ^ 32)) PoolFits))))

fields_codec : Codec fields_spell FieldsFit (name_at & name_at & name_at & tagged snap_follows & number 4 & tagged pool_follows)
fields_codec = both name_codec (both name_codec (both name_codec (both snap_codec (both (number_codec 4 (2 ^ 32) wide4) pool_codec))))

oid_fits : (p : Fields) → FieldsFit p → OidFits (oid_unpack p)
oid_fits p f = record { name = f.0; key = f.1.0; nspace = f.1.1.0; snap = f.1.1.1.0; hash = f.1.1.1.1.0; pool = f.1.1.1.1.1 }

fields_fit : (o : Oid) → OidFits o → FieldsFit (oid_pack o)
fields_fit o f = (f.name, (f.key, (f.nspace, (f.snap, (f.hash, f.pool)))))

pub oid_codec : Codec oid OidFits oid_at
unfolding oid_at
oid_codec = record {
  takes = λ r x bytes e.
      let t = mapped_takes oid_unpack fields_codec r x bytes e in
      let u : Fields × Rest = t.0 in
      let one : Takes fields_spell FieldsFit r u = t.1.0 in
      subst (Takes oid OidFits r) t.1.1 (record { parts = one.parts; fit = oid_fits u.0 one.fit; rest = one.rest });
  again = λ o at bytes fit. mapped_again oid_unpack fields_codec (oid_pack o) at bytes (fields_fit o fit);
}

-- ---- lists, pairs and omap headers

module _ {A : Type 0} {spell : A → List ℕ} {fits : A → Type 0} {read : Reader A} (codec : Codec spell fits read) where
  pub counted_codec : Codec (counted spell) (AllFit fits) (counted_at read)
  counted_codec = record {
    takes = λ r x bytes e.
        let p = bind_ok (number 4 r) (λ count. repeated count.0 read count.1) x e in
        let count : ℕ × Rest = p.0 in
        let a : Takes (big_bytes 4) (Below (2 ^ 32)) r count = (number_codec 4 (2 ^ 32) wide4).takes r count bytes p.1.0 in
        let t : TakesAll spell fits count.0 count.1 x = all_take codec count.0 count.1 x a.rest p.1.1 in
        record {
          parts = a.parts ∙ ap (λ (l : List ℕ). big_bytes 4 count.0 ++ l) t.parts ∙ sym (append_assoc (big_bytes 4 count.0) (flat_map spell x.0) x.1.bytes)
              ∙ ap (λ (n : ℕ). (big_bytes 4 n ++ flat_map spell x.0) ++ x.1.bytes) (sym t.count);
          fit = (subst (λ (n : ℕ). n < 2 ^ 32) (sym t.count) a.fit, t.fit);
          rest = t.rest;
        };
    again = λ xs at bytes fit.
        let count : List ℕ = big_bytes 4 (length xs) in
        let body : List ℕ = flat_map spell xs in
        let m : ℕ = at + length count in
        let place : m + length body ≡ at + length (counted spell xs) = omega (arith, length-append count body) in
        ap (λ (l : List ℕ). counted_at read (rest_of at l)) (append_assoc count body bytes)
        ∙ ap (λ (r : Result (ℕ × Rest) CodecFault). r >>= λ n. repeated n.0 read n.1) ((number_codec 4 (2 ^ 32) wide4).again (length xs) at (body ++ bytes) fit.0)
        ∙ all_again codec xs m bytes fit.1
        ∙ ap (λ (n : ℕ). got xs (rest_of n bytes)) place;
  }

abbrev Two : Type 0
Two = List ℕ × List ℕ

two_codec : Codec (both_spell blob blob) (both_fit BlobFits BlobFits) (blob_at & blob_at)
two_codec = both blob_codec blob_codec

pub pair_codec : Codec pair PairFits pair_at
unfolding pair_at
pair_codec = record {
  takes = λ r x bytes e.
      let t = mapped_takes pair_of two_codec r x bytes e in
      let u : Two × Rest = t.0 in
      let one : Takes (both_spell blob blob) (both_fit BlobFits BlobFits) r u = t.1.0 in
      subst (Takes pair PairFits r) t.1.1 (record { parts = one.parts; fit = one.fit; rest = one.rest });
  again = λ p at bytes fit. mapped_again pair_of two_codec (p.key, p.value) at bytes fit;
}

pub pairs_codec : Codec (counted pair) (AllFit PairFits) pairs_at
unfolding pairs_at
pairs_codec = counted_codec pair_codec

pub blobs_codec : Codec (counted blob) (AllFit BlobFits) blobs_at
unfolding blobs_at
blobs_codec = counted_codec blob_codec

header_takes : (tag : ℕ) (read : Reader (Option (List ℕ))) → header_follows tag ≡ Some read → (r : Rest) (x : Option (List ℕ) × Rest) → IsBytes r.bytes → read r ≡ Ok x → TakesTag header HeaderFits tag r x
header_takes zero read is r x bytes e = given_takes header HeaderFits header_follows None 0 refl tt read is r x bytes e
header_takes (suc zero) read is r x bytes e = fields_take blob_codec header HeaderFits header_follows Some 1 (λ h. refl) (λ h fit. fit) read is r x bytes e
header_takes (suc (suc n)) read is r x bytes e = absurd (cc)

header_again : (o : Option (List ℕ)) → HeaderFits o → HasTag header header_follows o
header_again None fit = given_again header HeaderFits header_follows None 0 refl refl
header_again (Some h) fit = fields_again blob_codec header HeaderFits header_follows Some 1 (λ h. refl) h fit refl

pub header_codec : Codec header HeaderFits (tagged header_follows)
header_codec = tagged_codec (record { takes = header_takes; again = header_again })

-- ---- operations

pub object_codec : Codec (both_spell coll oid) (both_fit CollFits OidFits) object_at
unfolding object_at
object_codec = both coll_codec oid_codec

abbrev n8 : Codec (big_bytes 8) (Below (2 ^ 64)) (number 8)
n8 = number_codec 8 (2 ^ 64) wide8

abbrev Obj : Type 0
Obj = Coll × Oid

abbrev obj : Obj → List ℕ
obj = both_spell coll oid

abbrev ObjFits : Obj → Type 0
ObjFits = both_fit CollFits OidFits

write_codec : Codec (both_spell obj (both_spell (big_bytes 8) (sized 4))) (both_fit ObjFits (both_fit (Below (2 ^ 64)) (FitsIn (2 ^ 32)))) (object_at & number 8 & blob_at)
write_codec = both object_codec (both n8 blob_codec)

zero_codec : Codec (both_spell obj (both_spell (big_bytes 8) (big_bytes 8))) (both_fit ObjFits (both_fit (Below (2 ^ 64)) (Below (2 ^ 64)))) (object_at & number 8 & number 8)
zero_codec = both object_codec (both n8 n8)

truncate_codec : Codec (both_spell obj (big_bytes 8)) (both_fit ObjFits (Below (2 ^ 64))) (object_at & number 8)
truncate_codec = both object_codec n8

set_attrs_codec : Codec (both_spell obj (counted pair)) (both_fit ObjFits (AllFit PairFits)) (object_at & pairs_at)
set_attrs_codec = both object_codec pairs_codec

rm_attr_codec : Codec (both_spell obj (sized 4)) (both_fit ObjFits (FitsIn (2 ^ 32))) (object_at & blob_at)
rm_attr_codec = both object_codec blob_codec

clone_codec : Codec (both_spell obj obj) (both_fit ObjFits ObjFits) (object_at & object_at)
clone_codec = both object_codec object_codec

clone_range_codec : Codec (both_spell obj (both_spell obj (both_spell (big_bytes 8) (both_spell (big_bytes 8) (big_bytes 8)))))
    (both_fit ObjFits (both_fit ObjFits (both_fit (Below (2 ^ 64)) (both_fit (Below (2 ^ 64)) (Below (2 ^ 64)))))) (object_at & object_at & number 8 & number 8 & number 8)
clone_range_codec = both object_codec (both object_codec (both n8 (both n8 n8)))

omap_set_codec : Codec (both_spell obj (both_spell header (counted pair))) (both_fit ObjFits (both_fit HeaderFits (AllFit PairFits))) (object_at & tagged header_follows & pairs_at)
omap_set_codec = both object_codec (both header_codec pairs_codec)

omap_remove_codec : Codec (both_spell obj (counted blob)) (both_fit ObjFits (AllFit BlobFits)) (object_at & blobs_at)
omap_remove_codec = both object_codec blobs_codec

omap_range_codec : Codec (both_spell obj (both_spell (sized 4) (sized 4))) (both_fit ObjFits (both_fit (FitsIn (2 ^ 32)) (FitsIn (2 ^ 32)))) (object_at & blob_at & blob_at)
omap_range_codec = both object_codec (both blob_codec blob_codec)

abbrev OpTakes : ℕ → Option (Reader Op) → Type 0
OpTakes tag o = (read : Reader Op) → o ≡ Some read → (r : Rest) (x : Op × Rest) → IsBytes r.bytes → read r ≡ Ok x → TakesTag op OpFits tag r x

-- an operation's tag and fields
line : {A : Type 0} {s : A → List ℕ} {f : A → Type 0} {fields : Reader A} → Codec s f fields → (make : A → Op) (tag : ℕ)
    → ((x : A) → op (make x) ≡ tag ∷ s x) → ((x : A) → f x → OpFits (make x)) → OpTakes tag (Some (mapped make fields))
line codec make tag spelled fit read is r x bytes e = fields_take codec op OpFits op_follows make tag spelled fit read is r x bytes e

none_takes : (tag : ℕ) → OpTakes tag None
none_takes tag read is r x bytes e = absurd (cc)

-- one case of a choice by the tag
by_tag : (tag this : ℕ) (a b : Option (Reader Op)) → OpTakes this a → OpTakes tag b → OpTakes tag (cond (eqb tag this) a b)
by_tag tag this a b here other =
    elim (eqb tag this) as (λ t. eqb tag this ≡ t → OpTakes tag (cond t a b)) [
      | true ↦ λ e. subst (λ (t : ℕ). OpTakes t a) (sym (eqb-true tag this e)) here
      | false ↦ λ e. other
    ] refl

op_takes : (tag : ℕ) → OpTakes tag (op_follows tag)
op_takes tag =
    by_tag tag 1 _ _ (line object_codec touch 1 (λ p. refl) (λ p fit. fit))
    (by_tag tag 2 _ _ (line write_codec write 2 (λ p. refl) (λ p fit. fit))
    (by_tag tag 3 _ _ (line zero_codec zero_part 3 (λ p. refl) (λ p fit. fit))
    (by_tag tag 4 _ _ (line truncate_codec truncate 4 (λ p. refl) (λ p fit. fit))
    (by_tag tag 5 _ _ (line object_codec remove 5 (λ p. refl) (λ p fit. fit))
    (by_tag tag 6 _ _ (line set_attrs_codec set_attrs 6 (λ p. refl) (λ p fit. fit))
    (by_tag tag 7 _ _ (line rm_attr_codec rm_attr 7 (λ p. refl) (λ p fit. fit))
    (by_tag tag 8 _ _ (line object_codec rm_attrs 8 (λ p. refl) (λ p fit. fit))
    (by_tag tag 9 _ _ (line clone_codec clone 9 (λ p. refl) (λ p fit. fit))
    (by_tag tag 10 _ _ (line clone_range_codec clone_range 10 (λ p. refl) (λ p fit. fit))
    (by_tag tag 11 _ _ (line clone_codec move_rename 11 (λ p. refl) (λ p fit. fit))
    (by_tag tag 12 _ _ (line coll_codec MkColl 12 (λ p. refl) (λ p fit. fit))
    (by_tag tag 13 _ _ (line coll_codec RmColl 13 (λ p. refl) (λ p fit. fit))
    (by_tag tag 14 _ _ (line object_codec omap_clear 14 (λ p. refl) (λ p fit. fit))
    (by_tag tag 15 _ _ (line omap_set_codec omap_set 15 (λ p. refl) (λ p fit. fit))
    (by_tag tag 16 _ _ (line omap_remove_codec omap_remove 16 (λ p. refl) (λ p fit. fit))
    (by_tag tag 17 _ _ (line omap_range_codec omap_range 17 (λ p. refl) (λ p fit. fit)) (none_takes tag)))))))))))))))))

op_again : (o : Op) → OpFits o → HasTag op op_follows o
op_again (Touch c o) fit = fields_again object_codec op OpFits op_follows touch 1 (λ p. refl) (c, o) fit refl
op_again (Write c o at bytes) fit = fields_again write_codec op OpFits op_follows write 2 (λ p. refl) ((c, o), (at, bytes)) fit refl
op_again (Zero c o at len) fit = fields_again zero_codec op OpFits op_follows zero_part 3 (λ p. refl) ((c, o), (at, len)) fit refl
op_again (Truncate c o len) fit = fields_again truncate_codec op OpFits op_follows truncate 4 (λ p. refl) ((c, o), len) fit refl
op_again (Remove c o) fit = fields_again object_codec op OpFits op_follows remove 5 (λ p. refl) (c, o) fit refl
op_again (SetAttrs c o pairs) fit = fields_again set_attrs_codec op OpFits op_follows set_attrs 6 (λ p. refl) ((c, o), pairs) fit refl
op_again (RmAttr c o name) fit = fields_again rm_attr_codec op OpFits op_follows rm_attr 7 (λ p. refl) ((c, o), name) fit refl
op_again (RmAttrs c o) fit = fields_again object_codec op OpFits op_follows rm_attrs 8 (λ p. refl) (c, o) fit refl
op_again (Clone c o c2 o2) fit = fields_again clone_codec op OpFits op_follows clone 9 (λ p. refl) ((c, o), (c2, o2)) fit refl
op_again (CloneRange c o c2 o2 from len to) fit =
    fields_again clone_range_codec op OpFits op_follows clone_range 10 (λ p. refl) ((c, o), ((c2, o2), (from, (len, to)))) fit refl
op_again (MoveRename c o c2 o2) fit = fields_again clone_codec op OpFits op_follows move_rename 11 (λ p. refl) ((c, o), (c2, o2)) fit refl
op_again (MkColl c) fit = fields_again coll_codec op OpFits op_follows MkColl 12 (λ c. refl) c fit refl
op_again (RmColl c) fit = fields_again coll_codec op OpFits op_follows RmColl 13 (λ c. refl) c fit refl
op_again (OmapClear c o) fit = fields_again object_codec op OpFits op_follows omap_clear 14 (λ p. refl) (c, o) fit refl
op_again (OmapSet c o h pairs) fit = fields_again omap_set_codec op OpFits op_follows omap_set 15 (λ p. refl) ((c, o), (h, pairs)) fit refl
op_again (OmapRemove c o keys) fit = fields_again omap_remove_codec op OpFits op_follows omap_remove 16 (λ p. refl) ((c, o), keys) fit refl
op_again (OmapRange c o from to) fit = fields_again omap_range_codec op OpFits op_follows omap_range 17 (λ p. refl) ((c, o), (from, to)) fit refl

pub op_codec : Codec op OpFits op_at
unfolding op_at
op_codec = tagged_codec (record { takes = λ tag read is. op_takes tag read is; again = op_again })

-- ---- payloads

ops_take : (r : Rest) (x : List Op × Rest) → IsBytes r.bytes → ops_at r ≡ Ok x → Takes payload OpsFit r x
unfolding ops_at
ops_take r x bytes e =
    let p = bind_ok (number 4 r) (λ count. cond (ltb 4096 count.0) (Err (BadLength r.at)) (repeated count.0 op_at count.1)) x e in
    let count : ℕ × Rest = p.0 in
    let g = guard_ok (ltb 4096 count.0) (BadLength r.at) (repeated count.0 op_at count.1) x p.1.1 in
    let a : Takes (big_bytes 4) (Below (2 ^ 32)) r count = (number_codec 4 (2 ^ 32) wide4).takes r count bytes p.1.0 in
    let t : TakesAll op OpFits count.0 count.1 x = all_take op_codec count.0 count.1 x a.rest g.1 in
    let few : count.0 ≤ 4096 = ltb-false _ _ g.0 in
    record {
      parts = a.parts ∙ ap (λ (l : List ℕ). big_bytes 4 count.0 ++ l) t.parts ∙ sym (append_assoc (big_bytes 4 count.0) (flat_map op x.0) x.1.bytes)
          ∙ ap (λ (n : ℕ). (big_bytes 4 n ++ flat_map op x.0) ++ x.1.bytes) (sym t.count);
      fit = (subst (λ (n : ℕ). n ≤ 4096) (sym t.count) few, t.fit);
      rest = t.rest;
    }

-- what is read of a payload, wherever it ends
ops_again : (ops : List Op) (bytes : List ℕ) → OpsFit ops → (at : ℕ) × (ops_at (rest_of 0 (payload ops ++ bytes)) ≡ got ops (rest_of at bytes))
unfolding ops_at
ops_again ops bytes fit =
    let count : List ℕ = big_bytes 4 (length ops) in
    let body : List ℕ = flat_map op ops in
    let m : ℕ = 0 + length count in
    let few : ltb 4096 (length ops) ≡ false = le-ltb _ _ fit.0 in (
      m + length body,
      ap (λ (l : List ℕ). ops_at (rest_of 0 l)) (append_assoc count body bytes)
          ∙ ap (λ (r : Result (ℕ × Rest) CodecFault). r >>= λ n. cond (ltb 4096 n.0) (Err (BadLength 0)) (repeated n.0 op_at n.1)) ((number_codec 4 (2 ^ 32) wide4).again (length ops) 0 (body ++ bytes) (omega (arith, fit.0)))
          ∙ ap (λ (b : Bool). cond b (Err (BadLength 0)) (repeated (length ops) op_at (rest_of m (body ++ bytes)))) few
          ∙ all_again op_codec ops m bytes fit.1,
    )

pub payload_takes : (bytes : List ℕ) (ops : List Op) → IsBytes bytes → decoded bytes ≡ Ok ops → (payload ops ≡ bytes) × OpsFit ops
unfolding decoded
payload_takes bytes ops fits e =
    let p = bind_ok (ops_at (rest_of 0 bytes)) (λ x. cond (eqb (length x.1.bytes) 0) (Ok x.0) (Err (Trailing x.1.at))) ops e in
    let x : List Op × Rest = p.0 in
    let w = test_ok (eqb (length x.1.bytes) 0) (Trailing x.1.at) x.0 ops p.1.1 in
    let t : Takes payload OpsFit (rest_of 0 bytes) x = ops_take (rest_of 0 bytes) x fits p.1.0 in
    let nothing : x.1.bytes ≡ [] = nil_from_length x.1.bytes (eqb-true _ _ w.0) in
    let whole : bytes ≡ payload x.0 = t.parts ∙ ap (λ (l : List ℕ). payload x.0 ++ l) nothing ∙ append-nil (payload x.0) in
    subst (λ (l : List Op). (payload l ≡ bytes) × OpsFit l) w.1 (sym whole, t.fit)

pub payload_again : (ops : List Op) → OpsFit ops → decoded (payload ops) ≡ Ok ops
unfolding decoded
payload_again ops fit =
    let w = ops_again ops [] fit in
    ap decoded (sym (append-nil (payload ops)))
    ∙ ap (λ (r : Result (List Op × Rest) CodecFault). r >>= λ x. cond (eqb (length x.1.bytes) 0) (Ok x.0) (Err (Trailing x.1.at))) w.1

pub payload_one : (xs ys : List Op) → OpsFit xs → OpsFit ys → payload xs ≡ payload ys → xs ≡ ys
payload_one xs ys fx fy e = ok_is xs ys (sym (payload_again xs fx) ∙ ap decoded e ∙ payload_again ys fy)
