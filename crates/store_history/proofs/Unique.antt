-- A pair stands for one state.
use Rattle.std.proofs.Common.{◌≡◌, ℕ, zero, suc, ◌+◌, ◌-◌, List, [], ◌∷◌, drop, map, length, refl, sym, ◌∙◌, ap, subst, arith, Ok, Err, Some}
use Rattle.std.specs.Prelude.{Result}
use Rattle.fs_model.specs.declared.op.Op.{Op}
use Rattle.fs_model.specs.Objects.{Objects}
use Rattle.fs_model.specs.Rows.{fold_txns}
use Rattle.txn_codec.specs.declared.fault.CodecFault.{CodecFault}
use Rattle.ring_frame.specs.Frame.{Entry}
use Rattle.ring_frame.specs.Heads.{Head}
use Rattle.ring_images.specs.Held.{readable}
use Rattle.store_history.specs.History.{replay_of}
use Rattle.store_history.specs.Journal.{txn_of}
use Rattle.store_history.specs.Images.{Images, ImageLaws}
use Rattle.store_history.specs.Pair.{StandsAt, Stands, Closed}

unok : Result (List Op) CodecFault → List Op
unok (Ok x) = x
unok (Err e) = []

unmap : (xs : List (List Op)) → map unok (map Ok xs) ≡ xs
unfolding unok
unmap [] = refl
unmap (x ∷ xs) = ap (λ (l : List (List Op)). x ∷ l) (unmap xs)

abbrev oks : List (List Op) → List (Result (List Op) CodecFault)
oks xs = map Ok xs

ok_all : (xs ys : List (List Op)) → oks xs ≡ oks ys → xs ≡ ys
ok_all xs ys e = sym (unmap xs) ∙ ap (map unok) e ∙ unmap ys

some_head : (a b : Head) → Some a ≡ Some b → a ≡ b
some_head a b e = cc

dropped : (k : ℕ) → map txn_of (drop k []) ≡ []
dropped zero = refl
dropped (suc k) = refl

module _ {Tree : Type 0} (image : Images Tree) (laws : ImageLaws image) (fsid : List ℕ) (t : Tree) (c : List ℕ) where
  one : (o o2 : Objects) (n m last last2 : ℕ) → StandsAt image fsid t c o n last → StandsAt image fsid t c o2 m last2 → (o ≡ o2) × (n ≡ m) × (last ≡ last2)
  one o o2 n m last last2 a b =
      let ga : image (replay_of n a.before a.txns) n n (n + length a.txns) t = subst (λ (i : ℕ). image (replay_of n a.before a.txns) n n i t) a.last_is a.good in
      let gb : image (replay_of m b.before b.txns) m m (m + length b.txns) t = subst (λ (i : ℕ). image (replay_of m b.before b.txns) m m i t) b.last_is b.good in
      let same : n ≡ m = laws.one_number _ _ n m _ _ _ _ t ga gb in
      let head : a.head ≡ b.head = some_head a.head b.head (sym a.header ∙ b.header) in
      let seq : n + 1 - a.head.seq ≡ m + 1 - b.head.seq = omega (arith, same, ap (λ (x : Head). x.seq) head) in
      let txns : a.txns ≡ b.txns = ok_all a.txns b.txns (sym a.spelled ∙ ap (λ (i : ℕ). map txn_of (drop i (readable c))) seq ∙ b.spelled) in
      let gc : image (replay_of n b.before a.txns) n n (n + length a.txns) t =
      subst (λ (i : ℕ). image (replay_of i b.before a.txns) i i (i + length a.txns) t) (sym same) (subst (λ (l : List (List Op)). image (replay_of m b.before l) m m (m + length l) t) (sym txns) gb) in (
        a.ends ∙ laws.once n a.before b.before a.txns t ga gc ∙ ap (fold_txns b.before) txns ∙ sym b.ends,
        same,
        omega (arith, same, a.last_is, b.last_is, ap length txns),
      )

  pub unique : (o o2 : Objects) → Stands image fsid t c o → Stands image fsid t c o2 → o ≡ o2
  unique o o2 (n, last, a) (m, last2, b) = (one o o2 n m last last2 a b).0

  pub numbers : (o o2 : Objects) (n m last last2 : ℕ) → StandsAt image fsid t c o n last → StandsAt image fsid t c o2 m last2 → (n ≡ m) × (last ≡ last2)
  numbers o o2 n m last last2 a b = let k = one o o2 n m last last2 a b in (k.1, k.2)

module _ {Tree : Type 0} (image : Images Tree) (fsid : List ℕ) (t : Tree) (c : List ℕ) where
  drop_none : (k : ℕ) (es : List Entry) → es ≡ [] → map txn_of (drop k es) ≡ []
  drop_none k es e = ap (λ (l : List Entry). map txn_of (drop k l)) e ∙ dropped k

  pub closed : (o : Objects) → Closed image fsid t c o → Stands image fsid t c o
  closed o x = (
    x.n,
    x.n,
    record {
      head = x.head;
      header = x.header;
      fsid_is = x.fsid_is;
      no_gap = omega (arith, x.start);
      txns = [];
      spelled = drop_none (x.n + 1 - x.head.seq) (readable c) x.none;
      last_is = omega arith;
      fits = x.fits;
      before = o;
      good = x.good;
      ends = refl;
    },
  )
