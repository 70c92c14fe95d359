-- What a store's turns ask of its tree.
use Rattle.std.proofs.Common.{◌≡◌, ℕ, ◌+◌, ◌-◌, ◌^◌, ◌<◌, List, length, take, refl, sym, ◌∙◌, ap, subst, arith, take_all, Some, Result, Ok}
use Rattle.hex.specs.declared.error.FromHexError.{FromHexError}
use Rattle.fs_names.specs.declared.settings.Settings.{Settings}
use Rattle.fs_model.specs.declared.op.Op.{Op}
use Rattle.fs_model.specs.Objects.{Objects}
use Rattle.tree_api.specs.Tree.{Version, Tree}
use Rattle.commit_point.specs.Number.{spelled, HasNumber}
use Rattle.commit_point.proofs.Digits.{eight, spelled_bytes, number_back}
use Rattle.store_files.specs.declared.reading.Identity.{Identity}
use Rattle.store_history.specs.History.{at, replay_of}
use Rattle.store_history.specs.Images.{ImageLaws}
use Rattle.op_places.specs.Places.{PastOps}
use Rattle.op_places.proofs.Moving.{past_once}
use Rattle.tree_places.specs.Line.{ops_of, ops_to, count_to, Past}
use Rattle.tree_places.specs.Images.{Image, StoreImage}
use Rattle.tree_places.specs.Laws.{TheoryLaw}
use Rattle.tree_places.proofs.Fit.{can_part}
use Rattle.tree_places.proofs.Flat.{fold_flat}
use Rattle.tree_places.proofs.Histories.{wider, rebased}

-- a tree has one number
same_file : (a b : Version) → Some a ≡ Some b → a ≡ b
same_file a b e = cc

same_bytes : (a b : List ℕ) → ◌≡◌ {A = Result (List ℕ) FromHexError} (Ok a) (Ok b) → a ≡ b
same_bytes a b e = cc

one_spelling : (n m : ℕ) → n < 2 ^ 63 → m < 2 ^ 63 → (text : List ℕ) → text ≡ spelled n → text ≡ spelled m → n ≡ m
one_spelling n m small other text is also =
    let same : eight n ≡ eight m = same_bytes (eight n) (eight m) (sym (spelled_bytes text n is) ∙ spelled_bytes text m also) in
    sym (number_back n (eight n) small refl) ∙ number_back m (eight n) other same

pub one_number : (n m : ℕ) (t : Tree) → HasNumber t n → HasNumber t m → n ≡ m
one_number n m t one two =
    let same : one.file ≡ two.file = same_file one.file two.file (sym one.stands ∙ two.stands) in
    one_spelling n m one.small two.small one.file.bytes one.bytes (ap (λ (v : Version). v.bytes) same ∙ two.bytes)

-- a replay goes through all of its history
module _ (set : Settings) (n : ℕ) (before : Objects) (txns : List (List Op)) (t : Tree) (is : Past set (replay_of n before txns) n (n + length txns) t) where
  all_ops : ops_to (replay_of n before txns) (n + length txns) ≡ ops_of txns
  all_ops = ap ops_of (take_all (n + length txns - n) txns (omega arith))

  from_first : count_to (replay_of n before txns) n ≡ 0
  from_first =
      let zero_more : n - n ≡ 0 = omega arith in
      ap (λ (k : ℕ). length (ops_of (take k txns))) zero_more

  pub whole_line : PastOps set before (ops_of txns) 0 t
  whole_line = subst (λ (l : List Op). PastOps set before l 0 t) all_ops
      (subst (λ (k : ℕ). PastOps set before (ops_to (replay_of n before txns) (n + length txns)) k t) from_first is.past)

plain_laws : (set : Settings) → ImageLaws (Image set)
plain_laws set = record {
  more = λ h n lo hi t room is. record { base = is.base; number = is.number; own = is.own; fit = is.fit; past = wider set h (count_to h lo) hi (hi + 1) t (omega arith) is.past };
  rebase = λ h n lo hi end t base within order to known is. record { base = omega arith; number = is.number; own = is.own; fit = can_part h n end (at h n) is.fit; past = rebased set h n lo hi end t base within order to is.past };
  once = λ n before before2 txns t one two.
      sym (fold_flat before txns)
      ∙ past_once set before before2 (ops_of txns) t one.past.plain two.past.plain (whole_line set n before txns t one.past) (whole_line set n before2 txns t two.past)
      ∙ fold_flat before2 txns;
  one_number = λ h g n m lo lo2 hi hi2 t one two. one_number n m t one.number two.number;
}

-- which store it is stands beside
laws : (id : Identity) → ImageLaws (StoreImage id)
laws id = record {
  more = λ h n lo hi t room is. record { store = is.store; image = (plain_laws id.settings).more h n lo hi t room is.image };
  rebase = λ h n lo hi end t base within order to known is. record { store = is.store; image = (plain_laws id.settings).rebase h n lo hi end t base within order to known is.image };
  once = λ n before before2 txns t one two. (plain_laws id.settings).once n before before2 txns t one.image two.image;
  one_number = λ h g n m lo lo2 hi hi2 t one two. one_number n m t one.image.number two.image.number;
}

pub theory_law : TheoryLaw
theory_law id = record {
  laws = laws id;
  whole = λ h n lo m t le is past. record {
    store = is.store;
    image = record { base = omega (arith, is.image.base, le); number = is.image.number; own = is.image.own; fit = is.image.fit; past = past };
  };
  begins = λ n before txns t is. is.image.past;
  ends = λ h t past. past;
  number_is = λ h n lo hi t is. is.image.number;
  one_number = one_number;
  laid_is = λ h n lo hi t is. record { own = is.image.own; whole = is.image.past.past.whole };
}
