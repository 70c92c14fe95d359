-- The laws of the trait, and how a history goes on.
use Rattle.std.proofs.Common.{◌≡◌, ◌⊎◌, inl, inr, ⊎_elim, ℕ, zero, suc, ◌<◌, ◌≤◌, ◌^◌, List, [], ◌∷◌, ◌++◌, length, drop, Bool, true, refl, sym, ◌∙◌, subst, Option, Some, None, arith, length-append}
use Rattle.tree_api.specs.Tree.{Tree}
use Rattle.tree_api.specs.Disk.{Sound, Elapses, Steps, Still}
use Rattle.tree_memory.specs.History.{History, IsImage, HadImage, State, next, disk}
use Rattle.tree_memory.specs.Valid.{dir_at, IsGood, IsValid}
use Rattle.tree_memory.specs.Images.{now_image, mixes_image}

none_left : (past : List History) (c : Tree) → HadImage (drop (length past) past) c → ⊥
none_left [] c had = had
none_left (h ∷ past) c had = none_left past c had

keeps : (past : List History) (h : History) (c : Tree) → HadImage past c → HadImage (past ++ h ∷ []) c
keeps [] h c had = absurd had
keeps (p ∷ past) h c (inl here) = inl here
keeps (p ∷ past) h c (inr there) = inr (keeps past h c there)

adds : (past : List History) (h : History) (c : Tree) → HadImage (past ++ h ∷ []) c → HadImage past c ⊎ IsImage h c
adds [] h c (inl here) = inr here
adds [] h c (inr none) = absurd none
adds (p ∷ past) h c (inl here) = inl (inl here)
adds (p ∷ past) h c (inr there) = ⊎_elim (λ had. inl (inr had)) (λ new. inr new) (adds past h c there)

newest : (past : List History) (h : History) (c : Tree) → IsImage h c → HadImage (past ++ h ∷ []) c
newest [] h c is = inl is
newest (p ∷ past) h c is = inr (newest past h c is)

drop_push : (t : ℕ) (past : List History) (h : History) → t ≤ length past → drop t (past ++ h ∷ []) ≡ drop t past ++ h ∷ []
drop_push zero past h le = refl
drop_push (suc t) [] h le = absurd (omega arith)
drop_push (suc t) (p ∷ past) h le = drop_push t past h (omega arith)

found_dir : (dir : ℕ → Bool) (o : Option ℕ) → dir_at dir o ≡ true → (n : ℕ) × (o ≡ Some n) × (dir n ≡ true)
found_dir dir None e = cc
found_dir dir (Some n) e = (n, refl, e)

module _ (s : State) (k : ℕ) (valid : IsValid k s.now) where
  good : (c : Tree) → IsImage s.now c → IsGood k (λ n. (s.now.tree.node n).dir) c.at
  good c may = valid.maps c.at may.names

  pub is_sound : (faults syncs looks : ℕ) → Sound (disk s faults syncs looks)
  is_sound faults syncs looks = record {
    now = now_image s.now;
    mixes = λ c e may two. mixes_image s.now c e may two;
    counts_now = λ t c le may. inl may;
    only_now = λ c left. ⊎_elim (λ may. may) (λ had. absurd (none_left s.past c had)) left;
    root = λ c may. (0, (good c may).root, (may.nodes 0).dir ∙ (good c may).top);
    parents = λ c p step n may here.
        let there = found_dir (λ n. (s.now.tree.node n).dir) (c.at p) ((good c may).parents p step n here) in
        (there.0, there.1, (may.nodes there.0).dir ∙ there.2);
    single = λ c p q n may here there. (good c may).single p q n here there;
    kinds = λ c n may. (may.nodes n).dir;
    short = λ c n may.
        let from = (may.nodes n).len in
        subst (λ (m : ℕ). m < 2 ^ 63) (sym from.2) (valid.short n from.0 from.1);
  }

module _ (s : State) (h : History) (f y l f2 y2 l2 : ℕ) where
  pub goes : Elapses (disk s f y l) (disk (next h s) f2 y2 l2)
  goes = record {
    later = omega (arith, length-append s.past (s.now ∷ []));
    nothing_else = λ t c le left. ⊎_elim (λ may. inr may) (λ had. inl (⊎_elim (λ was. inr was) (λ is. inl is)
        (adds (drop t s.past) s.now c (subst (λ (p : List History). HadImage p c) (drop_push t s.past s.now le) had)))) left;
    keeps = λ t c le left. inr (subst (λ (p : List History). HadImage p c) (sym (drop_push t s.past s.now le)) (⊎_elim (newest (drop t s.past) s.now c) (keeps (drop t s.past) s.now c) left));
  }

  pub steps : (R : Tree → Tree → Type 0) → ((c : Tree) → IsImage h c → (d : Tree) × IsImage s.now d × R d c) → Steps R (disk s f y l) (disk (next h s) f2 y2 l2)
  steps R g = record { time = goes; image = g }

-- a call that changes nothing
pub same_state : (s : State) (f y l f2 y2 l2 : ℕ) → Still (disk s f y l) (disk s f2 y2 l2)
same_state s f y l f2 y2 l2 = record {
  stays = record {
    tree = refl;
    time = record { later = omega arith; nothing_else = λ t c le left. inl left; keeps = λ t c le left. left };
    image = λ c may. may;
  };
  images = λ c may. may;
}
