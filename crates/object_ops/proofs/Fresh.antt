-- A store whose one collection is empty, and all of which is stable.
use Rattle.std.proofs.Common.{◌≡◌, inl, ⊎_elim, ℕ, List, [], ◌∷◌, ◌++◌, ◌<◌, ◌≤◌, ◌+◌, length, take, get_or, refl, sym, ◌∙◌, ap, subst, arith, Option, Some, None}
use Rattle.std.specs.Prelude.{All, Contains}
use Rattle.std.proofs.lemmas.List.{take_more, take_all}
use Rattle.std.proofs.lemmas.List.Elements.{All-append, All-cons, All-nil}
use Rattle.fs_names.specs.declared.coll.Coll.{Coll}
use Rattle.fs_names.specs.declared.settings.Settings.{Settings}
use Rattle.fs_names.specs.Reading.{CollFits}
use Rattle.fs_names.specs.Text.{coll_text}
use Rattle.tree_api.specs.Answer.{IsListing, kind_of}
use Rattle.tree_api.specs.declared.tree.Entry.{Entry}
use Rattle.tree_api.specs.Tree.{Path, Tree, IsDir, current}
use Rattle.tree_api.specs.Disk.{Disk, Sound}
use Rattle.lfn_index.specs.Directory.{entry}
use Rattle.lfn_index.specs.Changes.{aside}
use Rattle.lfn_index.specs.Maps.{Map, Whole}
use Rattle.tree_stands.specs.Trees.{dir_of, dir_guard}
use Rattle.tree_stands.proofs.Only.{off_aside}
use Rattle.op_effects.specs.Ready.{Ready}
use Rattle.object_ops.specs.Trials.{IsKnown, HasOnly, IsBare}

never : {A : Type 0} (x : A) → None ≡ Some x → ⊥
never x is = cc

module _ (set : Settings) (coll : Coll) (d : Disk) (sound : Sound d) (only : (c : Tree) → d.may c → c ≡ d.tree) (known : HasOnly d.tree current (coll_text coll))
    (dir : IsDir d.tree aside) (bare : IsBare d.tree aside) (own : IsBare d.tree (dir_of coll)) where
  nothing : (c : Coll) → CollFits c → (s : List ℕ) (n : ℕ) → d.tree.at (entry (dir_of c) s) ≡ Some n → ⊥
  nothing c fits s n here =
      let parent : IsDir d.tree (dir_of c) = sound.parents d.tree (dir_of c) s n sound.now here in
      ⊎_elim
      (λ same. off_aside c fits (ap (λ (x : List ℕ). current ++ x ∷ []) same))
      (λ same. never n (sym (own s) ∙ ap (λ (x : List ℕ). d.tree.at (entry (current ++ x ∷ []) s)) (sym same) ∙ here))
      (known (coll_text c) parent.0 parent.1)

  no_map : Map
  no_map o = None

  whole : (c : Coll) → CollFits c → Whole set (dir_of c) d.tree
  unfolding no_map
  whole c fits = (
    no_map,
    record {
      files = λ o s n file. absurd (nothing c fits s n file.1.here);
      there = λ o n own_fits is. absurd (never n is);
      known = λ s n here. absurd (nothing c fits s n here);
    },
  )

  pub fresh_ready : Ready set d
  fresh_ready = record {
    dir = dir;
    places = λ s. inl (bare s);
    whole = λ c may coll2 fits. subst (λ (t : Tree). Whole set (dir_of coll2) t) (sym (only c may)) (whole coll2 fits);
    colls = λ c may coll2 fits there. ap (λ (t : Tree). dir_guard t coll2) (only c may);
    level = λ coll2 fits. record { alone = λ c s q n may here there. absurd (nothing coll2 fits s n here); called = λ c s n may here. absurd (nothing coll2 fits s n here) };
    guards = λ coll2 fits c s n may here. absurd (nothing coll2 fits s n here);
  }

-- as it was looked at, call by call
pub looked_ready : (set : Settings) (coll : Coll) (t0 t1 t2 t3 : Tree) (d : Disk) → Sound d → t1 ≡ t0 → t2 ≡ t1 → t3 ≡ t2 → d.tree ≡ t3 → ((c : Tree) → d.may c → c ≡ t3)
    → (p q r : Path) (text : List ℕ) → p ≡ current → q ≡ aside → r ≡ dir_of coll → text ≡ coll_text coll
    → HasOnly t0 p text → IsDir t1 q → IsBare t1 q → IsBare t2 r → Ready set d
looked_ready set coll t0 t1 t2 t3 d sound e1 e2 e3 e4 only p q r text is_p is_q is_r is_text known dir bare own =
    let f2 : t2 ≡ d.tree = sym (e4 ∙ e3) in
    let f1 : t1 ≡ d.tree = sym (e4 ∙ e3 ∙ e2) in
    let f0 : t0 ≡ d.tree = sym (e4 ∙ e3 ∙ e2 ∙ e1) in
    fresh_ready set coll d sound (λ c may. only c may ∙ sym e4)
    (subst (λ (t : Tree). HasOnly t current (coll_text coll)) f0 (subst (λ (x : Path). HasOnly t0 x (coll_text coll)) is_p (subst (λ (x : List ℕ). HasOnly t0 p x) is_text known)))
    (subst (λ (t : Tree). IsDir t aside) f1 (subst (λ (x : Path). IsDir t1 x) is_q dir))
    (subst (λ (t : Tree). IsBare t aside) f1 (subst (λ (x : Path). IsBare t1 x) is_q bare))
    (subst (λ (t : Tree). IsBare t (dir_of coll)) f2 (subst (λ (x : Path). IsBare t2 x) is_r own))

pub looked_there : (coll : Coll) (t2 t3 : Tree) (d : Disk) → t3 ≡ t2 → d.tree ≡ t3 → (r : Path) → r ≡ dir_of coll → IsDir t2 r → IsDir d.tree (dir_of coll)
looked_there coll t2 t3 d e3 e4 r is_r dir = subst (λ (t : Tree). IsDir t (dir_of coll)) (sym (e4 ∙ e3)) (subst (λ (x : Path). IsDir t2 x) is_r dir)

-- ---- listings

pub known_none : (text : List ℕ) (es : List Entry) → All (IsKnown text) (take 0 es)
known_none text es = All-nil (IsKnown text)

pub known_more : (text : List ℕ) (es : List Entry) (i : ℕ) (e : Entry) → i < length es → e ≡ get_or es i e → IsKnown text e → All (IsKnown text) (take i es) → All (IsKnown text) (take (i + 1) es)
known_more text es i e lt at is so_far = subst (All (IsKnown text)) (sym (take_more es i e lt))
    (All-append (IsKnown text) (take i es) (get_or es i e ∷ []) so_far (All-cons (IsKnown text) (get_or es i e) [] (subst (IsKnown text) at is) (All-nil (IsKnown text))))

-- an entry that stands there is listed
listed : (t : Tree) (dir : Path) (es : List Entry) → IsListing t dir es → (step : List ℕ) (n : ℕ) → t.at (entry dir step) ≡ Some n → Contains es (record { step = step ∷ []; kind = kind_of (t.node n).dir })
listed t dir es listing step n here = (listing.entries (record { step = step ∷ []; kind = kind_of (t.node n).dir })).1 (n, refl, here, refl)

pub all_known : (t : Tree) (dir : Path) (text : List ℕ) (es : List Entry) → IsListing t dir es → All (IsKnown text) es → HasOnly t dir text
all_known t dir text es listing known step n here =
    let e : Entry = record { step = step ∷ []; kind = kind_of (t.node n).dir } in
    let has = listed t dir es listing step n here in
    subst (IsKnown text) has.2 (known has.0 e has.1) step refl

pub none_listed : (t : Tree) (dir : Path) (es : List Entry) → IsListing t dir es → length es ≡ 0 → IsBare t dir
none_listed t dir es listing none step = by (t.at (entry dir step)) refl
  where
    by : (x : Option ℕ) → t.at (entry dir step) ≡ x → t.at (entry dir step) ≡ None
    by None is = is
    by (Some n) is = let has = listed t dir es listing step n is in absurd (omega (arith, has.1, none))

pub known_all : (text : List ℕ) (es : List Entry) (i : ℕ) → length es ≤ i → All (IsKnown text) (take i es) → All (IsKnown text) es
known_all text es i le all = subst (All (IsKnown text)) (take_all i es le) all
