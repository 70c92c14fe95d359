-- The text of settings, taken apart line by line.
use Rattle.std.proofs.Common.{◌≡◌, ◌≢◌, ◌==◌, ℕ, ℤ, Bool, true, false, length, List, [], codes, sym, ap, ◌∙◌, refl, arith}
use Rattle.std.specs.Fmt.{decimal, signed_decimal}
use Rattle.fs_names.specs.declared.settings.Settings.{Settings}
use Rattle.fs_names.specs.declared.settings.Mode.{Mode}
use Rattle.fs_names.specs.declared.settings.Mode.TheVariants.{WriteAhead, Parallel}
use Rattle.store_files.specs.Lines.{NoNewline, line, IsLine, NoLine}
use Rattle.store_files.specs.Texts.{four_lines, settings_text, mode_word, InLimits, IsWithin, IsMerge}
use Rattle.store_files.specs.Stores.{IsUsable}
use Rattle.store_files.proofs.Lines.{one_line, clear_by}
use Rattle.store_files.proofs.Decimals.{decimal_clear, signed_clear}

abbrev NoFour : List ℕ → Type 0
NoFour text = (m s l d : List ℕ) → NoNewline m → NoNewline s → NoNewline l → NoNewline d → text ≢ four_lines m s l d

abbrev pub NoSettings : List ℕ → Type 0
NoSettings text = (set : Settings) → InLimits set → text ≢ settings_text set

abbrev last : List ℕ → List ℕ
last d = line (codes "mode ") d []

abbrev last_two : List ℕ → List ℕ → List ℕ
last_two l d = line (codes "lfn ") l (last d)

abbrev last_three : List ℕ → List ℕ → List ℕ → List ℕ
last_three s l d = line (codes "split ") s (last_two l d)

module _ (text m r1 : List ℕ) (first : IsLine (codes "merge ") text m r1) where
  after_merge : (m2 s2 l2 d2 : List ℕ) → NoNewline m2 → text ≡ four_lines m2 s2 l2 d2 → (m ≡ m2) × (r1 ≡ last_three s2 l2 d2)
  after_merge m2 s2 l2 d2 clear e = one_line (codes "merge ") text m r1 m2 (last_three s2 l2 d2) first (clear, e)

  pub no_split : NoLine (codes "split ") r1 → NoFour text
  no_split none m2 s2 l2 d2 cm cs cl cd e = none s2 (last_two l2 d2) (after_merge m2 s2 l2 d2 cm e).1

  module _ (s r2 : List ℕ) (second : IsLine (codes "split ") r1 s r2) where
    after_split : (m2 s2 l2 d2 : List ℕ) → NoNewline m2 → NoNewline s2 → text ≡ four_lines m2 s2 l2 d2 → (s ≡ s2) × (r2 ≡ last_two l2 d2)
    after_split m2 s2 l2 d2 cm cs e = one_line (codes "split ") r1 s r2 s2 (last_two l2 d2) second (cs, (after_merge m2 s2 l2 d2 cm e).1)

    pub no_lfn : NoLine (codes "lfn ") r2 → NoFour text
    no_lfn none m2 s2 l2 d2 cm cs cl cd e = none l2 (last d2) (after_split m2 s2 l2 d2 cm cs e).1

    module _ (l r3 : List ℕ) (third : IsLine (codes "lfn ") r2 l r3) where
      after_lfn : (m2 s2 l2 d2 : List ℕ) → NoNewline m2 → NoNewline s2 → NoNewline l2 → text ≡ four_lines m2 s2 l2 d2 → (l ≡ l2) × (r3 ≡ last d2)
      after_lfn m2 s2 l2 d2 cm cs cl e = one_line (codes "lfn ") r2 l r3 l2 (last d2) third (cl, (after_split m2 s2 l2 d2 cm cs e).1)

      pub no_mode : NoLine (codes "mode ") r3 → NoFour text
      no_mode none m2 s2 l2 d2 cm cs cl cd e = none d2 [] (after_lfn m2 s2 l2 d2 cm cs cl e).1

      module _ (d r4 : List ℕ) (fourth : IsLine (codes "mode ") r3 d r4) where
        pub after_mode : (m2 s2 l2 d2 : List ℕ) → NoNewline m2 → NoNewline s2 → NoNewline l2 → NoNewline d2 → text ≡ four_lines m2 s2 l2 d2 → (d ≡ d2) × (r4 ≡ [])
        after_mode m2 s2 l2 d2 cm cs cl cd e = one_line (codes "mode ") r3 d r4 d2 [] fourth (cd, (after_lfn m2 s2 l2 d2 cm cs cl e).1)

        pub no_end : r4 ≢ [] → NoFour text
        no_end more m2 s2 l2 d2 cm cs cl cd e = more (after_mode m2 s2 l2 d2 cm cs cl cd e).1

        pub whole : r4 ≡ [] → text ≡ four_lines m s l d
        whole end =
            first.1 ∙ ap (λ r. line (codes "merge ") m r)
            (second.1 ∙ ap (λ r. line (codes "split ") s r) (third.1 ∙ ap (λ r. line (codes "lfn ") l r) (fourth.1 ∙ ap (λ r. line (codes "mode ") d r) end)))

        pub same_values : (m2 s2 l2 d2 : List ℕ) → NoNewline m2 → NoNewline s2 → NoNewline l2 → NoNewline d2 → text ≡ four_lines m2 s2 l2 d2
            → (m ≡ m2) × (s ≡ s2) × (l ≡ l2) × (d ≡ d2)
        same_values m2 s2 l2 d2 cm cs cl cd e =
            ((after_merge m2 s2 l2 d2 cm e).0, (after_split m2 s2 l2 d2 cm cs e).0, (after_lfn m2 s2 l2 d2 cm cs cl e).0, (after_mode m2 s2 l2 d2 cm cs cl cd e).0)

mode_clear : (mode : Mode) → NoNewline (mode_word mode)
mode_clear WriteAhead = clear_by (codes "wal") refl
mode_clear Parallel = clear_by (codes "parallel") refl

pub no_values : (text : List ℕ) → NoFour text → NoSettings text
unfolding settings_text
no_values text none set fits e =
    none (signed_decimal set.merge) (decimal set.split) (decimal set.lfn) (mode_word set.mode) (signed_clear set.merge) (decimal_clear set.split) (decimal_clear set.lfn) (mode_clear set.mode) e

module _ (text m s l d : List ℕ) (cm : NoNewline m) (cs : NoNewline s) (cl : NoNewline l) (cd : NoNewline d) (is : text ≡ four_lines m s l d) where
  same_as : (set : Settings) → text ≡ settings_text set → (m ≡ signed_decimal set.merge) × (s ≡ decimal set.split) × (l ≡ decimal set.lfn) × (d ≡ mode_word set.mode)
  unfolding settings_text
  same_as set e =
      same_values text m (last_three s l d) (cm, is) s (last_two l d) (cs, refl) l (last d) (cl, refl) d [] (cd, refl)
      (signed_decimal set.merge) (decimal set.split) (decimal set.lfn) (mode_word set.mode) (signed_clear set.merge) (decimal_clear set.split) (decimal_clear set.lfn) (mode_clear set.mode) e

  pub no_merge_value : ((z : ℤ) → IsMerge z → m ≢ signed_decimal z) → NoSettings text
  no_merge_value none set fits e = none set.merge fits.merge (same_as set e).0

  pub no_split_value : ((n : ℕ) → IsWithin 100 n → s ≢ decimal n) → NoSettings text
  no_split_value none set fits e = none set.split fits.split (same_as set e).1

  pub no_lfn_value : ((n : ℕ) → IsWithin 40 n → l ≢ decimal n) → NoSettings text
  no_lfn_value none set fits e = none set.lfn fits.lfn (same_as set e).2

  pub no_mode_value : ((mode : Mode) → d ≢ mode_word mode) → NoSettings text
  no_mode_value none set fits e = none set.mode (same_as set e).3

  pub all_read : (set : Settings) → IsMerge set.merge × (m ≡ signed_decimal set.merge) → IsWithin 100 set.split × (s ≡ decimal set.split)
      → IsWithin 40 set.lfn × (l ≡ decimal set.lfn) → d ≡ mode_word set.mode → InLimits set × (text ≡ settings_text set)
  unfolding settings_text
  all_read set a b c e = (
    record { merge = a.0; split = b.0; lfn = c.0 },
    is ∙ ap (λ x. four_lines x s l d) a.1 ∙ ap (λ x. four_lines (signed_decimal set.merge) x l d) b.1
        ∙ ap (λ x. four_lines (signed_decimal set.merge) (decimal set.split) x d) c.1 ∙ ap (λ x. four_lines (signed_decimal set.merge) (decimal set.split) (decimal set.lfn) x) e,
  )

pub some_left : (rest : List ℕ) (r : Bool) → r ≡ (length rest == 0) → r ≡ false → rest ≢ []
some_left rest r is other e = let z : false ≡ true = sym other ∙ is ∙ ap (λ l. length l == 0) e in cc

mode_is : (a b : Settings) → settings_text a ≡ settings_text b → mode_word a.mode ≡ mode_word b.mode
unfolding settings_text
mode_is a b e =
    (same_as (settings_text a) (signed_decimal a.merge) (decimal a.split) (decimal a.lfn) (mode_word a.mode) (signed_clear a.merge) (decimal_clear a.split) (decimal_clear a.lfn) (mode_clear a.mode) refl b e).3

-- a text of the other mode spells no settings that may be used
pub not_ahead : (text : List ℕ) (a : Settings) → text ≡ settings_text a → a.mode ≡ Parallel → (b : Settings) → IsUsable b → text ≡ settings_text b → ⊥
not_ahead text a is other b fits is2 =
    let same : length (mode_word Parallel) ≡ length (mode_word WriteAhead) = ap (λ m. length (mode_word m)) (sym other) ∙ ap length (mode_is a b (sym is ∙ is2)) ∙ ap (λ m. length (mode_word m)) fits.mode in
    omega (arith, same)

-- settings with one text have the same values
pub parts_are : (a b : Settings) → settings_text a ≡ settings_text b
    → (signed_decimal a.merge ≡ signed_decimal b.merge) × (decimal a.split ≡ decimal b.split) × (decimal a.lfn ≡ decimal b.lfn) × (mode_word a.mode ≡ mode_word b.mode)
unfolding settings_text
parts_are a b e =
    same_as (settings_text a) (signed_decimal a.merge) (decimal a.split) (decimal a.lfn) (mode_word a.mode) (signed_clear a.merge) (decimal_clear a.split) (decimal_clear a.lfn) (mode_clear a.mode) refl b e
