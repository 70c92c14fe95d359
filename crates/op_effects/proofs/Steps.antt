-- The text of a collection is a step of a path.
use Rattle.std.proofs.Common.{◌≡◌, ℕ, ◌<◌, true, false, List, [], ◌∷◌, ◌++◌, length, codes, arith}
use Rattle.std.proofs.lemmas.Bool.Decides.{nat_tests}
use Rattle.std.proofs.lemmas.List.{length-append}
use Rattle.std.proofs.lemmas.List.Elements.{All-append, All-cons, All-nil, All-weaker}
use Rattle.std.specs.Fmt.{digits}
use Rattle.fs_names.specs.Numbers.{is_lower_digit}
use Rattle.fs_names.specs.Text.{coll_text}
use Rattle.fs_names.specs.declared.coll.Coll.{Coll}
use Rattle.fs_names.specs.declared.coll.Coll.TheVariants.{Meta, Pg}
use Rattle.fs_names.proofs.Digits.{digits-lower}
use Rattle.tree_api.specs.Step.{IsStep, IsStepByte}
use Rattle.lfn_index.proofs.Places.{IsSteps, is_step_from}

one_more : (b : ℕ) (rest : List ℕ) → IsStepByte b → IsSteps rest → IsSteps (b ∷ rest)
one_more b rest is all = All-cons IsStepByte b rest is all

none : IsSteps []
none = All-nil IsStepByte

ten_byte : (b : ℕ) → is_lower_digit 10 b ≡ true → IsStepByte b
ten_byte b h = (grind (arith, nat_tests), grind (arith, nat_tests), grind (arith, nat_tests))

sixteen_byte : (b : ℕ) → is_lower_digit 16 b ≡ true → IsStepByte b
sixteen_byte b h = (grind (arith, nat_tests), grind (arith, nat_tests), grind (arith, nat_tests))

ten_steps : (k : ℕ) → IsSteps (digits 10 false k)
ten_steps k = All-weaker (λ b. is_lower_digit 10 b ≡ true) IsStepByte ten_byte (digits 10 false k) (digits-lower 10 k (omega arith) (omega arith))

sixteen_steps : (k : ℕ) → IsSteps (digits 16 false k)
sixteen_steps k = All-weaker (λ b. is_lower_digit 16 b ≡ true) IsStepByte sixteen_byte (digits 16 false k) (digits-lower 16 k (omega arith) (omega arith))

meta_steps : IsSteps (codes "meta")
meta_steps =
    one_more 109 (codes "eta") (omega arith, omega arith, omega arith) (one_more 101 (codes "ta") (omega arith, omega arith, omega arith)
    (one_more 116 (codes "a") (omega arith, omega arith, omega arith) (one_more 97 [] (omega arith, omega arith, omega arith) none)))

dot_steps : IsSteps (codes ".")
dot_steps = one_more 46 [] (omega arith, omega arith, omega arith) none

temp_steps : IsSteps (codes "_TEMP")
temp_steps =
    one_more 95 (codes "TEMP") (omega arith, omega arith, omega arith) (one_more 84 (codes "EMP") (omega arith, omega arith, omega arith)
    (one_more 69 (codes "MP") (omega arith, omega arith, omega arith) (one_more 77 (codes "P") (omega arith, omega arith, omega arith)
    (one_more 80 [] (omega arith, omega arith, omega arith) none))))

head_steps : IsSteps (codes "_head")
head_steps =
    one_more 95 (codes "head") (omega arith, omega arith, omega arith) (one_more 104 (codes "ead") (omega arith, omega arith, omega arith)
    (one_more 101 (codes "ad") (omega arith, omega arith, omega arith) (one_more 97 (codes "d") (omega arith, omega arith, omega arith)
    (one_more 100 [] (omega arith, omega arith, omega arith) none))))

ended : (xs ys : List ℕ) → 0 < length ys → IsSteps xs → IsSteps ys → IsStep (xs ++ ys)
ended xs ys some one two = is_step_from (xs ++ ys) (omega (arith, some, length-append xs ys)) (All-append IsStepByte xs ys one two)

front_steps : (pool seed : ℕ) → IsSteps (digits 10 false pool ++ codes "." ++ digits 16 false seed)
front_steps pool seed =
    All-append IsStepByte (digits 10 false pool ++ codes ".") (digits 16 false seed)
    (All-append IsStepByte (digits 10 false pool) (codes ".") (ten_steps pool) dot_steps) (sixteen_steps seed)

pub coll_step : (c : Coll) → IsStep (coll_text c)
unfolding coll_text
coll_step Meta = is_step_from (codes "meta") (omega arith) meta_steps
coll_step (Pg pool seed true) = ended (digits 10 false pool ++ codes "." ++ digits 16 false seed) (codes "_TEMP") (omega arith) (front_steps pool seed) temp_steps
coll_step (Pg pool seed false) = ended (digits 10 false pool ++ codes "." ++ digits 16 false seed) (codes "_head") (omega arith) (front_steps pool seed) head_steps
