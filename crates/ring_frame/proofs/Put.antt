-- Bytes put at a place of a list.
use Rattle.std.proofs.Common.{◌≡◌, ℕ, ◌+◌, ◌≤◌, List, [], ◌++◌, length, take, drop, refl, sym, ◌∙◌, ap, arith, length-append, length-take, length-drop, append_assoc}
use Rattle.std.proofs.lemmas.List.{take_at, take_all}
use Rattle.ring_frame.specs.Put.{put}

pub length-put : (xs : List ℕ) (at : ℕ) (bs : List ℕ) → at + length bs ≤ length xs → length (put xs at bs) ≡ length xs
length-put xs at bs h =
    omega (arith, length-append (take at xs ++ bs) (drop (at + length bs) xs), length-append (take at xs) bs, length-take at xs, length-drop (at + length bs) xs)

-- what is put behind a front makes it longer
pub put_grows : (xs : List ℕ) (at n : ℕ) (bs front : List ℕ) → n ≡ at + length bs → n ≤ length xs → take at xs ≡ front → take n (put xs at bs) ≡ front ++ bs
put_grows xs at n bs front e h f =
    ap (λ (k : ℕ). take k (put xs at bs)) e ∙ take_at (take at xs ++ bs) (drop (at + length bs) xs) (at + length bs) (omega (arith, length-append (take at xs) bs, length-take at xs)) ∙ ap (λ (l : List ℕ). l ++ bs) f

-- two ends, and what lies between them
pub four_puts : (x0 x1 x2 x3 x4 a b c d : List ℕ) (n i j k : ℕ) → length x0 ≡ n → i ≡ length a → j ≡ i + length b → k ≡ j + length c → n ≡ k + length d
    → x1 ≡ put x0 0 a → x2 ≡ put x1 i b → x3 ≡ put x2 j c → x4 ≡ put x3 k d → x4 ≡ a ++ (b ++ (c ++ d))
four_puts x0 x1 x2 x3 x4 a b c d n i j k l li lj lk ln e1 e2 e3 e4 =
    let n1 : length x1 ≡ n = ap length e1 ∙ length-put x0 0 a (omega (arith, l)) ∙ l in
    let n2 : length x2 ≡ n = ap length e2 ∙ length-put x1 i b (omega (arith, n1)) ∙ n1 in
    let n3 : length x3 ≡ n = ap length e3 ∙ length-put x2 j c (omega (arith, n2)) ∙ n2 in
    let n4 : length x4 ≡ n = ap length e4 ∙ length-put x3 k d (omega (arith, n3)) ∙ n3 in
    let t1 : take i x1 ≡ a = ap (take i) e1 ∙ put_grows x0 0 i a [] (omega arith) (omega arith) refl in
    let t2 : take j x2 ≡ a ++ b = ap (take j) e2 ∙ put_grows x1 i j b a lj (omega arith) t1 in
    let t3 : take k x3 ≡ a ++ b ++ c = ap (take k) e3 ∙ put_grows x2 j k c (a ++ b) lk (omega arith) t2 in
    let t4 : take n x4 ≡ a ++ b ++ c ++ d = ap (take n) e4 ∙ put_grows x3 k n d (a ++ b ++ c) ln (omega arith) t3 in
    sym (take_all n x4 (omega (arith, n4))) ∙ t4 ∙ append_assoc (a ++ b) c d ∙ append_assoc a b (c ++ d)

-- six fields, one after another, and seven
pub six_puts : (x0 x1 x2 x3 x4 x5 x6 m f p s e l : List ℕ) → length x0 ≡ 44 → length m ≡ 8 → length f ≡ 8 → length p ≡ 8 → length s ≡ 8 → length e ≡ 8 → length l ≡ 4
    → x1 ≡ put x0 0 m → x2 ≡ put x1 8 f → x3 ≡ put x2 16 p → x4 ≡ put x3 24 s → x5 ≡ put x4 32 e → x6 ≡ put x5 40 l → x6 ≡ m ++ f ++ p ++ s ++ e ++ l
six_puts x0 x1 x2 x3 x4 x5 x6 m f p s e l n lm lf lp ls le ll e1 e2 e3 e4 e5 e6 =
    let n1 : length x1 ≡ 44 = ap length e1 ∙ length-put x0 0 m (omega (arith, n, lm)) ∙ n in
    let n2 : length x2 ≡ 44 = ap length e2 ∙ length-put x1 8 f (omega (arith, n1, lf)) ∙ n1 in
    let n3 : length x3 ≡ 44 = ap length e3 ∙ length-put x2 16 p (omega (arith, n2, lp)) ∙ n2 in
    let n4 : length x4 ≡ 44 = ap length e4 ∙ length-put x3 24 s (omega (arith, n3, ls)) ∙ n3 in
    let n5 : length x5 ≡ 44 = ap length e5 ∙ length-put x4 32 e (omega (arith, n4, le)) ∙ n4 in
    let n6 : length x6 ≡ 44 = ap length e6 ∙ length-put x5 40 l (omega (arith, n5, ll)) ∙ n5 in
    let t1 : take 8 x1 ≡ m = ap (take 8) e1 ∙ put_grows x0 0 8 m [] (omega (arith, lm)) (omega (arith, n)) refl in
    let t2 : take 16 x2 ≡ m ++ f = ap (take 16) e2 ∙ put_grows x1 8 16 f m (omega (arith, lf)) (omega (arith, n1)) t1 in
    let t3 : take 24 x3 ≡ m ++ f ++ p = ap (take 24) e3 ∙ put_grows x2 16 24 p (m ++ f) (omega (arith, lp)) (omega (arith, n2)) t2 in
    let t4 : take 32 x4 ≡ m ++ f ++ p ++ s = ap (take 32) e4 ∙ put_grows x3 24 32 s (m ++ f ++ p) (omega (arith, ls)) (omega (arith, n3)) t3 in
    let t5 : take 40 x5 ≡ m ++ f ++ p ++ s ++ e = ap (take 40) e5 ∙ put_grows x4 32 40 e (m ++ f ++ p ++ s) (omega (arith, le)) (omega (arith, n4)) t4 in
    let t6 : take 44 x6 ≡ m ++ f ++ p ++ s ++ e ++ l = ap (take 44) e6 ∙ put_grows x5 40 44 l (m ++ f ++ p ++ s ++ e) (omega (arith, ll)) (omega (arith, n5)) t5 in
    sym (take_all 44 x6 (omega (arith, n6))) ∙ t6

-- and two
pub two_puts : (x0 x1 x2 a b : List ℕ) → length x0 ≡ 64 → length a ≡ 44 → length b ≡ 20 → x1 ≡ put x0 0 a → x2 ≡ put x1 44 b → x2 ≡ a ++ b
two_puts x0 x1 x2 a b n la lb e1 e2 =
    let n1 : length x1 ≡ 64 = ap length e1 ∙ length-put x0 0 a (omega (arith, n, la)) ∙ n in
    let n2 : length x2 ≡ 64 = ap length e2 ∙ length-put x1 44 b (omega (arith, n1, lb)) ∙ n1 in
    let t1 : take 44 x1 ≡ a = ap (take 44) e1 ∙ put_grows x0 0 44 a [] (omega (arith, la)) (omega (arith, n)) refl in
    let t2 : take 64 x2 ≡ a ++ b = ap (take 64) e2 ∙ put_grows x1 44 64 b a (omega (arith, lb)) (omega (arith, n1)) t1 in
    sym (take_all 64 x2 (omega (arith, n2))) ∙ t2

pub seven_puts : (x0 x1 x2 x3 x4 x5 x6 x7 m f g e s q z : List ℕ) → length x0 ≡ 64 → length m ≡ 8 → length f ≡ 16 → length g ≡ 8 → length e ≡ 8 → length s ≡ 8 → length q ≡ 8 → length z ≡ 8
    → x1 ≡ put x0 0 m → x2 ≡ put x1 8 f → x3 ≡ put x2 24 g → x4 ≡ put x3 32 e → x5 ≡ put x4 40 s → x6 ≡ put x5 48 q → x7 ≡ put x6 56 z → x7 ≡ m ++ f ++ g ++ e ++ s ++ q ++ z
seven_puts x0 x1 x2 x3 x4 x5 x6 x7 m f g e s q z n lm lf lg le ls lq lz e1 e2 e3 e4 e5 e6 e7 =
    let n1 : length x1 ≡ 64 = ap length e1 ∙ length-put x0 0 m (omega (arith, n, lm)) ∙ n in
    let n2 : length x2 ≡ 64 = ap length e2 ∙ length-put x1 8 f (omega (arith, n1, lf)) ∙ n1 in
    let n3 : length x3 ≡ 64 = ap length e3 ∙ length-put x2 24 g (omega (arith, n2, lg)) ∙ n2 in
    let n4 : length x4 ≡ 64 = ap length e4 ∙ length-put x3 32 e (omega (arith, n3, le)) ∙ n3 in
    let n5 : length x5 ≡ 64 = ap length e5 ∙ length-put x4 40 s (omega (arith, n4, ls)) ∙ n4 in
    let n6 : length x6 ≡ 64 = ap length e6 ∙ length-put x5 48 q (omega (arith, n5, lq)) ∙ n5 in
    let n7 : length x7 ≡ 64 = ap length e7 ∙ length-put x6 56 z (omega (arith, n6, lz)) ∙ n6 in
    let t1 : take 8 x1 ≡ m = ap (take 8) e1 ∙ put_grows x0 0 8 m [] (omega (arith, lm)) (omega (arith, n)) refl in
    let t2 : take 24 x2 ≡ m ++ f = ap (take 24) e2 ∙ put_grows x1 8 24 f m (omega (arith, lf)) (omega (arith, n1)) t1 in
    let t3 : take 32 x3 ≡ m ++ f ++ g = ap (take 32) e3 ∙ put_grows x2 24 32 g (m ++ f) (omega (arith, lg)) (omega (arith, n2)) t2 in
    let t4 : take 40 x4 ≡ m ++ f ++ g ++ e = ap (take 40) e4 ∙ put_grows x3 32 40 e (m ++ f ++ g) (omega (arith, le)) (omega (arith, n3)) t3 in
    let t5 : take 48 x5 ≡ m ++ f ++ g ++ e ++ s = ap (take 48) e5 ∙ put_grows x4 40 48 s (m ++ f ++ g ++ e) (omega (arith, ls)) (omega (arith, n4)) t4 in
    let t6 : take 56 x6 ≡ m ++ f ++ g ++ e ++ s ++ q = ap (take 56) e6 ∙ put_grows x5 48 56 q (m ++ f ++ g ++ e ++ s) (omega (arith, lq)) (omega (arith, n5)) t5 in
    let t7 : take 64 x7 ≡ m ++ f ++ g ++ e ++ s ++ q ++ z = ap (take 64) e7 ∙ put_grows x6 56 64 z (m ++ f ++ g ++ e ++ s ++ q) (omega (arith, lz)) (omega (arith, n6)) t6 in
    sym (take_all 64 x7 (omega (arith, n7))) ∙ t7

-- a block that is filled with three pieces
pub three_puts : (x0 x1 x2 x3 a b c : List ℕ) (n i j : ℕ) → length x0 ≡ n → i ≡ length a → j ≡ i + length b → n ≡ j + length c
    → x1 ≡ put x0 0 a → x2 ≡ put x1 i b → x3 ≡ put x2 j c → x3 ≡ a ++ (b ++ c)
three_puts x0 x1 x2 x3 a b c n i j l li lj ln e1 e2 e3 =
    let n1 : length x1 ≡ n = ap length e1 ∙ length-put x0 0 a (omega (arith, l)) ∙ l in
    let n2 : length x2 ≡ n = ap length e2 ∙ length-put x1 i b (omega (arith, n1)) ∙ n1 in
    let n3 : length x3 ≡ n = ap length e3 ∙ length-put x2 j c (omega (arith, n2)) ∙ n2 in
    let t1 : take i x1 ≡ a = ap (take i) e1 ∙ put_grows x0 0 i a [] (omega arith) (omega arith) refl in
    let t2 : take j x2 ≡ a ++ b = ap (take j) e2 ∙ put_grows x1 i j b a lj (omega arith) t1 in
    let t3 : take n x3 ≡ a ++ b ++ c = ap (take n) e3 ∙ put_grows x2 j n c (a ++ b) ln (omega arith) t2 in
    sym (take_all n x3 (omega (arith, n3))) ∙ t3 ∙ append_assoc a b c
