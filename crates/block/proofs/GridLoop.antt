-- The rules by which the loops over a grid fill and build.
-- Assumes nothing.
use mathlib.Core.Path.{◌≡◌, refl, sym, ap, ◌∙◌}
use mathlib.Core.Bool.{Bool, true, false}
use mathlib.Core.List.{List, [], ◌∷◌, ◌++◌}
use Prim.Native.Nat.{ℕ, ◌+◌, ◌-◌, ◌*◌, ◌/◌, ◌%◌, ◌^◌, ◌≤◌, ◌<◌}
use native.Mathlib.Nat.{mod-lt, mod-add-mod, add-mul, mul_assoc, mul_comm, mul-le-mul_right, one-mul}
use native.Mathlib.Omega.{arith}
use lib.Arith.{digits_div, digits_mod, mod-mul}
use lib.ListN.{length, get_or, take, length-append}
use lib.Pow.{pow-add, pow_pos, pow_mono, shl_exact}
use lib.Seq.{get_or_at, get_or-take, length-take-le, take_at, take-take}
use Rattle.bits.specs.Bit.{bit, number, is_set, as_bit}
use Rattle.bits.specs.Tab.{tab, over, blank}
use Rattle.bits.proofs.Bits.{bit-lt, bit-above, bit-number, number_lt, number-cong, number_cut, number-start, number-back, number-end, number_small, as_bit-lt}
use Rattle.bits.proofs.Tabs.{get_or-over, over-blank, over-cong, over_none}
use Rattle.bits.proofs.Turns.{number-turned, number-twice}
use Rattle.block.specs.Block.{place_in_word}
use Rattle.block.specs.Grid.{row, grid, cell, word_of_grid, words_of_grid, grid_of_words, codeword_of_grid}
use Rattle.block.proofs.BlockLaws.{place_is}

-- cell j of row i, where the columns are given
unfoldable pub cell_of_columns : List ℕ → ℕ → ℕ → Bool
cell_of_columns plain i j = is_set (bit i (get_or plain j 0))

-- four bits, eight places apart, brought together by a product
pub gathered : (a b c d : Bool)
    → (as_bit a + 256 * as_bit b + 65536 * as_bit c + 16777216 * as_bit d) * 16909320 / 16777216 % 16 ≡ as_bit a + 2 * as_bit b + 4 * as_bit c + 8 * as_bit d
gathered true true true true = refl
gathered true true true false = refl
gathered true true false true = refl
gathered true true false false = refl
gathered true false true true = refl
gathered true false true false = refl
gathered true false false true = refl
gathered true false false false = refl
gathered false true true true = refl
gathered false true true false = refl
gathered false true false true = refl
gathered false true false false = refl
gathered false false true true = refl
gathered false false true false = refl
gathered false false false true = refl
gathered false false false false = refl

-- column j with the bit of a row more
unfoldable pub longer : List ℕ → List Bool → ℕ → ℕ
longer columns r j = get_or columns j 0 * 2 + as_bit (get_or r j false)

-- the bits of a row of the grid, cut to the block's columns, are its codeword
pub codeword-cut : (columns : ℕ) (g : List (List Bool)) (i : ℕ) {x r : ℕ} → columns ≤ 8 → x ≡ number 8 (λ j. as_bit (get_or (get_or g i []) j false))
    → r ≡ x % 2 ^ columns → r ≡ codeword_of_grid columns g i
unfolding codeword_of_grid cell
codeword-cut columns g i h p e =
    e ∙ ap (λ (y : ℕ). y % 2 ^ columns) p ∙ number_cut columns 8 _ h (λ j. as_bit-lt (get_or (get_or g i []) j false))

-- column j of the rows from i on
unfoldable pub column_from : ℕ → List (List Bool) → ℕ → ℕ → ℕ
column_from n g i j = number (n - i) (λ k. as_bit (cell g (i + k) j))

pub column-lt : (n : ℕ) (g : List (List Bool)) (i j : ℕ) {columns : List ℕ} → n ≤ 12 → j < 8 → columns ≡ over 8 (column_from n g i) (blank 8 0) → get_or columns j 0 < 4096
unfolding column_from
column-lt n g i j h l e = rw (e, get_or-over 8 (column_from n g i) (blank 8 0) j 0 l) (number_small _ (n - i) 12 (omega arith) (λ k. as_bit-lt (cell g (i + k) j)))

pub columns-none : (n : ℕ) (g : List (List Bool)) → blank 8 0 ≡ over 8 (column_from n g n) (blank 8 0)
unfolding column_from tab
columns-none n g = sym (over-blank 0 8 (column_from n g n) (λ j. 0) 0 (omega arith) (λ j l. absurd (omega arith)) (λ j l s. sym (number-start (λ i. as_bit (cell g i j)) n)))

pub columns-more : (n : ℕ) (g : List (List Bool)) (i : ℕ) {columns : List ℕ} → 0 < i → i ≤ n → columns ≡ over 8 (column_from n g i) (blank 8 0)
    → over 8 (longer columns (get_or g (i - 1) [])) (blank 8 0) ≡ over 8 (column_from n g (i - 1)) (blank 8 0)
unfolding column_from longer cell
columns-more n g i {columns} pos h e =
    over-cong 8 _ _ (blank 8 0) (λ j l. number-back (λ k. as_bit (cell g k j)) n i (get_or columns j 0) pos h (rw e (get_or-over 8 (column_from n g i) (blank 8 0) j 0 l)))

pub columns-all : (n : ℕ) (g : List (List Bool)) (i : ℕ) → i ≡ 0
    → over 8 (column_from n g i) (blank 8 0) ≡ over 8 (λ j. number n (λ k. as_bit (cell g k j))) (blank 8 0)
unfolding column_from
columns-all n g i e = over-cong 8 _ _ (blank 8 0) (λ j l. number-end (λ k. as_bit (cell g k j)) n i e)

-- the columns of the rows behind those that are left
pub record Gathered (n : ℕ) (g left : List (List Bool)) (columns : List ℕ) : Type 0 where
  pub front : left ≡ take (length left) g
  pub few : length left ≤ n
  pub are : columns ≡ over 8 (column_from n g (length left)) (blank 8 0)

pub gathered-none : (n : ℕ) (g : List (List Bool)) {left : List (List Bool)} → left ≡ take n g → n ≤ length g → Gathered n g left (blank 8 0)
gathered-none n g e h =
    let whole : n ≡ length (take n g) = sym (length-take-le n g h) in
    rw e (record {
      front = ap (λ (k : ℕ). take k g) whole;
      few = omega arith;
      are = columns-none n g ∙ ap (λ (i : ℕ). over 8 (column_from n g i) (blank 8 0)) whole;
    })

-- the last of the rows that are left is taken in
pub gathered-more : {n : ℕ} {g left rest : List (List Bool)} (r : List Bool) {columns more : List ℕ} → Gathered n g left columns → left ≡ rest ++ (r ∷ [])
    → more ≡ over 8 (longer columns r) (blank 8 0) → Gathered n g rest more
gathered-more {n} {g} {left} {rest} r {columns} p e q =
    let k : ℕ = length rest in
    let long : length left ≡ k + 1 = omega (arith, ap length e, length-append rest (r ∷ [])) in
    let back : length left - 1 ≡ k = omega arith in
    let parts : rest ++ (r ∷ []) ≡ take (k + 1) g = sym e ∙ p.front ∙ ap (λ (i : ℕ). take i g) long in
    let last : r ≡ get_or g k [] = sym (get_or_at rest r [] [] k refl) ∙ ap (λ (l : List (List Bool)). get_or l k []) parts ∙ get_or-take (k + 1) g k [] (omega arith) in
    record {
      front = sym (take_at rest (r ∷ []) k refl) ∙ ap (take k) parts ∙ take-take k (k + 1) g (omega arith);
      few = omega (arith, p.few);
      are = q ∙ ap (λ (x : List Bool). over 8 (longer columns x) (blank 8 0)) last ∙ rw back at (columns-more n g (length left) (omega arith) p.few p.are);
    }

-- a number of two parts moved up and cut: the lower part is left
moved_up : (a b q r : ℕ) → 0 < a → r < b → (q * b + r) * a % (a * b) ≡ r * a
moved_up a b q r pos h =
    let product : (q * b + r) * a ≡ q * (a * b) + r * a = add-mul (q * b) r a ∙ ap (λ (x : ℕ). x + r * a) (mul_assoc q b a ∙ ap (λ (x : ℕ). q * x) (mul_comm b a)) in
    let next : (r + 1) * a ≤ b * a = mul-le-mul_right a (omega arith) in
    let below : r * a < a * b = omega (arith, next, add-mul r 1 a, one-mul a, mul_comm b a) in
    ap (λ (x : ℕ). x % (a * b)) product ∙ digits_mod q below

-- the lowest n bits of a word, turned s places upwards, and that they are small
pub turned-up-by : (n s w : ℕ) {p : ℕ} → n ≤ 12 → s ≤ n → p ≡ 2 ^ n
    → (w % p * 2 ^ s % 4294967296 % p + w % p / 2 ^ (n - s) ≡ number n (λ i. bit ((i + n - s) % n) w)) × (w % p < 4096) × (w % p * 2 ^ s % 4294967296 % p < 4096)
    × (w % p * 2 ^ s % 4294967296 % p + w % p / 2 ^ (n - s) < 4096)
turned-up-by n s w {p} l h e =
    let a : ℕ = 2 ^ s in
    let b : ℕ = 2 ^ (n - s) in
    let q : ℕ = w / b % a in
    let r : ℕ = w % b in
    let sum : n ≡ s + (n - s) = omega arith in
    let whole : p ≡ a * b = e ∙ ap (λ (k : ℕ). 2 ^ k) sum ∙ pow-add 2 s (n - s) in
    let parts : w % p ≡ q * b + r = ap (λ (x : ℕ). w % x) whole ∙ mod-mul w (pow_pos s) (pow_pos (n - s)) in
    let most : p ≤ 4096 = rw e (pow_mono {j = 12} l) in
    let small : w % p < 4096 = omega (arith, mod-lt w {m = p} (rw e (pow_pos n))) in
    let exact : w % p * a % 4294967296 ≡ w % p * a = shl_exact 12 s 32 small (omega arith) in
    let up : w % p * a % 4294967296 % p ≡ r * a
    = rw (exact, parts, whole) (moved_up a b q r (pow_pos s) (mod-lt w {m = b} (pow_pos (n - s)))) in
    let down : w % p / b ≡ q = rw parts (digits_div q (mod-lt w {m = b} (pow_pos (n - s)))) in
    let is : w % p * a % 4294967296 % p + w % p / b ≡ number n (λ i. bit ((i + n - s) % n) w) = rw (up, down) (number-turned n s w h) in
    let low : w % p * a % 4294967296 % p < 4096 = omega (arith, mod-lt (w % p * a % 4294967296) {m = p} (rw e (pow_pos n))) in
    (is, small, low, rw is (number_small _ n 12 l (λ i. bit-lt _ _)))

-- a word of n bits, written twice and cut, turned s places downwards, and that all of it is small
pub turned-down-by : (n s w : ℕ) {p : ℕ} → n ≤ 12 → s ≤ n → w < 2 ^ n → p ≡ 2 ^ n
    → ((w + w * 2 ^ n % 4294967296) / 2 ^ s % p ≡ number n (λ k. bit ((s + k) % n) w)) × (w + w * 2 ^ n % 4294967296 < 4294967296)
    × ((w + w * 2 ^ n % 4294967296) / 2 ^ s % p < 4096)
turned-down-by n s w {p} l h small e =
    let most : 2 ^ n ≤ 4096 = pow_mono {j = 12} l in
    let exact : w * 2 ^ n % 4294967296 ≡ w * 2 ^ n = shl_exact 12 n 32 (omega arith) (omega arith) in
    let high : w * 2 ^ n ≤ 4095 * 2 ^ n = mul-le-mul_right (2 ^ n) (omega arith) in
    let is : (w + w * 2 ^ n % 4294967296) / 2 ^ s % p ≡ number n (λ k. bit ((s + k) % n) w) = rw (exact, e) (number-twice n s w h small) in
    (is, omega (arith, exact), rw is (number_small _ n 12 l (λ k. bit-lt _ _)))

-- word j of a column, turned
unfoldable pub word_of_columns : ℕ → List ℕ → ℕ → ℕ
word_of_columns n plain j = number n (λ k. bit ((j + k) % n) (get_or plain j 0))

pub word-turned : (n j w : ℕ) {s : ℕ} (r : ℕ) → s ≡ j % n → r ≡ number n (λ k. bit ((s + k) % n) w) → r ≡ number n (λ k. bit ((j + k) % n) w)
word-turned n j w r e p = (rw e at p) ∙ number-cong n _ _ (λ k l. ap (λ (i : ℕ). bit i w) (mod-add-mod j n k))

-- a column has only bits of its rows
pub plain-lt : (n : ℕ) (g : List (List Bool)) (j : ℕ) {plain : List ℕ} → j < 8 → plain ≡ over 8 (λ j. number n (λ i. as_bit (cell g i j))) (blank 8 0)
    → get_or plain j 0 < 2 ^ n
plain-lt n g j l e = rw (e, get_or-over 8 (λ j. number n (λ i. as_bit (cell g i j))) (blank 8 0) j 0 l) (number_lt n _ (λ i. as_bit-lt (cell g i j)))

pub words-of-columns : (n columns : ℕ) (g : List (List Bool)) {plain : List ℕ} → 0 < n → columns ≤ 8 → plain ≡ over 8 (λ j. number n (λ i. as_bit (cell g i j))) (blank 8 0)
    → over columns (word_of_columns n plain) (blank 8 0) ≡ words_of_grid n columns g
unfolding words_of_grid word_of_grid word_of_columns
words-of-columns n columns g {plain} pos h e =
    over-cong columns _ _ (blank 8 0) (λ j l. number-cong n _ _ (λ k s. ap (bit ((j + k) % n)) (column j (omega arith)) ∙ bit-number n _ (λ i. as_bit-lt (cell g i j)) ((j + k) % n) (mod-lt (j + k) pos)))
  where
    column : (j : ℕ) → j < 8 → get_or plain j 0 ≡ number n (λ i. as_bit (cell g i j))
    column j l = rw e (get_or-over 8 (λ j. number n (λ i. as_bit (cell g i j))) (blank 8 0) j 0 l)

-- the column of word j
unfoldable pub column_of_words : ℕ → List ℕ → ℕ → ℕ
column_of_words n ws j = number n (λ i. bit (place_in_word n i j) (get_or ws j 0))

pub column-turned : (n j w : ℕ) {s r : ℕ} → s ≡ j % n → r ≡ number n (λ i. bit ((i + n - s) % n) w) → r ≡ number n (λ i. bit (place_in_word n i j) w)
column-turned n j w e p = (rw e at p) ∙ number-cong n _ _ (λ i l. ap (λ (k : ℕ). bit k w) (sym (place_is n i j l)))

-- the row that a row of columns is
unfoldable pub row_of_columns : List ℕ → ℕ → List Bool
row_of_columns plain i = row 8 (λ j. is_set (bit i (get_or plain j 0)))

pub rows-of-columns : (n : ℕ) (ws : List ℕ) {plain : List ℕ} → n ≤ 12 → plain ≡ over 8 (λ j. number n (λ i. bit (place_in_word n i j) (get_or ws j 0))) (blank 8 0)
    → over 12 (row_of_columns plain) (blank 12 (blank 8 false)) ≡ grid_of_words n ws
unfolding grid_of_words grid row_of_columns row
rows-of-columns n ws {plain} most p =
    over-blank n 12 _ _ (blank 8 false) most (λ i l. over-cong 8 _ _ (blank 8 false) (λ j s. ap is_set (inside i l j s)))
    (λ i l u.
    over-blank 0 8 _ (λ j. false) false (omega arith) (λ j s. absurd (omega arith)) (λ j s t. ap is_set (above i l j t))
    ∙ sym (over_none (λ j. false) (blank 8 false)))
  where
    f : ℕ → ℕ → ℕ
    f j i = bit (place_in_word n i j) (get_or ws j 0)

    inside : (i : ℕ) → i < n → (j : ℕ) → j < 8 → bit i (get_or plain j 0) ≡ f j i
    inside i l j s = rw (p, get_or-over 8 (λ j. number n (f j)) (blank 8 0) j 0 s) (bit-number n (f j) (λ k. bit-lt _ _) i l)

    above : (i : ℕ) → n ≤ i → (j : ℕ) → j < 8 → bit i (get_or plain j 0) ≡ 0
    above i l j t = rw (p, get_or-over 8 (λ j. number n (f j)) (blank 8 0) j 0 t) (bit-above n _ i l (number_lt n (f j) (λ k. bit-lt _ _)))
