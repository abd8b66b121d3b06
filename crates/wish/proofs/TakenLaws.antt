-- The line that is written for a frame is taken as that frame's capture, of either kind.
-- Assumes nothing.
use mathlib.Core.Path.{◌≡◌, refl, ◌∙◌}
use mathlib.Core.Bool.{Bool, true, false, cond, and-eq-true_iff}
use mathlib.Core.List.{List, [], ◌∷◌, ◌++◌, append_assoc, append-nil, map, flat_map}
use Prim.Native.Nat.{ℕ, zero, suc, ◌+◌, ◌/◌, ◌%◌, ◌^◌, ◌<◌, ◌≤◌}
use native.Mathlib.Nat.{pow-suc}
use native.Mathlib.Omega.{arith}
use borrow.Author.Tests.{lt-ltb, le-leb, ne_eqb, leb-true, ltb-true}
use lib.Dec.{leb, ltb}
use lib.ListN.{length, length-append}
use lib.Pow.{pow_mono}
use Rattle.bits.specs.Bit.{is_set, as_bit}
use Rattle.bits.specs.Tab.{tab}
use Rattle.bits.proofs.Lists.{length_more}
use Rattle.bits.proofs.Searches.{as_bit-le}
use Rattle.bits.proofs.Tabs.{length-tab}
use Rattle.capture.specs.Capture.{frame, agreed_of, agreed_in, capture_of}
use Rattle.capture.proofs.AsBefore.{marked, unmarked}
use Rattle.coding.proofs.CodingLaws.{symbol-below}
use Rattle.line.specs.Line.{decimal_in, decimal, field}
use Rattle.layout.specs.Ranges.{Valid}
use Rattle.layout.specs.declared.Frame.{Frame}
use Rattle.lora.specs.Code.{sent_nibble, sent_symbol, code_of}
use Rattle.lora.specs.Count.{cr_of, expected_of, frame_of, takes}
use Rattle.std.proofs.Common.{Ok}
use Rattle.lora.specs.declared.Expected.TheVariants as expected
use Rattle.lora.specs.declared.Kind.{Kind}
use Rattle.lora.specs.declared.Kind.TheVariants.{Explicit, Agreed}
use Rattle.lora.specs.declared.Settings.{Settings}
use Rattle.lora.proofs.CountLaws.{coded, takes-agreed}
use Rattle.text.specs.Text.{Text, is_separator, is_digit, closed, words_from, all, value_of, is_number, frame_of as text_frame, text_of}
use Rattle.text.proofs.TextLaws.{all_more, value-more, closed-one}
use Rattle.wish.specs.Wish.{wish, fields, front_of, frame_line, answer_to}

-- a word of digits, and the number that it is
record Says (n : ℕ) (word : List ℕ) : Type 0 where
  some : 0 < length word
  digits : all is_digit word ≡ true
  value : value_of word ≡ n

digit-says : (n : ℕ) → n < 10 → Says n ((48 + n) ∷ [])
unfolding all value_of
digit-says n h = record { some = omega arith; digits = rw (le-leb 48 (48 + n) (omega arith), le-leb (48 + n) 57 (omega arith)); value = omega arith }

more-says : (n : ℕ) (word : List ℕ) → Says (n / 10) word → Says n (word ++ ((48 + n % 10) ∷ []))
more-says n word p =
    record {
      some = omega (arith, length_more word (48 + n % 10));
      digits = rw (all_more is_digit word (48 + n % 10), p.digits, le-leb 48 (48 + n % 10) (omega arith), le-leb (48 + n % 10) 57 (omega arith));
      value = rw (value-more word (48 + n % 10), p.value) (omega arith);
    }

decimal-says : (k n : ℕ) → n < 10 ^ suc k → Says n (decimal_in (suc k) n)
unfolding decimal_in
decimal-says zero n h = rw (lt-ltb n 10 h) (digit-says n h)
decimal-says (suc k) n h = go (ltb n 10) refl (decimal-says k (n / 10) (omega (arith, rw pow-suc at h)))
  where
    go : (t : Bool) → ltb n 10 ≡ t → Says (n / 10) (decimal_in (suc k) (n / 10)) → Says n (cond t ((48 + n) ∷ []) (decimal_in (suc k) (n / 10) ++ ((48 + n % 10) ∷ [])))
    go true e later = digit-says n (ltb-true n 10 e)
    go false e later = more-says n (decimal_in (suc k) (n / 10)) later

-- with few digits where it is small
decimal-short : (j k n : ℕ) → n < 10 ^ suc j → length (decimal_in k n) ≤ suc j
unfolding decimal_in
decimal-short j zero n h = omega arith
decimal-short zero (suc k) n h = rw (lt-ltb n 10 h) (omega arith)
decimal-short (suc j) (suc k) n h = go (ltb n 10) (decimal-short j k (n / 10) (omega (arith, rw pow-suc at h)))
  where
    go : (t : Bool) → length (decimal_in k (n / 10)) ≤ suc j → length (cond t ((48 + n) ∷ []) (decimal_in k (n / 10) ++ ((48 + n % 10) ∷ []))) ≤ suc (suc j)
    go true l = omega arith
    go false l = rw length-append (omega arith)

number-says : (n : ℕ) → n ≤ 65535 → Says n (decimal n)
unfolding decimal
number-says n h = decimal-says 19 n (omega arith)

number_is : (n : ℕ) → n ≤ 65535 → is_number (decimal n) ≡ true
unfolding is_number decimal
number_is n h =
    let p = decimal-says 19 n (omega arith) in
    rw (p.digits, le-leb (length (decimal_in 20 n)) 5 (decimal-short 4 20 n (omega arith)), p.value, le-leb n 65535 h)

-- numbers of 16 bits
abbrev pub Small : List ℕ → Type 0
Small [] = Unit
Small (n ∷ numbers) = (n ≤ 65535) × Small numbers

every-number : (numbers : List ℕ) → Small numbers → all is_number (map decimal numbers) ≡ true
unfolding all
every-number [] p = refl
every-number (n ∷ numbers) p = rw (number_is n p.0, every-number numbers p.1)

every_value : (numbers : List ℕ) → Small numbers → map value_of (map decimal numbers) ≡ numbers
every_value [] p = refl
every_value (n ∷ numbers) p = rw ((number-says n p.0).value, every_value numbers p.1)

-- a word of digits goes on to the next separator
digits-apart : (b : ℕ) → is_digit b ≡ true → is_separator b ≡ false
digits-apart b e =
    let h = leb-true 48 b ((and-eq-true_iff (leb 48 b) (leb b 57)).0 e).0 in
    rw (ne_eqb b 32 (λ q. omega arith), ne_eqb b 10 (λ q. omega arith))

digits-join : (ds word rest : List ℕ) → all is_digit ds ≡ true → words_from word (ds ++ rest) ≡ words_from (word ++ ds) rest
unfolding words_from all
digits-join [] word rest e = rw (append-nil word)
digits-join (d ∷ ds) word rest e =
    let (first, more) = (and-eq-true_iff (is_digit d) (all is_digit ds)).0 e in
    rw (digits-apart d first, digits-join ds (word ++ (d ∷ [])) rest more, append_assoc word (d ∷ []) ds)

-- the words of numbers that each stand behind a space, at a line's end
fields-behind : (numbers word : List ℕ) → 0 < length word → Small numbers → words_from word (fields numbers ++ (10 ∷ [])) ≡ word ∷ map decimal numbers
unfolding words_from flat_map field closed
fields-behind [] word h p = rw (closed-one word h)
fields-behind (n ∷ numbers) word h p =
    let q = number-says n p.0 in
    rw (closed-one word h, append_assoc (decimal n) (fields numbers) (10 ∷ []), digits-join (decimal n) [] (fields numbers ++ (10 ∷ [])) q.digits, fields-behind numbers (decimal n) q.some p.1)

fields-words : (numbers : List ℕ) → Small numbers → words_from [] (fields numbers ++ (10 ∷ [])) ≡ map decimal numbers
unfolding words_from flat_map field closed
fields-words [] p = refl
fields-words (n ∷ numbers) p =
    let q = number-says n p.0 in
    rw (append_assoc (decimal n) (fields numbers) (10 ∷ []), digits-join (decimal n) [] (fields numbers ++ (10 ∷ [])) q.digits) (fields-behind numbers (decimal n) q.some p.1)

-- a flag, and the numbers of a frame of either kind
set-bit : (b : Bool) → is_set (as_bit b) ≡ b
set-bit true = refl
set-bit false = refl

frame-says : (sf : ℕ) (low : Bool) (symbols : List ℕ) → length symbols ≤ 832 → text_frame (sf ∷ as_bit low ∷ symbols) ≡ Text.frame sf low symbols
unfolding text_frame
frame-says sf low symbols h =
    let many = length (sf ∷ as_bit low ∷ symbols) in
    rw (le-leb 2 many (omega arith), le-leb many 834 (omega arith), le-leb (as_bit low) 1 (as_bit-le low), set-bit low)

agreed-says : (len cr : ℕ) (flag : Bool) (sf : ℕ) (low : Bool) (symbols : List ℕ) → length symbols ≤ 832
    → agreed_of (len ∷ cr ∷ as_bit flag ∷ sf ∷ as_bit low ∷ symbols) ≡ frame sf low (expected.Agreed len cr flag) symbols
unfolding agreed_of
agreed-says len cr flag sf low symbols h =
    rw (le-leb 3 (length (len ∷ cr ∷ as_bit flag ∷ sf ∷ as_bit low ∷ symbols)) (omega arith), le-leb (as_bit flag) 1 (as_bit-le flag), set-bit flag, frame-says sf low symbols h)

-- a line with a header begins with a digit
digit-first : (word rest : List ℕ) → 0 < length word → all is_digit word ≡ true → marked (word ++ rest) ≡ false
unfolding marked all
digit-first [] rest h e = absurd (omega arith)
digit-first (d ∷ ds) rest h e =
    let (first, more) = (and-eq-true_iff (is_digit d) (all is_digit ds)).0 e in
    let l = leb-true d 57 ((and-eq-true_iff (leb 48 d) (leb d 57)).0 first).1 in
    rw (digits-apart d first, ne_eqb d 61 (λ q. omega arith))

explicit-taken : (sf : ℕ) (low : Bool) (symbols : List ℕ) → Small (sf ∷ as_bit low ∷ symbols) → length symbols ≤ 832
    → capture_of (decimal sf ++ (fields (as_bit low ∷ symbols) ++ (10 ∷ []))) ≡ frame sf low expected.Explicit symbols
unfolding text_of
explicit-taken sf low symbols p h =
    let q = number-says sf p.0 in
    let numbers = sf ∷ as_bit low ∷ symbols in
    let rest = fields (as_bit low ∷ symbols) ++ (10 ∷ []) in
    unmarked (decimal sf ++ rest) (digit-first (decimal sf) rest q.some q.digits)
    ∙ rw (digits-join (decimal sf) [] rest q.digits, fields-behind (as_bit low ∷ symbols) (decimal sf) q.some p.1, every-number numbers p, every_value numbers p, frame-says sf low symbols h)

agreed-taken : (len cr : ℕ) (flag : Bool) (sf : ℕ) (low : Bool) (symbols : List ℕ) → Small (len ∷ cr ∷ as_bit flag ∷ sf ∷ as_bit low ∷ symbols) → length symbols ≤ 832
    → capture_of (61 ∷ (fields (len ∷ cr ∷ as_bit flag ∷ sf ∷ as_bit low ∷ symbols) ++ (10 ∷ []))) ≡ frame sf low (expected.Agreed len cr flag) symbols
unfolding capture_of agreed_in
agreed-taken len cr flag sf low symbols p h =
    let numbers = len ∷ cr ∷ as_bit flag ∷ sf ∷ as_bit low ∷ symbols in
    rw (fields-words numbers p, every-number numbers p, every_value numbers p, agreed-says len cr flag sf low symbols h)

-- what stands in front of the line is fields too
front-fields : (len cr flag sf low : ℕ) (symbols : List ℕ) → (field len ++ (field cr ++ (field flag ++ (32 ∷ [])))) ++ (decimal sf ++ (field low ++ (fields symbols ++ (10 ∷ []))))
    ≡ fields (len ∷ cr ∷ flag ∷ sf ∷ low ∷ symbols) ++ (10 ∷ [])
unfolding flat_map field
front-fields len cr flag sf low symbols = simp append_assoc

-- an agreed length and rate of 16 bits
abbrev pub Fits : Kind → Type 0
Fits (Explicit cr flag) = Unit
Fits (Agreed len cr flag) = (len ≤ 65535) × (cr ≤ 65535)

-- The line for a frame of up to 832 symbols, whose numbers have 16 bits, is its capture.
pub line_taken : (s : Settings) (symbols : List ℕ) → s.sf ≤ 65535 → Fits s.kind → Small symbols → length symbols ≤ 832
    → capture_of (frame_line s symbols) ≡ frame s.sf s.low (expected_of s.kind) symbols
unfolding frame_line flat_map
line_taken s symbols h k p l = by s.kind k
  where
    bit : (b : Bool) → as_bit b ≤ 65535
    bit b = omega (arith, as_bit-le b)

    by : (k : Kind) → Fits k → capture_of (front_of k ++ (decimal s.sf ++ (field (as_bit s.low) ++ (fields symbols ++ (10 ∷ []))))) ≡ frame s.sf s.low (expected_of k) symbols
    by (Explicit cr flag) f =
        rw (← append_assoc (field (as_bit s.low)) (fields symbols) (10 ∷ [])) (explicit-taken s.sf s.low symbols (h, (bit s.low, p)) l)
    by (Agreed len cr flag) f =
        rw (front-fields len cr (as_bit flag) s.sf (as_bit s.low) symbols)
        (agreed-taken len cr flag s.sf s.low symbols (f.0, (f.1, (bit flag, (h, (bit s.low, p))))) l)

-- symbols that code sends have 16 bits
small-more : (numbers : List ℕ) (n : ℕ) → Small numbers → n ≤ 65535 → Small (numbers ++ (n ∷ []))
small-more [] n p h = (h, tt)
small-more (m ∷ numbers) n p h = (p.0, small-more numbers n p.1 h)

small-tab : (n : ℕ) (f : ℕ → ℕ) → ((i : ℕ) → f i ≤ 65535) → Small (tab n f)
unfolding tab
small-tab zero f h = tt
small-tab (suc n) f h = small-more (tab n f) (f n) (small-tab n f h) (h n)

sent-small : (F : Frame) (payload : List ℕ) → Valid F → (t : ℕ) → sent_symbol F payload t ≤ 65535
unfolding sent_symbol
sent-small F payload v t = omega (arith, symbol-below F (sent_nibble F payload) t v, pow_mono v.sf-high)

kind_fits : (k : Kind) (len : ℕ) → takes k len ≡ true → len ≤ 255 → cr_of k ≤ 4 → Fits k
kind_fits (Explicit cr flag) len e h l = tt
kind_fits (Agreed agreed cr flag) len e h l = (omega (arith, takes-agreed agreed cr flag len e), omega arith)

-- What the program writes for a wish that is accepted is the capture of the frame that was sent, for a reader that expects its kind.
pub written-taken : (s : Settings) (payload : List ℕ) (count : ℕ) → code_of s payload 832 ≡ Ok count
    → capture_of (answer_to (wish s payload)) ≡ frame s.sf s.low (expected_of s.kind) (tab count (sent_symbol (frame_of s) payload))
written-taken s payload count e =
    let (c, few) = coded s payload 832 count e in
    let v = c.settings in
    rw e
    (line_taken s (tab count (sent_symbol (frame_of s) payload)) (omega (arith, v.sf-high)) (kind_fits s.kind (length payload) c.taken c.short v.cr-high)
    (small-tab count (sent_symbol (frame_of s) payload) (sent-small (frame_of s) payload v)) (rw (length-tab count (sent_symbol (frame_of s) payload)) few))
