-- A text taken byte by byte is the text that it is, in pieces of any size.
-- Assumes nothing.
use mathlib.Core.Path.{◌≡◌, refl, sym, ap, ◌∙◌}
use mathlib.Core.Bool.{Bool, true, false, ◌&&◌, cond, and-true, and-false, and_assoc, and-eq-true_iff, true≢false}
use mathlib.Core.List.{List, [], ◌∷◌, ◌++◌, append_assoc, append-nil, map, map-append, foldl-append}
use mathlib.Core.Logic.{◌⊎◌, inl, inr, ⊎_elim}
use Prim.Native.Nat.{ℕ, ◌+◌, ◌-◌, ◌*◌, ◌<◌, ◌≤◌}
use native.Mathlib.Numerals.{add-one}
use native.Mathlib.Omega.{arith}
use borrow.Author.Tests.{le-leb, lt-leb, eq-eqb, ne_eqb, ltb-true, ltb-false, leb-true}
use lib.Dec.{leb, ltb}
use lib.ListN.{length, length-append, length-map}
use Rattle.bits.specs.Check.{check}
use Rattle.bits.proofs.Lists.{length_more}
use Rattle.bits.proofs.Truth.{refuted, check-same}
use Rattle.text.specs.Text.{is_separator, is_digit, closed, words_from, all, with_digit, value_of, is_number, bad, frame_of, text_of}
use Rattle.text.specs.Scan.{State, start, refuse, shut, grown, step, run, ended, said, taken}

-- a test of each in a list, with more behind it
module _ {A : Type 0} (p : A → Bool) where
  all_append : (xs ys : List A) → all p (xs ++ ys) ≡ all p xs && all p ys
  unfolding all
  all_append [] ys = refl
  all_append (x ∷ xs) ys = rw (all_append xs ys) (sym (and_assoc (p x) (all p xs) (all p ys)))

  pub all_more : (l : List A) (a : A) → all p (l ++ (a ∷ [])) ≡ all p l && p a
  unfolding all
  all_more l a = rw (all_append l (a ∷ []), and-true (p a))

-- what makes a word a number
record Number (word : List ℕ) : Type 0 where
  few : length word ≤ 5
  digits : all is_digit word ≡ true
  small : value_of word ≤ 65535

number_is : (word : List ℕ) → is_number word ≡ true → Number word
unfolding is_number
number_is word p =
    let (digits, rest) = (and-eq-true_iff (all is_digit word) _).0 p in
    let (few, small) = (and-eq-true_iff (leb (length word) 5) _).0 rest in
    record { few = leb-true _ _ few; digits = digits; small = leb-true _ _ small }

is-number : (word : List ℕ) → Number word → is_number word ≡ true
unfolding is_number
is-number word n = rw (n.digits, le-leb _ _ n.few, le-leb _ _ n.small)

-- one byte more at a word's end
pub value-more : (word : List ℕ) (b : ℕ) → value_of (word ++ (b ∷ [])) ≡ value_of word * 10 + (b - 48)
unfolding value_of
value-more word b = foldl-append with_digit 0 word (b ∷ [])

-- a number with a byte more is a number where the byte is a digit, the digits are few and the value is small
number_more : (word : List ℕ) (b : ℕ) → Number word → is_number (word ++ (b ∷ []))
    ≡ is_digit b && (ltb (length word) 5 && leb (value_of word * 10 + (b - 48)) 65535)
unfolding is_number
number_more word b n =
    rw (all_more is_digit word b, n.digits, value-more word b, length_more word b, same (length word))
  where
    same : (k : ℕ) → leb (k + 1) 5 ≡ ltb k 5
    same k = ap (λ (m : ℕ). leb m 5) (add-one k)

-- what is no number is none with a byte more
number-less : (word : List ℕ) (b : ℕ) → Number (word ++ (b ∷ [])) → Number word
number-less word b n =
    record {
      few = omega (arith, n.few, length_more word b);
      digits = ((and-eq-true_iff (all is_digit word) (is_digit b)).0 (sym (all_more is_digit word b) ∙ n.digits)).0;
      small = omega (arith, n.small, value-more word b);
    }

pub spoiled-more : (word : List ℕ) (b : ℕ) → is_number word ≡ false → is_number (word ++ (b ∷ [])) ≡ false
spoiled-more word b p = refuted (is_number (word ++ (b ∷ []))) (λ q. true≢false (sym (is-number word (number-less word b (number_is _ q))) ∙ p))

-- a word with something in it is one word
pub closed-one : (word : List ℕ) → 0 < length word → closed word ≡ word ∷ []
unfolding closed
closed-one [] h = absurd (omega arith)
closed-one (b ∷ word) h = refl

-- a word that is no number grows into none
pub spoiled : (word bs : List ℕ) → 0 < length word → is_number word ≡ false → all is_number (words_from word bs) ≡ false
unfolding words_from all
spoiled word [] h p = rw (closed-one word h, p)
spoiled word (b ∷ bs) h p = go (is_separator b) (spoiled (word ++ (b ∷ [])) bs (omega (arith, length_more word b)) (spoiled-more word b p))
  where
    go : (t : Bool) → all is_number (words_from (word ++ (b ∷ [])) bs) ≡ false
        → all is_number (cond t (closed word ++ words_from [] bs) (words_from (word ++ (b ∷ [])) bs)) ≡ false
    go true later = rw (closed-one word h, p)
    go false later = later

-- more than 834 numbers are no frame
pub crowd : (numbers : List ℕ) → 834 < length numbers → frame_of numbers ≡ bad
unfolding frame_of
crowd numbers h = rw (le-leb 2 (length numbers) (omega arith), lt-leb (length numbers) 834 h)

-- one byte: the text is bad already, a separator, a digit, another
pub step-refused : (s : State) (b : ℕ) → s.refused ≡ true → step s b ≡ s
unfolding step
step-refused s b p = rw p

pub step-shuts : (s : State) (b : ℕ) → s.refused ≡ false → is_separator b ≡ true → step s b ≡ shut s
unfolding step
step-shuts s b p e = rw (p, e)

pub step-grows : (s : State) (b : ℕ) → s.refused ≡ false → is_separator b ≡ false → is_digit b ≡ true → step s b ≡ grown s b
unfolding step
step-grows s b p e d = rw (p, e, d)

pub step-refuses : (s : State) (b : ℕ) → s.refused ≡ false → is_separator b ≡ false → is_digit b ≡ false → step s b ≡ refuse s
unfolding step
step-refuses s b p e d = rw (p, e, d)

-- a text that is bad already stays so
run-refused : (s : State) (bs : List ℕ) → s.refused ≡ true → run s bs ≡ s
unfolding run
run-refused s [] p = refl
run-refused s (b ∷ bs) p = rw (step-refused s b p) (run-refused s bs p)

-- a state that has the words done behind it and the word open
pub record Stands (s : State) (done : List (List ℕ)) (word : List ℕ) : Type 0 where
  pub going : s.refused ≡ false
  pub held : s.numbers ≡ map value_of done
  pub good : all is_number done ≡ true
  room : length done ≤ 837
  digits : s.digits ≡ length word
  value : s.value ≡ value_of word
  number : Number word

none_open : Number []
unfolding all value_of
none_open = record { few = omega arith; digits = refl; small = omega arith }

-- the open word ends, or there are too many
pub shut-stands : {s : State} {done : List (List ℕ)} (word : List ℕ) → Stands s done word
    → Stands (shut s) (done ++ closed word) [] ⊎ (((shut s).refused ≡ true) × (837 < length (done ++ closed word)))
unfolding shut closed refuse all value_of
shut-stands {s} {done} [] p = inl (rw (eq-eqb s.digits 0 p.digits, append-nil done) p)
shut-stands {s} {done} (a ∷ word) p =
    rw (ne_eqb s.digits 0 (λ e. omega (arith, p.digits)))
    (go (ltb (length s.numbers) 837) refl)
  where
    long : length s.numbers ≡ length done
    long = ap length p.held ∙ length-map done value_of

    more : length (done ++ ((a ∷ word) ∷ [])) ≡ length done + 1
    more = length-append done ((a ∷ word) ∷ [])

    every : all is_number (done ++ ((a ∷ word) ∷ [])) ≡ true
    every = rw (all_append is_number done ((a ∷ word) ∷ []), p.good, is-number (a ∷ word) p.number)

    next : s.numbers ++ (s.value ∷ []) ≡ map value_of (done ++ ((a ∷ word) ∷ []))
    next = rw (p.held, p.value, map-append value_of done ((a ∷ word) ∷ []))

    after : Bool → State
    after t = cond t (record { refused = false; digits = 0; value = 0; numbers = s.numbers ++ (s.value ∷ []) }) (refuse s)

    go : (t : Bool) → ltb (length s.numbers) 837 ≡ t
        → Stands (after t) (done ++ ((a ∷ word) ∷ [])) [] ⊎ (((after t).refused ≡ true) × (837 < length (done ++ ((a ∷ word) ∷ []))))
    go true q =
        inl (record { going = refl; held = next; good = every; room = omega (arith, ltb-true (length s.numbers) 837 q, long, more); digits = refl; value = refl; number = none_open })
    go false q = inr (refl, omega (arith, ltb-false (length s.numbers) 837 q, long, more))

-- a byte that is no separator
pub word_more : {s : State} {done : List (List ℕ)} {word : List ℕ} (b : ℕ) → Stands s done word → is_separator b ≡ false
    → Stands (step s b) done (word ++ (b ∷ [])) ⊎ (((step s b).refused ≡ true) × (is_number (word ++ (b ∷ [])) ≡ false))
unfolding step grown refuse
word_more {s} {done} {word} b p n = rw (p.going, n) (go (is_digit b) refl)
  where
    by : is_number (word ++ (b ∷ [])) ≡ is_digit b && (ltb s.digits 5 && leb (s.value * 10 + (b - 48)) 65535)
    by = rw (p.digits, p.value) (number_more word b p.number)

    Out : State → Type 0
    Out t = Stands t done (word ++ (b ∷ [])) ⊎ ((t.refused ≡ true) × (is_number (word ++ (b ∷ [])) ≡ false))

    grow : (t : Bool) → is_number (word ++ (b ∷ [])) ≡ t
        → Out (cond t (record { refused = false; digits = s.digits + 1; value = s.value * 10 + (b - 48); numbers = s.numbers }) (refuse s))
    grow true q =
        inl (record { going = refl; held = p.held; good = p.good; room = p.room; digits = rw (p.digits, length_more word b); value = rw (p.value, value-more word b); number = number_is _ q })
    grow false q = inr (refl, q)

    go : (d : Bool) → is_digit b ≡ d → Out (cond d (grown s b) (refuse s))
    go true q = grow _ (rw q at by)
    go false q = inr (refl, rw q at by)

-- nothing taken yet
pub stands-start : Stands start [] []
unfolding start all value_of
stands-start = record { going = refl; held = refl; good = refl; room = omega arith; digits = refl; value = refl; number = none_open }

-- words by what their numbers say; where one is no number they say something of their own
module _ {A : Type 0} (refusal : A) (meaning : List ℕ → A) where
  unfoldable pub meant : List (List ℕ) → A
  meant words = check (all is_number words) refusal (meaning (map value_of words))

  meant-good : (words : List (List ℕ)) → all is_number words ≡ true → meant words ≡ meaning (map value_of words)
  unfolding meant
  meant-good words p = rw p

  meant-spoiled : (xs ys : List (List ℕ)) → all is_number ys ≡ false → meant (xs ++ ys) ≡ refusal
  unfolding meant
  meant-spoiled xs ys p = rw (all_append is_number xs ys, p, and-false (all is_number xs))

  -- a text that is bad already, and one whose open number ends
  said-refused : (s : State) (bs : List ℕ) → s.refused ≡ true → said refusal meaning (ended (run s bs)) ≡ refusal
  unfolding said ended
  said-refused s bs p = rw (run-refused s bs p, p)

  said-shut : (s : State) → s.refused ≡ false → said refusal meaning (ended s) ≡ said refusal meaning (shut s)
  unfolding ended
  said-shut s p = rw p

  said-good : {s : State} {done : List (List ℕ)} → Stands s done [] → said refusal meaning s ≡ meant done
  unfolding said
  said-good {s} {done} q = rw (q.going, q.held) (sym (meant-good done q.good))

  said-full : (s : State) → s.refused ≡ true → said refusal meaning s ≡ refusal
  unfolding said
  said-full s p = rw p

  -- where more numbers than there is place for say what a bad text says, a text taken byte by byte says what its words say
  module _ (crowded : (numbers : List ℕ) → 837 < length numbers → meaning numbers ≡ refusal) where
    meant-crowd : (xs ys : List (List ℕ)) → 837 < length xs → meant (xs ++ ys) ≡ refusal
    unfolding meant
    meant-crowd xs ys h =
        check-same (all is_number (xs ++ ys)) (crowded (map value_of (xs ++ ys)) (omega (arith, length-map (xs ++ ys) value_of, length-append xs ys)))

    scan-from : (bs : List ℕ) {s : State} {done : List (List ℕ)} {word : List ℕ} → Stands s done word → said refusal meaning (ended (run s bs)) ≡ meant (done ++ words_from word bs)
    unfolding run words_from
    scan-from [] {s} {done} {word} p =
        said-shut s p.going
        ∙ ⊎_elim (λ q. said-good q) (λ q. said-full (shut s) q.0 ∙ sym (meant-crowd (done ++ closed word) [] q.1) ∙ ap meant (append-nil (done ++ closed word)))
        (shut-stands word p)
    scan-from (b ∷ bs) {s} {done} {word} p = go (is_separator b) refl (λ q. scan-from bs q) (λ q. scan-from bs q)
      where
        later : A
        later = said refusal meaning (ended (run (step s b) bs))

        go : (t : Bool) → is_separator b ≡ t
            → (Stands (step s b) (done ++ closed word) [] → later ≡ meant (done ++ closed word ++ words_from [] bs))
            → (Stands (step s b) done (word ++ (b ∷ [])) → later ≡ meant (done ++ words_from (word ++ (b ∷ [])) bs))
            → later ≡ meant (done ++ cond t (closed word ++ words_from [] bs) (words_from (word ++ (b ∷ [])) bs))
        go true e next on =
            let is : step s b ≡ shut s = step-shuts s b p.going e in
            rw (← append_assoc done (closed word) (words_from [] bs))
            (⊎_elim (λ q. next (rw is q)) (λ q. said-refused (step s b) bs (rw is q.0) ∙ sym (meant-crowd (done ++ closed word) (words_from [] bs) q.1)) (shut-stands word p))
        go false e next on =
            ⊎_elim on (λ q. said-refused (step s b) bs q.0 ∙ sym (meant-spoiled done _ (spoiled (word ++ (b ∷ [])) bs (omega (arith, length_more word b)) q.1)))
            (word_more b p e)

    -- a whole text
    pub scanned-as : (bytes : List ℕ) → said refusal meaning (ended (run start bytes)) ≡ meant (words_from [] bytes)
    scanned-as bytes = scan-from bytes stands-start

-- scanning a whole text gives the text
pub scanned : (bytes : List ℕ) → taken (run start bytes) ≡ text_of (words_from [] bytes)
unfolding taken text_of meant
scanned bytes = scanned-as bad frame_of (λ numbers h. crowd numbers (omega arith)) bytes

-- a text in two pieces
pub run-append : (s : State) (xs ys : List ℕ) → run (run s xs) ys ≡ run s (xs ++ ys)
unfolding run
run-append s xs ys = sym (foldl-append step s xs ys)

-- bytes behind bytes
pub run-on : (s : State) {q later : State} (xs ys : List ℕ) → q ≡ run s xs → later ≡ run q ys → later ≡ run s (xs ++ ys)
run-on s xs ys e f = f ∙ (rw e (run-append s xs ys))
