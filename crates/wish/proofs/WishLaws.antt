-- A wish taken byte by byte is the wish that it is, with its payload cut at 256 bytes, in pieces of any size.
-- Assumes nothing.
use mathlib.Core.Path.{◌≡◌, refl, sym, ap, ◌∙◌}
use mathlib.Core.Bool.{Bool, true, false, cond, and-false, and-eq-true_iff}
use mathlib.Core.List.{List, [], ◌∷◌, ◌++◌, append_assoc, map}
use mathlib.Core.Logic.{⊎_elim}
use Prim.Native.Nat.{ℕ, zero, suc, ◌+◌, ◌<◌, ◌≤◌}
use native.Mathlib.Omega.{arith}
use borrow.Author.Tests.{eq-eqb, ne_eqb, ltb-true, ltb-false}
use lib.Dec.{ltb, eqb}
use lib.ListN.{length, take, drop, get_or, length-append, length-drop, length-map}
use lib.Seq.{take_at, get_or_at}
use Rattle.bits.specs.Check.{check}
use Rattle.bits.proofs.Lists.{length_more, take-take-nil}
use Rattle.bits.proofs.Searches.{as_bit-le}
use Rattle.bits.proofs.Truth.{cond_same, check-same, check-swap}
use Rattle.capture.specs.Capture.{is_mark}
use Rattle.capture.specs.Scan as head
use Rattle.capture.proofs.CaptureLaws.{front-skips, front-mark}
use Rattle.capture.proofs.ScanLaws.{step-on, step-plain, behind-mark, behind-word, behind-stays}
use Rattle.text.specs.Text.{is_separator, all, closed, words_from, is_number, value_of}
use Rattle.text.specs.Scan as text
use Rattle.text.proofs.TextLaws.{Stands, stands-start, shut-stands, word_more, spoiled-more, closed-one, step-refused, step-shuts}
use Rattle.wish.specs.Wish.{Wish, bad, wish, is_payload, payload_of, settings_of, flags_hold, wish_of, agreed_with, agreed_in, wish_in}
use Rattle.wish.specs.Scan.{State, start, next_word, front, flags_in, settings_in, headed, worded, step, run, complete, said, taken, added, shut_word, grown_word}
use Rattle.wish.specs.declared.Word.{Word}
use Rattle.wish.specs.declared.Word.TheVariants.{Before, Closed, Bad}
use Rattle.wish.proofs.ScanLaws.{text-keeps, step-head, step-word}
use Rattle.wish.proofs.PayloadLaws.{Reads, reads_more, Ended, reads_end, reads_none, separator-adds}

-- a wish with its payload cut at 256 bytes
abbrev pub cut : Wish → Wish
cut bad = bad
cut (wish s payload) = wish s (take 256 payload)

-- the words of a wish, by whether a mark stands in front
abbrev of_words : Bool → List (List ℕ) → Wish
of_words false words = wish_of words
of_words true words = agreed_in words

-- fewer words than the numbers and the payload
four-words : (ws : List (List ℕ)) → length ws < 5 → wish_of ws ≡ bad
unfolding wish_of
four-words ws h = rw (ne_eqb (length ws) 5 (λ e. omega arith))

short-words : (a : Bool) (ws : List (List ℕ)) → length ws < front a + 1 → of_words a ws ≡ bad
unfolding agreed_in
short-words false ws h = four-words ws h
short-words true ws h = check-same (is_number (get_or ws 0 [])) (rw (four-words (drop 1 ws) (omega (arith, length-drop 1 ws))))

-- more words
six-words : (ws : List (List ℕ)) → 5 < length ws → wish_of ws ≡ bad
unfolding wish_of
six-words ws h = rw (ne_eqb (length ws) 5 (λ e. omega arith))

many-words : (a : Bool) (ws : List (List ℕ)) → front a + 1 < length ws → of_words a ws ≡ bad
unfolding agreed_in
many-words false ws h = six-words ws h
many-words true ws h = check-same (is_number (get_or ws 0 [])) (rw (six-words (drop 1 ws) (omega (arith, length-drop 1 ws))))

-- one of the numbers is none
front-spoiled : (n : ℕ) (done : List (List ℕ)) (w : List ℕ) (ws : List (List ℕ)) → length done < n → is_number w ≡ false → all is_number (take n (done ++ (w ∷ ws))) ≡ false
unfolding all
front-spoiled zero done w ws h e = absurd (omega arith)
front-spoiled (suc n) [] w ws h e = rw e
front-spoiled (suc n) (a ∷ done) w ws h e = rw (front-spoiled n done w ws (omega arith) e) (and-false (is_number a))

number-spoils : (done ws : List (List ℕ)) → length done < 4 → is_number (get_or ws 0 []) ≡ false → wish_of (done ++ ws) ≡ bad
unfolding wish_of
number-spoils done [] h e = four-words (done ++ []) (omega (arith, length-append {A = List ℕ} done []))
number-spoils done (w ∷ ws) h e = check-same (eqb (length (done ++ (w ∷ ws))) 5) (rw (front-spoiled 4 done w ws h e))

spoiled-words : (a : Bool) (done ws : List (List ℕ)) → length done < front a → is_number (get_or ws 0 []) ≡ false → of_words a (done ++ ws) ≡ bad
unfolding agreed_in
spoiled-words false done ws h e = number-spoils done ws h e
spoiled-words true [] ws h e = rw e
spoiled-words true (l ∷ done) ws h e = check-same (is_number l) (rw (number-spoils done ws (omega arith) e))

-- the numbers and the payload
five-words : (done : List (List ℕ)) (w : List ℕ) → length done ≡ 4 → all is_number done ≡ true
    → wish_of (done ++ (w ∷ [])) ≡ check (is_payload w) bad (said false (map value_of done) (payload_of w))
unfolding wish_of said flags_in settings_in
five-words done w n good =
    let long : length (done ++ (w ∷ [])) ≡ 5 = length_more done w ∙ ap (λ (k : ℕ). k + 1) n in
    rw (eq-eqb (length (done ++ (w ∷ []))) 5 long, take_at done (w ∷ []) 4 n, good, get_or_at done w [] [] 4 n) (check-swap (flags_hold (map value_of done)) (is_payload w) bad _)

with-length : (t : Bool) (n : ℕ) (numbers payload : List ℕ) → agreed_with n (check t bad (said false numbers payload)) ≡ check t bad (said true (n ∷ numbers) payload)
unfolding said flags_in settings_in
with-length t n numbers payload = go t (flags_hold numbers)
  where
    go : (x y : Bool) → agreed_with n (check x bad (check y bad (wish (settings_of numbers) payload)))
        ≡ check x bad (check y bad (wish (settings_in true (n ∷ numbers)) payload))
    go true true = refl
    go true false = refl
    go false y = refl

said-words : (a : Bool) (done : List (List ℕ)) (w : List ℕ) → length done ≡ front a → all is_number done ≡ true
    → of_words a (done ++ (w ∷ [])) ≡ check (is_payload w) bad (said a (map value_of done) (payload_of w))
unfolding agreed_in all
said-words false done w n good = five-words done w n good
said-words true [] w n good = absurd (omega arith)
said-words true (l ∷ done) w n good =
    let (first, rest) = (and-eq-true_iff (is_number l) (all is_number done)).0 good in
    rw (first, five-words done w (omega arith) rest) (with-length (is_payload w) (value_of l) (map value_of done) (payload_of w))

cut-said : (t a : Bool) (numbers payload : List ℕ) → cut (check t bad (said a numbers payload)) ≡ check t bad (said a numbers (take 256 payload))
unfolding said
cut-said t a numbers payload = go t (flags_in a numbers)
  where
    go : (x y : Bool) → cut (check x bad (check y bad (wish (settings_in a numbers) payload))) ≡ check x bad (check y bad (wish (settings_in a numbers) (take 256 payload)))
    go true true = refl
    go true false = refl
    go false y = refl

-- what isn't a payload yet
taken-open : (s : State) → complete s.word ≡ false → taken s ≡ bad
unfolding taken
taken-open s e = rw e

-- the payload's word with one byte more
next-shuts : (w : Word) (b : ℕ) → is_separator b ≡ true → next_word w b ≡ shut_word w
unfolding next_word
next-shuts w b e = rw e

next_grows : (w : Word) (b : ℕ) → is_separator b ≡ false → next_word w b ≡ grown_word w b
unfolding next_word
next_grows w b e = rw e

next-bad : (b : ℕ) → next_word Bad b ≡ Bad
unfolding next_word
next-bad b = cond_same (is_separator b) Bad

-- where the payload's word is none it stays so
bad-from : (bs : List ℕ) (s : State) → length s.head.text.numbers ≡ front s.head.agreed → s.word ≡ Bad → taken (run s bs) ≡ bad
unfolding run worded
bad-from [] s e f = taken-open s (rw f)
bad-from (b ∷ bs) s e f = rw (step-word s b (omega arith)) (bad-from bs (worded s b) e (rw f (next-bad b)))

-- a word that has begun is a word
some_word : (word bs : List ℕ) → 0 < length word → 0 < length (words_from word bs)
unfolding words_from
some_word word [] h = rw (closed-one word h) (omega arith)
some_word word (b ∷ bs) h = go (is_separator b) (some_word (word ++ (b ∷ [])) bs (omega (arith, length_more word b)))
  where
    go : (t : Bool) → 0 < length (words_from (word ++ (b ∷ [])) bs) → 0 < length (cond t (closed word ++ words_from [] bs) (words_from (word ++ (b ∷ [])) bs))
    go true later = rw (closed-one word h) (omega arith)
    go false later = later

-- a state whose numbers are those of all the words before the payload
record Numbered (a : Bool) (done : List (List ℕ)) (s : State) : Type 0 where
  agreed : s.head.agreed ≡ a
  held : s.head.text.numbers ≡ map value_of done

module _ (a : Bool) (done : List (List ℕ)) (long : length done ≡ front a) (good : all is_number done ≡ true) where
  full : (s : State) → Numbered a done s → length s.head.text.numbers ≡ front s.head.agreed
  full s p = rw (p.held, p.agreed, length-map done value_of) long

  taken-said : (s : State) → Numbered a done s → taken s ≡ check (complete s.word) bad (said a (map value_of done) s.payload)
  unfolding taken
  taken-said s p = rw (eq-eqb (length s.head.text.numbers) (front s.head.agreed) (full s p), p.agreed, p.held)

  one-cut : (w : List ℕ) → check (is_payload w) bad (said a (map value_of done) (take 256 (payload_of w))) ≡ cut (of_words a (done ++ (w ∷ [])))
  one-cut w = sym (ap cut (said-words a done w long good) ∙ cut-said (is_payload w) a (map value_of done) (payload_of w))

  more-words : (w : List ℕ) (ws : List (List ℕ)) → 0 < length ws → of_words a (done ++ (w ∷ ws)) ≡ bad
  more-words w ws h = many-words a (done ++ (w ∷ ws)) (omega (arith, length-append done (w ∷ ws)))

  no_payload : (w : List ℕ) (ws : List (List ℕ)) → is_payload w ≡ false → of_words a (done ++ (w ∷ ws)) ≡ bad
  no_payload w [] e = said-words a done w long good ∙ rw e
  no_payload w (v ∷ ws) e = more-words w (v ∷ ws) (omega arith)

  -- behind the payload's word
  closed-from : (bs : List ℕ) (s : State) (w : List ℕ) → Numbered a done s → s.word ≡ Closed → is_payload w ≡ true → s.payload ≡ take 256 (payload_of w)
      → taken (run s bs) ≡ cut (of_words a (done ++ (w ∷ words_from [] bs)))
  unfolding run words_from closed worded
  closed-from [] s w p f g q = taken-said s p ∙ rw (f, q) (rw g at (one-cut w))
  closed-from (x ∷ bs) s w p f g q =
      rw (step-word s x (omega (arith, full s p)))
      (go (is_separator x) refl (full s p) (λ h r. closed-from bs (worded s x) w (record { agreed = p.agreed; held = p.held }) h g r))
    where
      later : Wish
      later = taken (run (worded s x) bs)

      go : (t : Bool) → is_separator x ≡ t → length s.head.text.numbers ≡ front s.head.agreed
          → (next_word s.word x ≡ Closed → take 256 (s.payload ++ added s.word x) ≡ take 256 (payload_of w) → later ≡ cut (of_words a (done ++ (w ∷ words_from [] bs))))
          → later ≡ cut (of_words a (done ++ (w ∷ cond t (words_from [] bs) (words_from (x ∷ []) bs))))
      go true h n next =
          next (rw f (next-shuts Closed x h)) (rw (separator-adds s.word x h, q) (take-take-nil 256 (payload_of w)))
      go false h n next =
          bad-from bs (worded s x) n (rw f (next_grows Closed x h))
          ∙ sym (ap cut (more-words w (words_from (x ∷ []) bs) (some_word (x ∷ []) bs (omega arith))))

  -- the payload's word, from its beginning or from within
  payload-from : (bs : List ℕ) (s : State) (w : List ℕ) → Numbered a done s → Reads w s.word s.payload → taken (run s bs) ≡ cut (of_words a (done ++ words_from w bs))
  unfolding run words_from closed worded
  payload-from [] s [] p r =
      taken-open s (rw (reads_none s.word s.payload r).0) ∙ sym (ap cut (short-words a (done ++ []) (omega (arith, length-append {A = List ℕ} done []))))
  payload-from [] s (y ∷ w) p r = ended (complete s.word) refl (reads_end (y ∷ w) s.word s.payload (omega arith) r)
    where
      ended : (t : Bool) → complete s.word ≡ t → Ended (y ∷ w) s.word s.payload → taken s ≡ cut (of_words a (done ++ ((y ∷ w) ∷ [])))
      ended true h q = taken-said s p ∙ rw (q.whether, q.bytes h) (one-cut (y ∷ w))
      ended false h q = taken-open s h ∙ sym (ap cut (no_payload (y ∷ w) [] (sym q.whether ∙ h)))
  payload-from (x ∷ bs) s w p r =
      rw (step-word s x (omega (arith, full s p)))
      (go (is_separator x) refl (record { agreed = p.agreed; held = p.held }) (λ v q. payload-from bs (worded s x) v (record { agreed = p.agreed; held = p.held }) q))
    where
      later : Wish
      later = taken (run (worded s x) bs)

      Next : Type 0
      Next = (v : List ℕ) → Reads v (next_word s.word x) (take 256 (s.payload ++ added s.word x)) → later ≡ cut (of_words a (done ++ words_from v bs))

      ends : (v : List ℕ) (t : Bool) → complete s.word ≡ t → is_separator x ≡ true → Numbered a done (worded s x) → Ended v s.word s.payload
          → later ≡ cut (of_words a (done ++ (v ∷ words_from [] bs)))
      ends v true k h n q =
          closed-from bs (worded s x) v n (next-shuts s.word x h ∙ q.shuts ∙ rw k) (sym q.whether ∙ k)
          (rw (separator-adds s.word x h, q.bytes k) (take-take-nil 256 (payload_of v)))
      ends v false k h n q =
          bad-from bs (worded s x) (full (worded s x) n) (next-shuts s.word x h ∙ q.shuts ∙ rw k)
          ∙ sym (ap cut (no_payload v (words_from [] bs) (sym q.whether ∙ k)))

      shuts : (v : List ℕ) → Reads v s.word s.payload → is_separator x ≡ true → Numbered a done (worded s x) → Next
          → later ≡ cut (of_words a (done ++ (closed v ++ words_from [] bs)))
      shuts [] q h n next =
          let z = reads_none s.word s.payload q in
          next [] (rw (separator-adds s.word x h, z.0, z.1, next-shuts Before x h) (refl, refl))
      shuts (y ∷ v) q h n next = ends (y ∷ v) (complete s.word) refl h n (reads_end (y ∷ v) s.word s.payload (omega arith) q)

      go : (t : Bool) → is_separator x ≡ t → Numbered a done (worded s x) → Next
          → later ≡ cut (of_words a (done ++ cond t (closed w ++ words_from [] bs) (words_from (w ++ (x ∷ [])) bs)))
      go true h n next = shuts w r h n next
      go false h n next = next (w ++ (x ∷ [])) (rw (next_grows s.word x h) (reads_more w s.word s.payload x r))

-- before the payload's word, with these numbers
abbrev within : Bool → text.State → State
within a t = record { head = record { agreed = a; text = t }; word = Before; payload = [] }

step-within : (a : Bool) (t : text.State) (b : ℕ) → length t.numbers < front a → head.fresh (record { agreed = a; text = t }) ≡ false
    → step (within a t) b ≡ within a (text.step t b)
unfolding headed
step-within a t b h f = step-head (within a t) b h ∙ rw (step-on (record { agreed = a; text = t }) b f)

-- a number that can't be taken ends the taking
stuck-from : (bs : List ℕ) (a : Bool) (t : text.State) → t.refused ≡ true → length t.numbers < front a → head.fresh (record { agreed = a; text = t }) ≡ false
    → taken (run (within a t) bs) ≡ bad
unfolding run
stuck-from [] a t p h f = taken-open (within a t) refl
stuck-from (b ∷ bs) a t p h f = rw (step-within a t b h f, step-refused t b p) (stuck-from bs a t p h f)

-- a word that is no number grows into none
first-spoiled : (word bs : List ℕ) → 0 < length word → is_number word ≡ false → is_number (get_or (words_from word bs) 0 []) ≡ false
unfolding words_from
first-spoiled word [] h p = rw (closed-one word h) p
first-spoiled word (b ∷ bs) h p = go (is_separator b) (first-spoiled (word ++ (b ∷ [])) bs (omega (arith, length_more word b)) (spoiled-more word b p))
  where
    go : (t : Bool) → is_number (get_or (words_from (word ++ (b ∷ [])) bs) 0 []) ≡ false
        → is_number (get_or (cond t (closed word ++ words_from [] bs) (words_from (word ++ (b ∷ [])) bs)) 0 []) ≡ false
    go true later = rw (closed-one word h) p
    go false later = later

closed-short : (w : List ℕ) → length (closed w) ≤ 1
unfolding closed
closed-short [] = omega arith
closed-short (b ∷ w) = omega arith

-- one byte more of the numbers, and what comes behind it
module _ (a : Bool) (t : text.State) (b : ℕ) (bs : List ℕ) (behind : head.fresh (record { agreed = a; text = text.step t b }) ≡ false) where
  abbrev later : Wish
  later = taken (run (within a (text.step t b)) bs)

  abbrev Next : Type 0
  Next = (ws : List (List ℕ)) (w : List ℕ) → Stands (text.step t b) ws w → length ws < front a → later ≡ cut (of_words a (ws ++ words_from w bs))

  byte-from : (done : List (List ℕ)) (word : List ℕ) → Stands t done word → length done < front a → Next → later ≡ cut (of_words a (done ++ words_from word (b ∷ bs)))
  unfolding words_from
  byte-from done word p h next = go (is_separator b) refl
    where
      all_there : (ws : List (List ℕ)) (n : Bool) → ltb (length ws) (front a) ≡ n → length ws ≤ front a → Stands (text.step t b) ws [] → later ≡ cut (of_words a (ws ++ words_from [] bs))
      all_there ws true e k r = next ws [] r (ltb-true (length ws) (front a) e)
      all_there ws false e k r =
          payload-from a ws (omega (arith, ltb-false (length ws) (front a) e)) r.good bs (within a (text.step t b)) [] (record { agreed = refl; held = r.held }) (refl, refl)

      few : length t.numbers < front a
      few = rw (p.held, length-map done value_of) h

      go : (u : Bool) → is_separator b ≡ u → later ≡ cut (of_words a (done ++ cond u (closed word ++ words_from [] bs) (words_from (word ++ (b ∷ [])) bs)))
      go true e =
          let is : text.step t b ≡ text.shut t = step-shuts t b p.going e in
          let long : length (done ++ closed word) ≤ front a = omega (arith, length-append done (closed word), closed-short word) in
          rw (← append_assoc done (closed word) (words_from [] bs))
          (⊎_elim (λ r. all_there (done ++ closed word) (ltb (length (done ++ closed word)) (front a)) refl long (rw is r)) (λ r. absurd (omega (arith, r.1, as_bit-le a))) (shut-stands word p))
      go false e =
          ⊎_elim (λ r. next done (word ++ (b ∷ [])) r h)
          (λ r. stuck-from bs a (text.step t b) r.0 (rw (text-keeps t b e) few) behind
          ∙ sym (ap cut (spoiled-words a done (words_from (word ++ (b ∷ [])) bs) h (first-spoiled (word ++ (b ∷ [])) bs (omega (arith, length_more word b)) r.1))))
          (word_more b p e)

-- the text from a state within the numbers on
numbers-from : (bs : List ℕ) (a : Bool) (t : text.State) (done : List (List ℕ)) (word : List ℕ) → head.fresh (record { agreed = a; text = t }) ≡ false
    → Stands t done word → length done < front a → taken (run (within a t) bs) ≡ cut (of_words a (done ++ words_from word bs))
unfolding run words_from
numbers-from [] a t done word f p h =
    taken-open (within a t) refl ∙ sym (ap cut (short-words a (done ++ closed word) (omega (arith, length-append done (closed word), closed-short word))))
numbers-from (b ∷ bs) a t done word f p h =
    let on = behind-stays (record { agreed = a; text = t }) b f in
    rw (step-within a t b (rw (p.held, length-map done value_of) h) f)
    (byte-from a t b bs on done word p h (λ ws w r k. numbers-from bs a (text.step t b) ws w on r k))

-- nothing at all is no wish
nothing : taken start ≡ bad
unfolding start
nothing = taken-open start refl

-- the first byte: a separator, a mark, another
module _ (b : ℕ) where
  start-skips : is_separator b ≡ true → step start b ≡ start
  unfolding start headed head.start text.start
  start-skips e = step-head start b (omega arith) ∙ rw (front-skips b e)

  start-mark : is_mark b ≡ true → step start b ≡ within true text.start
  unfolding start headed head.start text.start
  start-mark e = step-head start b (omega arith) ∙ rw (front-mark b e)

  start_plain : is_mark b ≡ false → step start b ≡ within false (text.step text.start b)
  unfolding start headed head.start text.start
  start_plain e = step-head start b (omega arith) ∙ rw (step-plain head.start b e)

-- scanning a whole text gives the wish, cut
pub scanned : (bytes : List ℕ) → taken (run start bytes) ≡ cut (wish_in bytes)
unfolding run wish_in
scanned [] = nothing
scanned (b ∷ bs) = go (is_separator b) (is_mark b) refl refl (scanned bs)
  where
    go : (t m : Bool) → is_separator b ≡ t → is_mark b ≡ m → taken (run start bs) ≡ cut (wish_in bs)
        → taken (run (step start b) bs) ≡ cut (cond t (wish_in bs) (cond m (agreed_in (words_from [] bs)) (wish_of (words_from [] (b ∷ bs)))))
    go true m e f next = rw (start-skips b e) next
    go false true e f next = rw (start-mark b f) (numbers-from bs true text.start [] [] (behind-mark text.start) stands-start (omega arith))
    go false false e f next =
        let on = behind-word (record { agreed = false; text = text.start }) b e in
        rw (start_plain b f) (byte-from false text.start b bs on [] [] stands-start (omega arith) (λ ws w r k. numbers-from bs false (text.step text.start b) ws w on r k))
