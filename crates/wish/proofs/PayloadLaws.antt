-- The payload's word, byte by byte: what stands of it in the scanner's state.
-- Assumes nothing.
use mathlib.Core.Path.{◌≡◌, refl, sym, ap, ◌∙◌}
use mathlib.Core.Bool.{Bool, true, false, ◌||◌, cond, and-false, true≢false, false≢true}
use mathlib.Core.List.{List, [], ◌∷◌, ◌++◌, append_assoc, append-nil}
use Prim.Native.Nat.{ℕ, ◌+◌, ◌*◌, ◌%◌, ◌<◌}
use native.Mathlib.Omega.{arith}
use borrow.Author.Tests.{eqb-true}
use lib.Dec.{eqb}
use lib.ListN.{length, take}
use Rattle.bits.proofs.Lists.{length_more, take-take-append, take-take-nil}
use Rattle.bits.proofs.Truth.{refuted}
use Rattle.text.specs.Text.{is_separator, all}
use Rattle.text.proofs.TextLaws.{all_more}
use Rattle.wish.specs.Wish.{is_hex, hex_value, bytes_of, is_hyphen, is_payload, payload_of}
use Rattle.wish.specs.Scan.{shut_word, grown_word, added, complete}
use Rattle.wish.specs.declared.Word.{Word}
use Rattle.wish.specs.declared.Word.TheVariants.{Before, Hyphen, Whole, Half, Closed, Bad}
use Rattle.wish.proofs.HexLaws.{hex-small}
use Rattle.wish.proofs.ScanLaws.{added-no-low, added-one}

-- two digits more, and what is a hyphen
bytes-more : (word rest : List ℕ) → length word % 2 ≡ 0 → bytes_of (word ++ rest) ≡ bytes_of word ++ bytes_of rest
unfolding bytes_of
bytes-more [] rest e = refl
bytes-more (a ∷ []) rest e = absurd (omega arith)
bytes-more (a ∷ b ∷ word) rest e = rw (bytes-more word rest (omega arith))

long-no-hyphen : (word : List ℕ) → 1 < length word → is_hyphen word ≡ false
unfolding is_hyphen
long-no-hyphen [] h = refl
long-no-hyphen (b ∷ []) h = absurd (omega arith)
long-no-hyphen (b ∷ c ∷ word) h = refl

hex-no-hyphen : (word : List ℕ) → all is_hex word ≡ true → is_hyphen word ≡ false
unfolding is_hyphen all
hex-no-hyphen [] p = refl
hex-no-hyphen (b ∷ []) p = refuted (eqb b 45) (λ e. let f : b ≡ 45 = eqb-true b 45 e in true≢false (sym p ∙ rw f))
hex-no-hyphen (b ∷ c ∷ word) p = refl

-- whole bytes; whole bytes and an upper digit; no payload, whatever follows
pub record Even (word payload : List ℕ) : Type 0 where
  some : 0 < length word
  hex : all is_hex word ≡ true
  pairs : length word % 2 ≡ 0
  bytes : payload ≡ take 256 (bytes_of word)

pub record Odd (word : List ℕ) (high : ℕ) (payload : List ℕ) : Type 0 where
  hex : all is_hex word ≡ true
  odd : length word % 2 ≡ 1
  small : high < 16
  bytes : payload ≡ take 256 (bytes_of word)
  next : (b : ℕ) → bytes_of (word ++ (b ∷ [])) ≡ bytes_of word ++ ((high * 16 + hex_value b) ∷ [])

pub record Spoiled (word : List ℕ) : Type 0 where
  some : 0 < length word
  alone : is_hyphen word ≡ false
  other : all is_hex word ≡ false

-- what stands in the state of a word that is open
abbrev pub Reads : List ℕ → Word → List ℕ → Type 0
Reads word Before payload = (word ≡ []) × (payload ≡ [])
Reads word Hyphen payload = (word ≡ 45 ∷ []) × (payload ≡ [])
Reads word Whole payload = Even word payload
Reads word (Half high) payload = Odd word high payload
Reads word Closed payload = ⊥
Reads word Bad payload = Spoiled word

-- an upper digit behind whole bytes
upper : {payload : List ℕ} (word : List ℕ) (b : ℕ) → all is_hex word ≡ true → length word % 2 ≡ 0 → payload ≡ take 256 (bytes_of word) → is_hex b ≡ true
    → Odd (word ++ (b ∷ [])) (hex_value b) payload
unfolding bytes_of
upper word b p e q h =
    record {
      hex = rw (all_more is_hex word b, p, h);
      odd = omega (arith, length_more word b);
      small = hex-small b h;
      bytes = q ∙ ap (take 256) (sym same);
      next = λ x. rw (append_assoc word (b ∷ []) (x ∷ []), same) (bytes-more word (b ∷ x ∷ []) e);
    }
  where
    same : bytes_of (word ++ (b ∷ [])) ≡ bytes_of word
    same = bytes-more word (b ∷ []) e ∙ append-nil (bytes_of word)

-- any byte that is no digit spoils a word that has begun
spoils : (word : List ℕ) (b : ℕ) → 0 < length word → is_hex b ≡ false → Spoiled (word ++ (b ∷ []))
spoils word b h e =
    record {
      some = omega (arith, length_more word b);
      alone = long-no-hyphen (word ++ (b ∷ [])) (omega (arith, length_more word b));
      other = rw (all_more is_hex word b, e) (and-false (all is_hex word));
    }

-- a byte more that is no separator
pub reads_more : (word : List ℕ) (w : Word) (payload : List ℕ) (b : ℕ) → Reads word w payload
    → Reads (word ++ (b ∷ [])) (grown_word w b) (take 256 (payload ++ added w b))
unfolding bytes_of all is_hyphen added
reads_more word Before payload b (e, q) = rw (e, q) (go (eqb b 45) (is_hex b) refl refl)
  where
    go : (t h : Bool) → eqb b 45 ≡ t → is_hex b ≡ h → Reads (b ∷ []) (cond t Hyphen (cond h (Half (hex_value b)) Bad)) []
    go true h f g = (rw (eqb-true b 45 f), refl)
    go false true f g = upper [] b refl refl refl g
    go false false f g = record { some = omega arith; alone = f; other = rw g }
reads_more word Hyphen payload b (e, q) = rw e (record { some = omega arith; alone = refl; other = refl })
reads_more word Whole payload b p =
    rw (p.bytes, take-take-nil 256 (bytes_of word)) (go (is_hex b) refl)
  where
    go : (h : Bool) → is_hex b ≡ h → Reads (word ++ (b ∷ [])) (cond h (Half (hex_value b)) Bad) (take 256 (bytes_of word))
    go true g = upper word b p.hex p.pairs refl g
    go false g = spoils word b p.some g
reads_more word (Half high) payload b p = go (is_hex b) refl
  where
    go : (h : Bool) → is_hex b ≡ h → Reads (word ++ (b ∷ [])) (cond h Whole Bad) (take 256 (payload ++ added (Half high) b))
    go true g =
        record {
          some = omega (arith, length_more word b);
          hex = rw (all_more is_hex word b, p.hex, g);
          pairs = omega (arith, length_more word b, p.odd);
          bytes = rw (added-one high b p.small g, p.bytes, p.next b) (take-take-append 256 (bytes_of word) ((high * 16 + hex_value b) ∷ []));
        }
    go false g = spoils word b (omega (arith, p.odd)) g
reads_more word Closed payload b p = absurd p
reads_more word Bad payload b p =
    record {
      some = omega (arith, length_more word b);
      alone = long-no-hyphen (word ++ (b ∷ [])) (omega (arith, length_more word b, p.some));
      other = rw (all_more is_hex word b, p.other);
    }

-- a word that ends is a payload or none
pub record Ended (word : List ℕ) (w : Word) (payload : List ℕ) : Type 0 where
  pub whether : complete w ≡ is_payload word
  pub bytes : complete w ≡ true → payload ≡ take 256 (payload_of word)
  pub shuts : shut_word w ≡ cond (complete w) Closed Bad

pub reads_end : (word : List ℕ) (w : Word) (payload : List ℕ) → 0 < length word → Reads word w payload → Ended word w payload
unfolding is_payload payload_of is_hyphen bytes_of
reads_end word Before payload h (e, q) = absurd (omega (arith, ap length e))
reads_end word Hyphen payload h (e, q) = rw (e, q) (record { whether = refl; bytes = λ t. refl; shuts = refl })
reads_end word Whole payload h p =
    let none = hex-no-hyphen word p.hex in
    record { whether = rw (none, p.hex, p.pairs); bytes = λ t. rw (none, p.bytes); shuts = refl }
reads_end word (Half high) payload h p =
    record { whether = rw (hex-no-hyphen word p.hex, p.hex, p.odd); bytes = λ t. absurd (false≢true t); shuts = refl }
reads_end word Closed payload h p = absurd p
reads_end word Bad payload h p =
    record { whether = rw (p.alone, p.other); bytes = λ t. absurd (false≢true t); shuts = refl }

-- nothing of a word is open before it begins
pub reads_none : (w : Word) (payload : List ℕ) → Reads [] w payload → (w ≡ Before) × (payload ≡ [])
reads_none Before payload (e, q) = (refl, q)
reads_none Hyphen payload (e, q) = absurd (omega (arith, ap length e))
reads_none Whole payload p = absurd (omega (arith, p.some))
reads_none (Half high) payload p = absurd (omega (arith, p.odd))
reads_none Closed payload p = absurd p
reads_none Bad payload p = absurd (omega (arith, p.some))

-- a separator is no digit, so that it adds nothing
pub separator-adds : (w : Word) (b : ℕ) → is_separator b ≡ true → added w b ≡ []
separator-adds w b e = added-no-low w b (no_digit (eqb b 32) (eqb b 10) refl refl e)
  where
    no_digit : (s t : Bool) → eqb b 32 ≡ s → eqb b 10 ≡ t → s || t ≡ true → is_hex b ≡ false
    no_digit true t p q h = rw (eqb-true b 32 p)
    no_digit false true p q h = rw (eqb-true b 10 q)
    no_digit false false p q h = absurd (false≢true h)
