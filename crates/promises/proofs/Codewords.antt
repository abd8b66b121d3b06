-- From the changed bits of each codeword read to what it is found to be, and on to the answer: what demands 2 and 3 have in common.
-- Assumes nothing.
use mathlib.Core.Path.{◌≡◌, refl, sym, ap, ◌∙◌}
use mathlib.Core.Bool.{Bool, true, false}
use mathlib.Core.List.{List}
use Prim.Native.Nat.{ℕ, zero, suc, ◌-◌, ◌≤◌, ◌<◌}
use native.Mathlib.Omega.{arith}
use lib.Dec.{leb, eqb}
use lib.ListN.{length, get_or}
use borrow.Author.Tests.{leb-true, leb-false, le-leb, lt-leb, ne_eqb}
use Rattle.bits.proofs.Tabs.{get_or-over}
use Rattle.codeword.specs.Codeword.{is_unreadable, is_repaired, nibble_of}
use Rattle.codeword.specs.Found.{Found, unreadable}
use Rattle.layout.specs.Layout.{block_of_codeword, symbols_of}
use Rattle.layout.proofs.LayoutLaws.{block-of-read}
use Rattle.lora.specs.Code.{sent_nibble, sent_symbol, Coding}
use Rattle.lora.specs.Count.{cr_of, frame_of}
use Rattle.lora.specs.declared.Settings.{Settings}
use Rattle.lora.specs.Received.{Received}
use Rattle.lora.proofs.CountLaws.{coded}
use Rattle.reading.specs.Found.{found_at, repaired_in}
use Rattle.promises.specs.Damage.{read_words, block_for, changed_bits, changed_in, FewSymbols, FewValues, FewBits, Passed, hurt, hurt_after_first, hurt_twice, ReturnedUnless}
use Rattle.promises.proofs.Near.{Sent, changed-le, values-le, found_none, found-repaired, found-unreadable, found-double, marks-none, marks-one, rate-in-first, rate-in-later}
use Rattle.promises.proofs.Answers.{FoundAs, answered}
use Rattle.std.specs.Prelude.{Ok}

-- the cells that code wrote are the frame
pub frame-cells : (s : Settings) (payload old sent : List ℕ) (count : ℕ) → Coding s payload old sent (Ok count)
    → (t : ℕ) → t < count → get_or sent t 0 ≡ sent_symbol (frame_of s) payload t
frame-cells s payload old sent count c t h = rw c.cells (get_or-over count (sent_symbol (frame_of s) payload) old t 0 h)

-- a number that is at most 2 is 0, 1 or 2
pub by_bits : {A : Type 0} (n : ℕ) → n ≤ 2 → (n ≡ 0 → A) → (n ≡ 1 → A) → (n ≡ 2 → A) → A
by_bits zero h a b c = a refl
by_bits (suc zero) h a b c = b refl
by_bits (suc (suc zero)) h a b c = c refl
by_bits (suc (suc (suc n))) h a b c = absurd (omega arith)

module _ (s : Settings) (payload arrived : List ℕ) (i : ℕ) where
  pub hurt-none : changed_bits s payload arrived i ≡ 0 → hurt s payload arrived i ≡ false
  unfolding hurt
  hurt-none e = rw e

  pub hurt-some : 0 < changed_bits s payload arrived i → hurt s payload arrived i ≡ true
  unfolding hurt
  hurt-some h = rw (ne_eqb (changed_bits s payload arrived i) 0 (λ e. omega (arith, e, h)))

  -- by its number a codeword stands in block 0 or behind it
  pub after_first : s.sf - 2 ≤ i → hurt_after_first s payload arrived i ≡ hurt s payload arrived i
  unfolding hurt_after_first
  after_first h = rw (le-leb (s.sf - 2) i h)

  pub in-first : i < s.sf - 2 → hurt_after_first s payload arrived i ≡ false
  unfolding hurt_after_first
  in-first h = rw (lt-leb (s.sf - 2) i h)

  pub twice : (n : ℕ) → changed_bits s payload arrived i ≡ n → hurt_twice s payload arrived i ≡ eqb n 2
  unfolding hurt_twice
  twice n e = rw e

module _ {s : Settings} {payload old sent : List ℕ} {count : ℕ} {arrived buffer buffer' hurts hurts' : List ℕ} {answer : Received}
    (c : Passed s payload old sent count arrived buffer buffer' hurts hurts' answer) where
  pub sender : Sent s payload
  sender =
      let k = (coded s payload (length old) count (sym c.coded.answer)).0 in
      record { valid = k.settings; short = k.short; counted = k.said ∙ ap Ok k.is; bytes = c.bytes }

  pub counts : count ≡ symbols_of (frame_of s) (length payload)
  counts = (coded s payload (length old) count (sym c.coded.answer)).0.is

  -- at most as many symbols of a block have changed values as were changed, and a codeword has at most as many changed bits
  pub few-values : {k : ℕ} → FewSymbols k s payload sent arrived → FewValues k s payload sent arrived
  few-values few b h = omega (arith, values-le s sent arrived b, few b h)

  pub few_bits : {k : ℕ} → FewValues k s payload sent arrived → FewBits k s payload arrived
  few_bits few i h =
      omega (
        arith,
        changed-le s payload sent arrived sender (λ t l. frame-cells s payload old sent count c.coded t (omega (arith, counts))) i h,
        few (block_of_codeword (frame_of s) i) (block-of-read (frame_of s) sender.valid i (read_words s payload) h),
      )

  -- the rate at which codeword i is read
  pub by-rate : {A : Type 0} (i : ℕ) → (i < s.sf - 2 → (block_for s i).rate ≡ 4 → A) → (s.sf - 2 ≤ i → (block_for s i).rate ≡ cr_of s.kind → A) → A
  by-rate {A = A} i a b = at (leb (s.sf - 2) i) refl
    where
      at : (t : Bool) → leb (s.sf - 2) i ≡ t → A
      at true e = let l = leb-true (s.sf - 2) i e in b l (rate-in-later s i l)
      at false e = let l = leb-false (s.sf - 2) i e in a l (rate-in-first s i l)

  pub answered-by : (test : ℕ → Bool) → ((i : ℕ) → i < read_words s payload → FoundAs test s payload arrived i)
      → ReturnedUnless test s payload arrived count buffer buffer' hurts hurts' answer
  answered-by test each =
      rw counts
      (answered test s payload arrived buffer buffer' hurts hurts' answer sender (omega (arith, counts, c.enough)) (λ t l. c.below t (omega (arith, counts)))
      c.room (omega (arith, counts, c.lists)) c.read each)

  module _ (test : ℕ → Bool) (i : ℕ) where
    -- a codeword whose nibble comes back, repaired where it has a changed bit
    read_back : {found : Found} → found_at (frame_of s) arrived i ≡ found → test i ≡ false → is_unreadable found ≡ false → is_repaired found ≡ hurt s payload arrived i
        → nibble_of found ≡ sent_nibble (frame_of s) payload i → ((t : ℕ) → repaired_in (frame_of s) arrived t i ≡ changed_in s payload arrived t i)
        → FoundAs test s payload arrived i
    read_back e f unread repaired nibble marks =
        record {
          unreadable = ap is_unreadable e ∙ unread ∙ sym f;
          repaired = λ _. ap is_repaired e ∙ repaired;
          nibble = λ _. ap nibble_of e ∙ nibble;
          marks = λ _. marks;
        }

    -- with no changed bit it is taken, and with one repaired at 4/7 and 4/8
    pub clean : test i ≡ false → changed_bits s payload arrived i ≡ 0 → FoundAs test s payload arrived i
    clean f e = read_back (found_none s payload arrived sender i e) f refl (sym (hurt-none s payload arrived i e)) refl (λ t. marks-none s payload arrived sender i t e)

    pub repaired : test i ≡ false → 3 ≤ (block_for s i).rate → changed_bits s payload arrived i ≡ 1 → FoundAs test s payload arrived i
    repaired f r e = read_back (found-repaired s payload arrived sender i r e) f refl (sym (hurt-some s payload arrived i (omega arith))) refl
        (λ t. marks-one s payload arrived sender i t r e)

    -- with one at 4/5 and 4/6, and with two at 4/8, it can't be read
    lost : found_at (frame_of s) arrived i ≡ unreadable → test i ≡ true → FoundAs test s payload arrived i
    lost e f =
        record {
          unreadable = ap is_unreadable e ∙ sym f;
          repaired = λ t. absurd (let z : ◌≡◌ {A = ℕ} 0 1 = cc in omega arith);
          nibble = λ t. absurd (let z : ◌≡◌ {A = ℕ} 0 1 = cc in omega arith);
          marks = λ t. absurd (let z : ◌≡◌ {A = ℕ} 0 1 = cc in omega arith);
        }

    pub lost-by-one : test i ≡ true → (block_for s i).rate ≤ 2 → changed_bits s payload arrived i ≡ 1 → FoundAs test s payload arrived i
    lost-by-one f r e = lost (found-unreadable s payload arrived sender i r e) f

    pub lost-by-two : test i ≡ true → (block_for s i).rate ≡ 4 → changed_bits s payload arrived i ≡ 2 → FoundAs test s payload arrived i
    lost-by-two f r e = lost (found-double s payload arrived sender i r e) f
