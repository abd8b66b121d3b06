-- Demand 3, of frames with a header and without.
-- Assumes nothing.
use mathlib.Core.Path.{◌≡◌, refl, ◌∙◌}
use mathlib.Core.Bool.{false}
use mathlib.Core.List.{List}
use Prim.Native.Nat.{ℕ, ◌≤◌, ◌<◌}
use native.Mathlib.Omega.{arith}
use Rattle.lora.specs.Count.{cr_of}
use Rattle.lora.specs.declared.Settings.{Settings}
use Rattle.lora.specs.Received.{Received}
use Rattle.promises.specs.Damage.{read_words, block_for, changed_bits, FewSymbols, FewValues, FewBits, Passed, hurt_after_first, hurt_twice, Returned, ReturnedUnless}
use Rattle.promises.proofs.Answers.{FoundAs, never}
use Rattle.promises.proofs.Codewords.{by_bits, by-rate, few-values, few_bits, answered-by, clean, repaired, lost-by-one, lost-by-two, hurt-none, hurt-some, after_first, in-first, twice}

module _ {s : Settings} {payload old sent : List ℕ} {count : ℕ} {arrived buffer buffer' hurts hurts' : List ℕ} {answer : Received}
    (c : Passed s payload old sent count arrived buffer buffer' hurts hurts' answer) where
  -- With at most one changed bit in each codeword read, 4/7 and 4/8 return the sent payload.
  pub one_bit : 3 ≤ cr_of s.kind → FewBits 1 s payload arrived → Returned s payload arrived count buffer buffer' hurts hurts' answer
  one_bit rate few = never (answered-by c (λ _. false) each)
    where
      each : (i : ℕ) → i < read_words s payload → FoundAs (λ _. false) s payload arrived i
      each i h =
          let le = few i h in
          by_bits (changed_bits s payload arrived i) (omega arith)
          (clean c _ i refl)
          (repaired c _ i refl (by-rate c i (λ l e. omega arith) (λ l e. omega arith)))
          (λ e. absurd (omega arith))

  -- So do 4/5 and 4/6, or they refuse with 7, exactly when a codeword read after block 0 has a changed bit.
  pub one-bit-low : cr_of s.kind ≤ 2 → FewBits 1 s payload arrived
      → ReturnedUnless (hurt_after_first s payload arrived) s payload arrived count buffer buffer' hurts hurts' answer
  one-bit-low rate few = answered-by c (hurt_after_first s payload arrived) each
    where
      each : (i : ℕ) → i < read_words s payload → FoundAs (hurt_after_first s payload arrived) s payload arrived i
      each i h =
          let le = few i h in
          by-rate c i
          (λ l r. by_bits (changed_bits s payload arrived i) (omega arith)
          (clean c _ i (in-first s payload arrived i l))
          (repaired c _ i (in-first s payload arrived i l) (omega arith))
          (λ e. absurd (omega arith)))
          (λ l r. by_bits (changed_bits s payload arrived i) (omega arith)
          (λ e. clean c _ i (after_first s payload arrived i l ∙ hurt-none s payload arrived i e) e)
          (λ e. lost-by-one c _ i (after_first s payload arrived i l ∙ hurt-some s payload arrived i (omega arith)) (omega arith) e)
          (λ e. absurd (omega arith)))

  -- At 4/8 with at most two changed bits in each codeword read the answer is the sent payload or refusal 7, the latter exactly
  -- when a codeword that is read has two bits changed.
  pub two-bits : cr_of s.kind ≡ 4 → FewBits 2 s payload arrived
      → ReturnedUnless (hurt_twice s payload arrived) s payload arrived count buffer buffer' hurts hurts' answer
  two-bits rate few = answered-by c (hurt_twice s payload arrived) each
    where
      each : (i : ℕ) → i < read_words s payload → FoundAs (hurt_twice s payload arrived) s payload arrived i
      each i h =
          let four : (block_for s i).rate ≡ 4 = by-rate c i (λ l e. e) (λ l e. e ∙ rate) in
          by_bits (changed_bits s payload arrived i) (few i h)
          (λ e. clean c _ i (twice s payload arrived i 0 e) e)
          (λ e. repaired c _ i (twice s payload arrived i 1 e) (omega arith) e)
          (λ e. lost-by-two c _ i (twice s payload arrived i 2 e) four e)

  -- The same with at most so many symbols in each block that are read as other values: any others may have drifted besides.
  pub one_value : 3 ≤ cr_of s.kind → FewValues 1 s payload sent arrived → Returned s payload arrived count buffer buffer' hurts hurts' answer
  one_value rate few = one_bit rate (few_bits c few)

  pub one-value-low : cr_of s.kind ≤ 2 → FewValues 1 s payload sent arrived
      → ReturnedUnless (hurt_after_first s payload arrived) s payload arrived count buffer buffer' hurts hurts' answer
  one-value-low rate few = one-bit-low rate (few_bits c few)

  pub two-values : cr_of s.kind ≡ 4 → FewValues 2 s payload sent arrived
      → ReturnedUnless (hurt_twice s payload arrived) s payload arrived count buffer buffer' hurts hurts' answer
  two-values rate few = two-bits rate (few_bits c few)

  -- The same with at most so many symbols changed in each block.
  pub one-changed : 3 ≤ cr_of s.kind → FewSymbols 1 s payload sent arrived → Returned s payload arrived count buffer buffer' hurts hurts' answer
  one-changed rate few = one_value rate (few-values c few)

  pub one-changed-low : cr_of s.kind ≤ 2 → FewSymbols 1 s payload sent arrived
      → ReturnedUnless (hurt_after_first s payload arrived) s payload arrived count buffer buffer' hurts hurts' answer
  one-changed-low rate few = one-value-low rate (few-values c few)

  pub two-changed : cr_of s.kind ≡ 4 → FewSymbols 2 s payload sent arrived
      → ReturnedUnless (hurt_twice s payload arrived) s payload arrived count buffer buffer' hurts hurts' answer
  two-changed rate few = two-values rate (few-values c few)
