-- From what each codeword is found to be to what read answers and leaves in the lent buffer.
-- Assumes nothing.
use mathlib.Core.Path.{◌≡◌, refl, sym, ap, ◌∙◌}
use mathlib.Core.Bool.{Bool, true, false, cond}
use mathlib.Core.List.{List}
use Prim.Native.Nat.{ℕ, ◌^◌, ◌≤◌, ◌<◌}
use native.Mathlib.Omega.{arith}
use lib.Dec.{ltb}
use lib.ListN.{length, get_or}
use borrow.Author.Tests.{ltb-true, ltb-false, le-ltb}
use Rattle.bits.specs.Search.{first, how_many}
use Rattle.bits.specs.Tab.{over}
use Rattle.bits.proofs.Tabs.{over-cong}
use Rattle.bits.proofs.Searches.{first-none, first-is, first_found, first-before, how_many-cong}
use Rattle.layout.specs.Layout.{symbols_of}
use Rattle.lora.specs.Code.{sent_nibble}
use Rattle.lora.specs.Count.{expected_of, frame_of}
use Rattle.lora.specs.Read.{hurt_found, bytes_after, hurts_after, Reading}
use Rattle.lora.specs.declared.Settings.{Settings}
use Rattle.lora.specs.Received.{Received}
use Rattle.reading.specs.Found.{found_at, unreadable_at, repaired_at, nibble_at, repaired_in, hurt_at}
use Rattle.promises.specs.Damage.{read_words, changed_in, changed_by_symbol, hurt, Returned, RefusedAt, ReturnedUnless}
use Rattle.promises.proofs.Near.{Sent}
use Rattle.promises.proofs.Outcome.{read-refused, read_whole, cells_are}
use Rattle.refusal.specs.Refusal.{refuse}

-- what a codeword is found to be: it can't be read exactly where the test holds, and else its nibble comes back, repaired exactly
-- where it has a changed bit, and in the symbol that changed it
pub record FoundAs (test : ℕ → Bool) (s : Settings) (payload arrived : List ℕ) (i : ℕ) : Type 0 where
  pub unreadable : unreadable_at (found_at (frame_of s) arrived) i ≡ test i
  pub repaired : test i ≡ false → repaired_at (found_at (frame_of s) arrived) i ≡ hurt s payload arrived i
  pub nibble : test i ≡ false → nibble_at (found_at (frame_of s) arrived) i ≡ sent_nibble (frame_of s) payload i
  pub marks : test i ≡ false → (t : ℕ) → repaired_in (frame_of s) arrived t i ≡ changed_in s payload arrived t i

module _ (test : ℕ → Bool) (s : Settings) (payload arrived old new hurts hurts' : List ℕ) (answer : Received) (p : Sent s payload)
    (enough : symbols_of (frame_of s) (length payload) ≤ length arrived)
    (below : (t : ℕ) → t < symbols_of (frame_of s) (length payload) → get_or arrived t 0 < 2 ^ s.sf)
    (fits : length payload ≤ length old)
    (lists : symbols_of (frame_of s) (length payload) ≤ length hurts)
    (reading : Reading s.sf s.low (expected_of s.kind) arrived old new hurts hurts' answer)
    (each : (i : ℕ) → i < read_words s payload → FoundAs test s payload arrived i) where
  good : (i : ℕ) → i < read_words s payload → unreadable_at (found_at (frame_of s) arrived) i ≡ false
      → nibble_at (found_at (frame_of s) arrived) i ≡ sent_nibble (frame_of s) payload i
  good i h e = (each i h).nibble (sym (each i h).unreadable ∙ e)

  -- each symbol's repairs are the codewords in which it changed a bit
  marks-are : ((i : ℕ) → i < read_words s payload → test i ≡ false)
      → over (symbols_of (frame_of s) (length payload)) (hurt_found (frame_of s) arrived (length payload)) hurts
      ≡ over (symbols_of (frame_of s) (length payload)) (changed_by_symbol s payload arrived) hurts
  unfolding hurt_found hurt_at changed_by_symbol read_words
  marks-are none = over-cong _ _ _ hurts (λ t l. how_many-cong _ _ (read_words s payload) (λ i h. (each i h).marks (none i h) t))

  returned : ((i : ℕ) → i < read_words s payload → test i ≡ false) → Returned s payload arrived (symbols_of (frame_of s) (length payload)) old new hurts hurts' answer
  returned none =
      let all : first (unreadable_at (found_at (frame_of s) arrived)) (read_words s payload) 0 ≡ read_words s payload
      = first-none _ (read_words s payload) 0 (λ i a b. (each i (omega arith)).unreadable ∙ none i (omega arith)) ∙ omega arith in
      let repairs : how_many (repaired_at (found_at (frame_of s) arrived)) (read_words s payload) ≡ how_many (hurt s payload arrived) (read_words s payload)
      = how_many-cong _ _ (read_words s payload) (λ i h. (each i h).repaired (none i h)) in
      let says = reading.answer ∙ read_whole s payload arrived p enough below good all (length old) (length hurts) fits lists in
      record {
        says = rw repairs at says;
        cells = reading.cells ∙ ap (λ (r : Received). bytes_after r s.sf s.low (expected_of s.kind) arrived old) says ∙ cells_are s payload arrived p enough below good all old;
        marks = reading.marks ∙ ap (λ (r : Received). hurts_after r s.sf s.low (expected_of s.kind) arrived hurts) says ∙ marks-are none;
      }

  refused : (i : ℕ) → i < read_words s payload → test i ≡ true → ((k : ℕ) → k < i → test k ≡ false) → RefusedAt i old new hurts hurts' answer
  refused i h holds before =
      let at : first (unreadable_at (found_at (frame_of s) arrived)) (read_words s payload) 0 ≡ i
      = first-is _ (read_words s payload) 0 i (omega arith) (omega arith) ((each i h).unreadable ∙ holds) (λ k a b. (each k (omega arith)).unreadable ∙ before k b) in
      let says : answer ≡ refuse 7 i
      = reading.answer ∙ rw at at (read-refused s payload arrived p enough below good (length old) (length hurts) fits lists (rw at h)) in
      record {
        says = says;
        cells = reading.cells ∙ ap (λ (r : Received). bytes_after r s.sf s.low (expected_of s.kind) arrived old) says;
        marks = reading.marks ∙ ap (λ (r : Received). hurts_after r s.sf s.low (expected_of s.kind) arrived hurts) says;
      }

  pub answered : ReturnedUnless test s payload arrived (symbols_of (frame_of s) (length payload)) old new hurts hurts' answer
  answered = record { decided = by (ltb at (read_words s payload)) refl }
    where
      at : ℕ
      at = first test (read_words s payload) 0

      by : (t : Bool) → ltb at (read_words s payload) ≡ t
          → cond t (RefusedAt at old new hurts hurts' answer) (Returned s payload arrived (symbols_of (frame_of s) (length payload)) old new hurts hurts' answer)
      by true f =
          let l : at < read_words s payload = ltb-true at (read_words s payload) f in
          refused at l (first_found test (read_words s payload) 0 (omega arith)) (λ k h. first-before test (read_words s payload) 0 k (omega arith) h)
      by false f =
          let l : read_words s payload ≤ at = ltb-false at (read_words s payload) f in
          returned (λ i h. first-before test (read_words s payload) 0 i (omega arith) (omega arith))

-- where the test holds of no codeword the payload is returned
pub never : {s : Settings} {payload arrived old new hurts hurts' : List ℕ} {count : ℕ} {answer : Received}
    → ReturnedUnless (λ _. false) s payload arrived count old new hurts hurts' answer → Returned s payload arrived count old new hurts hurts' answer
never {s} {payload} r =
    let none : first (λ _. false) (read_words s payload) 0 ≡ read_words s payload = first-none (λ _. false) (read_words s payload) 0 (λ k a b. refl) ∙ omega arith in
    rw (none, le-ltb (read_words s payload) (read_words s payload) (omega arith)) at r.decided
