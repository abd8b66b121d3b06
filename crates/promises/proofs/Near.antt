-- Damage is local: what changed symbols do to a codeword, and what it is found to be.
-- Assumes nothing.
use mathlib.Core.Path.{◌≡◌, refl, sym, ap, ◌∙◌}
use mathlib.Core.Bool.{Bool, true, false, not, ◌&&◌}
use mathlib.Core.List.{List}
use Prim.Native.Nat.{ℕ, ◌+◌, ◌-◌, ◌^◌, ◌≤◌, ◌<◌}
use native.Mathlib.Decide.{ℕ_discrete}
use native.Mathlib.Omega.{arith}
use lib.Dec.{eqb, leb, ltb}
use lib.ListN.{length, get_or}
use borrow.Author.Tests.{leb-true, leb-false, ltb-true, ltb-false, eq-eqb, ne_eqb}
use Rattle.bits.specs.Bit.{bit}
use Rattle.bits.specs.Search.{how_many}
use Rattle.bits.specs.Tab.{Bytes}
use Rattle.bits.proofs.Searches.{how_many-cong, how_many-mono, how_many-zero}
use Rattle.block.specs.Gray.{value_of_number}
use Rattle.block.proofs.BlockLaws.{local, wrong-bits, not-eqb-mono}
use Rattle.codeword.specs.Codeword.{codeword, apart, bit_to, read_as}
use Rattle.codeword.specs.Ranges.{Rate}
use Rattle.codeword.specs.Found.{Found, taken, repaired, unreadable}
use Rattle.codeword.proofs.CodeLaws as code
use Rattle.coding.specs.Symbols.{codeword_in_block, symbol_in_block}
use Rattle.coding.proofs.CodingLaws.{frame-nibble-lt, symbol-of-block}
use Rattle.layout.specs.Ranges.{Valid}
use Rattle.layout.specs.Layout.{block_of_codeword, later_blocks, symbols_of}
use Rattle.layout.specs.declared.Block.{Block}
use Rattle.layout.proofs.LayoutLaws.{codeword-place, block-of-read, rate-first, rate-later, rate-fits, symbols-below}
use Rattle.lora.specs.Code.{sent_nibble, sent_symbol}
use Rattle.lora.specs.Count.{cr_of, checked_of, frame_of, count_of}
use Rattle.lora.specs.declared.Settings.{Settings}
use Rattle.lora.proofs.SendLaws.{sendable}
use Rattle.reading.specs.Found.{word_in_block, found_in_block, found_at, symbol_of_bit, repaired_in}
use Rattle.reading.proofs.ReadingLaws.{word_lt}
use Rattle.promises.specs.Damage.{read_words, block_at, block_for, sent_word, arrived_word, changed_bits, changed_in, changed_symbols, value_in, changed_values}
use Rattle.std.specs.Prelude.{Ok}

-- bits that stand in the symbols from the first on: none, or one, in its symbol
no-bit : (first columns t : ℕ) (p : ℕ → Bool) → ((j : ℕ) → j < columns → p j ≡ false) → false ≡ (leb first t && (ltb (t - first) columns && p (t - first)))
no-bit first columns t p none = by (leb first t) (ltb (t - first) columns) refl
  where
    by : (a b : Bool) → ltb (t - first) columns ≡ b → false ≡ (a && (b && p (t - first)))
    by false b e = refl
    by true false e = refl
    by true true e = sym (none (t - first) (ltb-true (t - first) columns e))

one_bit : (first columns k t : ℕ) (p : ℕ → Bool) → k < columns → ((j : ℕ) → j < columns → p j ≡ eqb j k)
    → eqb (first + k) t ≡ (leb first t && (ltb (t - first) columns && p (t - first)))
one_bit first columns k t p l one = by (leb first t) (ltb (t - first) columns) refl refl
  where
    at : first ≤ t → Dec (t - first ≡ k) → eqb (first + k) t ≡ eqb (t - first) k
    at h (yes e) = eq-eqb (first + k) t (omega arith) ∙ sym (eq-eqb (t - first) k e)
    at h (no e) = ne_eqb (first + k) t (λ q. e (omega arith)) ∙ sym (ne_eqb (t - first) k e)

    by : (a b : Bool) → leb first t ≡ a → ltb (t - first) columns ≡ b → eqb (first + k) t ≡ (a && (b && p (t - first)))
    by false b d e = ne_eqb (first + k) t (λ q. omega (arith, leb-false first t d))
    by true false d e = ne_eqb (first + k) t (λ q. omega (arith, ltb-false (t - first) columns e))
    by true true d e = at (leb-true first t d) (ℕ_discrete (t - first) k) ∙ sym (one (t - first) (ltb-true (t - first) columns e))

-- valid settings, and a payload of a length that they take
pub record Sent (s : Settings) (payload : List ℕ) : Type 0 where
  pub valid : Valid (frame_of s)
  pub short : length payload ≤ 255
  pub counted : count_of s (length payload) ≡ Ok (symbols_of (frame_of s) (length payload))
  pub bytes : Bytes payload

pub sent-nibble-lt : (s : Settings) (payload : List ℕ) → Sent s payload → (i : ℕ) → sent_nibble (frame_of s) payload i < 16
unfolding sent_nibble
sent-nibble-lt s payload p i =
    frame-nibble-lt {F = frame_of s} _ payload (checked_of s.kind) i (sendable (frame_of s) (length payload) p.valid payload refl p.short) p.bytes

-- codeword i stands in a row of its block
row_of : (s : Settings) → Valid (frame_of s) → (i : ℕ) → ((block_for s i).codeword + (i - (block_for s i).codeword) ≡ i) × (i - (block_for s i).codeword < (block_for s i).rows)
unfolding block_for block_at
row_of s v i =
    let (from, below) = codeword-place (frame_of s) v i in
    (omega arith, omega arith)

own-word : (s : Settings) (payload : List ℕ) → Valid (frame_of s) → (i : ℕ)
    → codeword_in_block (block_for s i) (sent_nibble (frame_of s) payload) (i - (block_for s i).codeword) ≡ sent_word s payload i
unfolding codeword_in_block sent_word
own-word s payload v i = rw (row_of s v i).0

module _ (s : Settings) (payload sent arrived : List ℕ) (p : Sent s payload)
    (frame : (t : ℕ) → t < symbols_of (frame_of s) (length payload) → get_or sent t 0 ≡ sent_symbol (frame_of s) payload t) where
  -- the symbols of a block as they were sent
  sent-in-block : (b j : ℕ) → b ≤ later_blocks (frame_of s) (read_words s payload) → j < 4 + (block_at s b).rate
      → get_or sent ((block_at s b).symbol + j) 0 ≡ symbol_in_block (block_at s b) (sent_nibble (frame_of s) payload) j
  unfolding block_at sent_symbol sent_nibble read_words symbols_of
  sent-in-block b j h l =
      let within = symbols-below (frame_of s) p.valid (read_words s payload) b h in
      frame _ (omega arith) ∙ symbol-of-block (frame_of s) (sent_nibble (frame_of s) payload) b j p.valid l

  -- a symbol that is read as the value that was sent changes no bit of a codeword
  pub same_bit : (i j : ℕ) → i < read_words s payload → j < 4 + (block_for s i).rate → value_in (block_for s i) arrived j ≡ value_in (block_for s i) sent j
      → bit j (arrived_word s arrived i) ≡ bit j (sent_word s payload i)
  unfolding value_in arrived_word block_for word_in_block symbol_in_block
  same_bit i j h l e =
      let b : ℕ = block_of_codeword (frame_of s) i in
      let B : Block = block_at s b in
      let own : symbol_in_block B (sent_nibble (frame_of s) payload) j ≡ get_or sent (B.symbol + j) 0 = sym (sent-in-block b j (block-of-read (frame_of s) p.valid i (read_words s payload) h) l) in
      local B.rows (4 + B.rate) B.spaced (codeword_in_block B (sent_nibble (frame_of s) payload)) (λ k. get_or arrived (B.symbol + k) 0) (i - B.codeword) j (row_of s p.valid i).1 l
      (e ∙ ap (value_of_number B.rows B.spaced) (sym own))
      ∙ ap (bit j) (own-word s payload p.valid i)

  -- a codeword has at most as many changed bits as its block has symbols with changed values
  pub changed-le : (i : ℕ) → i < read_words s payload → changed_bits s payload arrived i ≤ changed_values s sent arrived (block_of_codeword (frame_of s) i)
  unfolding changed_bits changed_values value_in arrived_word sent_word block_for apart word_in_block symbol_in_block
  changed-le i h =
      let b : ℕ = block_of_codeword (frame_of s) i in
      let B : Block = block_at s b in
      let row : i - B.codeword < B.rows = (row_of s p.valid i).1 in
      let own : codeword_in_block B (sent_nibble (frame_of s) payload) (i - B.codeword) ≡ codeword B.rate (sent_nibble (frame_of s) payload i) = own-word s payload p.valid i in
      let value : ℕ → ℕ = value_of_number B.rows B.spaced in
      let count : how_many (λ j. not (eqb (value (get_or arrived (B.symbol + j) 0)) (value (get_or sent (B.symbol + j) 0)))) (4 + B.rate)
      ≡ how_many (λ j. not (eqb (value (get_or arrived (B.symbol + j) 0)) (value (symbol_in_block B (sent_nibble (frame_of s) payload) j)))) (4 + B.rate)
      = how_many-cong _ _ (4 + B.rate)
      (λ j l. ap (λ (x : ℕ). not (eqb (value (get_or arrived (B.symbol + j) 0)) (value x))) (sent-in-block b j (block-of-read (frame_of s) p.valid i (read_words s payload) h) l)) in
      rw count
      (rw own at (wrong-bits B.rows (4 + B.rate) B.spaced (codeword_in_block B (sent_nibble (frame_of s) payload)) (λ j. get_or arrived (B.symbol + j) 0) (i - B.codeword) row))

-- a symbol with a changed value is a changed symbol
pub values-le : (s : Settings) (sent arrived : List ℕ) (b : ℕ) → changed_values s sent arrived b ≤ changed_symbols s sent arrived b
unfolding changed_values changed_symbols value_in
values-le s sent arrived b =
    how_many-mono _ _ (4 + (block_at s b).rate) (λ j l. not-eqb-mono _ _ _ _ (ap (value_of_number (block_at s b).rows (block_at s b).spaced)))

-- what a codeword is found to be, by its changed bits
module _ (s : Settings) (payload arrived : List ℕ) (p : Sent s payload) where
  found : ℕ → Found
  found = found_at (frame_of s) arrived

  rate-ok : (i : ℕ) → Rate (block_for s i).rate
  unfolding block_for block_at
  rate-ok i =
      let (low, high) = rate-fits (frame_of s) p.valid (block_of_codeword (frame_of s) i) in
      record { low = low; high = high }

  found-is : (i : ℕ) → found i ≡ read_as (block_for s i).rate (arrived_word s arrived i)
  unfolding found found_at found_in_block arrived_word block_for block_at
  found-is i = refl

  arrived-lt : (i : ℕ) → arrived_word s arrived i < 2 ^ (4 + (block_for s i).rate)
  unfolding arrived_word
  arrived-lt i = word_lt (block_for s i) arrived (i - (block_for s i).codeword)

  -- the bit that flips the word received to the one sent
  abbrev flipped_in : ℕ → ℕ
  flipped_in i = bit_to (block_for s i).rate (arrived_word s arrived i) (sent_nibble (frame_of s) payload i)

  -- no changed bit: it is taken
  pub found_none : (i : ℕ) → changed_bits s payload arrived i ≡ 0 → found_at (frame_of s) arrived i ≡ taken (sent_nibble (frame_of s) payload i)
  unfolding changed_bits sent_word found
  found_none i e = found-is i ∙ code.found-same _ _ _ (rate-ok i) (arrived-lt i) (sent-nibble-lt s payload p i) e

  -- one: it is repaired at 4/7 and 4/8, and can't be read at 4/5 and 4/6
  pub found-repaired : (i : ℕ) → 3 ≤ (block_for s i).rate → changed_bits s payload arrived i ≡ 1
      → found_at (frame_of s) arrived i ≡ repaired (sent_nibble (frame_of s) payload i) (flipped_in i)
  unfolding changed_bits sent_word found
  found-repaired i h e = found-is i ∙ code.found-repaired _ _ _ (rate-ok i) (arrived-lt i) (sent-nibble-lt s payload p i) h e

  pub found-unreadable : (i : ℕ) → (block_for s i).rate ≤ 2 → changed_bits s payload arrived i ≡ 1 → found_at (frame_of s) arrived i ≡ unreadable
  unfolding changed_bits sent_word found
  found-unreadable i h e = found-is i ∙ code.found-unreadable _ _ _ (rate-ok i) (arrived-lt i) (sent-nibble-lt s payload p i) h e

  -- two at 4/8: it can't be read
  pub found-double : (i : ℕ) → (block_for s i).rate ≡ 4 → changed_bits s payload arrived i ≡ 2 → found_at (frame_of s) arrived i ≡ unreadable
  unfolding changed_bits sent_word found
  found-double i h e =
      found-is i ∙ rw h (code.found-two (arrived_word s arrived i) (sent_nibble (frame_of s) payload i) (rw h at (arrived-lt i)) (sent-nibble-lt s payload p i) (rw h at e))

  -- it is repaired in the symbols that changed a bit of it: in none, or in one
  pub marks-none : (i t : ℕ) → changed_bits s payload arrived i ≡ 0 → repaired_in (frame_of s) arrived t i ≡ changed_in s payload arrived t i
  unfolding repaired_in changed_in changed_bits apart
  marks-none i t e =
      rw (found_none i e)
      (no-bit (block_for s i).symbol (4 + (block_for s i).rate) t (λ j. not (eqb (bit j (arrived_word s arrived i)) (bit j (sent_word s payload i)))) (how_many-zero _ _ e))

  pub marks-one : (i t : ℕ) → 3 ≤ (block_for s i).rate → changed_bits s payload arrived i ≡ 1 → repaired_in (frame_of s) arrived t i ≡ changed_in s payload arrived t i
  unfolding repaired_in changed_in changed_bits symbol_of_bit sent_word block_for block_at
  marks-one i t h e =
      let (within, flip) = code.flip-found _ _ _ (rate-ok i) (arrived-lt i) (sent-nibble-lt s payload p i) e in
      rw (found-repaired i h e)
      (one_bit (block_for s i).symbol (4 + (block_for s i).rate) (flipped_in i) t _ within (λ j l. code.differs_at _ _ _ (flipped_in i) j flip l))

-- the rate of block 0 is 4/8, that of the others the frame's
pub rate-in-first : (s : Settings) (i : ℕ) → i < s.sf - 2 → (block_for s i).rate ≡ 4
unfolding block_for block_at
rate-in-first s i h = rate-first (frame_of s) i h

pub rate-in-later : (s : Settings) (i : ℕ) → s.sf - 2 ≤ i → (block_for s i).rate ≡ cr_of s.kind
unfolding block_for block_at
rate-in-later s i h = rate-later (frame_of s) i h
