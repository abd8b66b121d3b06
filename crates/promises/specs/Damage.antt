-- A frame that was sent, with a header or without, and the symbols that arrived. The words in which demands 2 and 3 are said.
-- Assumes nothing.
use Rattle.std.specs.Prelude.{Bool, not, ◌&&◌, cond, List, ◌++◌, ◌≡◌, ℕ, ◌+◌, ◌-◌, ◌^◌, ◌<◌, ◌≤◌, eqb, leb, ltb, length, get_or, drop, Ok}
use Rattle.bits.specs.Bit.{bit}
use Rattle.bits.specs.Search.{first, how_many}
use Rattle.bits.specs.Tab.{Bytes, over}
use Rattle.block.specs.Gray.{value_of_number}
use Rattle.codeword.specs.Codeword.{codeword, apart}
use Rattle.drift.specs.Drift.{drift_of}
use Rattle.layout.specs.Layout.{block_of, block_of_codeword, later_blocks, nibbles_of}
use Rattle.layout.specs.declared.Block.{Block}
use Rattle.lora.specs.Code.{sent_nibble, Coding}
use Rattle.lora.specs.Count.{cr_of, checked_of, expected_of, frame_of}
use Rattle.lora.specs.Read.{Reading}
use Rattle.lora.specs.declared.Settings.{Settings}
use Rattle.lora.specs.Received.{Received}
use Rattle.reading.specs.Found.{word_in_block}
use Rattle.refusal.specs.Refusal.{refuse}

-- the codewords that are read: those of the header and the data, and no filler
unfoldable pub read_words : Settings → List ℕ → ℕ
read_words s payload = nibbles_of (frame_of s) (length payload)

-- block b of the frame, and the block that codeword i stands in
unfoldable pub block_at : Settings → ℕ → Block
block_at s b = block_of (frame_of s) b

unfoldable pub block_for : Settings → ℕ → Block
block_for s i = block_at s (block_of_codeword (frame_of s) i)

-- codeword i as it was sent, and the word received for it
unfoldable pub sent_word : Settings → List ℕ → ℕ → ℕ
sent_word s payload i = codeword (block_for s i).rate (sent_nibble (frame_of s) payload i)

unfoldable pub arrived_word : Settings → List ℕ → ℕ → ℕ
arrived_word s arrived i = word_in_block (block_for s i) arrived (i - (block_for s i).codeword)

-- in how many bits the word received for codeword i differs from the codeword sent
unfoldable pub changed_bits : Settings → List ℕ → List ℕ → ℕ → ℕ
changed_bits s payload arrived i = apart (block_for s i).rate (arrived_word s arrived i) (sent_word s payload i)

-- symbol t is one of codeword i's block, and its bit of that codeword arrived changed; in how many codewords read its bit did
unfoldable pub changed_in : Settings → List ℕ → List ℕ → ℕ → ℕ → Bool
changed_in s payload arrived t i =
    let B : Block = block_for s i in
    let j : ℕ = t - B.symbol in
    leb B.symbol t && (ltb j (4 + B.rate) && not (eqb (bit j (arrived_word s arrived i)) (bit j (sent_word s payload i))))

unfoldable pub changed_by_symbol : Settings → List ℕ → List ℕ → ℕ → ℕ
changed_by_symbol s payload arrived t = how_many (changed_in s payload arrived t) (read_words s payload)

-- how many symbols of block b arrived as other numbers than were sent
unfoldable pub changed_symbols : Settings → List ℕ → List ℕ → ℕ → ℕ
changed_symbols s sent arrived b =
    how_many (λ j. not (eqb (get_or arrived ((block_at s b).symbol + j) 0) (get_or sent ((block_at s b).symbol + j) 0))) (4 + (block_at s b).rate)

-- the value that symbol j of a block is read as, and how many symbols of block b are read as other values than were sent: not
-- those at the four-wide spacing that arrived beside their marks
unfoldable pub value_in : Block → List ℕ → ℕ → ℕ
value_in B symbols j = value_of_number B.rows B.spaced (get_or symbols (B.symbol + j) 0)

unfoldable pub changed_values : Settings → List ℕ → List ℕ → ℕ → ℕ
changed_values s sent arrived b = how_many (λ j. not (eqb (value_in (block_at s b) arrived j) (value_in (block_at s b) sent j))) (4 + (block_at s b).rate)

-- at most k symbols were changed in each block; at most k are read as other values; each codeword that is read has at most k
-- changed bits
abbrev pub FewSymbols : ℕ → Settings → List ℕ → List ℕ → List ℕ → Type 0
FewSymbols k s payload sent arrived = (b : ℕ) → b ≤ later_blocks (frame_of s) (read_words s payload) → changed_symbols s sent arrived b ≤ k

abbrev pub FewValues : ℕ → Settings → List ℕ → List ℕ → List ℕ → Type 0
FewValues k s payload sent arrived = (b : ℕ) → b ≤ later_blocks (frame_of s) (read_words s payload) → changed_values s sent arrived b ≤ k

abbrev pub FewBits : ℕ → Settings → List ℕ → List ℕ → Type 0
FewBits k s payload arrived = (i : ℕ) → i < read_words s payload → changed_bits s payload arrived i ≤ k

-- a payload was coded; as many symbols arrived, each below 2^SF, and were read into enough room, without a header by the same agreed
-- values; further symbols are free
pub record Passed (s : Settings) (payload old sent : List ℕ) (count : ℕ) (arrived buffer buffer' hurts hurts' : List ℕ) (answer : Received) : Type 0 where
  pub bytes : Bytes payload
  pub coded : Coding s payload old sent (Ok count)
  pub enough : count ≤ length arrived
  pub below : (t : ℕ) → t < count → get_or arrived t 0 < 2 ^ s.sf
  pub room : length payload ≤ length buffer
  pub lists : count ≤ length hurts
  pub read : Reading s.sf s.low (expected_of s.kind) arrived buffer buffer' hurts hurts' answer

-- codeword i has a changed bit; it has one and stands after block 0; it has two
unfoldable pub hurt : Settings → List ℕ → List ℕ → ℕ → Bool
hurt s payload arrived i = not (eqb (changed_bits s payload arrived i) 0)

unfoldable pub hurt_after_first : Settings → List ℕ → List ℕ → ℕ → Bool
hurt_after_first s payload arrived i = leb (s.sf - 2) i && hurt s payload arrived i

unfoldable pub hurt_twice : Settings → List ℕ → List ℕ → ℕ → Bool
hurt_twice s payload arrived i = eqb (changed_bits s payload arrived i) 2

-- the sent payload is returned, with a repair for each codeword read that has a changed bit, in the symbol that changed it, and the
-- first symbol's drift
pub record Returned (s : Settings) (payload arrived : List ℕ) (count : ℕ) (old new hurts hurts' : List ℕ) (answer : Received) : Type 0 where
  pub says : answer ≡ Ok (record {
    length = length payload;
    cr = cr_of s.kind;
    checked = checked_of s.kind;
    symbols = count;
    repairs = how_many (hurt s payload arrived) (read_words s payload);
    drift = drift_of s.sf (get_or arrived 0 0);
  })
  pub cells : new ≡ payload ++ drop (length payload) old
  pub marks : hurts' ≡ over count (changed_by_symbol s payload arrived) hurts

-- refusal 7 at codeword i, and nothing is written
pub record RefusedAt (i : ℕ) (old new hurts hurts' : List ℕ) (answer : Received) : Type 0 where
  pub says : answer ≡ refuse 7 i
  pub cells : new ≡ old
  pub marks : hurts' ≡ hurts

-- the first codeword read of which the test holds decides: with it there is refusal 7 there; where there is none, the payload
pub record ReturnedUnless (test : ℕ → Bool) (s : Settings) (payload arrived : List ℕ) (count : ℕ) (old new hurts hurts' : List ℕ) (answer : Received) : Type 0 where
  pub decided : let i : ℕ = first test (read_words s payload) 0 in
      cond (ltb i (read_words s payload)) (RefusedAt i old new hurts hurts' answer) (Returned s payload arrived count old new hurts hurts' answer)
