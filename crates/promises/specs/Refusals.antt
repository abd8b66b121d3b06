-- The words in which Ask 5 is said: a received word and the codewords of its rate, and the numbers of refusals.
-- Assumes nothing.
use Rattle.std.specs.Prelude.{Bool, false, ◌||◌, List, [], ◌∷◌, ◌≡◌, ℕ, ◌^◌, ◌≤◌, ◌<◌, eqb, length, get_or, Ok}
use Rattle.codeword.specs.Codeword.{codeword, apart}
use Rattle.header.specs.declared.Header.{Header}
use Rattle.layout.specs.Layout.{symbols_of}
use Rattle.lora.specs.Count.{frame_of, count_of}
use Rattle.lora.specs.Head.{head_of}
use Rattle.lora.specs.declared.Kind.{Kind}
use Rattle.lora.specs.declared.Kind.TheVariants.{Explicit, Agreed}
use Rattle.lora.specs.declared.Settings.{Settings}

-- a word is a codeword
pub record IsCodeword (cr w : ℕ) : Type 0 where
  pub nibble : ℕ
  pub below : nibble < 16
  pub is : w ≡ codeword cr nibble

-- a word is one bit from exactly one codeword
pub record OneBitFromOne (cr w : ℕ) : Type 0 where
  pub nibble : ℕ
  pub below : nibble < 16
  pub away : apart cr w (codeword cr nibble) ≡ 1
  pub only : (d : ℕ) → d < 16 → apart cr w (codeword cr d) ≡ 1 → d ≡ nibble

-- a number is one of these
unfoldable pub one_of : List ℕ → ℕ → Bool
one_of [] n = false
one_of (a ∷ others) n = eqb n a || one_of others n

-- the settings are those that the header says, where one is expected and said
abbrev pub Said : Kind → ℕ → List ℕ → Type 0
Said (Explicit cr flag) sf symbols = (h : Header) → head_of sf symbols ≡ Ok h → (h.cr ≡ cr) × (h.checked ≡ flag)
Said (Agreed agreed cr flag) sf symbols = Unit

-- how the reader knows of a payload of this length: a header says it, or it was agreed and is one that count takes
abbrev pub Told : Kind → ℕ → Bool → ℕ → List ℕ → Type 0
Told (Explicit cr flag) sf low len symbols = head_of sf symbols ≡ Ok (record { length = len; cr = cr; checked = flag })
Told (Agreed agreed cr flag) sf low len symbols =
    let s : Settings = record { sf = sf; low = low; kind = Agreed agreed cr flag } in
    count_of s len ≡ Ok (symbols_of (frame_of s) len)

-- these settings and this length are known, and the frame is there whole, below 2^SF, with room for its payload and its marks
pub record Arrived (s : Settings) (len : ℕ) (symbols buffer hurts : List ℕ) : Type 0 where
  pub told : Told s.kind s.sf s.low len symbols
  pub room : len ≤ length buffer
  pub lists : symbols_of (frame_of s) len ≤ length hurts
  pub enough : symbols_of (frame_of s) len ≤ length symbols
  pub below : (t : ℕ) → t < symbols_of (frame_of s) len → get_or symbols t 0 < 2 ^ s.sf
