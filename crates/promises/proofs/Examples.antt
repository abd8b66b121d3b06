-- The examples of document 01 that are marked P: one table, one claim.
-- Assumes nothing.
use mathlib.Core.Path.{◌≡◌, refl}
use mathlib.Core.Bool.{true, false}
use mathlib.Core.List.{List, [], ◌∷◌}
use Prim.Native.Nat.{ℕ, ◌+◌}
use lib.Count.{ones}
use lib.ListN.{length}
use Rattle.bits.specs.Bit.{bit, number}
use Rattle.bits.specs.Tab.{tab, blank}
use Rattle.block.specs.Block.{word_of_codewords, symbol_of_codewords}
use Rattle.block.specs.Gray.{value_of_word, number_of_value}
use Rattle.checksum.specs.Checksum.{divisor, reduced, one_bit, low_bits, one_byte, remainder, checksum}
use Rattle.codeword.specs.Codeword.{parity, parity_of_all, parity_bit, codeword_bit, codeword}
use Rattle.coding.specs.Nibbles.{data_byte, half_of, nibble_of_bytes, data_nibble, body_nibble, nibble_with, frame_nibble}
use Rattle.coding.specs.Symbols.{codeword_in_block, symbol_in_block, symbol_at}
use Rattle.header.specs.Header.{with_checks, header_nibbles}
use Rattle.layout.specs.Layout.{valid_sf, valid_cr, rows_of_first, rows_of_later, first_block, block_of, block_of_symbol, data_nibbles, nibbles_of, remaining, later_blocks, symbol_count, symbols_of}
use Rattle.lora.specs.Code.{header_sent, sent_nibble, sent_symbol, code_of, symbols_after}
use Rattle.lora.specs.Count.{takes, count_of}
use Rattle.lora.specs.declared.Kind.TheVariants.{Explicit}
use Rattle.lora.specs.declared.Settings.{Settings}
use Rattle.whitening.specs.Whitening.{next, whitening}

-- a row: what our definitions give, and what document 01 wants
pub record Row : Type 0 where
  pub given : List ℕ
  pub wanted : List ℕ

pub givens : List Row → List (List ℕ)
givens [] = []
givens (r ∷ rs) = r.given ∷ givens rs

pub wants : List Row → List (List ℕ)
wants [] = []
wants (r ∷ rs) = r.wanted ∷ wants rs

-- SF 7, CR 1, checksum flag off
pub smallest : Settings
smallest = record { sf = 7; low = false; kind = Explicit 1 false }

-- byte p that follows a payload, with its checksum on
pub sent_byte : List ℕ → ℕ → ℕ
sent_byte payload p = data_byte payload (checksum payload) (length payload + p)

pub rows : List Row
rows =
    record { given = codeword 4 1 ∷ codeword 4 7 ∷ codeword 4 15 ∷ []; wanted = 0xD1 ∷ 0x17 ∷ 0xFF ∷ [] }
    ∷ record { given = codeword 3 1 ∷ []; wanted = 0x51 ∷ [] }
    ∷ record { given = codeword 2 8 ∷ []; wanted = 0x28 ∷ [] }
    ∷ record { given = codeword 1 15 ∷ []; wanted = 0x0F ∷ [] }
    ∷ record { given = tab 10 whitening; wanted = 0xFF ∷ 0xFE ∷ 0xFC ∷ 0xF8 ∷ 0xF0 ∷ 0xE1 ∷ 0xC2 ∷ 0x85 ∷ 0x0B ∷ 0x17 ∷ [] }
    ∷ record { given = checksum (0x12 ∷ 0x34 ∷ []) ∷ []; wanted = 0x1234 ∷ [] }
    ∷ record { given = tab 2 (λ p. sent_byte (0x12 ∷ 0x34 ∷ []) p); wanted = 0x34 ∷ 0x12 ∷ [] }
    ∷ record { given = checksum (0x01 ∷ 0x00 ∷ 0x00 ∷ []) ∷ []; wanted = 0x1021 ∷ [] }
    ∷ record { given = header_nibbles 2 1 true; wanted = 0 ∷ 2 ∷ 3 ∷ 0 ∷ 5 ∷ [] }
    ∷ record { given = header_nibbles 0 1 false; wanted = 0 ∷ 0 ∷ 2 ∷ 0 ∷ 7 ∷ [] }
    ∷ record { given = value_of_word 9 372 ∷ []; wanted = 423 ∷ [] }
    ∷ record { given = symbols_after (code_of smallest [] 8) smallest [] (blank 8 0); wanted = 124 ∷ 48 ∷ 28 ∷ 0 ∷ 56 ∷ 28 ∷ 12 ∷ 0 ∷ [] }
    ∷ []

-- what our definitions give is what document 01 wants, in every row
pub examples : givens rows ≡ wants rows
unfolding givens wants rows smallest sent_byte tab blank bit number parity parity_of_all parity_bit codeword_bit codeword next whitening divisor reduced one_bit low_bits one_byte remainder checksum data_byte half_of data_nibble nibble_of_bytes body_nibble nibble_with frame_nibble with_checks header_nibbles ones value_of_word number_of_value word_of_codewords symbol_of_codewords codeword_in_block symbol_in_block symbol_at valid_sf valid_cr rows_of_first rows_of_later first_block block_of block_of_symbol data_nibbles remaining later_blocks symbol_count header_sent sent_nibble sent_symbol code_of nibbles_of symbols_of takes count_of
examples = refl
