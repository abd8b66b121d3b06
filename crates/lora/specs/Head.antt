-- The operation head: it checks 1; 5 for eight symbols; 6 among those, lowest index first; 7 over codewords 0 to 4; 9; 10; 11.
-- Assumes nothing.
use Rattle.std.specs.Prelude.{Bool, List, ℕ, ◌^◌, leb, length, get_or, Result}
use Rattle.bits.specs.Check.{check}
use Rattle.bits.specs.Search.{first}
use Rattle.bits.specs.Tab.{tab}
use Rattle.codeword.specs.Found.{Found}
use Rattle.header.specs.Header.{verdict_of}
use Rattle.header.specs.declared.Header.{Header}
use Rattle.layout.specs.Layout.{valid_sf, first_block}
use Rattle.reading.specs.Found.{found_in_block, unreadable_at, nibble_at}
use Rattle.refusal.specs.Refusal.{refuse}
use Rattle.refusal.specs.declared.Refusal.{Refusal}

-- symbol t is 2^SF or more
unfoldable pub is_over : ℕ → List ℕ → ℕ → Bool
is_over sf symbols t = leb (2 ^ sf) (get_or symbols t 0)

-- of the n symbols from i on the first that is; i + n where there is none
unfoldable pub first_over : ℕ → List ℕ → ℕ → ℕ → ℕ
first_over sf symbols n i = first (is_over sf symbols) n i

-- what codeword i of block 0 is read as
unfoldable pub header_found : ℕ → List ℕ → ℕ → Found
header_found sf symbols = found_in_block (first_block sf) symbols

-- the first of the codewords 0 to 4, found to be so, that can't be read; 5 where there is none
unfoldable pub unreadable_in_header : (ℕ → Found) → ℕ
unreadable_in_header found = first (unreadable_at found) 5 0

-- 7 over codewords 0 to 4; 9; 10; 11
unfoldable pub header_of : (ℕ → Found) → Result Header Refusal
header_of found =
    check (leb 5 (unreadable_in_header found)) (refuse 7 (unreadable_in_header found))
    (verdict_of (tab 5 (nibble_at found)))

unfoldable pub head_of : ℕ → List ℕ → Result Header Refusal
head_of sf symbols =
    check (valid_sf sf) (refuse 1 0)
    (check (leb 8 (length symbols)) (refuse 5 8)
    (check (leb 8 (first_over sf symbols 8 0)) (refuse 6 (first_over sf symbols 8 0))
    (header_of (header_found sf symbols))))
