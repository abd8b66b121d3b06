-- Document 02, Ask 6, a tally beside the day: frames heard, accepted clean, accepted repaired, refused under each number.
-- Assumes nothing.
use Rattle.std.specs.Prelude.{Bool, true, not, ◌&&◌, ◌≡◌, List, ℕ, ◌+◌, eqb, leb, ltb, get_or, Result, Ok, Err}
use Rattle.bits.specs.Bit.{as_bit}
use Rattle.bits.specs.Check.{check}
use Rattle.bits.specs.Search.{first}
use Rattle.bits.specs.Tab.{tab, blank}
use Rattle.lora.specs.Received.{Received}
use Rattle.refusal.specs.Refusal.{refuse}
use Rattle.refusal.specs.declared.Refusal.{Refusal}
use Rattle.tally.specs.declared.Tally.{Tally}

-- the numbers that read gives: 1 to 7 and 9 to 12
unfoldable pub read_gives : ℕ → Bool
read_gives n = leb 1 n && (leb n 12 && not (eqb n 8))

-- an outcome that read gives
abbrev pub known : Received → Bool
known (Ok a) = true
known (Err refusal) = read_gives refusal.number

-- what one outcome adds to each part: accepted with no repairs, accepted with some, refused under the number n
abbrev pub clean_of : Received → ℕ
clean_of (Ok a) = as_bit (eqb a.repairs 0)
clean_of (Err refusal) = 0

abbrev pub repaired_of : Received → ℕ
repaired_of (Ok a) = as_bit (ltb 0 a.repairs)
repaired_of (Err refusal) = 0

abbrev pub refused_of : Received → ℕ → ℕ
refused_of (Ok a) n = 0
refused_of (Err refusal) n = as_bit (eqb refusal.number n)

-- the tally of nothing, the tally of one outcome, and two tallies in one: each number is the sum of the two. Cell n of refused is of the
-- number n
unfoldable pub empty : Tally
empty = record { heard = 0; clean = 0; repaired = 0; refused = blank 13 0 }

unfoldable pub one : Received → Tally
one o = record { heard = 1; clean = clean_of o; repaired = repaired_of o; refused = tab 13 (refused_of o) }

unfoldable pub sum_at : List ℕ → List ℕ → ℕ → ℕ
sum_at a b n = get_or a n 0 + get_or b n 0

unfoldable pub plus : Tally → Tally → Tally
plus t s =
    record {
      heard = t.heard + s.heard;
      clean = t.clean + s.clean;
      repaired = t.repaired + s.repaired;
      refused = tab 13 (sum_at t.refused s.refused);
    }

-- no number of the sum passes 32 bits
abbrev pub most : ℕ
most = 4294967295

unfoldable pub passes : (ℕ → ℕ) → ℕ → Bool
passes f n = not (leb (f n) most)

unfoldable pub fits : Tally → Tally → Bool
fits t s =
    leb (t.heard + s.heard) most
    && (leb (t.clean + s.clean) most
    && (leb (t.repaired + s.repaired) most
    && leb 13 (first (passes (sum_at t.refused s.refused)) 13 0)))

-- 17, or the sum
unfoldable pub join_of : Tally → Tally → Result Tally Refusal
join_of t s = check (fits t s) (refuse 17 0) (Ok (plus t s))

-- the three calls: clearing; hearing an outcome, 16 then 17; taking in another station's tally, 17
unfoldable pub clear_of : Tally → Tally
clear_of t = empty

unfoldable pub hear_of : Tally → Received → Result Tally Refusal
hear_of t o = check (known o) (refuse 16 0) (join_of t (one o))

unfoldable pub take_in_of : Tally → Tally → Result Tally Refusal
take_in_of t s = join_of t s

-- the lent tally afterwards: the one said; after a refusal as it was, the whole of it
abbrev pub tally_after : Result Tally Refusal → Tally → Tally
tally_after (Ok t) old = t
tally_after (Err refusal) old = old

-- the answer: done, or the refusal said
abbrev pub answer_of : Result Tally Refusal → Result Unit Refusal
answer_of (Ok t) = Ok tt
answer_of (Err refusal) = Err refusal

-- what a call leaves of the old tally and answers is what its definition says
pub record Leaves (said : Result Tally Refusal) (old new : Tally) (r : Result Unit Refusal) : Type 0 where
  pub tally : new ≡ tally_after said old
  pub answer : r ≡ answer_of said
