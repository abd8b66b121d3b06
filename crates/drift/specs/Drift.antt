-- Document 02, Ask 2: how far a symbol at the four-wide spacing is off its mark. There the 2^SF numbers stand on a circle,
-- the ends of the range being neighbours, and every fourth is a mark. Of signed numbers `pos n` is n and `negsuc n` is -(n + 1).
-- Assumes nothing.
use Rattle.std.specs.Prelude.{true, cond, ℕ, suc, ◌+◌, ◌-◌, ◌*◌, ◌%◌, ◌^◌, ltb, ℤ, pos, negsuc, ◌-ℤ◌, ◌≤ℤ◌}
use Rattle.block.specs.Gray.{number_of_value, value_of_number}

-- how many steps upwards it is from m to s, round a circle of c numbers
unfoldable pub steps_up : ℕ → ℕ → ℕ → ℕ
steps_up c m s = (s + c - m) % c

-- the signed distance from m to s round that circle: s less m, by the shorter way
unfoldable pub distance : ℕ → ℕ → ℕ → ℤ
distance c m s = cond (ltb (2 * steps_up c m s) c) (pos (steps_up c m s)) (pos (steps_up c m s) -ℤ pos c)

-- the number that is d from m: m + d mod c
unfoldable pub moved : ℕ → ℕ → ℤ → ℕ
moved c m (pos d) = (m + d) % c
moved c m (negsuc d) = (m + c - suc d % c) % c

-- the mark of the number s is 4 x the value that it is read as
unfoldable pub mark_of : ℕ → ℕ → ℕ
mark_of sf s = number_of_value true (value_of_number (sf - 2) true s)

-- its drift is its distance from its mark
unfoldable pub drift_of : ℕ → ℕ → ℤ
drift_of sf s = distance (2 ^ sf) (mark_of sf s) s

-- from -2 to +1
abbrev pub Small : ℤ → Type 0
Small d = (negsuc 1 ≤ℤ d) × (d ≤ℤ pos 1)
