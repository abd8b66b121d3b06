-- Document 01, "Reading program": the line that it prints.
-- Assumes nothing.
use Rattle.std.specs.Prelude.{cond, ℕ, zero, suc, ◌+◌, ◌/◌, ◌%◌, ltb, Ok, Err}
use mathlib.Core.List.{List, [], ◌∷◌, ◌++◌, flat_map}
use Rattle.bits.specs.Bit.{as_bit}
use Rattle.lora.specs.Received.{Received}

-- a number in decimal digits, in at most so many
unfoldable pub decimal_in : ℕ → ℕ → List ℕ
decimal_in zero n = []
decimal_in (suc k) n = cond (ltb n 10) ((48 + n) ∷ []) (decimal_in k (n / 10) ++ ((48 + n % 10) ∷ []))

-- a number of 64 bits has at most 20 digits
unfoldable pub decimal : ℕ → List ℕ
decimal n = decimal_in 20 n

-- one space stands between fields
unfoldable pub field : ℕ → List ℕ
field n = 32 ∷ decimal n

-- capital hex: 0 to 9, A to F, a byte's upper digit first
unfoldable pub hex_digit : ℕ → ℕ
hex_digit d = cond (ltb d 10) (48 + d) (55 + d)

unfoldable pub hex_byte : ℕ → List ℕ
hex_byte b = hex_digit (b / 16) ∷ hex_digit (b % 16) ∷ []

abbrev pub hex : List ℕ → List ℕ
hex bytes = flat_map hex_byte bytes

-- a hyphen if empty
unfoldable pub shown : List ℕ → List ℕ
shown [] = 45 ∷ []
shown (b ∷ bytes) = hex (b ∷ bytes)

-- ok, length, CR, flag, symbols used, repairs, payload; or no, number, place; byte 10 at the end
unfoldable pub line_of : Received → List ℕ → List ℕ
line_of (Ok a) payload =
    (111 ∷ 107 ∷ [])
    ++ (field a.length ++ (field a.cr ++ (field (as_bit a.checked) ++ (field a.symbols ++ (field a.repairs ++ ((32 ∷ shown payload) ++ (10 ∷ [])))))))
line_of (Err e) payload = (110 ∷ 111 ∷ []) ++ (field e.number ++ (field e.place ++ (10 ∷ [])))
