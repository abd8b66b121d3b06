-- How the struct holds the state of a text that is taken byte by byte.
-- Assumes nothing.
use Rattle.std.specs.Prelude.{◌≡◌, ◌++◌, ◌-◌, ◌≤◌, ℕ, List, length, take, replicate}
use Rattle.text.specs.Scan.{State}
use Rattle.text.specs.declared.Scan.TheInside.{Inside}

-- the state that the fields hold
abbrev pub state_of : Inside → State
state_of c = record { refused = c.refused; digits = c.digits; value = c.value; numbers = take c.count c.numbers }

-- a list with 0 behind it, as far as there is room
abbrev pub padded : ℕ → List ℕ → List ℕ
padded room xs = xs ++ replicate (room - length xs) 0

-- the fields that hold a state: a place without a number has 0
abbrev pub fields_of : State → Inside
fields_of s = record {
  refused = s.refused;
  digits = s.digits;
  value = s.value;
  numbers = padded 837 s.numbers;
  count = length s.numbers;
}

-- the fields as scanning makes them
pub record Sane (c : Inside) : Type 0 where
  pub few : c.digits ≤ 5
  pub small : c.value ≤ 65535
  pub placed : c.count ≤ 837
  pub made : fields_of (state_of c) ≡ c
