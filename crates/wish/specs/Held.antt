-- How the struct holds the state of a wish that is taken byte by byte.
-- Assumes nothing.
use Rattle.std.specs.Prelude.{◌≡◌, ◌≤◌, length, take}
use Rattle.text.specs.Held.{padded}
use Rattle.wish.specs.Scan.{State}
use Rattle.wish.specs.declared.Scan.TheInside.{Inside}

-- the state that the fields hold
abbrev pub state_of : Inside → State
state_of c = record { head = c.head; word = c.word; payload = take c.count c.bytes }

-- the fields that hold a state: a place without a byte has 0
abbrev pub fields_of : State → Inside
fields_of s = record { head = s.head; word = s.word; bytes = padded 256 s.payload; count = length s.payload }

-- the fields as scanning makes them
pub record Sane (c : Inside) : Type 0 where
  pub few : c.count ≤ 256
  pub made : fields_of (state_of c) ≡ c
