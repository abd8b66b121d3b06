-- The answers of the five operations as a number that is returned and the cells of a lent array.
-- Assumes nothing.
use Rattle.std.specs.Prelude.{Bool, not, List, [], ◌∷◌, ◌++◌, ◌≡◌, ℕ, suc, ◌-◌, ◌^◌, eqb, ltb, ℤ, pos, negsuc, length, drop, Result, Ok, Err}
use Rattle.bits.specs.Bit.{as_bit}
use Rattle.bits.specs.Check.{check}
use Rattle.lora.specs.Code.{symbols_after}
use Rattle.lora.specs.Read.{bytes_after, hurts_after}
use Rattle.lora.specs.declared.Expected.{Expected}
use Rattle.lora.specs.declared.Expected.TheVariants.{Agreed as AsAgreed}
use Rattle.lora.specs.declared.Kind.TheVariants.{Explicit, Agreed}
use Rattle.lora.specs.declared.Settings.{Settings}
use Rattle.header.specs.declared.Header.{Header}
use Rattle.lora.specs.Received.{Received}
use Rattle.lora.specs.declared.Accepted.{Accepted}
use Rattle.refusal.specs.declared.Refusal.{Refusal}

-- a flag: 0 is off, any other number on
abbrev pub flag_of : ℕ → Bool
flag_of b = not (eqb b 0)

-- settings with a header, and without one
abbrev pub explicit_of : ℕ → ℕ → ℕ → ℕ → Settings
explicit_of sf low cr checked = record { sf = sf; low = flag_of low; kind = Explicit cr (flag_of checked) }

abbrev pub agreed_of : ℕ → ℕ → ℕ → ℕ → ℕ → Settings
agreed_of sf low agreed cr checked = record { sf = sf; low = flag_of low; kind = Agreed agreed cr (flag_of checked) }

-- what a reader without a header expects
abbrev pub expected_of : ℕ → ℕ → ℕ → Expected
expected_of agreed cr checked = AsAgreed agreed cr (flag_of checked)

-- the number returned: 0 for an acceptance, else the refusal's
abbrev pub number_of : {T : Type 0} → Result T Refusal → ℕ
number_of (Ok a) = 0
number_of (Err refusal) = refusal.number

-- a signed number as a cell: a negative one is 2^64 less its size
abbrev pub cell_of : ℤ → ℕ
cell_of (pos n) = n
cell_of (negsuc n) = 2 ^ 64 - suc n

-- the cells written: an acceptance's values, a refusal's place
abbrev pub cells_of : {T : Type 0} → (T → List ℕ) → Result T Refusal → List ℕ
cells_of cells (Ok a) = cells a
cells_of cells (Err refusal) = refusal.place ∷ []

-- the values: one number; a header's; a payload's
abbrev pub cells_of_number : ℕ → List ℕ
cells_of_number n = n ∷ []

abbrev pub cells_of_header : Header → List ℕ
cells_of_header h = h.length ∷ h.cr ∷ as_bit h.checked ∷ []

abbrev pub cells_of_accepted : Accepted → List ℕ
cells_of_accepted a = a.length ∷ a.cr ∷ as_bit a.checked ∷ a.symbols ∷ a.repairs ∷ cell_of a.drift ∷ []

-- cells at the front of a list, and the rest as it was
unfoldable pub front : List ℕ → List ℕ → List ℕ
front cells old = cells ++ drop (length cells) old

-- an array of answers that is shorter than needed gets 255, and nothing is written
pub record Exported (need code : ℕ) (cells old new : List ℕ) (r : ℕ) : Type 0 where
  pub returned : r ≡ check (not (ltb (length old) need)) 255 code
  pub answers : new ≡ check (not (ltb (length old) need)) old (front cells old)

-- a lent list beside such an array of answers: after where the array has the cells needed, else as it was
pub record Lent (need : ℕ) (old lent after out : List ℕ) : Type 0 where
  pub written : out ≡ check (not (ltb (length old) need)) lent after

-- the answer a of count or airtime, with the array of answers before and after, and the number returned
pub record NumberExported (a : Result ℕ Refusal) (old new : List ℕ) (r : ℕ) : Type 0 where
  pub is : Exported 1 (number_of a) (cells_of cells_of_number a) old new r

-- head's
pub record HeadExported (a : Result Header Refusal) (old new : List ℕ) (r : ℕ) : Type 0 where
  pub is : Exported 3 (number_of a) (cells_of cells_of_header a) old new r

-- code's answer a, with the lent list of symbols before and after as well
pub record CodeExported (a : Result ℕ Refusal) (s : Settings) (payload lent out old new : List ℕ) (r : ℕ) : Type 0 where
  pub is : Exported 1 (number_of a) (cells_of cells_of_number a) old new r
  pub symbols : Lent 1 old lent (symbols_after a s payload lent) out

-- read's, with the lent bytes and the lent list of hurt symbols before and after
pub record ReadExported (a : Received) (sf : ℕ) (low : Bool) (expected : Expected) (symbols lent out hurts hurts' old new : List ℕ) (r : ℕ) : Type 0 where
  pub is : Exported 6 (number_of a) (cells_of cells_of_accepted a) old new r
  pub bytes : Lent 6 old lent (bytes_after a sf low expected symbols lent) out
  pub marks : Lent 6 old hurts (hurts_after a sf low expected symbols hurts) hurts'
