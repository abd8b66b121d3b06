-- The entry at the word's place is the word's reading.
-- Assumes nothing.
use mathlib.Core.Path.{◌≡◌, ap, ◌∙◌}
use Prim.Native.Nat.{ℕ, ◌+◌, ◌-◌, ◌^◌}
use native.Mathlib.Omega.{arith}
use lib.ListN.{get_or}
use Rattle.codeword.specs.Readings.{reading_of}
use Rattle.codeword.proofs.Lookup.{place_of, power_le, place-lt, entry-is}
use Rattle.codeword.proofs.read_word.Goals.{After-from-2, After-from-3}
use Rattle.codeword.proofs.read_word.Goals as goal

-- the power of two, as it is counted with
power : (c : After-from-2) → c.from-2.result ≡ 2 ^ (4 + c.args.cr)
power c = c.from-2.ensures ∙ c.power.ensures.0 ∙ ap (λ (k : ℕ). 2 ^ (4 + k)) c.from.ensures

place : (c : After-from-3) → c.from-2.result - 32 + c.from-3.result ≡ place_of c.args.cr c.args.w
unfolding place_of
place c = ap (λ (k : ℕ). k - 32 + c.from-3.result) (power c.before) ∙ ap (λ (k : ℕ). 2 ^ (4 + c.args.cr) - 32 + k) c.from-3.ensures

-- the entry there is the number of what the word is read as
entry : (c : After-from-3) → let k = c.from-2.result - 32 + c.from-3.result in let a = c.args in
    get_or a.readings.now k 0 ≡ reading_of a.cr a.w
entry c = let (table, rate, word) = c.requires in entry-is rate word (place c) table

pub overflow_sub-place : goal.overflow_sub-place
overflow_sub-place c = rw (power c) (power_le c.requires.1)

pub bounds-readings-place : goal.bounds-readings-place
bounds-readings-place c = let (table, rate, word) = c.requires in omega (arith, place-lt rate word (place c.before.before))

pub returns : goal.returns
returns c = entry c.before.before.before
