use Prim.Native.Nat.{ℕ, ◌+◌, ◌-◌, ◌^◌, ◌<◌}
use mathlib.Core.Path.{◌≡◌, refl, sym, ap, ◌∙◌}
use mathlib.Core.Bool.{Bool, false}
use mathlib.Core.List.{List}
use native.Mathlib.Omega.{arith}
use lib.Dec.{eqb}
use lib.Seq.{set-get_or}
use borrow.Rule.Slice.PartMut.{mid_len}
use Rattle.bits.specs.Bit.{as_bit}
use Rattle.bits.specs.Bytes.{step_of}
use Rattle.bits.specs.Search.{how_many}
use Rattle.bits.proofs.Fill.{filled_none, filled_more}
use Rattle.bits.proofs.Parts.{part-filled}
use Rattle.bits.proofs.Searches.{as_bit-le, how_many-more}
use Rattle.block.specs.Grid.{codeword_of_grid}
use Rattle.codeword.specs.Codeword.{read_as, nibble_of, flipped_bit, is_unreadable}
use Rattle.codeword.specs.Ranges.{Rate}
use Rattle.codeword.specs.Readings.{nibble_in, bit_in, clean_in, none_in, reading_of}
use Rattle.codeword.proofs.CodeLaws.{flipped_le}
use Rattle.codeword.proofs.Lookup.{nibble-is, bit_is, clean_is, none_is}
use Rattle.reading.specs.Stages.{read_row, rows_from, flips}
use Rattle.reading.proofs.HurtLaws.{flips-more, flips-lt, rows-clean, rows-repairs}
use Rattle.reading.proofs.RowLaws.{row_lt}
use Rattle.reading.proofs.ReadLoop.{clear_none, clear-more, walk-stop, walk_end}
use Rattle.reading.proofs.read_rows.Invariants.{repairs}
use Rattle.reading.proofs.read_rows.Goals as goal

-- the word w of row i, with x columns more than four
module _ {rate x w : ℕ} (g : List (List Bool)) (from i : ℕ) (ok : Rate rate) (width : x ≡ rate) (word : w ≡ codeword_of_grid (4 + x) g (from + i)) where
  word-lt : w < 2 ^ (4 + rate)
  word-lt = rw (word, width) (row_lt (4 + rate) g (from + i))

  row : read_as rate w ≡ rows_from rate g from i
  unfolding rows_from read_row
  row = rw (word, width)

  -- and what its reading tells
  module _ {e : ℕ} (reading : e ≡ reading_of rate w) where
    none : none_in e ≡ is_unreadable (rows_from rate g from i)
    none = none_is rate w reading ok word-lt ∙ ap is_unreadable row

    nibble : nibble_in e ≡ nibble_of (rows_from rate g from i)
    nibble = nibble-is rate w reading ∙ ap nibble_of row

    bit : bit_in e ≡ flipped_bit (rows_from rate g from i)
    bit = bit_is rate w reading ∙ ap flipped_bit row

    -- the flips with this row's
    more : {l b s : ℕ} → l ≡ flips (read_row rate g) (from + i) → b ≡ bit_in e → s ≡ step_of 8 b → l + s ≡ flips (read_row rate g) (from + (i + 1))
    unfolding rows_from
    more {l} before is step = rw step (flips-more (read_row rate g) (from + i) before (is ∙ bit) ∙ ap (flips (read_row rate g)) (omega arith))

    module _ (can : false ≡ none_in e) where
      good : is_unreadable (read_as rate w) ≡ false
      good = sym (can ∙ none_is rate w reading ok word-lt)

      clean : clean_in e ≡ as_bit (eqb (flipped_bit (rows_from rate g from i)) 8)
      clean = clean_is rate w reading good ok word-lt ∙ ap (λ f. as_bit (eqb (flipped_bit f) 8)) row

      bit-lt : bit_in e < 9
      bit-lt = omega (arith, bit_is rate w reading, flipped_le rate w ok word-lt good)

pub loop-i-init : goal.loop-i-init
unfolding how_many
loop-i-init c = (refl, clear_none _, filled_none _ _, c.requires.3 ∙ ap (flips _) (omega arith))

pub reading-reading-requires : goal.reading-reading-requires
reading-reading-requires c = (c.requires.0, word-lt c.args.g.now c.args.from c.loop-i.i c.requires.0 c.from-columns.ensures c.codeword_of_grid-word.ensures)

pub overflow_sub-result : goal.overflow_sub-result
overflow_sub-result c =
    rows-clean _ _ _ _ c.requires.0 c.loop-i.invariant.0 c.loop-i.invariant.1

pub returns-then-unreadable : goal.returns-then-unreadable
returns-then-unreadable c =
    let a = c.args in
    let l = c.loop-i in
    let long = mid_len a.at (a.at + a.n) a.nibbles.now (omega arith) in
    let is = rows-repairs _ _ _ _ c.requires.0 l.invariant.0 l.invariant.1 in
    let no = none a.g.now a.from l.i c.requires.0 c.from-columns.ensures c.codeword_of_grid-word.ensures c.reading-reading.ensures in (
      rw (is, set-get_or) (walk-stop l.invariant.1 (part-filled _ _ _ l.invariant.2 (omega arith)) (omega arith) (sym (c.if-unreadable.ensures ∙ no))),
      l.invariant.3,
    )

pub overflow_add-clean : goal.overflow_add-clean
overflow_add-clean c =
    let a = c.args in
    let l = c.loop-i in
    let one = clean a.g.now a.from l.i c.requires.0 c.from-columns.ensures c.codeword_of_grid-word.ensures c.reading-reading.ensures c.if-unreadable.ensures in
    omega (arith, one, c.clean.ensures, as_bit-le (eqb (flipped_bit (rows_from a.rate a.g.now a.from l.i)) 8), rows-clean _ _ _ _ c.requires.0 l.invariant.0 l.invariant.1)

pub step-flips-requires : goal.step-flips-requires
step-flips-requires c =
    let a = c.args in
    rw c.flipped_bit.ensures (bit-lt a.g.now a.from c.loop-i.i c.requires.0 c.from-columns.ensures c.codeword_of_grid-word.ensures c.reading-reading.ensures c.if-unreadable.ensures)

pub overflow_add-flips : goal.overflow_add-flips
overflow_add-flips c =
    let a = c.args in
    let l = c.loop-i in
    let long = mid_len a.at (a.at + a.n) a.nibbles.now (omega arith) in
    let sum : l.flips + c.step-flips.result ≡ flips (read_row a.rate a.g.now) (a.from + (l.i + 1))
    = more a.g.now a.from l.i c.requires.0 c.from-columns.ensures c.codeword_of_grid-word.ensures c.reading-reading.ensures l.invariant.3 c.flipped_bit.ensures c.step-flips.ensures in
    let below : l.flips + c.step-flips.result < 18446744073709551616 = rw sum (flips-lt _ _ (omega arith)) in
    omega arith

pub loop-i-preserved : goal.loop-i-preserved
loop-i-preserved c =
    let a = c.args in
    let l = c.loop-i in
    let no = none a.g.now a.from l.i c.requires.0 c.from-columns.ensures c.codeword_of_grid-word.ensures c.reading-reading.ensures in
    let can = c.if-unreadable.ensures in
    let one = c.from-clean.ensures ∙ c.clean.ensures ∙ clean a.g.now a.from l.i c.requires.0 c.from-columns.ensures c.codeword_of_grid-word.ensures c.reading-reading.ensures can in (
      how_many-more _ l.i l.invariant.0 one,
      rw (← how_many-more _ l.i refl refl) (clear-more l.invariant.1 (sym (can ∙ no)) refl),
      filled_more l.invariant.2 (omega arith) (c.nibble.ensures ∙ nibble a.g.now a.from l.i c.requires.0 c.from-columns.ensures c.codeword_of_grid-word.ensures c.reading-reading.ensures),
      more a.g.now a.from l.i c.requires.0 c.from-columns.ensures c.codeword_of_grid-word.ensures c.reading-reading.ensures l.invariant.3 c.flipped_bit.ensures c.step-flips.ensures,
    )

pub overflow_sub-result-2 : goal.overflow_sub-result-2
overflow_sub-result-2 c =
    let a = c.args in
    let long = mid_len a.at (a.at + a.n) a.nibbles.now (omega arith) in
    omega (arith, rows-clean _ _ _ _ c.requires.0 c.loop-i.invariant.0 c.loop-i.invariant.1)

pub returns : goal.returns
returns c =
    let a = c.args in
    let l = c.loop-i in
    let long = mid_len a.at (a.at + a.n) a.nibbles.now (omega arith) in
    let e : l.i ≡ a.n = omega arith in
    let is : a.n - l.clean ≡ repairs a.rate a.g.now a.from a.n = rw (← e) (rows-repairs _ _ _ _ c.requires.0 l.invariant.0 l.invariant.1) in
    (rw is (walk_end (rw e at l.invariant.1) (rw e at (part-filled a.at (a.at + a.n - a.at) a.nibbles.now l.invariant.2 (omega arith)))), rw e at l.invariant.3)
