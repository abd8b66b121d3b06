use Prim.Native.Nat.{◌+◌}
use native.Mathlib.Omega.{arith}
use borrow.Rule.Slice.PartMut.{mid_len}
use Rattle.bits.proofs.Fill.{filled_none, filled_more}
use Rattle.coding.proofs.CodingLoop.{symbol-made, value-small, word_small}
use borrow.Author.Rules.{rules}
use Rattle.coding.proofs.write_block.Goals as goal

pub loop-j-init : goal.loop-j-init
loop-j-init c = filled_none _ _

pub value_of_word-requires : goal.value_of_word-requires
value_of_word-requires c =
    let b = c.args.b in
    let long = mid_len b.symbol (b.symbol + (4 + c.from-columns.result)) c.args.out.now (omega arith) in
    (search rules, word_small _ _ _ c.loop-j.j c.words_of_grid-words.ensures (omega arith))

pub number_of_value-requires : goal.number_of_value-requires
number_of_value-requires c = value-small _ _ (search rules) c.value_of_word.ensures

pub loop-j-preserved : goal.loop-j-preserved
loop-j-preserved c =
    let b = c.args.b in
    let long = mid_len b.symbol (b.symbol + (4 + c.from-columns.result)) c.args.out.now (omega arith) in
    filled_more c.loop-j.invariant (omega arith) (symbol-made c.args.b _ _ c.loop-j.j c.words_of_grid-words.ensures (omega arith) c.value_of_word.ensures c.number_of_value.ensures)
