use native.Mathlib.Omega.{arith}
use mathlib.Core.Path.{ap, ◌∙◌}
use Prim.Native.Nat.{ℕ, ◌+◌, ◌-◌}
use Rattle.bits.specs.Tab.{blank}
use Rattle.bits.proofs.Tabs.{length-blank}
use Rattle.bits.proofs.Fill.{filled_none, filled_more}
use Rattle.bits.proofs.Parts.{get_or-part}
use Rattle.block.specs.Block.{word_of_number}
use Rattle.reading.specs.Stages.{symbol_word}
use Rattle.reading.proofs.words_of_block.Goals as goal

pub loop-j-init : goal.loop-j-init
unfolding blank
loop-j-init c = filled_none _ _

pub loop-j-preserved : goal.loop-j-preserved
unfolding symbol_word
loop-j-preserved c =
    let b = c.args.b in
    filled_more c.loop-j.invariant (omega (arith, length-blank {A = ℕ} 8 0))
    (c.word_of_number.ensures ∙ ap (word_of_number b.rows b.spaced) (get_or-part b.symbol (b.symbol + 4 + c.from.result - b.symbol) c.loop-j.j c.args.symbols.now 0 c.loop-j-test.true))
