-- The words of a block are those of its symbols: a loop over the symbols.
use Rattle.bits.specs.Tab.{blank}
use Rattle.bits.proofs.Fill.{Filled}
use Rattle.reading.specs.Stages.{symbol_word}
use Rattle.reading.proofs.words_of_block.Given as goal

abbrev pub invariant-loop-j : goal.invariant-loop-j
invariant-loop-j l = Filled (symbol_word l.b l.symbols) (blank 8 0) l.j l.words
