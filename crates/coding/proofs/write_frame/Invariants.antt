-- The nibbles are laid out once, and the symbols written block by block: a loop over the blocks.
use lib.ListN.{get_or}
use Rattle.bits.proofs.Fill.{Filled}
use Rattle.layout.specs.Layout.{block_of}
use Rattle.coding.specs.Symbols.{symbol_at}
use Rattle.coding.proofs.write_frame.Given as goal

abbrev pub invariant-loop-k : goal.invariant-loop-k
invariant-loop-k l = Filled (symbol_at l.f (λ i. get_or l.nibbles i 0)) l.initial.out (block_of l.f l.k).symbol l.out
