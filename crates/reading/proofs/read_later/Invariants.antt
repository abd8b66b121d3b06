-- The later blocks are read and marked one behind the other: a loop over them.
use Rattle.reading.proofs.LaterLaws.{Sofar}
use Rattle.reading.proofs.read_later.Given as goal

abbrev pub invariant-loop-k : goal.invariant-loop-k
invariant-loop-k l = Sofar l.f l.symbols l.n l.k l.initial.nibbles l.nibbles l.repairs l.hurts
