-- Each byte gives its two nibbles: a loop that fills two places a time.
use Prim.Native.Nat.{◌*◌}
use lib.ListN.{get_or}
use Rattle.bits.proofs.Fill.{FilledAt}
use Rattle.coding.specs.Nibbles.{nibble_of_bytes}
use Rattle.coding.proofs.put_bytes.Given as goal

abbrev pub invariant-loop-p : goal.invariant-loop-p
invariant-loop-p l = FilledAt (nibble_of_bytes (λ p. get_or l.bytes p 0)) l.initial.nibbles l.at (2 * l.p) l.nibbles
