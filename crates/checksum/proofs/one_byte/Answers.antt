-- A byte more by the table.
use Prim.Native.Nat.{ℕ, ◌+◌, ◌*◌, ◌/◌, ◌%◌}
use mathlib.Core.Path.{sym, ap, ◌∙◌}
use lib.Bits.{bit_xor}
use Rattle.bits.proofs.Tabs.{get_or-tab}
use Rattle.checksum.specs.Table.{entry}
use Rattle.checksum.proofs.ChecksumLaws.{one_byte-table}
use borrow.Author.Rules.{rules}
use Rattle.checksum.proofs.one_byte.Goals as goal

pub returns : goal.returns
returns c = let a = c.args in
    rw (c.requires, c.from.ensures, c.from-2.ensures)
    (ap (λ (x : ℕ). bit_xor x (a.r % 256 * 256 + a.byte)) (get_or-tab 256 entry (a.r / 256) 0 (search rules)) ∙ sym (one_byte-table a.r a.byte (search rules)))
