-- A frame's symbols as they were written, whatever follows them, have no change.
-- Assumes nothing.
use mathlib.Core.Path.{◌≡◌, sym, ◌∙◌}
use mathlib.Core.List.{List, ◌++◌}
use Prim.Native.Nat.{ℕ, ◌^◌, ◌≤◌, ◌<◌}
use native.Mathlib.Omega.{arith}
use lib.ListN.{length, get_or, take, drop, length-append, get_or-append}
use lib.Seq.{take_at}
use Rattle.bits.specs.Tab.{tab}
use Rattle.bits.proofs.Tabs.{length-tab, get_or-tab}
use Rattle.coding.proofs.CodingLaws.{symbol-below}
use Rattle.lora.specs.Code.{sent_symbol, Coding}
use Rattle.lora.specs.Count.{frame_of}
use Rattle.lora.specs.declared.Settings.{Settings}
use Rattle.lora.proofs.CountLaws.{coded}
use Rattle.promises.proofs.Codewords.{frame-cells}
use Rattle.std.specs.Prelude.{Ok}

module _ {s : Settings} {payload old sent : List ℕ} {count : ℕ} (c : Coding s payload old sent (Ok count)) where
  -- what code writes is below 2^SF
  pub below-limit : (t : ℕ) → t < count → get_or sent t 0 < 2 ^ s.sf
  unfolding sent_symbol
  below-limit t h =
      rw (frame-cells s payload old sent count c t h)
      (symbol-below (frame_of s) _ t (coded s payload (length old) count (sym c.answer)).0.settings)

  module _ (after : List ℕ) where
    as_written : take count sent ≡ tab count (sent_symbol (frame_of s) payload)
    as_written = rw c.cells (take_at (tab count (sent_symbol (frame_of s) payload)) (drop count old) count (length-tab count _))

    pub same : (t : ℕ) → t < count → get_or (take count sent ++ after) t 0 ≡ get_or sent t 0
    same t h =
        rw as_written (get_or-append (tab count (sent_symbol (frame_of s) payload)) after 0 t (rw length-tab h) ∙ get_or-tab count (sent_symbol (frame_of s) payload) t 0 h)
        ∙ sym (frame-cells s payload old sent count c t h)

    pub enough : count ≤ length (take count sent ++ after)
    enough = rw (as_written, length-append, length-tab) (omega arith)
