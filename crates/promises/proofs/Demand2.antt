-- Demand 2.
-- Assumes nothing.
use mathlib.Core.Path.{◌≡◌, sym, ◌∙◌}
use mathlib.Core.List.{List, ◌++◌}
use Prim.Native.Nat.{ℕ, ◌≤◌}
use lib.IntN.{pos}
use lib.ListN.{length, take, drop}
use lib.Signed.{le_z_yes}
use Rattle.bits.specs.Tab.{Bytes, over}
use Rattle.drift.proofs.DriftLaws.{moved_none}
use Rattle.lora.specs.Code.{Coding}
use Rattle.lora.specs.Count.{cr_of, checked_of, expected_of}
use Rattle.lora.specs.Read.{Reading}
use Rattle.lora.specs.declared.Settings.{Settings}
use Rattle.lora.specs.Received.{Received}
use Rattle.promises.proofs.Unchanged.{below-limit, same, enough}
use Rattle.promises.proofs.Drifted.{drifted}
use Rattle.std.specs.Prelude.{Ok}

-- A frame that was coded, with a header or without, and arrives unharmed, read with the same spreading factor and low-rate setting, and
-- without a header by the same agreed values, into enough room, gives back its payload, code rate and checksum flag, with no repairs, none in any symbol, and drift 0; whatever symbols follow, and
-- whatever room there is.
pub unharmed : (s : Settings) (payload old sent : List ℕ) (count : ℕ) (after buffer buffer' hurts hurts' : List ℕ) (answer : Received)
    → Bytes payload
    → Coding s payload old sent (Ok count)
    → length payload ≤ length buffer
    → count ≤ length hurts
    → Reading s.sf s.low (expected_of s.kind) (take count sent ++ after) buffer buffer' hurts hurts' answer
    → (answer ≡ Ok (record { length = length payload; cr = cr_of s.kind; checked = checked_of s.kind; symbols = count; repairs = 0; drift = pos 0 }))
    × (buffer' ≡ payload ++ drop (length payload) buffer)
    × (hurts' ≡ over count (λ _. 0) hurts)
unharmed s payload old sent count after buffer buffer' hurts hurts' answer bytes c room lists read =
    drifted (λ _. pos 0) s payload old sent count (take count sent ++ after) buffer buffer' hurts hurts' answer bytes c (enough c after)
    (record {
      near = λ t h e. ((le_z_yes tt, le_z_yes tt), same c after t h ∙ sym (moved_none _ _ (below-limit c t h)));
      others = λ t h e. same c after t h;
    })
    room lists read
