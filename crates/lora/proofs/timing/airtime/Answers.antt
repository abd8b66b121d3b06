-- What count has answered lets the time be reckoned.
use mathlib.Core.Path.{sym}
use Rattle.layout.proofs.LayoutLaws.{symbols-le}
use Rattle.lora.proofs.CountLaws.{counted, bandwidth-positive}
use Rattle.lora.proofs.timing.airtime.Goals as goal

pub microseconds-requires : goal.microseconds-requires
microseconds-requires c =
    let k = counted _ _ _ (sym c.in_ok-count.ensures) in
    (k.settings.sf-high, rw k.is (symbols-le _ _ k.settings k.short), bandwidth-positive _ (sym c.if-not-valid_bandwidth.ensures))
