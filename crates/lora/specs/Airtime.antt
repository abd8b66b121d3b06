-- The operation airtime. Document 01, "Time on air"; it checks 1, 2, 3, then 13.
-- Assumes nothing.
use Rattle.std.specs.Prelude.{Bool, ◌||◌, ℕ, ◌+◌, ◌*◌, ◌/◌, ◌^◌, eqb, Result, Ok, Err}
use Rattle.bits.specs.Check.{check}
use Rattle.lora.specs.Count.{count_of}
use Rattle.lora.specs.declared.Settings.{Settings}
use Rattle.refusal.specs.Refusal.{refuse}
use Rattle.refusal.specs.declared.Refusal.{Refusal}

-- 125, 250 or 500 kHz
unfoldable pub valid_bandwidth : ℕ → Bool
valid_bandwidth khz = eqb khz 125 || (eqb khz 250 || eqb khz 500)

-- n upchirps, two sync chirps, 2.25 downchirps and S symbols: (4(n + S) + 17) x 2^SF x 250 / bandwidth
unfoldable pub dividend : ℕ → ℕ → ℕ → ℕ
dividend sf n S = (4 * (n + S) + 17) * 2 ^ sf * 250

unfoldable pub microseconds : ℕ → ℕ → ℕ → ℕ → ℕ
microseconds sf n S khz = dividend sf n S / khz

-- count's checks, then 13
abbrev pub lasting : Result ℕ Refusal → Settings → ℕ → ℕ → Result ℕ Refusal
lasting (Err refusal) s khz n = Err refusal
lasting (Ok count) s khz n = check (valid_bandwidth khz) (refuse 13 0) (Ok (microseconds s.sf n count khz))

unfoldable pub airtime_of : Settings → ℕ → ℕ → ℕ → Result ℕ Refusal
airtime_of s len khz n = lasting (count_of s len) s khz n
