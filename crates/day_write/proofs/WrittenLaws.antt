-- What was written is read back, and what the writer does follows from what it was given.
-- Assumes nothing.
use mathlib.Core.Path.{◌≡◌, refl, sym, ap, ◌∙◌}
use mathlib.Core.Bool.{Bool, true, false, ◌&&◌}
use mathlib.Core.List.{List}
use Prim.Native.Nat.{ℕ, ◌≤◌}
use native.Mathlib.Omega.{arith}
use lib.Dec.{leb}
use lib.ListN.{length, take}
use lib.Seq.{take_at}
use Rattle.std.specs.Prelude.{Result, Ok}
use Rattle.refusal.specs.Refusal.{refuse}
use Rattle.refusal.specs.declared.Refusal.{Refusal}
use Rattle.bits.specs.Check.{check}
use Rattle.day.specs.Script.{taken}
use Rattle.day.specs.Day.{Day, Kind, good_day, file_of, judged}
use Rattle.day.proofs.DayLaws.{read_back}
use Rattle.day_write.specs.Write.{entries_of, whole_rows, write_of, file_after, Writing}

module _ (k : Kind) (ss fs ps rs old : List ℕ) where
  -- The bytes that the writer says it wrote are read as the entries that it was given.
  pub written_read : k.most ≤ 65535 → (new : List ℕ) (n : ℕ) → Writing k ss fs ps rs old new (Ok n) → judged k (take n new) ≡ taken (entries_of ss fs ps rs)
  unfolding write_of
  written_read h new n w = go (whole_rows ss fs ps rs) (good_day k e) (leb (length file) (length old)) refl w.answer
    where
      e : Day
      e = entries_of ss fs ps rs

      file : List ℕ
      file = file_of k e

      go : (a b c : Bool) → good_day k e ≡ b → Ok n ≡ check (a && b) (refuse 16 0) (check c (refuse 4 (length file)) (Ok (length file))) → judged k (take n new) ≡ taken e
      go true true true g q =
          let z : length file ≡ n = cc in
          let t : take n new ≡ file = ap (take n) w.cells ∙ take_at file _ n z in
          rw t (read_back k h e g)
      go true true false g q = absurd (let z : ◌≡◌ {A = ℕ} 0 1 = cc in omega arith)
      go true false c g q = absurd (let z : ◌≡◌ {A = ℕ} 0 1 = cc in omega arith)
      go false b c g q = absurd (let z : ◌≡◌ {A = ℕ} 0 1 = cc in omega arith)

  -- With the same lists and the same lent bytes it answers the same and leaves the same bytes.
  pub writing-determined : (new new' : List ℕ) (r r' : Result ℕ Refusal) → Writing k ss fs ps rs old new r → Writing k ss fs ps rs old new' r' → (r ≡ r') × (new ≡ new')
  writing-determined new new' r r' w w' =
      let same : r ≡ r' = w.answer ∙ sym w'.answer in
      (same, w.cells ∙ ap (λ (x : Result ℕ Refusal). file_after x (file_of k (entries_of ss fs ps rs)) old) same ∙ sym w'.cells)
