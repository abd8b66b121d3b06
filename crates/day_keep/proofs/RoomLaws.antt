-- A file that is written lies in its buffer.
-- Assumes nothing.
use mathlib.Core.Path.{◌≡◌, refl}
use mathlib.Core.Bool.{Bool, true, false, ◌&&◌}
use mathlib.Core.List.{List}
use Prim.Native.Nat.{ℕ}
use lib.Dec.{leb}
use lib.ListN.{length}
use borrow.Author.Tests.{leb-true}
use Rattle.std.specs.Prelude.{Result, Ok, Err}
use Rattle.bits.specs.Check.{check}
use Rattle.refusal.specs.Refusal.{refuse}
use Rattle.refusal.specs.declared.Refusal.{Refusal}
use Rattle.day.specs.Day.{kind1, good_day, file_of}
use Rattle.day_write.specs.Write.{entries_of, whole_rows, write_of, Writing}
use Rattle.day_keep.specs.Written.{Room}

pub written-room : {ss fs ps rs old new : List ℕ} {r : Result ℕ Refusal} → Writing kind1 ss fs ps rs old new r → Room r (length old)
unfolding write_of
written-room {ss} {fs} {ps} {rs} {old} w =
    rw w.answer (by (whole_rows ss fs ps rs && good_day kind1 (entries_of ss fs ps rs)) (leb (length (file_of kind1 (entries_of ss fs ps rs))) (length old)) refl)
  where
    by : (a c : Bool) → leb (length (file_of kind1 (entries_of ss fs ps rs))) (length old) ≡ c
        → Room (check a (refuse 16 0) (check c (refuse 4 (length (file_of kind1 (entries_of ss fs ps rs)))) (Ok (length (file_of kind1 (entries_of ss fs ps rs)))))) (length old)
    by true true e = leb-true _ _ e
    by true false e = tt
    by false c e = tt
