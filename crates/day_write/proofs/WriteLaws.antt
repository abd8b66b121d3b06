-- What the writer answers: from the judgement, the file's length, and what was put.
-- Assumes nothing.
use mathlib.Core.Path.{◌≡◌, refl, sym, ◌∙◌}
use mathlib.Core.Bool.{Bool, true, false, not, ◌&&◌}
use mathlib.Core.List.{List}
use Prim.Native.Nat.{ℕ, ◌<◌, ◌≤◌}
use borrow.Author.Tests.{not-true, not-false, le-leb, lt-leb}
use lib.ListN.{length}
use Rattle.std.specs.Prelude.{Ok}
use Rattle.refusal.specs.Refusal.{refuse}
use Rattle.put.specs.Put.{Put}
use Rattle.put.proofs.Puts.{put_all}
use Rattle.day.specs.Day.{Kind, good_day, file_of}
use Rattle.day.proofs.ScriptLaws.{both_true}
use Rattle.day_write.specs.Write.{entries_of, whole_rows, write_of, Writing}

module _ (k : Kind) (ss fs ps rs : List ℕ) (fine : Bool) (judged : fine ≡ whole_rows ss fs ps rs && good_day k (entries_of ss fs ps rs)) where
  abbrev file : List ℕ
  file = file_of k (entries_of ss fs ps rs)

  pub not_good : (old : List ℕ) → not fine ≡ true → Writing k ss fs ps rs old old (refuse 16 0)
  unfolding write_of
  not_good old e = record { answer = rw (sym judged ∙ not-true fine e); cells = refl }

  module _ (e : not fine ≡ false) where
    both : whole_rows ss fs ps rs && good_day k (entries_of ss fs ps rs) ≡ true
    both = sym judged ∙ not-false fine e

    -- what the parts that write ask for
    pub both-good : (whole_rows ss fs ps rs ≡ true) × (good_day k (entries_of ss fs ps rs) ≡ true)
    both-good = both_true (whole_rows ss fs ps rs) (good_day k (entries_of ss fs ps rs)) both

    module _ (n : ℕ) (long : n ≡ length file) where
      pub with-room : (room : ℕ) → n ≤ room → (whole_rows ss fs ps rs ≡ true) × (good_day k (entries_of ss fs ps rs) ≡ true) × (length file ≤ room)
      with-room room h = (both-good.0, both-good.1, rw (← long) h)

      pub no_room : (old : List ℕ) → length old < n → Writing k ss fs ps rs old old (refuse 4 n)
      unfolding write_of
      no_room old h = record { answer = rw (both, ← long, lt-leb n (length old) h); cells = refl }

      pub wrote : (old new : List ℕ) (r : ℕ) → n ≤ length old → Put 0 file old new r → Writing k ss fs ps rs old new (Ok n)
      unfolding write_of
      wrote old new r h p = record { answer = rw (both, ← long, le-leb n (length old) h); cells = (put_all p).1 }
