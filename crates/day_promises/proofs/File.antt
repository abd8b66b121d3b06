-- What the request promises of the day's file.
-- Assumes nothing.
use mathlib.Core.Path.{◌≡◌, refl, sym, ap, ◌∙◌}
use mathlib.Core.Bool.{true}
use mathlib.Core.List.{List}
use Prim.Native.Nat.{ℕ}
use native.Mathlib.Omega.{arith}
use lib.ListN.{length, take}
use Rattle.std.specs.Prelude.{Result, Ok}
use Rattle.refusal.specs.declared.Refusal.{Refusal}
use Rattle.day.specs.Script.{Judged, taken, refused}
use Rattle.day.specs.Day.{Day, kind1, good_day, file_of, judged}
use Rattle.day.specs.Stages.{verdict}
use Rattle.day.specs.Walk.{shown}
use Rattle.day.specs.declared.Place.{Place}
use Rattle.day.specs.declared.Entry.{Entry}
use Rattle.day.specs.declared.Taken.{Taken}
use Rattle.day.proofs.DayLaws.{read_back, only-file}
use Rattle.day_write.specs.Write.{entries_of, Writing}
use Rattle.day_write.proofs.WrittenLaws.{written_read, writing-determined}

-- Writing then reading returns the same entries.
pub written-reads-back : (ss fs ps rs old new : List ℕ) (n : ℕ) → Writing kind1 ss fs ps rs old new (Ok n) → judged kind1 (take n new) ≡ taken (entries_of ss fs ps rs)
written-reads-back ss fs ps rs old new n w = written_read kind1 ss fs ps rs old (omega arith) new n w

-- The same of the entries themselves: whichever a file can hold are read from theirs.
pub entries-read-back : (e : Day) → good_day kind1 e ≡ true → judged kind1 (file_of kind1 e) ≡ taken e
entries-read-back e good = read_back kind1 (omega arith) e good

-- A file the reader takes is the writer's file for its entries, and they are such as a file can hold.
pub is-the-file : (bytes : List ℕ) (e : Day) → judged kind1 bytes ≡ taken e → (good_day kind1 e ≡ true) × (bytes ≡ file_of kind1 e)
is-the-file bytes e t = only-file kind1 (omega arith) bytes e t

-- So it is the only file for its entries.
pub only_one : (one other : List ℕ) (e : Day) → judged kind1 one ≡ taken e → judged kind1 other ≡ taken e → one ≡ other
only_one one other e t u = (is-the-file one e t).1 ∙ sym (is-the-file other e u).1

-- A file whose check answers three counts holds so many entries, and is judged to hold them.
pub check-counts : (bytes : List ℕ) (settings frames refusals : ℕ) → Ok (record { settings = settings; frames = frames; refused = refusals }) ≡ verdict (judged kind1 bytes)
    → (e : Day) × (judged kind1 bytes ≡ taken e) × (length e.settings ≡ settings) × (length e.frames ≡ frames) × (length e.refused ≡ refusals)
unfolding verdict
check-counts bytes settings frames refusals q = go (judged kind1 bytes) refl q
  where
    go : (j : Judged Day) → judged kind1 bytes ≡ j → Ok (record { settings = settings; frames = frames; refused = refusals }) ≡ verdict j
        → (e : Day) × (judged kind1 bytes ≡ taken e) × (length e.settings ≡ settings) × (length e.frames ≡ frames) × (length e.refused ≡ refusals)
    go (taken e) p r =
        let t : (record { settings = length e.settings; frames = length e.frames; refused = length e.refused }) ≡ (record { settings = settings; frames = frames; refused = refusals }) = cc in
        (e, p, ap (λ (x : Taken). x.settings) t, ap (λ (x : Taken). x.frames) t, ap (λ (x : Taken). x.refused) t)
    go (refused number place) p r = absurd (let z : ◌≡◌ {A = ℕ} 0 1 = cc in omega arith)

-- Outcomes are determined: of a check, of a step, of writing.
pub check-determined : (bytes : List ℕ) (r other : Result Taken Refusal) → r ≡ verdict (judged kind1 bytes) → other ≡ verdict (judged kind1 bytes) → r ≡ other
check-determined bytes r other e f = e ∙ sym f

pub step-determined : (bytes : List ℕ) (p : Place) (r other : Result Entry Refusal) → r ≡ shown kind1 bytes p → other ≡ shown kind1 bytes p → r ≡ other
step-determined bytes p r other e f = e ∙ sym f

pub write-determined : (ss fs ps rs old new new' : List ℕ) (r other : Result ℕ Refusal) → Writing kind1 ss fs ps rs old new r → Writing kind1 ss fs ps rs old new' other → (r ≡ other) × (new ≡ new')
write-determined ss fs ps rs old new new' r other w v = writing-determined kind1 ss fs ps rs old new new' r other w v
