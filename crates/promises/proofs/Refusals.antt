-- The numbers that the operations refuse with, and the refusal of a codeword. Document 02, Ask 5.
-- Assumes nothing.
use mathlib.Core.Path.{◌≡◌, refl, sym, ◌∙◌}
use mathlib.Core.Bool.{Bool, true, false, true≢false}
use mathlib.Core.List.{List, [], ◌∷◌}
use Prim.Native.Nat.{ℕ, ◌-◌, ◌<◌}
use native.Mathlib.Omega.{arith}
use lib.ListN.{length}
use borrow.Author.Tests.{lt-leb}
use Rattle.layout.specs.Layout.{block_of, block_of_codeword, nibbles_of}
use Rattle.layout.specs.declared.Block.{Block}
use Rattle.lora.specs.Airtime.{airtime_of}
use Rattle.lora.specs.Code.{Coding}
use Rattle.lora.specs.Count.{expected_of, frame_of, count_of}
use Rattle.lora.specs.Head.{head_of}
use Rattle.lora.specs.Read.{unreadable_in_data, onward, agreed_on, read_of, Reading}
use Rattle.lora.specs.Stages.{data_of}
use Rattle.lora.specs.declared.Expected.TheVariants as expected
use Rattle.lora.specs.declared.Kind.{Kind}
use Rattle.lora.specs.declared.Kind.TheVariants.{Explicit, Agreed}
use Rattle.lora.specs.declared.Settings.{Settings}
use Rattle.lora.specs.Received.{Received}
use Rattle.lora.proofs.ReadLaws.{body-data}
use Rattle.reading.specs.Found.{word_in_block, found_in_block, found_at, unreadable_at}
use Rattle.reading.proofs.ReadingLaws.{word_lt}
use Rattle.promises.specs.Damage.{block_at, block_for}
use Rattle.promises.specs.Refusals.{one_of, Said, Arrived}
use Rattle.promises.proofs.Checks.{count-among, airtime-among, code-among, head-among, read-among, found-at, numbers, head-seven, body-seven}
use Rattle.promises.proofs.Front.{front}
use Rattle.promises.proofs.Near.{rate-in-first}
use Rattle.std.specs.Prelude.{Result, Ok, Err}
use Rattle.refusal.specs.Refusal.{refuse}
use Rattle.refusal.specs.declared.Refusal.{Refusal}
use Rattle.header.specs.declared.Header.{Header}

-- An operation refuses with these numbers and with no other, in the order of its checks: 8 is never given.
pub count_gives : (s : Settings) (len : ℕ) {number place : ℕ} → count_of s len ≡ refuse number place → one_of (1 ∷ 2 ∷ 3 ∷ []) number ≡ true
count_gives s len e = rw e at (count-among [] s len)

pub airtime-gives : (s : Settings) (len khz n : ℕ) {number place : ℕ} → airtime_of s len khz n ≡ refuse number place → one_of (1 ∷ 2 ∷ 3 ∷ 13 ∷ []) number ≡ true
airtime-gives s len khz n e = rw e at (airtime-among s len khz n)

pub code_gives : {s : Settings} {payload old new : List ℕ} {number place : ℕ} → Coding s payload old new (refuse number place) → one_of (1 ∷ 2 ∷ 3 ∷ 4 ∷ []) number ≡ true
code_gives {s} {payload} {old} c = rw (← c.answer) at (code-among s payload (length old))

pub head-gives : (sf : ℕ) (symbols : List ℕ) {number place : ℕ} → head_of sf symbols ≡ refuse number place
    → one_of (1 ∷ 5 ∷ 6 ∷ 7 ∷ 9 ∷ 10 ∷ 11 ∷ []) number ≡ true
head-gives sf symbols e = rw e at (head-among [] sf symbols)

pub read-gives : {sf : ℕ} {low : Bool} {symbols old new hurts hurts' : List ℕ} {number place : ℕ} → Reading sf low expected.Explicit symbols old new hurts hurts' (refuse number place)
    → one_of (1 ∷ 5 ∷ 6 ∷ 7 ∷ 9 ∷ 10 ∷ 11 ∷ 4 ∷ 12 ∷ []) number ≡ true
read-gives {sf} {low} {symbols} {old} {hurts = hurts} c = rw (← c.answer) at (read-among sf low expected.Explicit symbols (length old) (length hurts))

pub read-agreed-gives : {sf : ℕ} {low : Bool} {len cr : ℕ} {flag : Bool} {symbols old new hurts hurts' : List ℕ} {number place : ℕ}
    → Reading sf low (expected.Agreed len cr flag) symbols old new hurts hurts' (refuse number place) → one_of (1 ∷ 2 ∷ 3 ∷ 4 ∷ 5 ∷ 6 ∷ 7 ∷ 12 ∷ []) number ≡ true
read-agreed-gives {sf} {low} {len} {cr} {flag} {symbols} {old} {hurts = hurts} c =
    rw (← c.answer) at (read-among sf low (expected.Agreed len cr flag) symbols (length old) (length hurts))

-- 7 is the refusal of a codeword at every rate: the first data codeword that can't be read is refused with it.
pub only-seven : {s : Settings} {len : ℕ} {symbols old new hurts hurts' : List ℕ} {answer : Received} → Arrived s len symbols old hurts
    → Reading s.sf s.low (expected_of s.kind) symbols old new hurts hurts' answer → unreadable_in_data (frame_of s) symbols len < nibbles_of (frame_of s) len
    → answer ≡ refuse 7 (unreadable_in_data (frame_of s) symbols len)
unfolding data_of
only-seven {s} {len} {symbols} {old} {hurts = hurts} a c l =
    c.answer ∙ front s.kind s.sf s.low len symbols a.told (length old) (length hurts)
    ∙ body-data (frame_of s) symbols (length old) (length hurts) len a.room a.lists a.enough a.below ∙ rw (lt-leb _ _ l)

-- At 4/7 every codeword can be read, whatever arrived.
pub always-readable : (s : Settings) (symbols : List ℕ) (i : ℕ) → (block_for s i).rate ≡ 3 → unreadable_at (found_at (frame_of s) symbols) i ≡ false
unfolding found_at found_in_block block_for block_at
always-readable s symbols i e =
    let B : Block = block_of (frame_of s) (block_of_codeword (frame_of s) i) in
    found-at B.rate (word_in_block B symbols (i - B.codeword)) e (word_lt B symbols (i - B.codeword))

-- where read refuses with 7 a codeword at that place can't be read, or it stands in block 0
seven_at : (k : Kind) (sf : ℕ) (low : Bool) (symbols : List ℕ) (room marks place : ℕ) → Said k sf symbols
    → read_of sf low (expected_of k) symbols room marks ≡ refuse 7 place
    → (unreadable_at (found_at (frame_of (record { sf = sf; low = low; kind = k })) symbols) place ≡ false → place < sf - 2)
unfolding read_of one_of
seven_at (Explicit cr flag) sf low symbols room marks place said e fine = by (head_of sf symbols) refl e
  where
    by : (h : Result Header Refusal) → head_of sf symbols ≡ h → onward h sf low symbols room marks ≡ refuse 7 place → place < sf - 2
    by (Err r) f g =
        let same : r ≡ record { number = 7; place = place } = cc in
        head-seven sf symbols place (rw same at f)
    by (Ok h) f g =
        let (is-cr, is-flag) = said h f in
        absurd (true≢false (sym (body-seven _ symbols room marks h.length place (rw (is-cr, is-flag) at g)) ∙ fine))
seven_at (Agreed agreed cr flag) sf low symbols room marks place said e fine = by (count_of s agreed) refl e
  where
    s : Settings
    s = record { sf = sf; low = low; kind = Agreed agreed cr flag }

    by : (n : Result ℕ Refusal) → count_of s agreed ≡ n → agreed_on n (frame_of s) agreed symbols room marks ≡ refuse 7 place → place < sf - 2
    by (Err r) f g =
        absurd (true≢false (sym (rw (f, numbers g) at (count-among [] s agreed))))
    by (Ok count) f g = absurd (true≢false (sym (body-seven (frame_of s) symbols room marks agreed place g) ∙ fine))

-- At 4/7 refusal 7 never occurs: the codeword at its place stands in a block of another rate.
pub never-at-4/7 : (s : Settings) {symbols old new hurts hurts' : List ℕ} {place : ℕ} → Said s.kind s.sf symbols
    → Reading s.sf s.low (expected_of s.kind) symbols old new hurts hurts' (refuse 7 place) → (block_for s place).rate ≡ 3 → ⊥
never-at-4/7 s {symbols} {old} {new} {hurts} {hurts'} {place} said c e =
    let first = seven_at s.kind s.sf s.low symbols (length old) (length hurts) place said (sym c.answer) (always-readable s symbols place e) in
    omega (arith, e, rate-in-first s place first)
