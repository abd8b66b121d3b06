-- What the checks of an operation leave of a refusal: its number, and where 7 is given.
-- Assumes nothing.
use mathlib.Core.Path.{◌≡◌, refl, sym, ap}
use mathlib.Core.Bool.{Bool, true, false, true≢false}
use mathlib.Core.List.{List, [], ◌∷◌}
use Prim.Native.Nat.{ℕ, ◌+◌, ◌-◌, ◌^◌, ◌<◌}
use native.Mathlib.Omega.{arith}
use lib.Dec.{leb}
use lib.ListN.{length}
use Rattle.bits.specs.Check.{check}
use Rattle.bits.specs.Tab.{tab}
use Rattle.bits.proofs.Searches.{first_found}
use Rattle.codeword.specs.Codeword.{read_as, is_unreadable}
use Rattle.codeword.proofs.Perfect.{always-read}
use Rattle.header.specs.Header.{checks_hold, zeros_hold, rate_holds, header_in, verdict_of}
use Rattle.layout.specs.Layout.{valid_sf, valid_cr, data_nibbles, nibbles_of, symbols_of}
use Rattle.layout.specs.declared.Frame.{Frame}
use Rattle.lora.specs.Airtime.{valid_bandwidth, lasting, airtime_of}
use Rattle.lora.specs.Code.{fitting, code_of}
use Rattle.lora.specs.Count.{cr_of, frame_of, takes, count_of}
use Rattle.lora.specs.Head.{header_found, unreadable_in_header, head_of}
use Rattle.lora.specs.Read.{unreadable_in_data, body_of, frame_said, onward, agreed_on, read_of}
use Rattle.lora.specs.declared.Expected.{Expected}
use Rattle.lora.specs.declared.Expected.TheVariants.{Explicit, Agreed}
use Rattle.lora.specs.declared.Kind.TheVariants as kind
use Rattle.lora.specs.declared.Settings.{Settings}
use Rattle.lora.proofs.AnswerLaws.{body-cases}
use Rattle.lora.proofs.HeadLaws.{head-cases}
use Rattle.reading.specs.Found.{found_at, unreadable_at, nibble_at}
use Rattle.promises.specs.Refusals.{one_of}
use Rattle.std.specs.Prelude.{Result, Ok, Err}
use Rattle.refusal.specs.Refusal.{refuse}
use Rattle.refusal.specs.declared.Refusal.{Refusal}
use Rattle.header.specs.declared.Header.{Header}

-- an answer that is a refusal has one of these numbers
abbrev pub Gives : {T : Type 0} → List ℕ → Result T Refusal → Type 0
Gives numbers (Ok a) = Unit
Gives numbers (Err r) = one_of numbers r.number ≡ true

-- count's numbers are 1, 2 and 3; airtime and code have one more each
pub count-among : (more : List ℕ) (s : Settings) (len : ℕ) → Gives (1 ∷ 2 ∷ 3 ∷ more) (count_of s len)
unfolding count_of one_of
count-among more s len = by (valid_sf s.sf) (valid_cr (cr_of s.kind)) (takes s.kind len)
  where
    by : (a b c : Bool)
        → Gives (1 ∷ 2 ∷ 3 ∷ more) (check a (refuse 1 0) (check b (refuse 2 0) (check c (refuse 3 0) (Ok (symbols_of (frame_of s) len)))))
    by true true true = tt
    by true true false = refl
    by true false c = refl
    by false b c = refl

pub airtime-among : (s : Settings) (len khz n : ℕ) → Gives (1 ∷ 2 ∷ 3 ∷ 13 ∷ []) (airtime_of s len khz n)
unfolding airtime_of one_of
airtime-among s len khz n = by (count_of s len) (valid_bandwidth khz) refl (count-among (13 ∷ []) s len)
  where
    by : (r : Result ℕ Refusal) (t : Bool) → valid_bandwidth khz ≡ t → Gives (1 ∷ 2 ∷ 3 ∷ 13 ∷ []) r → Gives (1 ∷ 2 ∷ 3 ∷ 13 ∷ []) (lasting r s khz n)
    by (Err r) t e g = g
    by (Ok count) true e g = rw e tt
    by (Ok count) false e g = rw e

pub code-among : (s : Settings) (payload : List ℕ) (room : ℕ) → Gives (1 ∷ 2 ∷ 3 ∷ 4 ∷ []) (code_of s payload room)
unfolding code_of one_of
code-among s payload room = by (count_of s (length payload)) (count-among (4 ∷ []) s (length payload))
  where
    fits : (count : ℕ) (t : Bool) → Gives (1 ∷ 2 ∷ 3 ∷ 4 ∷ []) (check t (refuse 4 count) (Ok count))
    fits count true = tt
    fits count false = refl

    by : (r : Result ℕ Refusal) → Gives (1 ∷ 2 ∷ 3 ∷ 4 ∷ []) r → Gives (1 ∷ 2 ∷ 3 ∷ 4 ∷ []) (fitting r room)
    by (Err r) g = g
    by (Ok count) g = fits count (leb count room)

-- the header's are 9, 10 and 11
said-among : (numbers : List ℕ) → one_of numbers 9 ≡ true → one_of numbers 10 ≡ true → one_of numbers 11 ≡ true → (nibbles : List ℕ)
    → Gives numbers (verdict_of nibbles)
unfolding verdict_of
said-among numbers nine ten eleven nibbles = by (checks_hold nibbles) (zeros_hold nibbles) (rate_holds nibbles)
  where
    by : (a b c : Bool) → Gives numbers (check a (refuse 9 0) (check b (refuse 10 0) (check c (refuse 11 0) (Ok (header_in nibbles)))))
    by true true true = tt
    by true true false = eleven
    by true false c = ten
    by false b c = nine

-- head's are 1, 5, 6, 7 and the header's; read has 4 and 12 besides, and without a header count's, 4, 5, 6, 7 and 12
abbrev heads : List ℕ → List ℕ
heads more = 1 ∷ 5 ∷ 6 ∷ 7 ∷ 9 ∷ 10 ∷ 11 ∷ more

abbrev pub reads : Expected → List ℕ
reads Explicit = heads (4 ∷ 12 ∷ [])
reads (Agreed agreed cr flag) = 1 ∷ 2 ∷ 3 ∷ 4 ∷ 5 ∷ 6 ∷ 7 ∷ 12 ∷ []

pub head-among : (more : List ℕ) (sf : ℕ) (symbols : List ℕ) → Gives (heads more) (head_of sf symbols)
unfolding one_of
head-among more sf symbols =
    head-cases sf symbols (Gives (heads more)) refl refl refl (λ low l. refl)
    (λ low high. said-among (heads more) refl refl refl (tab 5 (nibble_at (header_found sf symbols))))

body-among : (expected : Expected) (F : Frame) (symbols : List ℕ) (room marks len : ℕ) → Gives (reads expected) (body_of F symbols room marks len)
unfolding one_of
body-among Explicit F symbols room marks len =
    body-cases F symbols room marks len (Gives (reads Explicit)) refl refl refl refl (λ l. refl) refl (λ fits lists over. tt)
body-among (Agreed agreed cr flag) F symbols room marks len =
    body-cases F symbols room marks len (Gives (reads (Agreed agreed cr flag))) refl refl refl refl (λ l. refl) refl (λ fits lists over. tt)

pub read-among : (sf : ℕ) (low : Bool) (expected : Expected) (symbols : List ℕ) (room marks : ℕ) → Gives (reads expected) (read_of sf low expected symbols room marks)
unfolding read_of
read-among sf low Explicit symbols room marks = by (head_of sf symbols) (head-among (4 ∷ 12 ∷ []) sf symbols)
  where
    by : (h : Result Header Refusal) → Gives (reads Explicit) h → Gives (reads Explicit) (onward h sf low symbols room marks)
    by (Err r) g = g
    by (Ok h) g = body-among Explicit (frame_said sf low Explicit h.cr h.checked) symbols room marks h.length
read-among sf low (Agreed len cr flag) symbols room marks = by (count_of s len) (count-among (4 ∷ 5 ∷ 6 ∷ 7 ∷ 12 ∷ []) s len)
  where
    s : Settings
    s = record { sf = sf; low = low; kind = kind.Agreed len cr flag }

    by : (n : Result ℕ Refusal) → Gives (reads (Agreed len cr flag)) n → Gives (reads (Agreed len cr flag)) (agreed_on n (frame_of s) len symbols room marks)
    by (Err r) g = g
    by (Ok count) g = body-among (Agreed len cr flag) (frame_of s) symbols room marks len

-- a word of 4/7 can be read
pub found-at : (cr w : ℕ) → cr ≡ 3 → w < 2 ^ (4 + cr) → is_unreadable (read_as cr w) ≡ false
found-at cr w e word = rw e (always-read w (rw e at word))

-- of two refusals that are one, the numbers and the places
pub numbers : {T : Type 0} {e d : Refusal} → ◌≡◌ {A = Result T Refusal} (Err e) (Err d) → e.number ≡ d.number
numbers {e = e} {d = d} h = let same : e ≡ d = cc in ap (λ (r : Refusal). r.number) same

pub places : {T : Type 0} {e d : Refusal} → ◌≡◌ {A = Result T Refusal} (Err e) (Err d) → e.place ≡ d.place
places {e = e} {d = d} h = let same : e ≡ d = cc in ap (λ (r : Refusal). r.place) same

-- where head refuses with 7 it is in block 0
pub head-seven : (sf : ℕ) (symbols : List ℕ) (place : ℕ) → head_of sf symbols ≡ refuse 7 place → place < sf - 2
unfolding one_of
head-seven sf symbols place =
    head-cases sf symbols (λ r. r ≡ refuse 7 place → place < sf - 2)
    (λ e. absurd (let z : ◌≡◌ {A = ℕ} 1 7 = numbers e in omega arith))
    (λ e. absurd (let z : ◌≡◌ {A = ℕ} 5 7 = numbers e in omega arith))
    (λ e. absurd (let z : ◌≡◌ {A = ℕ} 6 7 = numbers e in omega arith))
    (λ low l e. let same : unreadable_in_header (header_found sf symbols) ≡ place = places e in omega arith)
    (λ low high e. absurd (true≢false (sym (rw e at (said-among (9 ∷ 10 ∷ 11 ∷ []) refl refl refl (tab 5 (nibble_at (header_found sf symbols))))))))

-- and behind the header at a data codeword that can't be read
pub body-seven : (F : Frame) (symbols : List ℕ) (room marks len place : ℕ) → body_of F symbols room marks len ≡ refuse 7 place → unreadable_at (found_at F symbols) place ≡ true
unfolding unreadable_in_data nibbles_of
body-seven F symbols room marks len place =
    body-cases F symbols room marks len (λ r. r ≡ refuse 7 place → unreadable_at (found_at F symbols) place ≡ true)
    (λ e. absurd (let z : ◌≡◌ {A = ℕ} 4 7 = numbers e in omega arith))
    (λ e. absurd (let z : ◌≡◌ {A = ℕ} 4 7 = numbers e in omega arith))
    (λ e. absurd (let z : ◌≡◌ {A = ℕ} 5 7 = numbers e in omega arith))
    (λ e. absurd (let z : ◌≡◌ {A = ℕ} 6 7 = numbers e in omega arith))
    (λ l e. let same : unreadable_in_data F symbols len ≡ place = places e in
    rw (← same) (first_found (unreadable_at (found_at F symbols)) (data_nibbles len F.checked) F.header l))
    (λ e. absurd (let z : ◌≡◌ {A = ℕ} 12 7 = numbers e in omega arith))
    (λ fits lists over e. absurd (let z : ◌≡◌ {A = ℕ} 0 1 = cc in omega arith))
