-- What the checks of head leave.
-- Assumes nothing.
use mathlib.Core.Path.{◌≡◌, refl, sym, ap, ◌∙◌}
use mathlib.Core.Bool.{Bool, true, false}
use mathlib.Core.List.{List, [], ◌∷◌}
use Prim.Native.Nat.{ℕ, ◌+◌, ◌^◌, ◌<◌, ◌≤◌}
use native.Mathlib.Omega.{arith}
use lib.Dec.{leb}
use lib.ListN.{length, get_or, take}
use lib.Seq.{length-take-le, get_or-take}
use borrow.Author.Tests.{lt-leb, le-leb, leb-false}
use Rattle.std.specs.Prelude.{Option, None, Some, MatchOption, Result, Ok, Err}
use Rattle.std.specs.List.{AllWithin, HoldsAt}
use Rattle.bits.specs.Check.{check}
use Rattle.bits.specs.Search.{how_many}
use Rattle.bits.specs.Tab.{tab}
use Rattle.bits.proofs.Searches.{first_range, first_cong, first-is, first-none, how_many-cong}
use Rattle.bits.proofs.Tabs.{tab-cong}
use Rattle.codeword.specs.Codeword.{nibble_of, is_repaired, is_unreadable}
use Rattle.codeword.specs.Found.{Found}
use Rattle.codeword.proofs.CodeLaws.{nibble-lt}
use Rattle.header.specs.Header.{verdict_of}
use Rattle.header.specs.declared.Header.{Header}
use Rattle.header.proofs.HeaderLaws.{says_range}
use Rattle.layout.specs.Layout.{valid_sf, first_block}
use Rattle.layout.specs.Ranges.{Valid}
use Rattle.layout.specs.declared.Frame.{Frame}
use Rattle.reading.specs.Found.{found_at, unreadable_at, repaired_at, nibble_at, found_in_block}
use Rattle.reading.specs.Stages.{grid_of_symbols, rows_from, Walk}
use Rattle.reading.proofs.ReadingLaws.{found-in-first, walk-nibbles}
use Rattle.reading.proofs.RowLaws.{row-in-first}
use Rattle.lora.specs.Head.{is_over, first_over, header_found, unreadable_in_header, header_of, head_of}
use Rattle.lora.specs.Stages.{FirstOver}
use Rattle.refusal.specs.Refusal.{refuse}
use Rattle.refusal.specs.declared.Refusal.{Refusal}
use Rattle.lora.proofs.CountLaws.{sf-valid}

-- a search among symbols, of which m or more is too much
pub over-is : (sf m : ℕ) (symbols : List ℕ) (r : Option ℕ) → m ≡ 2 ^ sf
    → MatchOption r (AllWithin (λ x. x < m) symbols 0 (length symbols)) (λ i. (i < length symbols) × HoldsAt (λ x. m ≤ x) symbols i × AllWithin (λ x. x < m) symbols 0 i)
    → FirstOver sf symbols (length symbols) r
unfolding first_over is_over
over-is sf m symbols None e below =
    omega (arith, first-none (is_over sf symbols) (length symbols) 0 (λ k a b. lt-leb _ _ (rw e at (below k 0 a (omega arith)))))
over-is sf m symbols (Some i) e (here, at, before) =
    (first-is (is_over sf symbols) (length symbols) 0 i (omega arith) (omega arith) (le-leb _ _ (rw e at (at 0))) (λ k a b. lt-leb _ _ (rw e at (before k 0 a b))), here)

-- a search among the first n
pub over-front : (sf : ℕ) (symbols : List ℕ) (n : ℕ) (r : Option ℕ) → n ≤ length symbols → FirstOver sf (take n symbols) (length (take n symbols)) r → FirstOver sf symbols n r
unfolding first_over is_over
over-front sf symbols n r h = one r
  where
    same : first_over sf (take n symbols) (length (take n symbols)) 0 ≡ first_over sf symbols n 0
    same = rw (length-take-le n symbols h) (first_cong (is_over sf (take n symbols)) (is_over sf symbols) n 0 (λ k a b. ap (λ (x : ℕ). leb (2 ^ sf) x) (get_or-take n symbols k 0 (omega arith))))

    one : (r : Option ℕ) → FirstOver sf (take n symbols) (length (take n symbols)) r → FirstOver sf symbols n r
    one None e = sym same ∙ e ∙ length-take-le n symbols h
    one (Some t) (e, l) = (sym same ∙ e, rw (length-take-le n symbols h) at l)

-- where head says a header: the spreading factor, the length and the rate are in range
pub record Heads (sf : ℕ) (h : Header) : Type 0 where
  pub sf-low : 7 ≤ sf
  pub sf-high : sf ≤ 12
  pub short : h.length ≤ 255
  pub cr-low : 1 ≤ h.cr
  pub cr-high : h.cr ≤ 4

module _ (sf : ℕ) (symbols : List ℕ) where
  -- what the header's codewords are read as are nibbles
  header-small : (i : ℕ) → nibble_at (header_found sf symbols) i < 16
  unfolding header_found found_in_block
  header-small i = nibble-lt _ _

  -- what the header says is in range
  said-range : (h : Header) → verdict_of (tab 5 (nibble_at (header_found sf symbols))) ≡ Ok h → (h.length < 256) × (1 ≤ h.cr) × (h.cr ≤ 4)
  said-range h e = says_range (nibble_at (header_found sf symbols)) h header-small e

  -- what head answers, by its checks
  pub head-cases : (P : Result Header Refusal → Type 0) → P (refuse 1 0) → P (refuse 5 8) → P (refuse 6 (first_over sf symbols 8 0))
      → (7 ≤ sf → unreadable_in_header (header_found sf symbols) < 5 → P (refuse 7 (unreadable_in_header (header_found sf symbols))))
      → (7 ≤ sf → sf ≤ 12 → P (verdict_of (tab 5 (nibble_at (header_found sf symbols))))) → P (head_of sf symbols)
  unfolding head_of header_of
  head-cases P one five six seven header =
      by (valid_sf sf) (leb 8 (length symbols)) (leb 8 (first_over sf symbols 8 0)) (leb 5 (unreadable_in_header (header_found sf symbols))) refl refl
    where
      by : (a b c d : Bool) → valid_sf sf ≡ a → leb 5 (unreadable_in_header (header_found sf symbols)) ≡ d
          → P (check a (refuse 1 0) (check b (refuse 5 8) (check c (refuse 6 (first_over sf symbols 8 0))
          (check d (refuse 7 (unreadable_in_header (header_found sf symbols))) (verdict_of (tab 5 (nibble_at (header_found sf symbols))))))))
      by true true true true p q = let (low, high) = sf-valid sf p in header low high
      by true true true false p q = seven (sf-valid sf p).0 (leb-false 5 (unreadable_in_header (header_found sf symbols)) q)
      by true true false d p q = six
      by true false c d p q = five
      by false b c d p q = one

  pub head-sound : (h : Header) → head_of sf symbols ≡ Ok h → Heads sf h
  head-sound h =
      head-cases (λ r. r ≡ Ok h → Heads sf h) other other other (λ low l. other) λ low high e.
      let (x, y, z) = said-range h e in
      record { sf-low = low; sf-high = high; short = omega arith; cr-low = y; cr-high = z }
    where
      other : {refusal : Refusal} → Err refusal ≡ Ok h → Heads sf h
      other e = absurd (let z : ◌≡◌ {A = ℕ} 0 1 = cc in omega arith)

-- the header's codewords are the frame's first five, whatever the rest of the frame is like
pub header-found : (F : Frame) (symbols : List ℕ) → Valid F → (i : ℕ) → i < 5 → found_at F symbols i ≡ header_found F.sf symbols i
unfolding header_found
header-found F symbols v i l = found-in-first F symbols i (omega (arith, v.sf-low))

-- a header is what its five codewords are found to be
pub header-same : (f g : ℕ → Found) → ((i : ℕ) → i < 5 → f i ≡ g i) → header_of f ≡ header_of g
unfolding header_of unreadable_in_header
header-same f g e =
    rw (first_cong (unreadable_at f) (unreadable_at g) 5 0 (λ i a b. ap is_unreadable (e i b)), tab-cong 5 (nibble_at f) (nibble_at g) (λ i l. ap nibble_of (e i l)))

-- a run over five codewords
module _ (found : ℕ → Found) {old new : List ℕ} {end repairs : ℕ} (w : Walk found 5 0 old new end repairs) where
  unreadable-is : unreadable_in_header found ≡ end
  unfolding unreadable_in_header
  unreadable-is = sym w.ends

  -- up to one that can't be read
  pub header_refused : end < 5 → header_of found ≡ refuse 7 end
  unfolding header_of
  header_refused l = rw (unreadable-is, lt-leb 5 end l)

  module _ (all : 5 ≤ end) where
    header-nibble : (i : ℕ) → i < 5 → get_or new i 0 ≡ nibble_at found i
    header-nibble i l =
        let z : 0 + i ≡ i = omega arith in
        rw z at (walk-nibbles w (omega arith) i (omega arith))

    header-nibbles : get_or new 0 0 ∷ get_or new 1 0 ∷ get_or new 2 0 ∷ get_or new 3 0 ∷ get_or new 4 0 ∷ [] ≡ tab 5 (nibble_at found)
    unfolding tab
    header-nibbles =
        rw (header-nibble 0 (omega arith), header-nibble 1 (omega arith), header-nibble 2 (omega arith), header-nibble 3 (omega arith), header-nibble 4 (omega arith))

    -- all of them: what their nibbles say
    pub header-said : header_of found ≡ verdict_of (get_or new 0 0 ∷ get_or new 1 0 ∷ get_or new 2 0 ∷ get_or new 3 0 ∷ get_or new 4 0 ∷ [])
    unfolding header_of
    header-said = rw (unreadable-is, le-leb 5 end all, header-nibbles)

    -- and their repairs
    pub header-repairs : repairs ≡ how_many (repaired_at found) 5
    header-repairs =
        let e : end ≡ 5 = omega (arith, w.ends, first_range (unreadable_at found) 5 0) in
        w.counts ∙ ap (how_many (repaired_at found)) e

-- the rows of block 0's grid are its codewords
pub grid-found : (sf : ℕ) (symbols : List ℕ) {grid : List (List Bool)} → 7 ≤ sf → grid ≡ grid_of_symbols (first_block sf) symbols
    → (i : ℕ) → i < 5 → rows_from 4 grid 0 i ≡ header_found sf symbols i
unfolding rows_from header_found
grid-found sf symbols h e i l = let z : 0 + i ≡ i = omega arith in rw (e, z) (row-in-first sf symbols i (omega arith))

-- and so are their repairs
pub grid-repairs : (sf : ℕ) (symbols : List ℕ) {grid : List (List Bool)} → 7 ≤ sf → grid ≡ grid_of_symbols (first_block sf) symbols
    → how_many (repaired_at (rows_from 4 grid 0)) 5 ≡ how_many (repaired_at (header_found sf symbols)) 5
grid-repairs sf symbols h e = how_many-cong _ _ 5 (λ i l. ap is_repaired (grid-found sf symbols h e i l))

-- so it says the header that head finds
pub grid-header : (sf : ℕ) (symbols : List ℕ) {grid : List (List Bool)} → 7 ≤ sf → grid ≡ grid_of_symbols (first_block sf) symbols
    → header_of (rows_from 4 grid 0) ≡ header_of (header_found sf symbols)
grid-header sf symbols h e = header-same _ _ (grid-found sf symbols h e)
