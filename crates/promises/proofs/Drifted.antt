-- Document 02, Ask 2: a frame that arrives beside its marks, and what its drift is.
-- Assumes nothing.
use mathlib.Core.Path.{◌≡◌, refl, sym, ap, ap₂, ◌∙◌}
use mathlib.Core.Bool.{Bool, true, false, not}
use mathlib.Core.List.{List, [], ◌∷◌, ◌++◌}
use Prim.Native.Nat.{ℕ, zero, suc, ◌+◌, ◌-◌, ◌*◌, ◌^◌, ◌≤◌, ◌<◌}
use native.Mathlib.Omega.{arith}
use lib.IntN.{ℤ, pos, negsuc}
use lib.ListN.{length, get_or, drop}
use lib.Pow.{pow_pos}
use borrow.Author.Tests.{eq-eqb}
use Rattle.bits.specs.Tab.{Bytes, over}
use Rattle.bits.proofs.Tabs.{over-cong}
use Rattle.bits.proofs.Searches.{how_many-none}
use Rattle.block.specs.Block.{symbol_of_codewords}
use Rattle.block.specs.Gray.{number_of_value, value_of_number}
use Rattle.coding.specs.Symbols.{codeword_in_block, symbol_in_block, symbol_at}
use Rattle.drift.specs.Drift.{steps_up, distance, moved, mark_of, drift_of, Small}
use Rattle.drift.proofs.DriftLaws.{value-of-symbol, drift-of-symbol, drift-small, drift-moves, drift-only, moved-below}
use Rattle.layout.specs.Layout.{rows_of_first, rows_of_later, first_block, block_of, block_of_symbol, later_blocks, symbols_of}
use Rattle.layout.specs.declared.Block.{Block}
use Rattle.layout.specs.declared.Frame.{Frame}
use Rattle.layout.proofs.LayoutLaws.{symbol-in, symbols-below, symbols-ge}
use Rattle.lora.specs.Code.{sent_nibble, sent_symbol, Coding}
use Rattle.lora.specs.Count.{cr_of, checked_of, expected_of, frame_of}
use Rattle.lora.specs.Read.{frame_said, accepted_of, Reading}
use Rattle.lora.specs.declared.Expected.{Expected}
use Rattle.lora.specs.declared.Accepted.{Accepted}
use Rattle.lora.specs.declared.Settings.{Settings}
use Rattle.lora.specs.Received.{Received}
use Rattle.lora.proofs.AnswerLaws.{accepts}
use Rattle.lora.proofs.CountLaws.{coded}
use Rattle.promises.specs.Damage.{read_words, block_at, value_in, changed_values, changed_bits, changed_in, changed_by_symbol, FewValues, Passed, hurt}
use Rattle.promises.specs.Drifted.{is_spaced, Drifted, IsDrift}
use Rattle.promises.proofs.Answers.{never}
use Rattle.promises.proofs.Codewords.{sender, counts, frame-cells, few_bits, answered-by, clean, hurt-none}
use Rattle.reading.specs.Found.{repaired_in}
use Rattle.promises.proofs.Near.{found_none, marks-none}
use Rattle.promises.proofs.Unchanged.{below-limit}
use Rattle.std.specs.Prelude.{Ok}

-- a block at the four-wide spacing has SF - 2 rows
spaced-rows : (F : Frame) (b : ℕ) → (block_of F b).spaced ≡ true → (block_of F b).rows ≡ F.sf - 2
unfolding block_of first_block rows_of_first rows_of_later
spaced-rows F zero e = refl
spaced-rows F (suc b) e = rw e

-- block 0 stands at that spacing
first-spaced : (s : Settings) → is_spaced s 0 ≡ true
unfolding is_spaced block_at block_of_symbol block_of first_block
first-spaced s = refl

-- a symbol that was sent at it was made of its block's codewords
sent-spaced : {s : Settings} {payload old sent : List ℕ} {count : ℕ} → Coding s payload old sent (Ok count) → (t : ℕ) → t < count → is_spaced s t ≡ true
    → (c : ℕ → ℕ) × (j : ℕ) × (get_or sent t 0 ≡ symbol_of_codewords (s.sf - 2) true c j)
unfolding is_spaced block_at sent_symbol symbol_at symbol_in_block
sent-spaced {s} {payload} {old} {sent} {count} c t h spaced =
    let B : Block = block_of (frame_of s) (block_of_symbol (frame_of s) t) in (
      codeword_in_block B (sent_nibble (frame_of s) payload),
      t - B.symbol,
      frame-cells s payload old sent count c t h ∙ rw (spaced, spaced-rows (frame_of s) (block_of_symbol (frame_of s) t) spaced),
    )

module _ {s : Settings} {payload old sent : List ℕ} {count : ℕ} (c : Coding s payload old sent (Ok count)) where
  two : 2 ≤ s.sf
  two = omega (arith, (coded s payload (length old) count (sym c.answer)).0.settings.sf-low)

  module _ (t : ℕ) (h : t < count) (spaced : is_spaced s t ≡ true) (d : ℤ) (small : Small d) where
    -- A symbol at the four-wide spacing that arrives -2 to +1 from what was sent has the value that was sent: in `Demand3`'s theorems
    -- by values it is not one of the changed ones, in whatever frame it stands.
    pub keeps-value : value_of_number (s.sf - 2) true (moved (2 ^ s.sf) (get_or sent t 0) d) ≡ value_of_number (s.sf - 2) true (get_or sent t 0)
    keeps-value =
        let (words, j, own) = sent-spaced c t h spaced in
        rw own (value-of-symbol s.sf two words j d small)

    -- and so far is its drift
    tells-drift : drift_of s.sf (moved (2 ^ s.sf) (get_or sent t 0) d) ≡ d
    tells-drift =
        let (words, j, own) = sent-spaced c t h spaced in
        rw own (drift-of-symbol s.sf two words j d small)

-- a value in a block, at either spacing
same-value : (sf rows : ℕ) (wide : Bool) (arrived sent : ℕ)
    → (wide ≡ true → (rows ≡ sf - 2) × (value_of_number (sf - 2) true arrived ≡ value_of_number (sf - 2) true sent)) → (wide ≡ false → arrived ≡ sent)
    → value_of_number rows wide arrived ≡ value_of_number rows wide sent
same-value sf rows false arrived sent near as-sent = ap (value_of_number rows false) (as-sent refl)
same-value sf rows true arrived sent near as-sent = let (e, is) = near refl in rw e is

module _ {d : ℕ → ℤ} {s : Settings} {payload old sent : List ℕ} {count : ℕ} {arrived buffer buffer' hurts hurts' : List ℕ} {answer : Received}
    (p : Passed s payload old sent count arrived buffer buffer' hurts hurts' answer) (near : Drifted d s sent count arrived) where
  -- symbol j of block b is one of the frame's, with the block's spacing, and as it arrives it has the value that was sent
  module _ (b j : ℕ) (h : b ≤ later_blocks (frame_of s) (read_words s payload)) (l : j < 4 + (block_at s b).rate) where
    inside : (block_at s b).symbol + j < count
    unfolding block_at read_words symbols_of
    inside = omega (arith, counts p, symbols-below (frame_of s) (sender p).valid (read_words s payload) b h)

    spacing : is_spaced s ((block_at s b).symbol + j) ≡ (block_at s b).spaced
    unfolding is_spaced block_at
    spacing = ap (λ (x : ℕ). (block_of (frame_of s) x).spaced) (symbol-in (frame_of s) (sender p).valid b j (omega arith))

    value-back : value_in (block_at s b) arrived j ≡ value_in (block_at s b) sent j
    unfolding value_in block_at
    value-back =
        let t : ℕ = (block_of (frame_of s) b).symbol + j in
        same-value s.sf _ _ _ _
        (λ e. let (small, is) = near.near t inside (spacing ∙ e) in
        (spaced-rows (frame_of s) b e, ap (value_of_number (s.sf - 2) true) is ∙ keeps-value p.coded t inside (spacing ∙ e) (d t) small))
        (λ e. near.others t inside (spacing ∙ e))

  -- no value is changed, so no codeword that is read has a changed bit
  no-values : FewValues 0 s payload sent arrived
  unfolding changed_values
  no-values b h =
      let none = how_many-none _ (4 + (block_at s b).rate) (λ j l. ap not (eq-eqb _ _ (value-back b j h l))) in
      omega (arith, none)

  none : (i : ℕ) → i < read_words s payload → changed_bits s payload arrived i ≡ 0
  none i h = omega (arith, few_bits p no-values i h)

  -- the first symbol's drift is the distance at which it arrived
  first-drift : drift_of s.sf (get_or arrived 0 0) ≡ d 0
  first-drift =
      let eight = symbols-ge (frame_of s) (length payload) in
      let here : 0 < count = omega (arith, counts p, eight) in
      let (small, is) = near.near 0 here (first-spaced s) in
      ap (drift_of s.sf) is ∙ tells-drift p.coded 0 here (first-spaced s) (d 0) small

  -- no symbol changed a bit of it
  unchanged : (i t : ℕ) → changed_bits s payload arrived i ≡ 0 → changed_in s payload arrived t i ≡ false
  unfolding repaired_in
  unchanged i t e = sym (marks-none s payload arrived (sender p) i t e) ∙ rw (found_none s payload arrived (sender p) i e)

  read-clean : (answer ≡ Ok (record { length = length payload; cr = cr_of s.kind; checked = checked_of s.kind; symbols = count; repairs = 0; drift = d 0 }))
      × (buffer' ≡ payload ++ drop (length payload) buffer) × (hurts' ≡ over count (λ _. 0) hurts)
  unfolding changed_by_symbol
  read-clean =
      let r = never (answered-by p (λ _. false) (λ i h. clean p _ i refl (none i h))) in
      let repairs = how_many-none (hurt s payload arrived) (read_words s payload) (λ i h. hurt-none s payload arrived i (none i h)) in
      let says : ℕ → ℤ → Received
      = λ n x. Ok (record { length = length payload; cr = cr_of s.kind; checked = checked_of s.kind; symbols = count; repairs = n; drift = x }) in
      let unhurt = over-cong count _ (λ _. 0) hurts (λ t l. how_many-none (changed_in s payload arrived t) (read_words s payload) (λ i h. unchanged i t (none i h))) in
      (r.says ∙ ap₂ says repairs first-drift, r.cells, r.marks ∙ unhurt)

-- A frame whose symbols at the four-wide spacing each arrive -2 to +1 from what was sent, the others as sent, is read with no
-- repairs, none in any symbol, and its drift is the first one's.
pub drifted : (d : ℕ → ℤ) (s : Settings) (payload old sent : List ℕ) (count : ℕ) (arrived buffer buffer' hurts hurts' : List ℕ) (answer : Received)
    → Bytes payload
    → Coding s payload old sent (Ok count)
    → count ≤ length arrived
    → Drifted d s sent count arrived
    → length payload ≤ length buffer
    → count ≤ length hurts
    → Reading s.sf s.low (expected_of s.kind) arrived buffer buffer' hurts hurts' answer
    → (answer ≡ Ok (record { length = length payload; cr = cr_of s.kind; checked = checked_of s.kind; symbols = count; repairs = 0; drift = d 0 }))
    × (buffer' ≡ payload ++ drop (length payload) buffer)
    × (hurts' ≡ over count (λ _. 0) hurts)
drifted d s payload old sent count arrived buffer buffer' hurts hurts' answer bytes c enough near room lists read =
    read-clean (record { bytes = bytes; coded = c; enough = enough; below = below; room = room; lists = lists; read = read }) near
  where
    by : (t : ℕ) → t < count → (w : Bool) → is_spaced s t ≡ w → get_or arrived t 0 < 2 ^ s.sf
    by t h true e = rw (near.near t h e).1 (moved-below _ _ _ (pow_pos s.sf))
    by t h false e = rw (near.others t h e) (below-limit c t h)

    below : (t : ℕ) → t < count → get_or arrived t 0 < 2 ^ s.sf
    below t h = by t h (is_spaced s t) refl

-- The mark is 4 x the value, and the drift is the only number from -2 to +1 with mark + drift = number mod 2^SF.
pub drift-is : (sf s : ℕ) → 2 ≤ sf → s < 2 ^ sf
    → (mark_of sf s ≡ 4 * value_of_number (sf - 2) true s) × IsDrift sf (mark_of sf s) s (drift_of sf s)
    × ((d : ℤ) → IsDrift sf (mark_of sf s) s d → d ≡ drift_of sf s)
unfolding mark_of number_of_value
drift-is sf s two below = (
  refl,
  record { small = drift-small sf two s below; leads = drift-moves sf two s below },
  λ d is. drift-only sf two s below d is.small is.leads,
)

-- The request's rows, at SF 7: the numbers 123, 126, 127, 0 and 1, their marks and their drifts.
pub rows : (mark_of 7 123 ∷ mark_of 7 126 ∷ mark_of 7 127 ∷ mark_of 7 0 ∷ mark_of 7 1 ∷ [] ≡ 124 ∷ 0 ∷ 0 ∷ 0 ∷ 0 ∷ [])
    × (drift_of 7 123 ∷ drift_of 7 126 ∷ drift_of 7 127 ∷ drift_of 7 0 ∷ drift_of 7 1 ∷ [] ≡ negsuc 0 ∷ negsuc 1 ∷ negsuc 0 ∷ pos 0 ∷ pos 1 ∷ [])
unfolding mark_of drift_of distance steps_up number_of_value value_of_number
rows = (refl, refl)

-- Every accepted frame is answered with the drift of its first symbol.
pub accepted-drift : (sf : ℕ) (low : Bool) (expected : Expected) (symbols old new hurts hurts' : List ℕ) (a : Accepted) → Reading sf low expected symbols old new hurts hurts' (Ok a)
    → (7 ≤ sf) × (get_or symbols 0 0 < 2 ^ sf) × (a.drift ≡ drift_of sf (get_or symbols 0 0))
unfolding accepted_of
accepted-drift sf low expected symbols old new hurts hurts' a r =
    let k = accepts sf low expected symbols (length old) (length hurts) a (sym r.answer) in
    let used : a.symbols ≡ symbols_of (frame_said sf low expected a.cr a.checked) a.length = ap (λ (x : Accepted). x.symbols) k.is in
    let eight = symbols-ge (frame_said sf low expected a.cr a.checked) a.length in
    (k.valid.sf-low, k.below 0 (omega (arith, used, eight)), ap (λ (x : Accepted). x.drift) k.is)
