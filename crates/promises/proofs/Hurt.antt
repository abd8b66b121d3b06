-- Document 02, Ask 3: which chirp was hurt.
-- Assumes nothing.
use mathlib.Core.Path.{◌≡◌, refl, sym, ap, ◌∙◌}
use mathlib.Core.Bool.{Bool, true, false, not, ◌&&◌, false≢true}
use mathlib.Core.List.{List}
use Prim.Native.Nat.{ℕ, zero, suc, ◌+◌, ◌-◌, ◌^◌, ◌≤◌, ◌<◌}
use native.Mathlib.Omega.{arith}
use lib.Dec.{eqb, leb, ltb}
use lib.ListN.{length, get_or, take, drop}
use lib.Seq.{take_at}
use borrow.Author.Tests.{leb-true, ltb-true, eq-eqb, eqb-true}
use Rattle.bits.specs.Bit.{bit}
use Rattle.bits.specs.Search.{first, how_many}
use Rattle.bits.specs.Sum.{sum}
use Rattle.bits.specs.Tab.{tab}
use Rattle.bits.proofs.Searches.{first_found, how_many-none, how_many-some, how_many-zero}
use Rattle.bits.proofs.Sums.{sum-parts}
use Rattle.bits.proofs.Tabs.{length-tab, get_or-over}
use Rattle.codeword.specs.Codeword.{codeword, flipped, read_as, flipped_bit}
use Rattle.codeword.specs.Ranges.{Rate}
use Rattle.codeword.specs.Found.{repaired}
use Rattle.codeword.proofs.CodeLaws.{differs_at, repaired-by}
use Rattle.layout.specs.Layout.{block_of_codeword, nibbles_of, symbols_of}
use Rattle.layout.specs.Ranges.{Valid}
use Rattle.layout.specs.declared.Frame.{Frame}
use Rattle.layout.proofs.LayoutLaws.{block-of-read, symbols-below}
use Rattle.lora.specs.Count.{cr_of}
use Rattle.lora.specs.Read.{repairs_of, hurt_found, accepted_of, frame_said, Reading}
use Rattle.lora.specs.declared.Accepted.{Accepted}
use Rattle.lora.specs.declared.Expected.{Expected}
use Rattle.lora.specs.declared.Settings.{Settings}
use Rattle.lora.specs.Received.{Received}
use Rattle.lora.proofs.AnswerLaws.{accepts}
use Rattle.reading.specs.Found.{found_at, repaired_at, symbol_of_bit, repaired_in, hurt_at}
use Rattle.reading.proofs.HurtLaws.{flipped-within}
use Rattle.promises.specs.Damage.{read_words, block_for, sent_word, arrived_word, changed_in, changed_by_symbol, value_in, FewSymbols, Passed}
use Rattle.promises.proofs.Codewords.{sender, counts, frame-cells}
use Rattle.promises.proofs.Demand3.{one-changed}
use Rattle.promises.proofs.Near.{same_bit}
use Rattle.std.specs.Prelude.{Ok}

-- Codeword reading says the bit: a word that is repaired becomes the codeword of the nibble read by flipping that bit of it, and by
-- flipping no other.
pub says-the-bit : (cr w d j : ℕ) → Rate cr → w < 2 ^ (4 + cr) → read_as cr w ≡ repaired d j
    → (j < 4 + cr) × (flipped cr j w ≡ codeword cr d) × ((k : ℕ) → k < 4 + cr → flipped cr k w ≡ codeword cr d → k ≡ j)
says-the-bit cr w d j rate word e =
    let (within, flip) = repaired-by cr w rate word d j e in
    (within, flip, λ k l other. eqb-true k j (sym (differs_at cr w d j k flip l) ∙ differs_at cr w d k k other l ∙ eq-eqb k k refl))

-- the symbols' repairs are the frame's
all-repairs : (F : Frame) (symbols : List ℕ) (len : ℕ) → Valid F → sum (tab (symbols_of F len) (hurt_found F symbols len)) ≡ repairs_of F symbols len
unfolding hurt_found hurt_at repaired_in repairs_of symbol_of_bit symbols_of
all-repairs F symbols len v =
    sum-parts (repaired_at (found_at F symbols)) (λ i. symbol_of_bit F i (flipped_bit (found_at F symbols i))) (symbols_of F len) (nibbles_of F len)
    (λ i l r. omega (arith, flipped-within F v symbols i r, symbols-below F v (nibbles_of F len) (block_of_codeword F i) (block-of-read F v i (nibbles_of F len) l)))

-- The cells of the symbols used add up to the repairs answered, whatever was accepted.
pub adds-up : {sf : ℕ} {low : Bool} {expected : Expected} {symbols old new hurts hurts' : List ℕ} {a : Accepted} → Reading sf low expected symbols old new hurts hurts' (Ok a)
    → sum (take a.symbols hurts') ≡ a.repairs
unfolding accepted_of
adds-up {sf} {low} {expected} {symbols} {old} {new} {hurts} {hurts'} {a} c =
    let k = accepts sf low expected symbols (length old) (length hurts) a (sym c.answer) in
    let F : Frame = frame_said sf low expected a.cr a.checked in
    let count : a.symbols ≡ symbols_of F a.length = ap (λ (x : Accepted). x.symbols) k.is in
    let front : take a.symbols hurts' ≡ tab a.symbols (hurt_found F symbols a.length)
    = rw c.marks (take_at (tab a.symbols (hurt_found F symbols a.length)) (drop a.symbols hurts) a.symbols (length-tab a.symbols _)) in
    ap sum (front ∙ ap (λ (n : ℕ). tab n (hurt_found F symbols a.length)) count) ∙ all-repairs F symbols a.length k.valid
    ∙ sym (ap (λ (x : Accepted). x.repairs) k.is)

-- a test that holds at some place is counted
some-counted : (p : ℕ → Bool) (n i : ℕ) → i < n → p i ≡ true → 0 < how_many p n
some-counted p n i l e = by (how_many p n) refl
  where
    by : (m : ℕ) → how_many p n ≡ m → 0 < m
    by zero z = absurd (false≢true (sym (how_many-zero p n z i l) ∙ e))
    by (suc m) z = omega arith

-- With at most one symbol changed in each block, at 4/7 and 4/8:
module _ {s : Settings} {payload old sent : List ℕ} {count : ℕ} {arrived buffer buffer' hurts hurts' : List ℕ} {answer : Received}
    (c : Passed s payload old sent count arrived buffer buffer' hurts hurts' answer) (rate : 3 ≤ cr_of s.kind) (few : FewSymbols 1 s payload sent arrived)
    (t : ℕ) (h : t < count) where
  -- each cell is the number of read codewords in which that symbol's bit changed,
  pub each-cell : get_or hurts' t 0 ≡ changed_by_symbol s payload arrived t
  each-cell = rw (one-changed c rate few).marks (get_or-over count (changed_by_symbol s payload arrived) hurts t 0 h)

  -- the symbols with a repair are exactly those that changed a bit of a read codeword,
  pub hurt-by : 0 < get_or hurts' t 0 → (i : ℕ) × (i < read_words s payload) × (changed_in s payload arrived t i ≡ true)
  unfolding changed_by_symbol
  hurt-by l =
      let p : ℕ → Bool = changed_in s payload arrived t in
      let at : first p (read_words s payload) 0 < read_words s payload = how_many-some p (read_words s payload) (omega (arith, each-cell)) in
      (first p (read_words s payload) 0, at, first_found p (read_words s payload) 0 (omega arith))

  pub hurts-when : (i : ℕ) → i < read_words s payload → changed_in s payload arrived t i ≡ true → 0 < get_or hurts' t 0
  unfolding changed_by_symbol
  hurts-when i l e = omega (arith, each-cell, some-counted (changed_in s payload arrived t) (read_words s payload) i l e)

  -- and a symbol that arrived as it was sent has none.
  pub as-sent : get_or arrived t 0 ≡ get_or sent t 0 → get_or hurts' t 0 ≡ 0
  unfolding changed_by_symbol changed_in value_in
  as-sent same = each-cell ∙ how_many-none _ (read_words s payload) (λ i l. by i l (leb (block_for s i).symbol t) (ltb (t - (block_for s i).symbol) (4 + (block_for s i).rate)) refl refl)
    where
      by : (i : ℕ) → i < read_words s payload → (a b : Bool) → leb (block_for s i).symbol t ≡ a → ltb (t - (block_for s i).symbol) (4 + (block_for s i).rate) ≡ b
          → (a && (b && not (eqb (bit (t - (block_for s i).symbol) (arrived_word s arrived i)) (bit (t - (block_for s i).symbol) (sent_word s payload i))))) ≡ false
      by i l false b d e = refl
      by i l true false d e = refl
      by i l true true d e =
          let from : (block_for s i).symbol ≤ t = leb-true (block_for s i).symbol t d in
          let j : ℕ = t - (block_for s i).symbol in
          let is : (block_for s i).symbol + j ≡ t = omega arith in
          ap not (eq-eqb _ _ (same_bit s payload sent arrived (sender c) (λ k q. frame-cells s payload old sent count c.coded k (omega (arith, counts c))) i j l
          (ltb-true j (4 + (block_for s i).rate) e) (rw (is, same))))
