-- What a frame's codewords are found to be, block by block, what a run leaves in the nibbles, and what of the nibbles the payload depends on.
-- Assumes nothing.
use mathlib.Core.Path.{◌≡◌, refl, ap, ap₂, ◌∙◌}
use mathlib.Core.Bool.{Bool, true, false}
use mathlib.Core.List.{List, ◌++◌}
use Prim.Native.Nat.{ℕ, ◌+◌, ◌-◌, ◌*◌, ◌^◌, ◌≤◌, ◌<◌}
use native.Mathlib.Omega.{arith}
use lib.Bits.{bit_xor}
use lib.Dec.{ltb}
use lib.ListN.{length, get_or, take, drop, get_or-eq_default}
use lib.Seq.{drop_at}
use borrow.Author.Tests.{ltb-true, ltb-false}
use Rattle.bits.specs.Search.{first}
use Rattle.bits.specs.Tab.{tab, over, blank}
use Rattle.bits.proofs.Searches.{first_cong, first_range, how_many-cong}
use Rattle.bits.proofs.Tabs.{length-blank, length-tab, get_or-blank, get_or-over, get_or-over_at, over_at-all, tab-cong}
use Rattle.block.proofs.BlockLaws.{received-lt}
use Rattle.codeword.specs.Codeword.{nibble_of, is_repaired, is_unreadable}
use Rattle.codeword.specs.Found.{Found}
use Rattle.codeword.proofs.CodeLaws.{nibble-lt}
use Rattle.layout.specs.declared.Block.{Block}
use Rattle.layout.specs.declared.Frame.{Frame}
use Rattle.layout.specs.Layout.{block_of, first_block}
use Rattle.layout.specs.Ranges.{Valid}
use Rattle.layout.proofs.LayoutLaws.{codeword-in, in-first}
use Rattle.whitening.specs.Whitening.{whitening, whitened}
use Rattle.reading.specs.Found.{word_in_block, found_in_block, found_at, unreadable_at, nibble_at}
use Rattle.reading.specs.Payload.{byte_of_nibbles, payload_byte, sent_checksum}
use Rattle.reading.specs.Stages.{data_found, Walk}

-- a received word has as many bits as its block has columns
pub word_lt : (B : Block) (symbols : List ℕ) (i : ℕ) → word_in_block B symbols i < 2 ^ (4 + B.rate)
unfolding word_in_block
word_lt B symbols i = received-lt B.rows (4 + B.rate) B.spaced _ i

-- a codeword of the frame, as one of its block's
pub found-in-block : (F : Frame) (b : ℕ) (symbols : List ℕ) (i : ℕ) → Valid F → i < (block_of F b).rows
    → found_at F symbols ((block_of F b).codeword + i) ≡ found_in_block (block_of F b) symbols i
unfolding found_at
found-in-block F b symbols i v h =
    let e : (block_of F b).codeword + i - (block_of F b).codeword ≡ i = omega arith in
    rw (codeword-in F v b i h, e)

-- a codeword of block 0, whatever the rest of the frame is like
pub found-in-first : (F : Frame) (symbols : List ℕ) (i : ℕ) → i < F.sf - 2 → found_at F symbols i ≡ found_in_block (first_block F.sf) symbols i
unfolding found_at block_of first_block
found-in-first F symbols i l = let e : i - 0 ≡ i = omega arith in rw (in-first F i l, e)

-- what is read of the data are nibbles
pub nibble-data-lt : (F : Frame) (symbols : List ℕ) (i : ℕ) → nibble_at (data_found F symbols) i < 16
unfolding data_found found_at found_in_block
nibble-data-lt F symbols i = nibble-lt _ _

-- a run over codewords that are found to be the same
pub walk_same : {h g : ℕ → Found} {n at end repairs : ℕ} {old new : List ℕ} → Walk h n at old new end repairs → ((i : ℕ) → i < n → h i ≡ g i)
    → Walk g n at old new end repairs
walk_same {h} {g} {n} {at} {end} {repairs} {old} w e =
    let ends : first (unreadable_at h) n 0 ≡ first (unreadable_at g) n 0 = first_cong _ _ n 0 (λ i a b. ap is_unreadable (e i (omega arith))) in
    let most : end ≤ n = omega (arith, w.ends, first_range (unreadable_at h) n 0) in
    record {
      ends = w.ends ∙ ends;
      counts = w.counts ∙ how_many-cong _ _ end (λ i l. ap is_repaired (e i (omega arith)));
      cells = w.cells ∙ ap (λ (t : List ℕ). take at old ++ (t ++ drop (at + end) old)) (tab-cong end _ _ (λ i l. ap nibble_of (e i (omega arith))));
    }

-- a run that ended at end
module _ {h : ℕ → Found} {n at end repairs : ℕ} {old new : List ℕ} (w : Walk h n at old new end repairs) (room : at ≤ length old) where
  -- below its end stand the nibbles read
  pub walk-nibbles : (i : ℕ) → i < end → get_or new (at + i) 0 ≡ nibble_at h i
  walk-nibbles i l = ap (λ (x : List ℕ). get_or x (at + i) 0) w.cells ∙ get_or-over_at at end (nibble_at h) old 0 room i l

  -- it leaves nibbles where there were nibbles
  pub walk-small : ((i : ℕ) → nibble_at h i < 16) → ((i : ℕ) → get_or old i 0 < 16) → (i : ℕ) → get_or new i 0 < 16
  walk-small small before i = rw w.cells (over_at-all at end (nibble_at h) old 0 room (λ (x : ℕ). x < 16) small before i)

-- a blank list holds nibbles
pub blank-small : (n i : ℕ) → get_or (blank n 0) i 0 < 16
blank-small n i = at (ltb i n) refl
  where
    at : (b : Bool) → ltb i n ≡ b → get_or (blank n 0) i 0 < 16
    at true e = rw (get_or-blank {A = ℕ} n i 0 0 (ltb-true i n e)) (omega arith)
    at false e = rw (get_or-eq_default {A = ℕ} (blank n 0) 0 {n = i} (rw length-blank (ltb-false i n e))) (omega arith)

-- a byte depends on two nibbles, and the checksum on four
module _ (h m : ℕ) (f g : ℕ → ℕ) (same : (i : ℕ) → i < m → f (h + i) ≡ g (h + i)) where
  pub byte-cong : (p : ℕ) → 2 * p + 1 < m → byte_of_nibbles h f p ≡ byte_of_nibbles h g p
  unfolding byte_of_nibbles
  byte-cong p l =
      let e : h + (2 * p + 1) ≡ h + 2 * p + 1 = omega arith in
      ap₂ (λ (x y : ℕ). x + 16 * y) (same (2 * p) (omega arith)) (rw e at (same (2 * p + 1) l))

  pub payload-cong : (p : ℕ) → 2 * p + 1 < m → payload_byte h f p ≡ payload_byte h g p
  unfolding payload_byte
  payload-cong p l = ap (λ (x : ℕ). bit_xor x (whitening p)) (byte-cong p l)

  pub checksum-cong : (len : ℕ) → 2 * len + 3 < m → sent_checksum h f len ≡ sent_checksum h g len
  unfolding sent_checksum
  checksum-cong len l = ap₂ (λ (x y : ℕ). x + 256 * y) (byte-cong len (omega arith)) (byte-cong (len + 1) (omega arith))

-- bytes listed and then whitened are the payload
pub whitened-payload : (h len : ℕ) (nibble : ℕ → ℕ) (d : List ℕ) {raw : List ℕ} → raw ≡ over len (byte_of_nibbles h nibble) d
    → over len (whitened (λ p. get_or raw p 0)) raw ≡ over len (payload_byte h nibble) d
unfolding payload_byte
whitened-payload h len nibble d {raw} e =
    let bytes : ℕ → ℕ = byte_of_nibbles h nibble in
    let byte : (p : ℕ) → p < len → get_or raw p 0 ≡ bytes p = λ p l. rw e (get_or-over len bytes d p 0 l) in
    let rest : drop len raw ≡ drop len d = rw e (drop_at (tab len bytes) (drop len d) len (length-tab len bytes)) in
    rw rest (ap (λ (t : List ℕ). t ++ drop len d) (tab-cong len _ _ (λ p l. ap (λ (x : ℕ). bit_xor x (whitening p)) (byte p l))))
