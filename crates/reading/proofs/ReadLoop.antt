-- What the loops that read codewords keep.
-- Assumes nothing.
use mathlib.Core.Path.{◌≡◌, refl, sym, ap, ◌∙◌}
use mathlib.Core.Bool.{Bool, true, false}
use mathlib.Core.List.{List}
use Prim.Native.Nat.{ℕ, ◌+◌, ◌-◌, ◌≤◌, ◌<◌}
use native.Mathlib.Nat.{zero-add}
use native.Mathlib.Decide.{ℕ_discrete}
use native.Mathlib.Omega.{arith}
use lib.Dec.{ltb}
use borrow.Author.Tests.{ltb-true, ltb-false}
use lib.ListN.{length}
use Rattle.bits.specs.Bit.{as_bit}
use Rattle.bits.specs.Search.{first, how_many}
use Rattle.bits.proofs.Fill.{FilledAt, filled_at-on}
use Rattle.bits.proofs.Tabs.{over_at-none, length-over_at}
use Rattle.bits.proofs.Searches.{first-is, first-none, first_range, first_found, first-before, how_many-more, how_many-le, how_many-cong, how_many-add}
use Rattle.codeword.specs.Codeword.{nibble_of, is_repaired, is_unreadable}
use Rattle.codeword.specs.Found.{Found}
use Rattle.reading.specs.Found.{unreadable_at, repaired_at, nibble_at}
use Rattle.reading.specs.Stages.{Walk}

-- each of the first m codewords can be read, with so many repairs
pub record Clear (h : ℕ → Found) (m repairs : ℕ) : Type 0 where
  pub good : (k : ℕ) → k < m → unreadable_at h k ≡ false
  pub counts : repairs ≡ how_many (repaired_at h) m

-- no codeword has been read
pub clear_none : (h : ℕ → Found) → Clear h 0 0
unfolding how_many
clear_none h = record { good = λ k l. absurd (omega arith); counts = refl }

-- one codeword more
pub clear-more : {h : ℕ → Found} {m repairs x : ℕ} → Clear h m repairs → unreadable_at h m ≡ false → x ≡ as_bit (repaired_at h m) → Clear h (m + 1) (repairs + x)
clear-more {h} {m} {repairs} {x} p b q =
    record { good = λ k l. at k l (ℕ_discrete k m); counts = how_many-more (repaired_at h) m p.counts q }
  where
    at : (k : ℕ) → k < m + 1 → Dec (k ≡ m) → unreadable_at h k ≡ false
    at k l (yes e) = ap (unreadable_at h) e ∙ b
    at k l (no e) = p.good k (omega arith)

-- there are no more repairs than codewords
pub clear-le : {h : ℕ → Found} {m repairs : ℕ} → Clear h m repairs → repairs ≤ m
clear-le {h} {m} p = rw p.counts (how_many-le (repaired_at h) m)

-- n codewords more
pub clear-on : {h g : ℕ → Found} {m n r s : ℕ} → Clear h m r → Clear g n s → ((i : ℕ) → i < n → g i ≡ h (m + i)) → Clear h (m + n) (r + s)
clear-on {h} {g} {m} {n} {r} {s} p q e =
    record {
      good = λ k l. at k l (ltb k m) refl;
      counts = rw (p.counts, q.counts, how_many-cong (repaired_at g) (λ i. repaired_at h (m + i)) n (λ i l. ap is_repaired (e i l))) (sym (how_many-add (repaired_at h) m n));
    }
  where
    at : (k : ℕ) → k < m + n → (b : Bool) → ltb k m ≡ b → unreadable_at h k ≡ false
    at k l true t = p.good k (ltb-true k m t)
    at k l false t =
        let under : m ≤ k = ltb-false k m t in
        let i : ℕ = k - m in
        let w : m + i ≡ k = omega arith in
        ap (unreadable_at h) (sym w) ∙ ap is_unreadable (sym (e i (omega arith))) ∙ q.good i (omega arith)

-- a run of codewords that was read, as far as it was read
pub walk-clear : {h : ℕ → Found} {n at end repairs : ℕ} {old new : List ℕ} → Walk h n at old new end repairs → Clear h end repairs
walk-clear {h} {n} p =
    record { good = λ k l. first-before (unreadable_at h) n 0 k (omega arith) (rw p.ends at l); counts = p.counts }

-- a run ends at most behind its last codeword
pub walk-range : {h : ℕ → Found} {n at end repairs : ℕ} {old new : List ℕ} → Walk h n at old new end repairs → end ≤ n
walk-range {h} {n} p = omega (arith, p.ends, first_range (unreadable_at h) n 0)

-- with no more repairs than codewords
pub walk-le : {h : ℕ → Found} {n at end repairs : ℕ} {old new : List ℕ} → Walk h n at old new end repairs → repairs ≤ n
walk-le p = omega (arith, clear-le (walk-clear p), walk-range p)

-- where a run ends early its end can't be read
pub walk-unreadable : {h : ℕ → Found} {n at end repairs : ℕ} {old new : List ℕ} → Walk h n at old new end repairs → end < n → unreadable_at h end ≡ true
walk-unreadable {h} {n} p l = rw p.ends (first_found (unreadable_at h) n 0 (omega (arith, p.ends)))

-- a run ends at a codeword that can't be read
pub walk-stop : {h : ℕ → Found} {n at i repairs : ℕ} {old new : List ℕ} → Clear h i repairs → FilledAt (nibble_at h) old at i new → i < n
    → unreadable_at h i ≡ true → Walk h n at old new i repairs
walk-stop {h} {n} {at} {i} p f l b =
    record {
      ends = sym (first-is (unreadable_at h) n 0 i (omega arith) (omega arith) b (λ k a d. p.good k d));
      counts = p.counts;
      cells = f.is;
    }

-- a run whose codewords can all be read ends behind the last
pub walk_end : {h : ℕ → Found} {n at repairs : ℕ} {old new : List ℕ} → Clear h n repairs → FilledAt (nibble_at h) old at n new
    → Walk h n at old new n repairs
walk_end {h} {n} p f =
    record {
      ends = sym (first-none (unreadable_at h) n 0 (λ k a d. p.good k (omega arith)) ∙ zero-add n);
      counts = p.counts;
      cells = f.is;
    }

-- no codeword has been read
pub walk_none : (h : ℕ → Found) (at : ℕ) (old : List ℕ) → Walk h 0 at old old 0 0
unfolding first how_many
walk_none h at old = record { ends = refl; counts = refl; cells = over_at-none at (nibble_at h) old }

-- a run keeps the list's length
pub walk-length : {h : ℕ → Found} {n at end repairs : ℕ} {old new : List ℕ} → Walk h n at old new end repairs → at + n ≤ length old → length new ≡ length old
walk-length {h} {n} {at} {end} {repairs} {old} p l = ap length p.cells ∙ length-over_at at end (nibble_at h) old (omega (arith, walk-range p))

-- a run that ended early, or reached the end of the longer one, is a run over more codewords
pub walk-long : {h : ℕ → Found} {m n at end repairs : ℕ} {old new : List ℕ} → Walk h m at old new end repairs → m ≤ n → (m ≤ end → n ≤ m) → Walk h n at old new end repairs
walk-long {h} {m} {n} {at} {end} {repairs} {old} {new} p l last = split (ltb end m) refl
  where
    split : (b : Bool) → ltb end m ≡ b → Walk h n at old new end repairs
    split true e =
        let early : end < m = ltb-true end m e in
        record {
          ends = sym (first-is (unreadable_at h) n 0 end (omega arith) (omega arith) (walk-unreadable p early) (λ k a d. (walk-clear p).good k d));
          counts = p.counts;
          cells = p.cells;
        }
    split false e =
        let whole : n ≡ m = omega (arith, last (ltb-false end m e)) in
        rw whole p

-- a run whose codewords can all be read, and a run behind it
pub walk-on : {h g : ℕ → Found} {m n at place end r s : ℕ} {old mid new : List ℕ} → Walk h m at old mid m r → Walk g n place mid new end s → place ≡ at + m
    → at + m + n ≤ length old → ((i : ℕ) → i < n → g i ≡ h (m + i)) → Walk h (m + n) at old new (m + end) (r + s)
walk-on {h} {g} {m} {n} {at} {place} {end} {r} {s} {old} {mid} {new} p w behind room same = split (ltb end n) refl
  where
    clear : Clear h (m + end) (r + s)
    clear = clear-on (walk-clear p) (walk-clear w) (λ i l. same i (omega (arith, walk-range w)))

    before : FilledAt (nibble_at h) old at m mid
    before = record { is = p.cells; long = walk-length p (omega arith); within = omega arith }

    cells : FilledAt (nibble_at h) old at (m + end) new
    cells =
        filled_at-on before (omega (arith, walk-range w)) (rw behind at w.cells) (λ i l. ap nibble_of (same i (omega (arith, walk-range w))))

    split : (b : Bool) → ltb end n ≡ b → Walk h (m + n) at old new (m + end) (r + s)
    split true e =
        let early : end < n = ltb-true end n e in
        walk-stop clear cells (omega arith) (ap is_unreadable (sym (same end early)) ∙ walk-unreadable w early)
    split false e =
        let whole : n ≡ end = omega (arith, ltb-false end n e, walk-range w) in
        rw whole (walk_end clear cells)
