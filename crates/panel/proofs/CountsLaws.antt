-- Every text of a run is counted once, and the closing line adds up.
-- Assumes nothing.
use mathlib.Core.Path.{◌≡◌, refl, ap}
use mathlib.Core.Bool.{Bool, true, false}
use Prim.Native.Nat.{ℕ, ◌+◌, ◌≤◌, ◌<◌}
use native.Mathlib.Omega.{arith}
use Rattle.std.proofs.Common.{Result, Ok}
use borrow.Author.Tests.{lt-ltb, le-leb}
use Rattle.bits.specs.Check.{check}
use Rattle.bits.specs.Sum.{sum}
use Rattle.line.specs.declared.Outcome.{Outcome}
use Rattle.line.specs.declared.Outcome.TheVariants.{Heard, Made, Unmade}
use Rattle.lora.specs.Received.{Received}
use Rattle.refusal.specs.Refusal.{refuse}
use Rattle.refusal.specs.declared.Refusal.{Refusal}
use Rattle.tally.specs.History.{cleared, heard, clears, hears, hears-not}
use Rattle.tally.specs.Tally.{empty, one, plus, known, fits, join_of, clear_of, hear_of, Leaves, tally_after, answer_of}
use Rattle.tally.specs.declared.Tally.{Tally}
use Rattle.tally.proofs.HistoryLaws.{counted}
use Rattle.panel.specs.Counts.{none, largest, more, capped, noting, clean_in, refused_in, Whole}
use Rattle.panel.specs.Counts as counts
use Rattle.panel.specs.declared.Counts.{Counts}

more-is : (n : ℕ) → n < largest → more n ≡ n + 1
more-is n h = rw (lt-ltb n largest h)

capped_is : (n : ℕ) → n ≤ largest → capped n ≡ n
capped_is n h = rw (le-leb n largest h)

-- what hearing notes: 16, 17, or one more
check-cases : (P : Result Tally Refusal → Type 0) (b : Bool) (x y : Result Tally Refusal) → P x → P y → P (check b x y)
check-cases P true x y p q = q
check-cases P false x y p q = p

hear-cases : (P : Result Tally Refusal → Type 0) (t : Tally) (o : Received) → P (refuse 16 0) → P (refuse 17 0) → P (Ok (plus t (one o))) → P (hear_of t o)
unfolding hear_of join_of
hear-cases P t o a b c = check-cases P (known o) _ _ a (check-cases P (fits t (one o)) _ _ b c)

pub whole-none : Whole none 0
unfolding none empty clear_of
whole-none = record { texts = refl; parts = refl; history = cleared; ran = clears empty refl }

module _ (c : Counts) (n : ℕ) (w : Whole c n) (room : n < largest) where
  texts-more : more c.texts ≡ n + 1
  texts-more = rw w.texts (more-is n room)

  -- the tally's answer to an outcome
  noted : (o : Received) (said : Result Tally Refusal) → Type 0
  noted o said = said ≡ hear_of c.tally o → Whole (noting c said) (n + 1)

  leaves : {said : Result Tally Refusal} (o : Received) → said ≡ hear_of c.tally o → Leaves (hear_of c.tally o) c.tally (tally_after said c.tally) (answer_of said)
  leaves o e = record { tally = ap (λ (s : Result Tally Refusal). tally_after s c.tally) e; answer = ap answer_of e }

  heard-16 : (o : Received) → noted o (refuse 16 0)
  unfolding noted noting
  heard-16 o e = record {
    texts = texts-more;
    parts = omega (arith, w.parts, more-is c.refused (omega (arith, w.parts)));
    history = w.history;
    ran = hears-not o w.ran (leaves o e);
  }

  heard-17 : (o : Received) → noted o (refuse 17 0)
  unfolding noted noting
  heard-17 o e = record {
    texts = texts-more;
    parts = omega (arith, w.parts, more-is c.over (omega (arith, w.parts)));
    history = w.history;
    ran = hears-not o w.ran (leaves o e);
  }

  heard-done : (o : Received) → noted o (Ok (plus c.tally (one o)))
  unfolding noted noting plus one
  heard-done o e = record {
    texts = texts-more;
    parts = omega (arith, w.parts);
    history = heard w.history o;
    ran = hears o w.ran (leaves o e);
  }

  -- one text more
  pub whole-more : (outcome : Outcome) → Whole (counts.counted c outcome) (n + 1)
  unfolding noted
  whole-more (Heard o) = hear-cases (noted o) c.tally o (heard-16 o) (heard-17 o) (heard-done o) refl
  whole-more Made = record {
    texts = texts-more;
    parts = omega (arith, w.parts, more-is c.made (omega (arith, w.parts)));
    history = w.history;
    ran = w.ran;
  }
  whole-more Unmade = record {
    texts = texts-more;
    parts = omega (arith, w.parts, more-is c.refused (omega (arith, w.parts)));
    history = w.history;
    ran = w.ran;
  }

-- the closing line adds up where the tally had room
pub adds-up : {c : Counts} {n : ℕ} → Whole c n → n ≤ largest → c.over ≡ 0 → n ≡ clean_in c + c.tally.repaired + refused_in c
adds-up {c} {n} w h e =
    let p = (counted w.ran).parts in
    omega (arith, p, w.parts, capped_is (c.tally.clean + c.made) (omega (arith, p, w.parts)), capped_is (sum c.tally.refused + c.refused) (omega (arith, p, w.parts)))
