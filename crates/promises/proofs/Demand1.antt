-- Demand 1, of the lent lists. That every call ends with one of its answers is what it means that the operations are proved.
-- Assumes nothing.
use mathlib.Core.Path.{◌≡◌, sym, ap, ◌∙◌}
use mathlib.Core.Bool.{Bool}
use mathlib.Core.List.{List}
use Prim.Native.Nat.{ℕ, ◌≤◌}
use lib.ListN.{length, get_or}
use Rattle.bits.specs.Tab.{over}
use Rattle.bits.proofs.Tabs.{length_over, get_or-over-rest}
use Rattle.lora.specs.Code.{Coding}
use Rattle.lora.specs.Read.{Reading}
use Rattle.lora.specs.declared.Accepted.{Accepted}
use Rattle.lora.specs.declared.Expected.{Expected}
use Rattle.lora.specs.declared.Settings.{Settings}
use Rattle.lora.proofs.AnswerLaws.{accepts}
use Rattle.lora.proofs.CountLaws.{coded}
use Rattle.std.specs.Prelude.{Ok}
use Rattle.refusal.specs.Refusal.{refuse}

-- every cell of a list from the place n on, and its length, are as they were
pub record KeptFrom (n : ℕ) (old new : List ℕ) : Type 0 where
  pub long : length new ≡ length old
  pub cells : (t : ℕ) → n ≤ t → get_or new t 0 ≡ get_or old t 0

-- a list whose first cells were written by a rule
pub kept : (n : ℕ) (f : ℕ → ℕ) (old : List ℕ) {new : List ℕ} → n ≤ length old → new ≡ over n f old → KeptFrom n old new
kept n f old room e = record { long = ap length e ∙ length_over n f old room; cells = λ t h. rw e (get_or-over-rest n f old t 0 h) }

-- After a refusal each lent list is as it was.
pub code-refused : {s : Settings} {payload old new : List ℕ} {number place : ℕ} → Coding s payload old new (refuse number place) → new ≡ old
code-refused c = c.cells

pub read-refused : {sf : ℕ} {low : Bool} {expected : Expected} {symbols old new hurts hurts' : List ℕ} {number place : ℕ} → Reading sf low expected symbols old new hurts hurts' (refuse number place)
    → (new ≡ old) × (hurts' ≡ hurts)
read-refused c = (c.cells, c.marks)

-- After an acceptance no cell behind the result is written.
pub code-accepted : {s : Settings} {payload old new : List ℕ} {count : ℕ} → Coding s payload old new (Ok count) → KeptFrom count old new
code-accepted {s} {payload} {old} {new} {count} c = kept count _ old (coded s payload (length old) count (sym c.answer)).1 c.cells

pub read-accepted : {sf : ℕ} {low : Bool} {expected : Expected} {symbols old new hurts hurts' : List ℕ} {a : Accepted} → Reading sf low expected symbols old new hurts hurts' (Ok a)
    → KeptFrom a.length old new × KeptFrom a.symbols hurts hurts'
read-accepted {sf} {low} {expected} {symbols} {old} {new} {hurts} {hurts'} {a} c =
    let k = accepts sf low expected symbols (length old) (length hurts) a (sym c.answer) in
    (kept a.length _ old k.fits c.cells, kept a.symbols _ hurts k.lists c.marks)
