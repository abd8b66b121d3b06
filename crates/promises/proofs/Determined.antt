-- Outcomes are determined: two outcomes that an operation's contract allows are equal, answer and every cell.
-- Assumes nothing.
use mathlib.Core.Path.{◌≡◌, sym, ap, ◌∙◌}
use mathlib.Core.Bool.{Bool}
use mathlib.Core.List.{List}
use Prim.Native.Nat.{ℕ}
use Rattle.lora.specs.Airtime.{airtime_of}
use Rattle.lora.specs.Code.{symbols_after, Coding}
use Rattle.lora.specs.Count.{count_of}
use Rattle.lora.specs.Head.{head_of}
use Rattle.lora.specs.Read.{bytes_after, hurts_after, Reading}
use Rattle.lora.specs.declared.Expected.{Expected}
use Rattle.lora.specs.declared.Settings.{Settings}
use Rattle.lora.specs.Received.{Received}
use Rattle.tally.specs.Tally.{Leaves}
use Rattle.tally.specs.declared.Tally.{Tally}
use Rattle.std.specs.Prelude.{Result}
use Rattle.refusal.specs.declared.Refusal.{Refusal}
use Rattle.header.specs.declared.Header.{Header}

pub count-determined : (s : Settings) (len : ℕ) (r r' : Result ℕ Refusal) → r ≡ count_of s len → r' ≡ count_of s len → r ≡ r'
count-determined s len r r' p q = p ∙ sym q

pub airtime-determined : (s : Settings) (len khz n : ℕ) (r r' : Result ℕ Refusal) → r ≡ airtime_of s len khz n → r' ≡ airtime_of s len khz n → r ≡ r'
airtime-determined s len khz n r r' p q = p ∙ sym q

pub head-determined : (sf : ℕ) (symbols : List ℕ) (r r' : Result Header Refusal) → r ≡ head_of sf symbols → r' ≡ head_of sf symbols → r ≡ r'
head-determined sf symbols r r' p q = p ∙ sym q

pub code-determined : (s : Settings) (payload old new new' : List ℕ) (r r' : Result ℕ Refusal)
    → Coding s payload old new r → Coding s payload old new' r' → (r ≡ r') × (new ≡ new')
code-determined s payload old new new' r r' p q =
    let same : r ≡ r' = p.answer ∙ sym q.answer in
    (same, p.cells ∙ ap (λ (x : Result ℕ Refusal). symbols_after x s payload old) same ∙ sym q.cells)

pub read-determined : (sf : ℕ) (low : Bool) (expected : Expected) (symbols old new new' hurts marks marks' : List ℕ) (r r' : Received)
    → Reading sf low expected symbols old new hurts marks r → Reading sf low expected symbols old new' hurts marks' r' → (r ≡ r') × (new ≡ new') × (marks ≡ marks')
read-determined sf low expected symbols old new new' hurts marks marks' r r' p q =
    let same : r ≡ r' = p.answer ∙ sym q.answer in (
      same,
      p.cells ∙ ap (λ (x : Received). bytes_after x sf low expected symbols old) same ∙ sym q.cells,
      p.marks ∙ ap (λ (x : Received). hurts_after x sf low expected symbols hurts) same ∙ sym q.marks,
    )

-- of the tally's calls, over what they say
pub tally-determined : (said : Result Tally Refusal) (old new new' : Tally) (r r' : Result Unit Refusal)
    → Leaves said old new r → Leaves said old new' r' → (r ≡ r') × (new ≡ new')
tally-determined said old new new' r r' p q = (p.answer ∙ sym q.answer, p.tally ∙ sym q.tally)
