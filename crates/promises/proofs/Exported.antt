-- Outcomes of the functions exported to C and Rust are determined: the number returned, the answer's cells, and the lent lists.
-- Assumes nothing.
use mathlib.Core.Path.{◌≡◌, sym, ◌∙◌}
use mathlib.Core.Bool.{Bool}
use mathlib.Core.List.{List}
use Prim.Native.Nat.{ℕ}
use Rattle.lora.specs.declared.Expected.{Expected}
use Rattle.lora.specs.declared.Settings.{Settings}
use Rattle.lora.specs.Received.{Received}
use Rattle.day.specs.declared.Taken.{Taken}
use Rattle.day.specs.declared.Entry.{Entry}
use Rattle.lora_c.specs.Export.{Exported, Lent, NumberExported, HeadExported, CodeExported, ReadExported}
use Rattle.lora_c.specs.DayExport.{WriteExported, CheckExported, StepExported}
use Rattle.lora_c.specs.TallyExport.{TallyExported}
use Rattle.std.specs.Prelude.{Result}
use Rattle.tally.specs.declared.Tally.{Tally}
use Rattle.refusal.specs.declared.Refusal.{Refusal}
use Rattle.header.specs.declared.Header.{Header}

-- two outcomes of one call
pub record Same (r r' : ℕ) (new new' : List ℕ) : Type 0 where
  pub returned : r ≡ r'
  pub answers : new ≡ new'

exported : {need code r r' : ℕ} {cells old new new' : List ℕ} → Exported need code cells old new r → Exported need code cells old new' r' → Same r r' new new'
exported p q = record { returned = p.returned ∙ sym q.returned; answers = p.answers ∙ sym q.answers }

lent : {need : ℕ} {old kept after out out' : List ℕ} → Lent need old kept after out → Lent need old kept after out' → out ≡ out'
lent p q = p.written ∙ sym q.written

pub count-exported : {a : Result ℕ Refusal} {old new new' : List ℕ} {r r' : ℕ} → NumberExported a old new r → NumberExported a old new' r' → Same r r' new new'
count-exported p q = exported p.is q.is

pub airtime-exported : {a : Result ℕ Refusal} {old new new' : List ℕ} {r r' : ℕ} → NumberExported a old new r → NumberExported a old new' r' → Same r r' new new'
airtime-exported p q = exported p.is q.is

pub head-exported : {a : Result Header Refusal} {old new new' : List ℕ} {r r' : ℕ} → HeadExported a old new r → HeadExported a old new' r' → Same r r' new new'
head-exported p q = exported p.is q.is

pub code-exported : {a : Result ℕ Refusal} {s : Settings} {payload kept out out' old new new' : List ℕ} {r r' : ℕ}
    → CodeExported a s payload kept out old new r → CodeExported a s payload kept out' old new' r' → Same r r' new new' × (out ≡ out')
code-exported p q = (exported p.is q.is, lent p.symbols q.symbols)

pub read-exported : {a : Received} {sf : ℕ} {low : Bool} {expected : Expected} {symbols kept out out' hurts marks marks' old new new' : List ℕ} {r r' : ℕ}
    → ReadExported a sf low expected symbols kept out hurts marks old new r → ReadExported a sf low expected symbols kept out' hurts marks' old new' r'
    → Same r r' new new' × (out ≡ out') × (marks ≡ marks')
read-exported p q = (exported p.is q.is, lent p.bytes q.bytes, lent p.marks q.marks)

pub day-write-exported : {a : Result ℕ Refusal} {file kept out out' old new new' : List ℕ} {r r' : ℕ}
    → WriteExported a file kept out old new r → WriteExported a file kept out' old new' r' → Same r r' new new' × (out ≡ out')
day-write-exported p q = (exported p.is q.is, lent p.bytes q.bytes)

pub day-check-exported : {a : Result Taken Refusal} {old new new' : List ℕ} {r r' : ℕ} → CheckExported a old new r → CheckExported a old new' r' → Same r r' new new'
day-check-exported p q = exported p.is q.is

pub day-step-exported : {a : Result Entry Refusal} {old new new' : List ℕ} {r r' : ℕ} → StepExported a old new r → StepExported a old new' r' → Same r r' new new'
day-step-exported p q = exported p.is q.is

-- of the tally's three functions, over what they say
pub tally-exported : {enough : Bool} {said : Result Tally Refusal} {old new new' : List ℕ} {r r' : ℕ} → TallyExported enough said old new r → TallyExported enough said old new' r' → Same r r' new new'
tally-exported p q = record { returned = p.returned ∙ sym q.returned; answers = p.cells ∙ sym q.cells }
