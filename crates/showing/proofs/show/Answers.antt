-- `show` shows what the check has judged.
-- Assumes nothing.
use mathlib.Core.Path.{sym, ◌∙◌}
use Rattle.showing.proofs.AlongLaws.{told-broken, told-whole, told-refused}
use Rattle.showing.proofs.show.Goals as goal

pub returns-in-Err-sent : goal.returns-in-Err-sent
returns-in-Err-sent c =
    rw c.in-Err-sent.is (told-broken _ _ (sym c.in-Ok.is ∙ c.check.ensures))

pub returns-in_default : goal.returns-in_default
returns-in_default c =
    told-whole _ _ (sym c.in-Ok.is ∙ c.check.ensures) (rw c.in_default.is at c.show_entries-shown.ensures) c.show_end.ensures

pub returns-in-Err : goal.returns-in-Err
returns-in-Err c = told-refused _ (sym c.in-Err.is ∙ c.check.ensures) c.show_refusal.ensures
