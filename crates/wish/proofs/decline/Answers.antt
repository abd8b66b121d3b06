-- `decline` writes the line of a refusal.
-- Assumes nothing.
use mathlib.Core.Path.{refl}
use mathlib.Core.List.{[]}
use native.Mathlib.Omega.{arith}
use Rattle.line.proofs.LineLaws.{line-length}
use Rattle.std.proofs.Common.{Err}
use Rattle.wish.proofs.decline.Goals as goal

pub returns : goal.returns
returns c =
    let a = c.args in
    let e = c.write_line.ensures in
    record { long = e.0; short = let l = line-length (Err a.refusal) [] (omega arith) in omega (arith, e.0); cells = e.1; is = refl }
