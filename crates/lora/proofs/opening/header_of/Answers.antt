-- Five codewords read, then judged.
use mathlib.Core.Path.{sym, ap, ◌∙◌}
use native.Mathlib.Omega.{arith}
use borrow.Author.Rules.{rules}
use Rattle.std.proofs.lemmas.Result.{err_from_is_err_and}
use Rattle.reading.specs.Stages.{flips}
use Rattle.reading.proofs.HurtLaws.{flips-none}
use Rattle.reading.proofs.ReadLoop.{walk-range}
use Rattle.lora.proofs.HeadLaws.{header_refused, header-said, header-repairs, grid-header, grid-repairs}
use Rattle.lora.proofs.opening.header_of.Goals as goal

pub read_rows-rows-requires : goal.read_rows-rows-requires
read_rows-rows-requires c = (search rules, search rules, search rules, flips-none _)

pub returns-then-end-lt5 : goal.returns-then-end-lt5
returns-then-end-lt5 c =
    let (low, high, eight, is) = c.requires in
    is ∙ sym (grid-header _ _ low c.first_grid-grid.ensures) ∙ header_refused _ c.read_rows-rows.ensures.0 c.if-end-lt5.true

pub returns-in_err-header : goal.returns-in_err-header
returns-in_err-header c =
    let p = err_from_is_err_and c.from_residual.result c.from_residual.ensures.1 in
    let (low, high, eight, is) = c.requires in
    rw (p.1, p.2) (is ∙ sym (grid-header _ _ low c.first_grid-grid.ensures) ∙ header-said _ c.read_rows-rows.ensures.0 c.if-end-lt5.false ∙ sym c.in_err-header.ensures)

pub returns : goal.returns
returns c =
    let (low, high, eight, is) = c.requires in
    let (walk, flipped) = c.read_rows-rows.ensures in
    let grid = c.first_grid-grid.ensures in
    let all = c.if-end-lt5.false in (
      is ∙ sym (grid-header _ _ low grid) ∙ header-said _ walk all ∙ sym c.in_ok-header.ensures,
      record {
        first = grid;
        repaired = header-repairs _ walk all ∙ grid-repairs _ _ low grid;
        flipped = flipped ∙ ap (flips _) (omega (arith, all, walk-range walk));
      },
    )
