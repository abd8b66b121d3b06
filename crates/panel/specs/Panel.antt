-- Document 02, Ask 6: the control room's panel, a line for each count.
-- Assumes nothing.
use Rattle.std.specs.Prelude.{List, [], ◌∷◌, ◌++◌, ℕ, get_or}
use Rattle.line.specs.Line.{field}
use Rattle.tally.specs.declared.Tally.{Tally}
use Rattle.panel.specs.Words.{heard_words, clean_words, repaired_words, words1, words2, words3, words4, words5, words6, words7, words9, words10, words11, words12, words14, words17}
use Rattle.panel.specs.declared.Counts.{Counts}

-- words, a colon, the count; byte 10 at the end
unfoldable pub panel_line : List ℕ → ℕ → List ℕ
panel_line words n = words ++ ((58 ∷ []) ++ (field n ++ (10 ∷ [])))

-- what was heard: in all, accepted with no repairs, accepted with some
unfoldable pub accepted_lines : Tally → List ℕ
accepted_lines t = panel_line heard_words t.heard ++ (panel_line clean_words t.clean ++ panel_line repaired_words t.repaired)

-- refused under each number that read gives: for the call, for the symbols, for the header and the checksum
unfoldable pub call_lines : List ℕ → List ℕ
call_lines cells =
    panel_line words1 (get_or cells 1 0)
    ++ (panel_line words2 (get_or cells 2 0)
    ++ (panel_line words3 (get_or cells 3 0)
    ++ panel_line words4 (get_or cells 4 0)))

unfoldable pub symbol_lines : List ℕ → List ℕ
symbol_lines cells = panel_line words5 (get_or cells 5 0) ++ (panel_line words6 (get_or cells 6 0) ++ panel_line words7 (get_or cells 7 0))

unfoldable pub check_lines : List ℕ → List ℕ
check_lines cells =
    panel_line words9 (get_or cells 9 0)
    ++ (panel_line words10 (get_or cells 10 0)
    ++ (panel_line words11 (get_or cells 11 0)
    ++ panel_line words12 (get_or cells 12 0)))

-- all of them
unfoldable pub refused_lines : List ℕ → List ℕ
refused_lines cells = call_lines cells ++ (symbol_lines cells ++ check_lines cells)

-- counted beside the tally: texts that are no capture, and outcomes for which it had no room
unfoldable pub beside_lines : Counts → List ℕ
beside_lines c = panel_line words14 c.refused ++ panel_line words17 c.over

unfoldable pub panel_of : Counts → List ℕ
panel_of c = accepted_lines c.tally ++ (refused_lines c.tally.refused ++ beside_lines c)
