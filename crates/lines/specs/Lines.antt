-- What the answers to a whole input are: it is cut at each byte 10, and each piece is a text, answered by a line or counted alone.
-- Assumes nothing.
use Rattle.std.specs.Prelude.{cond, List, [], ◌∷◌, ◌++◌, ℕ, eqb}
use Rattle.capture.specs.Capture as capture
use Rattle.hurt.specs.Hurt as hurt
use Rattle.line.specs.declared.Outcome.{Outcome}
use Rattle.panel.specs.Counts.{none, counted}
use Rattle.panel.specs.Panel.{panel_of}
use Rattle.panel.specs.declared.Counts.{Counts}
use Rattle.text.specs.Text.{closed}
use Rattle.wish.specs.Wish as wish

-- the texts that an input holds: captures to be read, wishes for frames to be made, captures of which the hurt symbols are asked, or
-- captures of which only the panel is asked
pub data Job : Type 0 where
  frames : Job
  wishes : Job
  hurts : Job
  tallies : Job

-- the pieces of an input; an empty last piece is none
unfoldable pub pieces_from : List ℕ → List ℕ → List (List ℕ)
pieces_from piece [] = closed piece
pieces_from piece (b ∷ bs) = cond (eqb b 10) (piece ∷ pieces_from [] bs) (pieces_from (piece ++ (b ∷ [])) bs)

unfoldable pub pieces : List ℕ → List (List ℕ)
pieces input = pieces_from [] input

-- the line that answers a text, and what came of the text; a capture that is counted alone has no line
abbrev pub line_to : Job → List ℕ → List ℕ
line_to frames bytes = capture.answer_of bytes
line_to wishes bytes = wish.answer_of bytes
line_to hurts bytes = hurt.answer_of bytes
line_to tallies bytes = []

abbrev pub outcome_to : Job → List ℕ → Outcome
outcome_to frames bytes = capture.outcome_is bytes
outcome_to wishes bytes = wish.outcome_is bytes
outcome_to hurts bytes = capture.outcome_is bytes
outcome_to tallies bytes = capture.outcome_is bytes

unfoldable pub lines_to : Job → List (List ℕ) → List ℕ
lines_to job [] = []
lines_to job (piece ∷ rest) = line_to job piece ++ lines_to job rest

unfoldable pub counts_from : Counts → Job → List (List ℕ) → Counts
counts_from c job [] = c
counts_from c job (piece ∷ rest) = counts_from (counted c (outcome_to job piece)) job rest

-- what stands behind all lines
abbrev pub end_of : Job → Counts → List ℕ
end_of frames c = []
end_of wishes c = []
end_of hurts c = []
end_of tallies c = panel_of c

-- the counts of an input, of which its closing line is made; its output
unfoldable pub counts_of : Job → List ℕ → Counts
counts_of job input = counts_from none job (pieces input)

unfoldable pub output_of : Job → List ℕ → List ℕ
output_of job input = lines_to job (pieces input) ++ end_of job (counts_of job input)
