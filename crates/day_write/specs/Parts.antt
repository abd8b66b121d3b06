-- The file in parts, as the writer writes them; with at most 255 settings no settings index is above 254.
-- Assumes nothing.
use Rattle.std.specs.Prelude.{true, false, List, ◌≡◌, ℕ, ◌+◌, ◌*◌, ◌/◌, ◌<◌, ◌≤◌, length, get_or}
use Rattle.bits.specs.Tab.{tab}
use Rattle.day.specs.Day.{setting, frame, refused_frame, good_section, put_section}
use Rattle.day.specs.Stages.{pair_at}
use Rattle.day_write.specs.Write.{lengths_before, frame_row, refused_row}

-- the sections of rows of numbers
unfoldable pub settings_part : List ℕ → List ℕ
settings_part settings = put_section setting false (tab (length settings / 2) (pair_at 0 settings))

unfoldable pub frames_part : List ℕ → List ℕ → List ℕ
frames_part frames payloads = put_section (frame 255) false (tab (length frames / 5) (frame_row frames payloads))

unfoldable pub refused_part : List ℕ → List ℕ
refused_part refused = put_section (refused_frame 255) false (tab (length refused / 3) (refused_row refused))

-- rows of which a file can hold each, and payloads as long as they say
pub record FramesFit (frames payloads : List ℕ) : Type 0 where
  pub good : good_section (frame 255) 255 (tab (length frames / 5) (frame_row frames payloads)) ≡ true
  pub whole : lengths_before frames (length frames / 5) ≡ length payloads

pub record RefusedFit (refused : List ℕ) : Type 0 where
  pub good : good_section (refused_frame 255) 255 (tab (length refused / 3) (refused_row refused)) ≡ true

-- one row of these, all of it there, the frame's payload too
pub record FrameFits (frames payloads : List ℕ) (i : ℕ) : Type 0 where
  pub there : 5 * i + 4 < length frames
  pub good : (frame 255).good (tab i (frame_row frames payloads)) (frame_row frames payloads i) ≡ true
  pub whole : lengths_before frames i + get_or frames (5 * i + 4) 0 ≤ length payloads

pub record RefusedFits (refused : List ℕ) (i : ℕ) : Type 0 where
  pub there : 3 * i + 2 < length refused
  pub good : (refused_frame 255).good (tab i (refused_row refused)) (refused_row refused i) ≡ true
