-- Document 02, Ask 1: one file for the day. A first byte, then three sections in fixed order, each after its count.
-- Assumes nothing.
use Rattle.std.specs.Prelude.{Bool, false, not, ◌&&◌, ◌||◌, cond, List, [], ◌∷◌, ◌++◌, ℕ, ◌+◌, ◌*◌, ◌/◌, ◌%◌, leb, ltb, eqb, length}
use Rattle.day.specs.Script.{Script, done, ◌>>=◌, one, many, walk, Judged, whole, Form, good_each, put_each}

pub record Setting : Type 0 where
  pub sf : ℕ
  pub low : ℕ

pub record Frame : Type 0 where
  pub setting : ℕ
  pub cr : ℕ
  pub flag : ℕ
  pub repairs : ℕ
  pub payload : List ℕ

pub record RefusedFrame : Type 0 where
  pub setting : ℕ
  pub number : ℕ
  pub place : ℕ

pub record Day : Type 0 where
  pub settings : List Setting
  pub frames : List Frame
  pub refused : List RefusedFrame

-- the kind of file: its first byte, whether its counts of frames and of refused frames have two bytes, the most of each
pub record Kind : Type 0 where
  pub mark : ℕ
  pub wide : Bool
  pub most : ℕ

abbrev pub kind1 : Kind
kind1 = record { mark = 1; wide = false; most = 255 }

-- the ranges of fields: from low on, below end
abbrev pub within : ℕ → ℕ → ℕ → Bool
within low end b = leb low b && ltb b end

abbrev pub is_byte : ℕ → Bool
is_byte = within 0 256

abbrev pub is_flag : ℕ → Bool
is_flag = within 0 2

abbrev pub is_sf : ℕ → Bool
is_sf = within 7 13

abbrev pub is_cr : ℕ → Bool
is_cr = within 1 5

-- the numbers with which a frame is refused: 4 to 7 and 9 to 12 (Ask 5: 8 is none)
abbrev pub is_number : ℕ → Bool
is_number b = within 4 8 b || within 9 13 b

-- a settings pair is given
abbrev pub is_pair : ℕ → ℕ → Setting → Bool
is_pair sf low s = eqb sf s.sf && eqb low s.low

unfoldable pub given : ℕ → ℕ → List Setting → Bool
given sf low [] = false
given sf low (s ∷ earlier) = is_pair sf low s || given sf low earlier

abbrev pub is_new : List Setting → ℕ → ℕ → Bool
is_new earlier sf low = is_flag low && not (given sf low earlier)

-- two bytes low first, at most so much
unfoldable pub two : ℕ → Script ℕ
two most = do
  low ← one is_byte
  high ← one (λ b. leb (low + 256 * b) most)
  done (low + 256 * high)

unfoldable pub low_first : ℕ → List ℕ
low_first n = (n % 256) ∷ (n / 256) ∷ []

-- a count of one byte, or of two
unfoldable pub count : Bool → ℕ → Script ℕ
count wide most = cond wide (two most) (one (λ b. leb b most))

unfoldable pub put_count : Bool → ℕ → List ℕ
put_count wide n = cond wide (low_first n) (n ∷ [])

-- Settings: SF, low-rate flag, no pair twice
unfoldable pub setting : Form Setting
setting = record {
  read = λ earlier. do
    sf ← one is_sf
    low ← one (is_new earlier sf)
    done (record { sf = sf; low = low });
  good = λ earlier s. is_sf s.sf && is_new earlier s.sf s.low;
  put = λ s. s.sf ∷ s.low ∷ [];
}

unfoldable pub any_byte : Form ℕ
any_byte = record { read = λ _. one is_byte; good = λ _ b. is_byte b; put = λ b. b ∷ [] }

-- Frames: settings index, CR, checksum flag, repairs in two bytes low first, length, payload
unfoldable pub frame : ℕ → Form Frame
frame settings = record {
  read = λ _. do
    index ← one (within 0 settings)
    cr ← one is_cr
    flag ← one is_flag
    repairs ← two 65535
    len ← one is_byte
    payload ← many any_byte.read len []
    done (record { setting = index; cr = cr; flag = flag; repairs = repairs; payload = payload });
  good = λ _ f.
      within 0 settings f.setting && (is_cr f.cr && (is_flag f.flag && (leb f.repairs 65535
      && (is_byte (length f.payload) && good_each any_byte.good [] f.payload))));
  put = λ f. f.setting ∷ f.cr ∷ f.flag ∷ (low_first f.repairs ++ (length f.payload ∷ put_each any_byte.put f.payload));
}

-- Refused frames: settings index, number, place in two bytes low first
unfoldable pub refused_frame : ℕ → Form RefusedFrame
refused_frame settings = record {
  read = λ _. do
    index ← one (within 0 settings)
    number ← one is_number
    place ← two 65535
    done (record { setting = index; number = number; place = place });
  good = λ _ r. within 0 settings r.setting && (is_number r.number && leb r.place 65535);
  put = λ r. r.setting ∷ r.number ∷ low_first r.place;
}

-- a section: its count, then its entries
unfoldable pub section : {A : Type 0} → Form A → Bool → ℕ → Script (List A)
section form wide most = count wide most >>= λ n. many form.read n []

unfoldable pub good_section : {A : Type 0} → Form A → ℕ → List A → Bool
good_section form most entries = leb (length entries) most && good_each form.good [] entries

unfoldable pub put_section : {A : Type 0} → Form A → Bool → List A → List ℕ
put_section form wide entries = put_count wide (length entries) ++ put_each form.put entries

-- the whole day
unfoldable pub day : Kind → Script Day
day k = do
  _ ← one (λ b. eqb b k.mark)
  settings ← section setting false 255
  frames ← section (frame (length settings)) k.wide k.most
  refused ← section (refused_frame (length settings)) k.wide k.most
  done (record { settings = settings; frames = frames; refused = refused })

-- entries that a file can hold
unfoldable pub good_day : Kind → Day → Bool
good_day k e =
    good_section setting 255 e.settings
    && (good_section (frame (length e.settings)) k.most e.frames
    && good_section (refused_frame (length e.settings)) k.most e.refused)

-- their file
unfoldable pub file_of : Kind → Day → List ℕ
file_of k e =
    k.mark ∷ (put_section setting false e.settings
    ++ (put_section (frame (length e.settings)) k.wide e.frames
    ++ put_section (refused_frame (length e.settings)) k.wide e.refused))

-- what a file holds, or its refusal
unfoldable pub judged : Kind → List ℕ → Judged Day
judged k bytes = whole bytes (walk (day k) bytes 0)
