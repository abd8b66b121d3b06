-- The words of the panel's lines, in their order.
-- Assumes nothing.
use Rattle.std.specs.Prelude.{List, [], ◌∷◌, ℕ}

-- frames heard
abbrev pub heard_words : List ℕ
heard_words = 102 ∷ 114 ∷ 97 ∷ 109 ∷ 101 ∷ 115 ∷ 32 ∷ 104 ∷ 101 ∷ 97 ∷ 114 ∷ 100 ∷ []

-- accepted clean
abbrev pub clean_words : List ℕ
clean_words = 97 ∷ 99 ∷ 99 ∷ 101 ∷ 112 ∷ 116 ∷ 101 ∷ 100 ∷ 32 ∷ 99 ∷ 108 ∷ 101 ∷ 97 ∷ 110 ∷ []

-- accepted repaired
abbrev pub repaired_words : List ℕ
repaired_words = 97 ∷ 99 ∷ 99 ∷ 101 ∷ 112 ∷ 116 ∷ 101 ∷ 100 ∷ 32 ∷ 114 ∷ 101 ∷ 112 ∷ 97 ∷ 105 ∷ 114 ∷ 101 ∷ 100 ∷ []

-- refused 1, SF not 7 to 12
abbrev pub words1 : List ℕ
words1 = 114 ∷ 101 ∷ 102 ∷ 117 ∷ 115 ∷ 101 ∷ 100 ∷ 32 ∷ 49 ∷ 44 ∷ 32 ∷ 83 ∷ 70 ∷ 32 ∷ 110 ∷ 111 ∷ 116 ∷ 32 ∷ 55 ∷ 32 ∷ 116 ∷ 111 ∷ 32 ∷ 49 ∷ 50 ∷ []

-- refused 2, CR not 1 to 4
abbrev pub words2 : List ℕ
words2 = 114 ∷ 101 ∷ 102 ∷ 117 ∷ 115 ∷ 101 ∷ 100 ∷ 32 ∷ 50 ∷ 44 ∷ 32 ∷ 67 ∷ 82 ∷ 32 ∷ 110 ∷ 111 ∷ 116 ∷ 32 ∷ 49 ∷ 32 ∷ 116 ∷ 111 ∷ 32 ∷ 52 ∷ []

-- refused 3, length above 255
abbrev pub words3 : List ℕ
words3 = 114 ∷ 101 ∷ 102 ∷ 117 ∷ 115 ∷ 101 ∷ 100 ∷ 32 ∷ 51 ∷ 44 ∷ 32 ∷ 108 ∷ 101 ∷ 110 ∷ 103 ∷ 116 ∷ 104 ∷ 32 ∷ 97 ∷ 98 ∷ 111 ∷ 118 ∷ 101 ∷ 32 ∷ 50 ∷ 53 ∷ 53 ∷ []

-- refused 4, room too short
abbrev pub words4 : List ℕ
words4 = 114 ∷ 101 ∷ 102 ∷ 117 ∷ 115 ∷ 101 ∷ 100 ∷ 32 ∷ 52 ∷ 44 ∷ 32 ∷ 114 ∷ 111 ∷ 111 ∷ 109 ∷ 32 ∷ 116 ∷ 111 ∷ 111 ∷ 32 ∷ 115 ∷ 104 ∷ 111 ∷ 114 ∷ 116 ∷ []

-- refused 5, too few symbols
abbrev pub words5 : List ℕ
words5 = 114 ∷ 101 ∷ 102 ∷ 117 ∷ 115 ∷ 101 ∷ 100 ∷ 32 ∷ 53 ∷ 44 ∷ 32 ∷ 116 ∷ 111 ∷ 111 ∷ 32 ∷ 102 ∷ 101 ∷ 119 ∷ 32 ∷ 115 ∷ 121 ∷ 109 ∷ 98 ∷ 111 ∷ 108 ∷ 115 ∷ []

-- refused 6, symbol too large
abbrev pub words6 : List ℕ
words6 = 114 ∷ 101 ∷ 102 ∷ 117 ∷ 115 ∷ 101 ∷ 100 ∷ 32 ∷ 54 ∷ 44 ∷ 32 ∷ 115 ∷ 121 ∷ 109 ∷ 98 ∷ 111 ∷ 108 ∷ 32 ∷ 116 ∷ 111 ∷ 111 ∷ 32 ∷ 108 ∷ 97 ∷ 114 ∷ 103 ∷ 101 ∷ []

-- refused 7, codeword not readable
abbrev pub words7 : List ℕ
words7 = 114 ∷ 101 ∷ 102 ∷ 117 ∷ 115 ∷ 101 ∷ 100 ∷ 32 ∷ 55 ∷ 44 ∷ 32 ∷ 99 ∷ 111 ∷ 100 ∷ 101 ∷ 119 ∷ 111 ∷ 114 ∷ 100 ∷ 32 ∷ 110 ∷ 111 ∷ 116 ∷ 32 ∷ 114 ∷ 101 ∷ 97 ∷ 100 ∷ 97 ∷ 98 ∷ 108 ∷ 101 ∷ []

-- refused 9, header check wrong
abbrev pub words9 : List ℕ
words9 = 114 ∷ 101 ∷ 102 ∷ 117 ∷ 115 ∷ 101 ∷ 100 ∷ 32 ∷ 57 ∷ 44 ∷ 32 ∷ 104 ∷ 101 ∷ 97 ∷ 100 ∷ 101 ∷ 114 ∷ 32 ∷ 99 ∷ 104 ∷ 101 ∷ 99 ∷ 107 ∷ 32 ∷ 119 ∷ 114 ∷ 111 ∷ 110 ∷ 103 ∷ []

-- refused 10, header bit set
abbrev pub words10 : List ℕ
words10 = 114 ∷ 101 ∷ 102 ∷ 117 ∷ 115 ∷ 101 ∷ 100 ∷ 32 ∷ 49 ∷ 48 ∷ 44 ∷ 32 ∷ 104 ∷ 101 ∷ 97 ∷ 100 ∷ 101 ∷ 114 ∷ 32 ∷ 98 ∷ 105 ∷ 116 ∷ 32 ∷ 115 ∷ 101 ∷ 116 ∷ []

-- refused 11, header CR unknown
abbrev pub words11 : List ℕ
words11 = 114 ∷ 101 ∷ 102 ∷ 117 ∷ 115 ∷ 101 ∷ 100 ∷ 32 ∷ 49 ∷ 49 ∷ 44 ∷ 32 ∷ 104 ∷ 101 ∷ 97 ∷ 100 ∷ 101 ∷ 114 ∷ 32 ∷ 67 ∷ 82 ∷ 32 ∷ 117 ∷ 110 ∷ 107 ∷ 110 ∷ 111 ∷ 119 ∷ 110 ∷ []

-- refused 12, payload checksum wrong
abbrev pub words12 : List ℕ
words12 = 114 ∷ 101 ∷ 102 ∷ 117 ∷ 115 ∷ 101 ∷ 100 ∷ 32 ∷ 49 ∷ 50 ∷ 44 ∷ 32 ∷ 112 ∷ 97 ∷ 121 ∷ 108 ∷ 111 ∷ 97 ∷ 100 ∷ 32 ∷ 99 ∷ 104 ∷ 101 ∷ 99 ∷ 107 ∷ 115 ∷ 117 ∷ 109 ∷ 32 ∷ 119 ∷ 114 ∷ 111 ∷ 110 ∷ 103 ∷ []

-- no capture, 14
abbrev pub words14 : List ℕ
words14 = 110 ∷ 111 ∷ 32 ∷ 99 ∷ 97 ∷ 112 ∷ 116 ∷ 117 ∷ 114 ∷ 101 ∷ 44 ∷ 32 ∷ 49 ∷ 52 ∷ []

-- not counted, 17
abbrev pub words17 : List ℕ
words17 = 110 ∷ 111 ∷ 116 ∷ 32 ∷ 99 ∷ 111 ∷ 117 ∷ 110 ∷ 116 ∷ 101 ∷ 100 ∷ 44 ∷ 32 ∷ 49 ∷ 55 ∷ []
