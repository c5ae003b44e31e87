-- The values of the headers of a name, and the words in them.
use Rattle.std.specs.Prelude.{ℕ, Bool, true, false, ◌==◌, ◌&&◌, ◌||◌, List, [], ◌∷◌, length, map, take, drop, codes, if◌then◌else◌, bytes_eq}
use Rattle.std.specs.Char.{to_ascii_lowercase}

-- the same text, case aside
abbrev pub is_same_text : List ℕ → List ℕ → Bool
is_same_text text other = bytes_eq (map to_ascii_lowercase other) (map to_ascii_lowercase text)

-- the values of the headers of a name, case aside, in order
abbrev pub values_named : List ℕ → List (List ℕ × List ℕ) → List (List ℕ)
values_named name [] = []
values_named name (f ∷ fs) = if is_same_text name f.0 then f.1 ∷ values_named name fs else values_named name fs

-- a space, or also a tab
abbrev pub is_blank : Bool → ℕ → Bool
is_blank tabs b = b == 32 || (tabs && b == 9)

-- the bytes from the first on that is no blank
abbrev pub without_blanks : Bool → List ℕ → List ℕ
without_blanks tabs [] = []
without_blanks tabs (b ∷ bytes) = if is_blank tabs b then without_blanks tabs bytes else b ∷ bytes

-- the word stands there, case aside, with nothing but blanks before it and after it up to the stop or the end
abbrev pub is_at_stop : ℕ → List ℕ → Bool
is_at_stop stop [] = true
is_at_stop stop (b ∷ bytes) = b == stop

abbrev pub is_word : Bool → List ℕ → ℕ → List ℕ → Bool
is_word tabs word stop bytes =
    let rest = without_blanks tabs bytes in
    is_same_text word (take (length word) rest) && is_at_stop stop (without_blanks tabs (drop (length word) rest))

-- the word stands after some comma
abbrev pub has_later_close : List ℕ → Bool
has_later_close [] = false
has_later_close (b ∷ bytes) = (b == 44 && is_word true (codes "close") 44 bytes) || has_later_close bytes

-- one of the words parted by commas is `close`
abbrev pub has_close : List ℕ → Bool
has_close value = is_word true (codes "close") 44 value || has_later_close value

-- the type, up to a semicolon, is that of CSV
abbrev pub is_csv : List ℕ → Bool
is_csv value = is_word false (codes "text/csv") 59 value
