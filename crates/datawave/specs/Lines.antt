-- How the bytes of an input fall into lines.
use Rattle.dw_wire.specs.ReadLine.{max_line}
use Rattle.std.specs.Prelude.{ℕ, ◌==◌, nat_le, Option, Some, None, List, [], ◌∷◌, ◌++◌, length, if◌then◌else◌}

-- a line feed, which ends a line and is no part of it
abbrev pub line_feed : ℕ
line_feed = 10

-- the lines that a line feed ends, where the first one begins with these bytes
abbrev pub whole_lines_after : List ℕ → List ℕ → List (List ℕ)
whole_lines_after front [] = []
whole_lines_after front (b ∷ bs) = if b == line_feed then front ∷ whole_lines_after [] bs else whole_lines_after (front ++ b ∷ []) bs

-- what stands after the last line feed, and else after these bytes
abbrev pub rest_after : List ℕ → List ℕ → List ℕ
rest_after front [] = front
rest_after front (b ∷ bs) = if b == line_feed then rest_after [] bs else rest_after (front ++ b ∷ []) bs

-- the lines that a line feed ends
abbrev pub whole_lines : List ℕ → List (List ℕ)
whole_lines bytes = whole_lines_after [] bytes

-- a last piece, which is a line where it is not empty
abbrev pub last_line : List ℕ → List (List ℕ)
last_line [] = []
last_line (b ∷ bs) = (b ∷ bs) ∷ []

-- the lines of an input
abbrev pub lines : List ℕ → List (List ℕ)
lines bytes = whole_lines bytes ++ last_line (rest_after [] bytes)

-- what is kept of the bytes of a line: all of them, or only that they are too many
abbrev pub kept : List ℕ → Option (List ℕ)
kept bytes = if nat_le (length bytes) max_line then Some bytes else None
