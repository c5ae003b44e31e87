-- A walk over the bytes of a head, which goes on from one byte to the next and never back.
use Rattle.std.specs.Prelude.{ℕ, ◌+◌, ◌-◌, ◌^◌, ◌==◌, ◌&&◌, ◌||◌, Bool, true, false, not, List, [], ◌∷◌, nat_lt, min, if◌then◌else◌}
use Rattle.dw_http.specs.Heads.{max_fields}
use Rattle.dw_http.specs.declared.scan.Scan.{Scan}
use Rattle.dw_http.specs.declared.scan.Line.{Line}
use Rattle.dw_http.specs.declared.scan.Line.TheVariants.{Nothing, Return, Text}

abbrev pub is_nothing : Line → Bool
is_nothing Nothing = true
is_nothing Return = false
is_nothing Text = false

abbrev pub is_text : Line → Bool
is_text Nothing = false
is_text Return = false
is_text Text = true

-- what stands in a line after one more byte
abbrev pub line_after : Line → ℕ → Line
line_after line b = if b == 10 then Nothing else (if b == 13 && is_nothing line then Return else Text)

-- how many lines there are that are not empty
abbrev pub lines_after : ℕ → Line → ℕ → ℕ
lines_after n line b = if b == 10 && is_text line then min (n + 1) (2 ^ 64 - 1) else n

-- an empty line ends with the byte, below one that is not, or it is of a line that is one too many
abbrev pub ends_with : ℕ → Line → ℕ → Bool
ends_with n line b = if b == 10 then (not (is_text line) && nat_lt 0 n) else (not (b == 13 && is_nothing line) && nat_lt max_fields n)

abbrev pub stepped : Scan → ℕ → Scan
stepped s b = record s { lines = lines_after s.lines s.line b; line = line_after s.line b }

-- the walk after some more bytes
abbrev pub walked : Scan → List ℕ → Scan
walked s [] = s
walked s (b ∷ bytes) = walked (stepped s b) bytes

-- a head may end among some more bytes, or has too many lines
abbrev pub ends_within : Scan → List ℕ → Bool
ends_within s [] = false
ends_within s (b ∷ bytes) = ends_with s.lines s.line b || ends_within (stepped s b) bytes
