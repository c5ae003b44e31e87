-- Whether bytes in which no head stands are too large to become one.
use Rattle.std.specs.Prelude.{ℕ, zero, suc, ◌+◌, ◌==◌, ◌&&◌, ◌||◌, Bool, false, not, List, [], ◌∷◌, length, Option, Some, None, option_and_then, nat_lt, if◌then◌else◌}
use Rattle.std.specs.Option.{option_map_or}
use Rattle.dw_http.specs.Heads.{max_head, max_fields}

-- what follows the first line, where it is whole
abbrev pub after_line : List ℕ → Option (List ℕ)
after_line [] = None
after_line (b ∷ bytes) = if b == 10 then Some bytes else after_line bytes

-- what follows the first so many lines, where they are whole
abbrev pub after_lines : ℕ → List ℕ → Option (List ℕ)
after_lines zero bytes = Some bytes
after_lines (suc n) bytes = option_and_then (after_lines n) (after_line bytes)

-- the bytes after the empty lines at the front
abbrev pub skip_empty : List ℕ → List ℕ
skip_empty [] = []
skip_empty (a ∷ []) = if a == 10 then [] else a ∷ []
skip_empty (a ∷ b ∷ bytes) = if a == 10 then skip_empty (b ∷ bytes) else (if a == 13 && b == 10 then skip_empty bytes else a ∷ b ∷ bytes)

-- there are bytes, and they begin no empty line; a lone CR at their end may begin one
abbrev pub begins_no_empty : List ℕ → Bool
begins_no_empty [] = false
begins_no_empty (a ∷ []) = not (a == 10) && not (a == 13)
begins_no_empty (a ∷ b ∷ bytes) = not (a == 10) && not (a == 13 && b == 10)

-- more bytes than a head may have, or more header lines
abbrev pub is_large : List ℕ → Bool
is_large bytes = nat_lt max_head (length bytes) || option_map_or begins_no_empty (after_lines (max_fields + 1) (skip_empty bytes)) false
