-- Uids that a record carries in its own text, for tests.
use Rattle.std.specs.Prelude.{ℕ, ◌-◌, ◌^◌, nat_eq, if◌then◌else◌, Option, Some, None, List, [], ◌∷◌, ◌++◌, length, drop, take_while, replicate}
use Rattle.std.specs.Option.{option_map, option_and_then, option_map_or}
use Rattle.std.specs.List.{starts_with}
use Rattle.std.specs.Char.{is_ascii_digit}
use Rattle.std.specs.Int.{w64, to_be_bytes}
use Rattle.dw_base.specs.Numerals.{numeral_up_to}

-- what stands after the first place where the bytes 0, `I`, `D`, 0 stand
abbrev pub after_mark : List ℕ → Option (List ℕ)
after_mark [] = None
after_mark (b ∷ bs) = if starts_with nat_eq (b ∷ bs) (0 ∷ 73 ∷ 68 ∷ 0 ∷ []) then Some (drop 3 bs) else after_mark bs

-- the digits with which a text begins
abbrev pub front_digits : List ℕ → List ℕ
front_digits text = take_while is_ascii_digit text

-- the number below 2^32 that one or more digits at the front of a text spell, and what stands after them
abbrev pub front_number : List ℕ → Option (ℕ × List ℕ)
front_number text = option_map (λ n. (n, drop (length (front_digits text)) text)) (numeral_up_to (2 ^ 32 - 1) (front_digits text))

-- what stands after a `-` at the front of a text
abbrev pub after_dash : List ℕ → Option (List ℕ)
after_dash [] = None
after_dash (b ∷ bs) = if nat_eq b 45 then Some bs else None

-- the numbers s and i that a text of the form s-i begins with
abbrev pub front_pair : List ℕ → Option (ℕ × ℕ)
front_pair text =
    option_and_then (λ s. option_and_then (λ rest. option_and_then (λ i. Some (s.0, i.0)) (front_number rest)) (after_dash s.1)) (front_number text)

-- the 8 bytes of s, 16 bytes 0 and the 8 bytes of i, the highest first
abbrev pub pair_uid : ℕ × ℕ → List ℕ
pair_uid p = to_be_bytes w64 p.0 ++ replicate 16 0 ++ to_be_bytes w64 p.1

-- the uid of the pair after the mark, or 32 bytes 0 where there is none
abbrev pub mark_uid : List ℕ → List ℕ
mark_uid text = option_map_or pair_uid (option_and_then front_pair (after_mark text)) (replicate 32 0)
