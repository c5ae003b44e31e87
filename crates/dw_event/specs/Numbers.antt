-- Numbers that bytes spell.
use Rattle.std.specs.Prelude.{ℕ, ◌+◌, ◌*◌, List, [], ◌∷◌}

-- n, followed by bytes, in base 256
abbrev pub big_endian_from : ℕ → List ℕ → ℕ
big_endian_from n [] = n
big_endian_from n (b ∷ bs) = big_endian_from (256 * n + b) bs

-- the number that bytes spell, the highest first
abbrev pub big_endian : List ℕ → ℕ
big_endian bytes = big_endian_from 0 bytes
