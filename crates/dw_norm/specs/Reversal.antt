-- A text from its end back.
use Rattle.std.specs.Prelude.{ℕ, List, chars, encode_utf8_all, reverse}

-- its scalar values in the opposite order
unfoldable pub rev : List ℕ → List ℕ
rev text = encode_utf8_all (reverse (chars text))
