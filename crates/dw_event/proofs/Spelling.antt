-- Digits at the front of a text.
use Rattle.std.proofs.Common.{◌≡◌, ℕ, List, length, take, ap}
use Rattle.std.specs.Char.{is_ascii_digit}
use Rattle.std.proofs.lemmas.List.Folds.{length-prefix_len}
use Rattle.dw_event.specs.Marks.{front_digits}

-- the digits at the front are as many bytes of the text
pub take-front_digits : (text : List ℕ) → take (length (front_digits text)) text ≡ front_digits text
take-front_digits text = ap (λ n. take n text) (length-prefix_len is_ascii_digit text)

pub ruleset fronts = (take-front_digits)
