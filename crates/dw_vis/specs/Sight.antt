-- Who sees what a text stands for, read from left to right.
use Rattle.std.specs.Prelude.{ℕ, Bool, true, false, ◌&&◌, ◌||◌, List}
use Rattle.std.specs.Str.{is_utf8}
use Rattle.dw_vis.specs.declared.reading.Sign.{Sign}
use Rattle.dw_vis.specs.declared.reading.Sign.TheVariants.{All, Any}
use Rattle.dw_vis.specs.Names.{has}
use Rattle.dw_vis.specs.Reading.{Meaning, Outcome, refused, mixes, reads, read}

abbrev pub seen_both : Sign → Bool → Bool → Bool
seen_both All a b = a && b
seen_both Any a b = a || b

-- each text is read as whether one who has these names sees it
abbrev pub seen_by : List (List ℕ) → Meaning Bool
seen_by names = record { nothing = true; term = λ name. has names name; two = seen_both; further = seen_both }

abbrev pub is_seen : Outcome Bool → Bool
is_seen refused = false
is_seen mixes = false
is_seen (reads b) = b

-- Whether one who has these names sees what a text stands for; a text that stands for nothing is seen by no one.
abbrev pub sees : List ℕ → List (List ℕ) → Bool
sees text names = is_utf8 text && is_seen (read (seen_by names) text)
