-- What values of options stand for.
use Rattle.std.specs.Prelude.{ℕ, ◌==◌, ◌&&◌, List, Bool, nat_le, length, Option, Some, None, is_some, option_and_then, codes, unwrap_or, map, if◌then◌else◌}
use Rattle.std.specs.List.{list_all, slice_split}
use Rattle.std.specs.Option.{option_map_or}
use Rattle.std.specs.Str.{bytes_eq}
use Rattle.dw_base.specs.Numerals.{numeral_up_to}
use Rattle.dw_words.specs.declared.command.Form.{Form}
use Rattle.dw_words.specs.declared.command.Form.TheVariants.{Json, Csv}
use Rattle.dw_words.specs.declared.command.Place.{Place}
use Rattle.dw_words.specs.declared.command.Place.TheVariants.{Memory, Store, Journal}
use Rattle.dw_words.specs.Options.{Text}

-- the number, where it is at least the least
abbrev pub from_least : ℕ → ℕ → Option ℕ
from_least least n = if nat_le least n then Some n else None

-- the number that 1 to 10 digits spell, within its limits
abbrev pub number : ℕ → ℕ → Text → Option ℕ
number least most text = if nat_le (length text) 10 then option_and_then (from_least least) (numeral_up_to most text) else None

-- how many threads, 4 where nothing is given
abbrev pub workers : Option Text → Option ℕ
workers value = option_map_or (number 1 16) value (Some 4)

-- the parts between commas (44)
abbrev pub parts : Text → List Text
parts text = slice_split (λ b. b == 44) text

abbrev pub is_batch : Text → Bool
is_batch part = is_some (number 1 1000000 part)

-- the number that a part spells, or 0
abbrev pub size_of : Text → ℕ
size_of part = unwrap_or (number 1 1000000 part) 0

-- 1 to 16 numbers of 1 to 1000000, parted by commas
abbrev pub are_batches : Text → Bool
are_batches text = nat_le (length (parts text)) 16 && list_all is_batch (parts text)

abbrev pub numbers : Text → List ℕ
numbers text = map size_of (parts text)

-- how many documents a shard may read wave by wave, `1000` where nothing is given
abbrev pub batches_in : Option Text → Text
batches_in value = unwrap_or value (codes "1000")

abbrev pub batches : Option Text → Option (List ℕ)
batches value = if are_batches (batches_in value) then Some (numbers (batches_in value)) else None

abbrev pub form_named : Text → Option Form
form_named name = if bytes_eq name (codes "json") then Some Json else if bytes_eq name (codes "csv") then Some Csv else None

abbrev pub form : Option Text → Option Form
form value = option_and_then form_named value

-- where the tables are, by the values for `store` and `journal`, of which at most one is given
abbrev pub place : Option Text → Option Text → Option Place
place None None = Some Memory
place (Some path) None = Some (Store path)
place None (Some path) = Some (Journal path)
place (Some path) (Some other) = None

-- a number that has to be given
abbrev pub given_number : ℕ → ℕ → Option Text → Option ℕ
given_number least most value = option_and_then (number least most) value
