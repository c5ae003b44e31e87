-- What the headers on the length of a body say.
use Rattle.std.specs.Prelude.{ℕ, false, ◌==◌, ◌&&◌, List, [], ◌∷◌, length, Option, Some, None, option_and_then, nat_le, codes, Result, Ok, Err, if◌then◌else◌}
use Rattle.std.specs.List.{list_all}
use Rattle.std.specs.Str.{all_ascii_digits}
use Rattle.std.specs.Str.Parse.{digits_value}
use Rattle.std.specs.Option.{option_map_or}
use Rattle.dw_http.specs.Fields.{values_named}
use Rattle.dw_http.specs.declared.why.HttpWhy.{HttpWhy}
use Rattle.dw_http.specs.declared.why.HttpWhy.TheVariants.{Transfer, Length, Body}

-- the most bytes that a body has
abbrev pub max_body : ℕ
max_body = 4194304

-- the number that 1 to 19 digits write
abbrev pub number_of : List ℕ → Option ℕ
number_of value = if nat_le 1 (length value) && nat_le (length value) 19 && all_ascii_digits value then Some (digits_value 10 value) else None

-- the number that each value writes, 0 without one, where they write the same
abbrev pub length_in : List (List ℕ) → Option ℕ
length_in [] = Some 0
length_in (value ∷ values) =
    option_and_then (λ n. if list_all (λ other. option_map_or (λ m. m == n) (number_of other) false) values then Some n else None) (number_of value)

-- how long the body is, or why the headers do not say it
abbrev pub body_size : Option ℕ → Result ℕ HttpWhy
body_size None = Err Length
body_size (Some n) = if nat_le n max_body then Ok n else Err Body

-- the first rule on the body's length that the headers break, or the length
abbrev pub size_by : List (List ℕ) → List (List ℕ) → Result ℕ HttpWhy
size_by [] lengths = body_size (length_in lengths)
size_by (coding ∷ codings) lengths = Err Transfer

abbrev pub size_in : List (List ℕ × List ℕ) → Result ℕ HttpWhy
size_in fields = size_by (values_named (codes "transfer-encoding") fields) (values_named (codes "content-length") fields)
