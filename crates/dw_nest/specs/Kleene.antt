-- Kleene's three values.
use Rattle.std.specs.Prelude.{ℕ, zero, suc, cond, List}
use Rattle.dw_key.specs.declared.doc_key.DocKey.{DocKey}
use Rattle.dw_nest.specs.Bounds.{has}
use Rattle.dw_nest.specs.declared.truth.Truth.{Truth}
use Rattle.dw_nest.specs.declared.truth.Truth.TheVariants.{No, Unknown, Yes}

-- Yes and No change places
abbrev pub swapped : Truth → Truth
swapped No = Yes
swapped Unknown = Unknown
swapped Yes = No

-- the lower of two values
abbrev pub least_of_two : Truth → Truth → Truth
least_of_two No b = No
least_of_two Yes b = b
least_of_two Unknown No = No
least_of_two Unknown Yes = Unknown
least_of_two Unknown Unknown = Unknown

-- the higher of two values
abbrev pub most_of_two : Truth → Truth → Truth
most_of_two Yes b = Yes
most_of_two No b = b
most_of_two Unknown Yes = Yes
most_of_two Unknown No = Unknown
most_of_two Unknown Unknown = Unknown

-- the least of the first `count` values, Yes where there is none
abbrev pub least_of : ℕ → (ℕ → Truth) → Truth
least_of zero value = Yes
least_of (suc count) value = least_of_two (least_of count value) (value count)

-- the greatest of the first `count` values, No where there is none
abbrev pub most_of : ℕ → (ℕ → Truth) → Truth
most_of zero value = No
most_of (suc count) value = most_of_two (most_of count value) (value count)

-- Yes where the key is in the list, else No
abbrev pub in_list : List DocKey → DocKey → Truth
in_list all key = cond (has all key) Yes No
