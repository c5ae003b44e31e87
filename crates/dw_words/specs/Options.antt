-- The options that words give, each with its value.
use Rattle.std.specs.Prelude.{ℕ, ◌==◌, ◌&&◌, List, [], ◌∷◌, Bool, true, false, not, Option, Some, None, is_some, option_map, option_and_then, if◌then◌else◌}
use Rattle.std.specs.List.{list_all}
use Rattle.std.specs.Str.{bytes_eq}
use Rattle.clap.specs.Lexer.{long_of}

abbrev pub Text : Type 0
Text = List ℕ

-- options, each a name and a value
abbrev pub Options : Type 0
Options = List (Text × Text)

-- a value is not empty, and does not begin with `-`
abbrev pub is_value : Text → Bool
is_value [] = false
is_value (b ∷ bs) = not (b == 45)

-- the options that begin with one, where what is given for it is a value
abbrev pub with_option : Text → Text → Option Options → Option Options
with_option name v more = if is_value v then option_map (λ ps. (name, v) ∷ ps) more else None

-- a word `--name=value` is an option, and after a word `--name` the next word is its value
abbrev pub at_name : Option (Text × Option Text) → Option Options → (Text → Option Options) → Option Options
at_name None more waiting = None
at_name (Some (name, Some v)) more waiting = with_option name v more
at_name (Some (name, None)) more waiting = waiting name

-- the options that words give; the first argument is a name that waits for its value
unfoldable pub options_from : Option Text → List Text → Option Options
options_from None [] = Some []
options_from (Some name) [] = None
options_from None (w ∷ ws) = at_name (long_of w) (options_from None ws) (λ name. options_from (Some name) ws)
options_from (Some name) (v ∷ ws) = with_option name v (options_from None ws)

abbrev pub options : List Text → Option Options
options = options_from None

-- the value that is given for a name
abbrev pub value_of : Text → Options → Option Text
value_of name [] = None
value_of name (p ∷ ps) = if bytes_eq p.0 name then Some p.1 else value_of name ps

-- no name is given twice
abbrev pub are_once : Options → Bool
are_once [] = true
are_once (p ∷ ps) = not (is_some (value_of p.0 ps)) && are_once ps

-- the options, where each has a name that is taken, and none is given twice
abbrev pub checked : (Text → Bool) → Options → Option Options
checked takes ps = if list_all (λ p. takes p.0) ps && are_once ps then Some ps else None

abbrev pub options_for : (Text → Bool) → List Text → Option Options
options_for takes words = option_and_then (checked takes) (options words)

-- the value that words give for a name
abbrev pub value_in : Text → List Text → Option Text
value_in name words = option_and_then (value_of name) (options words)

-- ---- the same, from the front

abbrev pub given_of : Text → Text → List Text → Option (Text × (Text × List Text))
given_of name v rest = if is_value v then Some (name, (v, rest)) else None

abbrev pub first_at : Option (Text × Option Text) → List Text → Option (Text × (Text × List Text))
first_at None ws = None
first_at (Some (name, Some v)) ws = given_of name v ws
first_at (Some (name, None)) [] = None
first_at (Some (name, None)) (v ∷ ws) = given_of name v ws

-- the name and the value of the first option of words, and the words after it
abbrev pub first_option : List Text → Option (Text × (Text × List Text))
first_option [] = None
first_option (w ∷ ws) = first_at (long_of w) ws
