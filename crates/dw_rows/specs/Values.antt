-- Looking into a value of JSON.
use Rattle.std.specs.Prelude.{ℕ, Bool, true, ◌&&◌, List, Option, Some, None, option_and_then, is_some, if◌then◌else◌}
use Rattle.std.specs.List.{list_any}
use Rattle.std.specs.Str.{bytes_eq}
use Rattle.serde_json.specs.Data.{Data, Members, no_members, member}
use Rattle.serde_json.specs.Find.{get, as_str, as_object}

-- the value, where the test holds
abbrev pub guarded : {A : Type 0} → Bool → Option A → Option A
guarded test value = if test then value else None

-- a member that is a text
abbrev pub text_at : List ℕ → Data → Option (List ℕ)
text_at name d = option_and_then as_str (get name d)

-- a member that is an object
abbrev pub object_at : List ℕ → Data → Option Members
object_at name d = option_and_then as_object (get name d)

-- each member has one of these names
abbrev pub has_only_names : List (List ℕ) → Members → Bool
has_only_names names no_members = true
has_only_names names (member k d ms) = list_any (λ n. bytes_eq n k) names && has_only_names names ms

-- an object with no member but these
abbrev pub has_only : List (List ℕ) → Data → Bool
has_only names d = is_some (option_and_then (λ ms. guarded (has_only_names names ms) (Some ms)) (as_object d))
