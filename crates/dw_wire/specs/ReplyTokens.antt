-- The JSON tokens of a reply, and what a call adds to those that were written.
use Rattle.std.specs.Prelude.{◌≡◌, ℕ, List, [], ◌∷◌, ◌++◌, Option, Some, None, Result, OnOk, if◌then◌else◌}
use Rattle.json.specs.Token.{Token}
use Rattle.json.specs.Tree.{json_tokens}
use Rattle.json.specs.Written.{Written}
use Rattle.serde_json.specs.Data.{Data}
use Rattle.serde_json.specs.Written.{outline}
use Rattle.dw_event.specs.Texts.{is_same}

-- the tokens of a value
abbrev pub data_tokens : Data → List Token
data_tokens d = json_tokens (outline d)

-- the tokens of a member
abbrev pub member_tokens : List ℕ → Data → List Token
member_tokens name d = Token.key name ∷ data_tokens d

-- these tokens follow those that were written, and the text before the first is as it was
pub record Grows (old new : Written) (ts : List Token) : Type 0 where
  pub tokens : new.tokens ≡ old.tokens ++ ts
  pub before : new.before ≡ old.before

-- a call that succeeds has written these tokens
abbrev pub Adds : {E : Type 0} → Result (Unit {0}) E → Written → Written → List Token → Type 0
Adds r old new ts = OnOk r (Grows old new ts)

-- what stands between the raw value before and one of this field, by the field whose list is open
abbrev pub opening : Option (List ℕ) → List ℕ → List Token
opening None field = Token.key field ∷ Token.begin_array ∷ []
opening (Some current) field =
    if is_same current field then [] else Token.end_array ∷ Token.key field ∷ Token.begin_array ∷ []

-- the end of the fields, by the field whose list is open
abbrev pub closing : Option (List ℕ) → List Token
closing None = Token.end_object ∷ []
closing (Some current) = Token.end_array ∷ Token.end_object ∷ []
