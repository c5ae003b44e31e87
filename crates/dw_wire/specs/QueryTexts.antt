-- The query that a text is, or the first rule that it breaks.
use Rattle.std.specs.Prelude.{◌≡◌, ◌↔◌, ℕ, zero, suc, ◌+◌, nat_lt, List, [], ◌∷◌, length, drop, chars, Option, Some, None, Result, Ok, Err, if◌then◌else◌}
use Rattle.dw_jexl.specs.declared.error.QueryRule.{QueryRule}
use Rattle.dw_jexl.specs.declared.error.QueryRule.TheVariants.{TooLong, TooDeep, Syntax, TooMany, Pattern}
use Rattle.dw_jexl.specs.declared.query.Query.{Query}
use Rattle.dw_jexl.specs.declared.token.Token.{Token}
use Rattle.dw_jexl.specs.Tokens.{first_token, past_blanks}
use Rattle.dw_jexl.specs.Depth.{is_deep}
use Rattle.dw_jexl.specs.Grammar.{leaves}
use Rattle.dw_jexl.specs.Patterns.{are_right}
use Rattle.dw_jexl.specs.Reading.{whole}
use Rattle.dw_jexl.specs.Spelling.{Spells, Breaks}

-- a token, where one can be read, and those of what is behind it
abbrev pub with_token : (List ℕ → List Token × List ℕ) → List ℕ → Option (Token × ℕ) → List Token × List ℕ
with_token read cs None = ([], cs)
with_token read cs (Some p) =
    let rest = read (past_blanks (drop p.1 cs)) in
    (p.0 ∷ rest.0, rest.1)

-- the tokens of characters that begin with no white space, at most so many, and what is left
abbrev pub tokens_within : ℕ → List ℕ → List Token × List ℕ
tokens_within zero cs = ([], cs)
tokens_within (suc n) cs = with_token (tokens_within n) cs (first_token cs)

-- the tokens up to where none can be read, and what is left there
unfoldable pub tokens_of : List ℕ → List Token × List ℕ
tokens_of cs = tokens_within (length cs + 1) (past_blanks cs)

-- the query, where it keeps the limit on leaves and its patterns are right
abbrev pub limited : List Token → Option Query → Result Query QueryRule
limited tokens None = Err Syntax
limited tokens (Some q) = if nat_lt 256 (leaves q) then Err TooMany else if are_right tokens then Ok q else Err Pattern

-- the query that tokens with nothing left are
abbrev pub query_in : List Token × List ℕ → Result Query QueryRule
query_in p = if is_deep p.0 then Err TooDeep else if nat_lt 0 (length p.1) then Err Syntax else limited p.0 (whole 65 p.0)

-- the query that a text is, or the first rule that it breaks
unfoldable pub query_of : List ℕ → Result Query QueryRule
query_of text = if nat_lt 16384 (length text) then Err TooLong else query_in (tokens_of (chars text))

-- the text spells the query, or the rule is the first that it breaks
abbrev pub IsQueryOf : List ℕ → Result Query QueryRule → Type 0
IsQueryOf text (Ok q) = Spells text q
IsQueryOf text (Err rule) = Breaks rule text

-- each text is the query that it spells, or the first rule that it breaks, and nothing else
abbrev pub QueriesAreSpelt : Type 0
QueriesAreSpelt = (text : List ℕ) (r : Result Query QueryRule) → (query_of text ≡ r) ↔ IsQueryOf text r
