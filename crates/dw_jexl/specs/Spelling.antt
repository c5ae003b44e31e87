-- Which query a text spells, and the first rule that a text breaks.
use Rattle.std.specs.Prelude.{◌≡◌, ℕ, true, false, List, [], chars, Result, Ok, Err}
use Rattle.dw_jexl.specs.declared.error.QueryError.{QueryError}
use Rattle.dw_jexl.specs.declared.error.QueryError.TheVariants.{Rule, OutOfMemory}
use Rattle.dw_jexl.specs.declared.error.QueryRule.{QueryRule}
use Rattle.dw_jexl.specs.declared.error.QueryRule.TheVariants.{TooLong, TooDeep, Syntax, TooMany, Pattern}
use Rattle.dw_jexl.specs.declared.query.Query.{Query}
use Rattle.dw_jexl.specs.declared.token.Token.{Token}
use Rattle.dw_jexl.specs.Tokens.{AreRead}
use Rattle.dw_jexl.specs.Depth.{is_deep}
use Rattle.dw_jexl.specs.Patterns.{are_right}
use Rattle.dw_jexl.specs.Grammar.{Disjunction, disjunction_before, query_of}
use Rattle.dw_jexl.specs.Limits.{IsShort, IsLong, HasFew, HasMany}

-- all of the tokens are a sentence of the grammar that stands for the query
abbrev pub IsSentence : List Token → Query → Type 0
IsSentence ts q = (d : Disjunction) × (ts ≡ disjunction_before d []) × (q ≡ query_of d)

-- The text has at most 16,384 bytes, and its tokens nowhere stand more than 64 levels deep up to where none can be read.
pub record IsShallow (text : List ℕ) (tokens : List Token) (rest : List ℕ) : Type 0 where
  pub short : IsShort text
  pub tokens_read : AreRead (chars text) tokens rest
  pub shallow : is_deep tokens ≡ false

-- the text spells the query by the grammar and keeps the limits on length and depth
pub record IsSpeltBy (text : List ℕ) (tokens : List Token) (q : Query) : Type 0 where
  pub limits : IsShallow text tokens []
  pub sentence : IsSentence tokens q

-- The text spells the query: it keeps every limit, has at most 256 leaves, and its patterns are right.
pub record Spells (text : List ℕ) (q : Query) : Type 0 where
  pub tokens : List Token
  pub spelt : IsSpeltBy text tokens q
  pub few : HasFew q
  pub right : are_right tokens ≡ true

-- this rule is the first that the text breaks
abbrev pub Breaks : QueryRule → List ℕ → Type 0
Breaks TooLong text = IsLong text
Breaks TooDeep text = IsShort text × ((tokens : List Token) × (rest : List ℕ) × AreRead (chars text) tokens rest × (is_deep tokens ≡ true))
Breaks Syntax text =
    ((tokens : List Token) × (rest : List ℕ) × IsShallow text tokens rest)
    × ((tokens : List Token) (q : Query) → IsSpeltBy text tokens q → ⊥)
Breaks TooMany text = (tokens : List Token) × (q : Query) × IsSpeltBy text tokens q × HasMany q
Breaks Pattern text = (tokens : List Token) × (q : Query) × IsSpeltBy text tokens q × HasFew q × (are_right tokens ≡ false)

-- what parsing may answer
abbrev pub Answers : List ℕ → Result Query QueryError → Type 0
Answers text (Ok q) = Spells text q
Answers text (Err (Rule r)) = Breaks r text
Answers text (Err OutOfMemory) = Unit {0}
