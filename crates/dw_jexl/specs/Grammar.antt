-- The grammar: its sentences, the tokens that spell each, and the query that each stands for.
use Rattle.std.specs.Prelude.{◌≡◌, ℕ, Bool, true, false, not, ◌&&◌, ◌||◌, List, [], ◌∷◌, length, map, Option, Some, None, nat_le, if◌then◌else◌, bytes_eq, codes, sum}
use Rattle.std.specs.Char.{to_ascii_uppercase}
use Rattle.dw_jexl.specs.declared.query.Op.{Op}
use Rattle.dw_jexl.specs.declared.query.Op.TheVariants.{Eq, Ne, Lt, Le, Gt, Ge}
use Rattle.dw_jexl.specs.declared.query.Query.{Query}
use Rattle.dw_jexl.specs.declared.query.Query.TheVariants as query
use Rattle.dw_jexl.specs.declared.query.Query.TheOpen.{Query-F}
use Rattle.dw_jexl.specs.declared.query.Query.TheOpen as layer
use Rattle.dw_jexl.specs.declared.query.Query.TheFolds.{fold-Query}
use Rattle.dw_jexl.specs.declared.token.Token.{Token}
use Rattle.dw_jexl.specs.declared.token.Token.TheVariants.{Open, Close, Conjoin, Disjoin, Negate, Compare, Match, Assign, Name, Number, Quoted}
use Rattle.dw_jexl.specs.Tokens.{is_word, is_operator}
use Rattle.dw_jexl.specs.Patterns.{pieces, text_of, begins_wild, ends_wild}

-- a field in upper case
abbrev pub folded : List ℕ → List ℕ
folded word = map to_ascii_uppercase word

-- no field, though a word
unfoldable pub is_reserved : List ℕ → Bool
is_reserved w = bytes_eq w (codes "true") || bytes_eq w (codes "false") || bytes_eq w (codes "null") || bytes_eq w (codes "_Bounded_")

-- a word of at most 64 characters that is not reserved
unfoldable pub is_field : List ℕ → Bool
is_field w = nat_le (length w) 64 && not (is_reserved w)

-- the text of a field: a word that spells no operator, is not reserved and has at most 64 characters
unfoldable pub names_field : List ℕ → Bool
names_field w = is_word w && not (is_operator w) && is_field w

-- a literal is a number or a string
pub data Literal : Type 0 where
  number : List ℕ → Literal
  string : List ℕ → Literal

abbrev pub literal_token : Literal → Token
literal_token (number n) = Number n
literal_token (string s) = Quoted s

abbrev pub literal_text : Literal → List ℕ
literal_text (number n) = n
literal_text (string s) = s

-- one end of a bounded
pub record End : Type 0 where
  pub field : List ℕ
  pub op : Op
  pub literal : Literal

abbrev pub is_lower : Op → Bool
is_lower Eq = false
is_lower Ne = false
is_lower Lt = false
is_lower Le = false
is_lower Gt = true
is_lower Ge = true

abbrev pub is_upper : Op → Bool
is_upper Eq = false
is_upper Ne = false
is_upper Lt = true
is_upper Le = true
is_upper Gt = false
is_upper Ge = false

-- whether the end itself does not meet the comparison
abbrev pub is_strict : Op → Bool
is_strict Eq = false
is_strict Ne = true
is_strict Lt = true
is_strict Le = false
is_strict Gt = true
is_strict Ge = false

-- a bounded of the two sides, the lower first
abbrev pub between : List ℕ → Op → List ℕ → Op → List ℕ → Query
between field low_op low high_op high = query.Bounded field low (is_strict low_op) high (is_strict high_op)

-- Two sides of one field, one lower and one upper in either order, make a bounded.
unfoldable pub bounded_by : List ℕ → Op → List ℕ → List ℕ → Op → List ℕ → Option Query
bounded_by f op l g or m =
    if not (bytes_eq (folded f) (folded g)) then None
    else (if is_lower op && is_upper or then Some (between (folded f) op l or m)
    else (if is_upper op && is_lower or then Some (between (folded f) or m op l)
    else None))

-- a leaf of the string that stands behind a `=~` or a `!~`
abbrev pub pattern_of : List ℕ → Bool → List ℕ → Query
pattern_of field negated raw = query.Pattern (folded field) negated (begins_wild (pieces raw)) (ends_wild (pieces raw)) (text_of (pieces raw))

-- one child alone is itself, and more make a node
abbrev pub joined : (List Query → Query) → List Query → Query
joined node [] = node []
joined node (q ∷ []) = q
joined node (q ∷ r ∷ qs) = node (q ∷ r ∷ qs)

mutual
  -- conj { "||" conj }
  pub data Disjunction : Type 0 where
    one : Conjunction → Disjunction
    more : Conjunction → Disjunction → Disjunction

  -- unary { "&&" unary }
  pub data Conjunction : Type 0 where
    alone : Unary → Conjunction
    joins : Unary → Conjunction → Conjunction

  -- an operand, field op literal, field "=~" string or field "!~" string
  pub data Unary : Type 0 where
    operand : Operand → Unary
    comparison : (field : List ℕ) → is_field field ≡ true → Op → Literal → Unary
    matching : (field : List ℕ) → is_field field ≡ true → Bool → List ℕ → Unary

  -- "!" operand, "(" query ")" or a bounded, which are what "!" may stand before
  pub data Operand : Type 0 where
    negation : Operand → Operand
    group : Disjunction → Operand
    bounded : (a b : End) → is_field a.field ≡ true → is_field b.field ≡ true → (q : Query) → bounded_by a.field a.op (literal_text a.literal) b.field b.op (literal_text b.literal) ≡ Some q → Operand

-- an end before the tokens that follow it
abbrev pub end_before : End → List Token → List Token
end_before e rest = Name e.field ∷ Compare e.op ∷ literal_token e.literal ∷ rest

-- ((_Bounded_ = true) && (end && end)) before the tokens that follow it
abbrev pub bounded_before : End → End → List Token → List Token
bounded_before a b rest =
    Open ∷ Open ∷ Name (codes "_Bounded_") ∷ Assign ∷ Name (codes "true") ∷ Close ∷ Conjoin ∷ Open ∷ end_before a (Conjoin ∷ end_before b (Close ∷ Close ∷ rest))

-- the tokens that spell a sentence, before the tokens that follow it
abbrev mutual
  pub disjunction_before : Disjunction → List Token → List Token
  disjunction_before (one c) rest = conjunction_before c rest
  disjunction_before (more c d) rest = conjunction_before c (Disjoin ∷ disjunction_before d rest)

  pub conjunction_before : Conjunction → List Token → List Token
  conjunction_before (alone u) rest = unary_before u rest
  conjunction_before (joins u c) rest = unary_before u (Conjoin ∷ conjunction_before c rest)

  pub unary_before : Unary → List Token → List Token
  unary_before (operand o) rest = operand_before o rest
  unary_before (comparison field ok op l) rest = Name field ∷ Compare op ∷ literal_token l ∷ rest
  unary_before (matching field ok negated raw) rest = Name field ∷ Match negated ∷ Quoted raw ∷ rest

  pub operand_before : Operand → List Token → List Token
  operand_before (negation o) rest = Negate ∷ operand_before o rest
  operand_before (group d) rest = Open ∷ disjunction_before d (Close ∷ rest)
  operand_before (bounded a b fa fb q e) rest = bounded_before a b rest

-- the queries that a sentence stands for: parentheses make no node
abbrev mutual
  pub disjuncts : Disjunction → List Query
  disjuncts (one c) = joined query.And (conjuncts c) ∷ []
  disjuncts (more c d) = joined query.And (conjuncts c) ∷ disjuncts d

  pub conjuncts : Conjunction → List Query
  conjuncts (alone u) = unary_query u ∷ []
  conjuncts (joins u c) = unary_query u ∷ conjuncts c

  pub unary_query : Unary → Query
  unary_query (operand o) = operand_query o
  unary_query (comparison field ok op l) = query.Cmp (folded field) op (literal_text l)
  unary_query (matching field ok negated raw) = pattern_of field negated raw

  pub operand_query : Operand → Query
  operand_query (negation o) = query.Not (operand_query o)
  operand_query (group d) = joined query.Or (disjuncts d)
  operand_query (bounded a b fa fb q e) = q

-- the query that a sentence stands for
abbrev pub query_of : Disjunction → Query
query_of d = joined query.Or (disjuncts d)

-- how many leaves a query has; a bounded counts as one
abbrev pub leaves_step : Query-F ℕ → ℕ
leaves_step (layer.Cmp field op literal) = 1
leaves_step (layer.Pattern field negated lead trail text) = 1
leaves_step (layer.Bounded field low low_open high high_open) = 1
leaves_step (layer.Not child) = child
leaves_step (layer.And children) = sum children
leaves_step (layer.Or children) = sum children

abbrev pub leaves : Query → ℕ
leaves = fold-Query ℕ leaves_step
