-- The grammar: its sentences, the tokens that spell each, and the query that each stands for.
use Rattle.std.specs.Prelude.{◌≡◌, ℕ, Bool, true, false, ◌&&◌, ◌||◌, List, [], ◌∷◌, Option, Some, None, if◌then◌else◌}
use Rattle.dw_jexl.specs.declared.pattern.Piece.{Piece}
use Rattle.dw_jexl.specs.declared.pattern.Piece.TheVariants.{Wild}
use Rattle.dw_jexl.specs.declared.query.Op.TheVariants.{Eq, Lt, Le, Gt, Ge}
use Rattle.dw_jexl.specs.declared.query.Query.{Query}
use Rattle.dw_jexl.specs.declared.query.Query.TheVariants as query
use Rattle.dw_jexl.specs.Grammar.{folded, names_field, joined}
use Rattle.dw_jexl.specs.Patterns.{text_of, begins_wild, ends_wild}
use Rattle.dw_lucene.specs.declared.end.End.{End}
use Rattle.dw_lucene.specs.declared.token.Token.{Token}
use Rattle.dw_lucene.specs.declared.token.Token.TheVariants.{Open, Close, Conjoin, Disjoin, Negate, To, Field, Bare, Quoted, Low, High}

-- a term is bare or quoted
pub data Term : Type 0 where
  bare : List Piece → Term
  quoted : List ℕ → Term

abbrev pub token_of : Term → Token
token_of (bare ps) = Bare ps
token_of (quoted s) = Quoted s

-- a wildcard alone
abbrev pub is_star : List Piece → Bool
is_star (Wild ∷ []) = true
is_star _ = false

-- an end of a range: its text, or where it is `*` alone no end at all
abbrev pub end_of : Term → End
end_of (bare ps) = record { text = text_of ps; is_open = is_star ps }
end_of (quoted s) = record { text = s; is_open = false }

-- the leaf of a bare term: a pattern where it begins or ends with a wildcard
unfoldable pub bare_leaf : List ℕ → List Piece → Query
bare_leaf f ps =
    if begins_wild ps || ends_wild ps then query.Pattern (folded f) false (begins_wild ps) (ends_wild ps) (text_of ps)
    else query.Cmp (folded f) Eq (text_of ps)

abbrev pub leaf_of : List ℕ → Term → Query
leaf_of f (bare ps) = bare_leaf f ps
leaf_of f (quoted s) = query.Cmp (folded f) Eq s

-- The leaf of a range, of which `{` and `}` leave out their ends. A range with one end is a comparison, and one with no end
-- is none.
unfoldable pub ranged : List ℕ → Bool → End → End → Bool → Option Query
ranged f low_open a b high_open =
    if a.is_open && b.is_open then None
    else (if b.is_open then Some (query.Cmp (folded f) (if low_open then Gt else Ge) a.text)
    else (if a.is_open then Some (query.Cmp (folded f) (if high_open then Lt else Le) b.text)
    else Some (query.Bounded (folded f) a.text low_open b.text high_open)))

mutual
  -- conj { "OR" conj }
  pub data Disjunction : Type 0 where
    one : Conjunction → Disjunction
    more : Conjunction → Disjunction → Disjunction

  -- unary { "AND" unary }
  pub data Conjunction : Type 0 where
    alone : Unary → Conjunction
    joins : Unary → Conjunction → Conjunction

  -- "NOT" unary, "(" query ")", field ":" term or field ":" range
  pub data Unary : Type 0 where
    negation : Unary → Unary
    group : Disjunction → Unary
    clause : (field : List ℕ) → names_field field ≡ true → Term → Unary
    range : (field : List ℕ) → names_field field ≡ true → (low_open : Bool) (a b : Term) (high_open : Bool) (q : Query) → ranged field low_open (end_of a) (end_of b) high_open ≡ Some q → Unary

-- a range before the tokens that follow it
abbrev pub range_before : List ℕ → Bool → Term → Term → Bool → List Token → List Token
range_before f low_open a b high_open rest = Field f ∷ Low low_open ∷ token_of a ∷ To ∷ token_of b ∷ High high_open ∷ rest

-- the tokens that spell a sentence, before the tokens that follow it
abbrev mutual
  pub disjunction_before : Disjunction → List Token → List Token
  disjunction_before (one c) rest = conjunction_before c rest
  disjunction_before (more c d) rest = conjunction_before c (Disjoin ∷ disjunction_before d rest)

  pub conjunction_before : Conjunction → List Token → List Token
  conjunction_before (alone u) rest = unary_before u rest
  conjunction_before (joins u c) rest = unary_before u (Conjoin ∷ conjunction_before c rest)

  pub unary_before : Unary → List Token → List Token
  unary_before (negation u) rest = Negate ∷ unary_before u rest
  unary_before (group d) rest = Open ∷ disjunction_before d (Close ∷ rest)
  unary_before (clause f ok t) rest = Field f ∷ token_of t ∷ rest
  unary_before (range f ok low_open a b high_open q e) rest = range_before f low_open a b high_open rest

-- the queries that a sentence stands for: parentheses make no node
abbrev mutual
  pub disjuncts : Disjunction → List Query
  disjuncts (one c) = joined query.And (conjuncts c) ∷ []
  disjuncts (more c d) = joined query.And (conjuncts c) ∷ disjuncts d

  pub conjuncts : Conjunction → List Query
  conjuncts (alone u) = unary_query u ∷ []
  conjuncts (joins u c) = unary_query u ∷ conjuncts c

  pub unary_query : Unary → Query
  unary_query (negation u) = query.Not (unary_query u)
  unary_query (group d) = joined query.Or (disjuncts d)
  unary_query (clause f ok t) = leaf_of f t
  unary_query (range f ok low_open a b high_open q e) = q

-- the query that a sentence stands for
abbrev pub query_of : Disjunction → Query
query_of d = joined query.Or (disjuncts d)
