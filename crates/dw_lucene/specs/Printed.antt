-- The one text of each query that has one, by its characters.
use Rattle.std.specs.Prelude.{ℕ, Bool, true, false, not, ◌&&◌, ◌||◌, List, [], ◌∷◌, ◌++◌, ◌==◌, if◌then◌else◌, codes}
use Rattle.dw_jexl.specs.declared.query.Op.{Op}
use Rattle.dw_jexl.specs.declared.query.Op.TheVariants.{Eq, Ne, Lt, Le, Gt, Ge}
use Rattle.dw_jexl.specs.declared.query.Query.{Query}
use Rattle.dw_jexl.specs.declared.query.Query.TheOpen.{Query-F, Cmp, Pattern, Bounded, Not, And, Or}
use Rattle.dw_jexl.specs.declared.query.Query.TheFolds.{fold-Query}
use Rattle.dw_jexl.specs.Grammar.{folded}
use Rattle.dw_jexl.specs.WellMade.{are_all}
use Rattle.dw_lucene.specs.Tokens.{ends_term}

-- `"` and `\` of a string behind a `\`
abbrev pub escaped : ℕ → List ℕ
escaped c = if c == 34 || c == 92 then 92 ∷ c ∷ [] else c ∷ []

abbrev pub all_escaped : List ℕ → List ℕ
all_escaped [] = []
all_escaped (c ∷ cs) = escaped c ++ all_escaped cs

-- a string between two `"`
abbrev pub string_of : List ℕ → List ℕ
string_of cs = codes "\"" ++ (all_escaped cs ++ codes "\"")

-- white space, ( ) [ ] { } : " and \ * ?
unfoldable pub needs_escape : ℕ → Bool
needs_escape c = ends_term c || c == 92 || c == 42 || c == 63

-- a character of a bare term
unfoldable pub literal_of : ℕ → List ℕ
literal_of c = if needs_escape c then 92 ∷ c ∷ [] else c ∷ []

abbrev pub all_literal : List ℕ → List ℕ
all_literal [] = []
all_literal (c ∷ cs) = literal_of c ++ all_literal cs

abbrev pub wildcard_if : Bool → List ℕ
wildcard_if wild = if wild then codes "*" else []

-- a bare term of a text with wildcards at its ends
abbrev pub bare_text : Bool → Bool → List ℕ → List ℕ
bare_text lead trail text = wildcard_if lead ++ (all_literal text ++ wildcard_if trail)

abbrev pub low_sign : Bool → List ℕ
low_sign low_open = if low_open then codes "{" else codes "["

abbrev pub high_sign : Bool → List ℕ
high_sign high_open = if high_open then codes "}" else codes "]"

-- a field in upper case, and what is asked of it
unfoldable pub clause_text : List ℕ → List ℕ → List ℕ
clause_text field asked = folded field ++ (codes ":" ++ asked)

-- a range between two ends
abbrev pub range_text : Bool → List ℕ → List ℕ → Bool → List ℕ
range_text low_open low high high_open = low_sign low_open ++ (low ++ (codes " TO " ++ (high ++ high_sign high_open)))

-- what a comparison asks of its field; that of `!=` is not printed
abbrev pub compared_text : Op → List ℕ → List ℕ
compared_text Eq literal = string_of literal
compared_text Ne literal = string_of literal
compared_text Lt literal = range_text false (codes "*") (string_of literal) true
compared_text Le literal = range_text false (codes "*") (string_of literal) false
compared_text Gt literal = range_text true (string_of literal) (codes "*") false
compared_text Ge literal = range_text false (string_of literal) (codes "*") false

-- what a text is of, as far as its place in another wants to know
pub data Shape : Type 0 where
  Single : Shape
  Several : Shape

pub record Printed : Type 0 where
  pub shape : Shape
  pub text : List ℕ

-- what stands before and behind a child
abbrev pub child_opening : Shape → List ℕ
child_opening Single = []
child_opening Several = codes "("

abbrev pub child_closing : Shape → List ℕ
child_closing Single = []
child_closing Several = codes ")"

-- an And or Or that is a child in parentheses
abbrev pub child_text : Printed → List ℕ
child_text p = child_opening p.shape ++ (p.text ++ child_closing p.shape)

-- children that follow others, each behind a sign
abbrev pub following_text : List ℕ → List Printed → List ℕ
following_text sign [] = []
following_text sign (p ∷ ps) = sign ++ (child_text p ++ following_text sign ps)

-- children with a sign between any two
abbrev pub children_text : List ℕ → List Printed → List ℕ
children_text sign [] = []
children_text sign (p ∷ ps) = child_text p ++ following_text sign ps

abbrev pub printed_step : Query-F Printed → Printed
printed_step (Cmp field op literal) = record { shape = Single; text = clause_text field (compared_text op literal) }
printed_step (Pattern field negated lead trail text) = record { shape = Single; text = clause_text field (bare_text lead trail text) }
printed_step (Bounded field low low_open high high_open) = record { shape = Single; text = clause_text field (range_text low_open (string_of low) (string_of high) high_open) }
printed_step (Not p) = record { shape = Single; text = codes "NOT " ++ child_text p }
printed_step (And ps) = record { shape = Several; text = children_text (codes " AND ") ps }
printed_step (Or ps) = record { shape = Several; text = children_text (codes " OR ") ps }

abbrev pub printed : Query → Printed
printed = fold-Query Printed printed_step

-- the characters of the query's one text, where it has one
abbrev pub lucene_text : Query → List ℕ
lucene_text q = (printed q).text

abbrev pub is_ne : Op → Bool
is_ne Ne = true
is_ne _ = false

abbrev pub printable_step : Query-F Bool → Bool
printable_step (Cmp field op literal) = not (is_ne op)
printable_step (Pattern field negated lead trail text) = not negated && (lead || trail)
printable_step (Bounded field low low_open high high_open) = true
printable_step (Not child) = child
printable_step (And children) = are_all children
printable_step (Or children) = are_all children

-- The query has a text: it holds no `!=`, no negated pattern and no pattern without a wildcard.
abbrev pub is_printable : Query → Bool
is_printable = fold-Query Bool printable_step
