-- The one text of each query, by its characters.
use Rattle.std.specs.Prelude.{ℕ, Bool, ◌||◌, List, [], ◌∷◌, ◌++◌, ◌==◌, if◌then◌else◌, codes}
use Rattle.dw_jexl.specs.declared.query.Op.{Op}
use Rattle.dw_jexl.specs.declared.query.Op.TheVariants.{Eq, Ne, Lt, Le, Gt, Ge}
use Rattle.dw_jexl.specs.declared.query.Query.{Query}
use Rattle.dw_jexl.specs.declared.query.Query.TheOpen.{Query-F, Cmp, Pattern, Bounded, Not, And, Or}
use Rattle.dw_jexl.specs.declared.query.Query.TheFolds.{fold-Query}
use Rattle.dw_jexl.specs.Grammar.{folded}
use Rattle.dw_jexl.specs.Patterns.{is_meta}

-- an operator as its sign
abbrev pub sign_of : Op → List ℕ
sign_of Eq = codes "=="
sign_of Ne = codes "!="
sign_of Lt = codes "<"
sign_of Le = codes "<="
sign_of Gt = codes ">"
sign_of Ge = codes ">="

-- whether a string escapes the character
abbrev pub needs_escape : ℕ → Bool
needs_escape c = c == 39 || c == 92

-- a character of a string: `'` and `\` behind a `\`
abbrev pub escaped : ℕ → List ℕ
escaped c = if needs_escape c then 92 ∷ c ∷ [] else c ∷ []

abbrev pub all_escaped : List ℕ → List ℕ
all_escaped [] = []
all_escaped (c ∷ cs) = escaped c ++ all_escaped cs

-- a string between two `'`
abbrev pub string_of : List ℕ → List ℕ
string_of cs = codes "'" ++ (all_escaped cs ++ codes "'")

-- a character of a pattern's text: a metacharacter or `\` behind a `\`
unfoldable pub literal_of : ℕ → List ℕ
literal_of c = if is_meta c || c == 92 then 92 ∷ c ∷ [] else c ∷ []

abbrev pub all_literal : List ℕ → List ℕ
all_literal [] = []
all_literal (c ∷ cs) = literal_of c ++ all_literal cs

abbrev pub wildcard_if : Bool → List ℕ
wildcard_if wild = if wild then codes ".*" else []

-- the characters of a pattern
abbrev pub pattern_chars : Bool → Bool → List ℕ → List ℕ
pattern_chars lead trail text = wildcard_if lead ++ (all_literal text ++ wildcard_if trail)

abbrev pub matching_sign : Bool → List ℕ
matching_sign negated = if negated then codes " !~ " else codes " =~ "

abbrev pub lower_sign : Bool → List ℕ
lower_sign open_end = if open_end then codes " > " else codes " >= "

abbrev pub upper_sign : Bool → List ℕ
upper_sign open_end = if open_end then codes " < " else codes " <= "

abbrev pub comparison_text : List ℕ → Op → List ℕ → List ℕ
comparison_text field op literal = folded field ++ (codes " " ++ (sign_of op ++ (codes " " ++ string_of literal)))

-- a field in upper case, a sign and a string
unfoldable pub side_text : List ℕ → List ℕ → List ℕ → List ℕ
side_text field sign text = folded field ++ (sign ++ string_of text)

abbrev pub pattern_text : List ℕ → Bool → Bool → Bool → List ℕ → List ℕ
pattern_text field negated lead trail text = side_text field (matching_sign negated) (pattern_chars lead trail text)

abbrev pub bounded_text : List ℕ → List ℕ → Bool → List ℕ → Bool → List ℕ
bounded_text field low low_open high high_open =
    codes "((_Bounded_ = true) && (" ++ (side_text field (lower_sign low_open) low ++ (codes " && " ++ (side_text field (upper_sign high_open) high ++ codes "))")))

-- what a text is of, as far as its place in another wants to know
pub data Shape : Type 0 where
  Leaf : Shape
  Negation : Shape
  Several : Shape

pub record Printed : Type 0 where
  pub shape : Shape
  pub text : List ℕ

-- what stands before and behind a child of an And or Or
abbrev pub child_opening : Shape → List ℕ
child_opening Leaf = []
child_opening Negation = []
child_opening Several = codes "("

abbrev pub child_closing : Shape → List ℕ
child_closing Leaf = []
child_closing Negation = []
child_closing Several = codes ")"

-- what stands before and behind the child of a Not
abbrev pub not_opening : Shape → List ℕ
not_opening Leaf = codes "!("
not_opening Negation = codes "!"
not_opening Several = codes "!("

abbrev pub not_closing : Shape → List ℕ
not_closing Leaf = codes ")"
not_closing Negation = []
not_closing Several = codes ")"

-- an And or Or that is a child of an And or Or in parentheses
abbrev pub child_text : Printed → List ℕ
child_text p = child_opening p.shape ++ (p.text ++ child_closing p.shape)

-- children that follow others, each behind a sign
abbrev pub following_text : List ℕ → List Printed → List ℕ
following_text sign [] = []
following_text sign (p ∷ ps) = sign ++ (child_text p ++ following_text sign ps)

-- children with a sign between any two
abbrev pub children_text : List ℕ → List Printed → List ℕ
children_text sign [] = []
children_text sign (p ∷ ps) = child_text p ++ following_text sign ps

abbrev pub printed_step : Query-F Printed → Printed
printed_step (Cmp field op literal) = record { shape = Leaf; text = comparison_text field op literal }
printed_step (Pattern field negated lead trail text) = record { shape = Leaf; text = pattern_text field negated lead trail text }
printed_step (Bounded field low low_open high high_open) = record { shape = Leaf; text = bounded_text field low low_open high high_open }
printed_step (Not p) = record { shape = Negation; text = not_opening p.shape ++ (p.text ++ not_closing p.shape) }
printed_step (And ps) = record { shape = Several; text = children_text (codes " && ") ps }
printed_step (Or ps) = record { shape = Several; text = children_text (codes " || ") ps }

abbrev pub printed : Query → Printed
printed = fold-Query Printed printed_step

-- the characters of the query's one text
abbrev pub canonical : Query → List ℕ
canonical q = (printed q).text
