-- The tokens of a Lucene query text. A character is its code point.
use Rattle.std.specs.Prelude.{◌≡◌, ℕ, ◌+◌, Bool, true, false, not, ◌&&◌, ◌||◌, List, [], ◌∷◌, ◌++◌, take, drop, Option, Some, None, option_map, ◌==◌, if◌then◌else◌, slice_get, slice_index, bytes_eq, codes}
use Rattle.std.specs.List.{prefix_len}
use Rattle.dw_jexl.specs.declared.pattern.Piece.{Piece}
use Rattle.dw_jexl.specs.declared.pattern.Piece.TheVariants.{Literal, Wild, Broken}
use Rattle.dw_jexl.specs.Tokens.{is_blank, quoted}
use Rattle.dw_lucene.specs.declared.token.Token.{Token}
use Rattle.dw_lucene.specs.declared.token.Token.TheVariants.{Open, Close, Conjoin, Disjoin, Negate, To, Colon, Field, Bare, Quoted, Low, High}

-- ( ) [ ] { } : "
unfoldable pub is_special : ℕ → Bool
is_special c = c == 40 || c == 41 || c == 91 || c == 93 || c == 123 || c == 125 || c == 58 || c == 34

-- what ends a term where no `\` stands before it
unfoldable pub ends_term : ℕ → Bool
ends_term c = is_blank c || is_special c

-- what an unescaped character of a term is: `*` is a wildcard, and `?` is none that is read
unfoldable pub piece_of : ℕ → Piece
piece_of c = if c == 42 then Wild else (if c == 63 then Broken else Literal c)

-- What a character adds to a term: one behind an open `\` is literal.
unfoldable pub piece : Bool → ℕ → List Piece
piece false c = if c == 92 then [] else piece_of c ∷ []
piece true c = Literal c ∷ []

-- more pieces before what is left of a term
abbrev pub before : List Piece → Option (List Piece × ℕ) → Option (List Piece × ℕ)
before front None = None
before front (Some p) = Some (front ++ p.0, p.1 + 1)

-- The pieces of the term at the front, and how many characters it takes. `escaped` says that an open `\` stands before;
-- one that stands open at the end of the text makes no term.
unfoldable pub term : Bool → List ℕ → Option (List Piece × ℕ)
term escaped [] = if escaped then None else Some ([], 0)
term escaped (c ∷ cs) =
    if not escaped && ends_term c then Some ([], 0)
    else before (piece escaped c) (term (not escaped && c == 92) cs)

-- the characters of a term spell an operator, or else it is bare
unfoldable pub bare_token : List ℕ → List Piece → Token
bare_token w ps =
    if bytes_eq w (codes "AND") then Conjoin
    else (if bytes_eq w (codes "OR") then Disjoin
    else (if bytes_eq w (codes "NOT") then Negate
    else (if bytes_eq w (codes "TO") then To
    else Bare ps)))

-- A term with `:` straight behind it is a field, which takes the `:` with it. White space behind the `:` makes it none.
unfoldable pub term_token : List ℕ → List Piece × ℕ → Token × ℕ
term_token cs p =
    if slice_index cs p.1 == 58 then (if is_blank (slice_index cs (p.1 + 1)) then (Colon, p.1 + 1) else (Field (take p.1 cs), p.1 + 1))
    else (bare_token (take p.1 cs) p.0, p.1)

unfoldable pub sign_token : ℕ → Token
sign_token c =
    if c == 40 then Open
    else (if c == 41 then Close
    else (if c == 91 then Low false
    else (if c == 123 then Low true
    else (if c == 93 then High false
    else (if c == 125 then High true
    else Colon)))))

-- a string between two `"`, behind the first
unfoldable pub string_token : List ℕ → Option (Token × ℕ)
string_token cs = option_map (λ p. (Quoted p.0, p.1 + 1)) (quoted 34 false cs)

unfoldable pub special_token : ℕ → List ℕ → Option (Token × ℕ)
special_token c cs = if c == 34 then string_token cs else Some (sign_token c, 1)

-- the longest token at the front, and how many characters it takes, where one can be read
unfoldable pub first_token : List ℕ → Option (Token × ℕ)
first_token [] = None
first_token (c ∷ cs) =
    if is_special c then special_token c cs
    else (if is_blank c then None
    else option_map (term_token (c ∷ cs)) (term false (c ∷ cs)))

-- the characters behind the white space at their front
abbrev pub past_blanks : List ℕ → List ℕ
past_blanks cs = drop (prefix_len is_blank cs) cs

-- the same for characters that begin with no white space
abbrev pub AreReadAt : List ℕ → List Token → List ℕ → Type 0
AreReadAt cs [] rest = (cs ≡ rest) × (first_token cs ≡ None)
AreReadAt cs (t ∷ ts) rest = (used : ℕ) × (first_token cs ≡ Some (t, used)) × AreReadAt (past_blanks (drop used cs)) ts rest

-- The characters are read into these tokens, each the longest, up to `rest`, where no token can be read.
abbrev pub AreRead : List ℕ → List Token → List ℕ → Type 0
AreRead cs ts rest = AreReadAt (past_blanks cs) ts rest

abbrev pub is_open : Token → Bool
is_open Open = true
is_open _ = false

abbrev pub is_close : Token → Bool
is_close Close = true
is_close _ = false

abbrev pub is_conjoin : Token → Bool
is_conjoin Conjoin = true
is_conjoin _ = false

abbrev pub is_disjoin : Token → Bool
is_disjoin Disjoin = true
is_disjoin _ = false

abbrev pub is_negate : Token → Bool
is_negate Negate = true
is_negate _ = false

abbrev pub is_to : Token → Bool
is_to To = true
is_to _ = false

-- whether a token that passes stands at a place
abbrev pub holds : (Token → Bool) → Option Token → Bool
holds p None = false
holds p (Some t) = p t

abbrev pub holds_at : (Token → Bool) → List Token → ℕ → Bool
holds_at p ts i = holds p (slice_get ts i)
