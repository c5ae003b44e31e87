-- Which bare terms are right: those of clauses by the rule on patterns that JEXL has.
use Rattle.std.specs.Prelude.{ℕ, Bool, true, ◌&&◌, ◌||◌, List, [], ◌∷◌, length, drop, ◌+◌, ◌==◌, Option, Some, None, slice_get}
use Rattle.dw_jexl.specs.declared.pattern.Piece.{Piece}
use Rattle.dw_jexl.specs.Patterns.{text_of, is_right}
use Rattle.dw_lucene.specs.declared.token.Token.{Token}
use Rattle.dw_lucene.specs.declared.token.Token.TheVariants.{To, Field, Bare, Low}
use Rattle.dw_lucene.specs.Grammar.{is_star}

-- an end of a range is `*` alone, or each piece is a literal character
unfoldable pub end_is_right : List Piece → Bool
end_is_right ps = is_star ps || length (text_of ps) == length ps

-- whether a bare term is right straight behind a token: a field, or one before an end of a range
abbrev pub term_is_right : Token → List Piece → Bool
term_is_right (Field w) ps = is_right ps
term_is_right (Low low_open) ps = end_is_right ps
term_is_right To ps = end_is_right ps
term_is_right _ ps = true

abbrev pub token_is_right : Token → Token → Bool
token_is_right t (Bare ps) = term_is_right t ps
token_is_right t _ = true

-- whether, if a bare term stands straight behind a token, it is right there
abbrev pub first_is_right : Token → List Token → Bool
first_is_right t [] = true
first_is_right t (u ∷ us) = token_is_right t u

abbrev pub right_before : List Token → Option Token → Bool
right_before ts None = true
right_before ts (Some t) = first_is_right t ts

-- whether what stands straight behind a place is right there
abbrev pub is_right_at : List Token → ℕ → Bool
is_right_at ts i = right_before (drop (i + 1) ts) (slice_get ts i)

-- every bare term is right where it stands
unfoldable pub are_right : List Token → Bool
are_right [] = true
are_right (t ∷ ts) = first_is_right t ts && are_right ts
