-- The text of a pattern.
use Rattle.std.specs.Prelude.{ℕ, ◌+◌, Bool, true, false, ◌&&◌, ◌||◌, List, [], ◌∷◌, ◌++◌, length, drop, Option, Some, None, option_to_list, nat_lt, ◌==◌, if◌then◌else◌}
use Rattle.dw_jexl.specs.declared.pattern.Piece.{Piece}
use Rattle.dw_jexl.specs.declared.pattern.Piece.TheVariants.{Literal, Wild, Broken}
use Rattle.dw_jexl.specs.declared.pattern.Pending.{Pending}
use Rattle.dw_jexl.specs.declared.pattern.Pending.TheVariants.{Nothing, Escape, Dot}
use Rattle.dw_jexl.specs.declared.token.Token.{Token}
use Rattle.dw_jexl.specs.Tokens.{is_match, holds_at}
use Rattle.dw_jexl.specs.declared.token.Token.TheVariants.{Quoted}

-- . * + ? ( ) [ ] { } ^ $ |
unfoldable pub is_meta : ℕ → Bool
is_meta c = c == 46 || c == 42 || c == 43 || c == 63 || c == 40 || c == 41 || c == 91 || c == 93 || c == 123 || c == 125 || c == 94 || c == 36 || c == 124

-- the piece that a character ends, behind an open `\` or `.` or neither
unfoldable pub piece_of : Pending → ℕ → Option Piece
piece_of Nothing c = if c == 92 || c == 46 then None else Some (if is_meta c then Broken else Literal c)
piece_of Escape c = Some (Literal c)
piece_of Dot c = Some (if c == 42 then Wild else Broken)

-- what is open behind that character
unfoldable pub pending_after : Pending → ℕ → Pending
pending_after Nothing c = if c == 92 then Escape else (if c == 46 then Dot else Nothing)
pending_after Escape c = Nothing
pending_after Dot c = Nothing

-- what is open at the end is broken
unfoldable pub piece_at_end : Pending → Option Piece
piece_at_end Nothing = None
piece_at_end Escape = Some Broken
piece_at_end Dot = Some Broken

-- The pieces of a string: `\` makes the next character literal, an unescaped `.` with an unescaped `*` behind it is a
-- wildcard, and every other unescaped one of the characters above is broken, as is a `\` at the end.
unfoldable pub pieces_from : Pending → List ℕ → List Piece
pieces_from p [] = option_to_list (piece_at_end p)
pieces_from p (c ∷ cs) = option_to_list (piece_of p c) ++ pieces_from (pending_after p c) cs

abbrev pub pieces : List ℕ → List Piece
pieces raw = pieces_from Nothing raw

abbrev pub literal_in : Piece → Option ℕ
literal_in (Literal c) = Some c
literal_in Wild = None
literal_in Broken = None

abbrev pub is_wild : Piece → Bool
is_wild (Literal c) = false
is_wild Wild = true
is_wild Broken = false

-- its literal characters
abbrev pub text_of : List Piece → List ℕ
text_of [] = []
text_of (p ∷ ps) = option_to_list (literal_in p) ++ text_of ps

-- whether it begins with a wildcard
abbrev pub begins_wild : List Piece → Bool
begins_wild [] = false
begins_wild (p ∷ ps) = is_wild p

-- whether it ends with a wildcard
abbrev pub ends_wild : List Piece → Bool
ends_wild [] = false
ends_wild (p ∷ []) = is_wild p
ends_wild (p ∷ q ∷ ps) = ends_wild (q ∷ ps)

abbrev pub bit : Bool → ℕ
bit b = if b then 1 else 0

-- each piece is a literal character but for a wildcard at either end, and there is a literal character
unfoldable pub is_right : List Piece → Bool
is_right ps = nat_lt 0 (length (text_of ps)) && (length (text_of ps) + bit (begins_wild ps) + bit (ends_wild ps) == length ps)

abbrev pub token_is_right : Token → Bool
token_is_right (Quoted raw) = is_right (pieces raw)
token_is_right _ = true

-- whether a string that stands straight behind a `=~` or a `!~` is right
abbrev pub first_is_right : List Token → Bool
first_is_right [] = true
first_is_right (t ∷ ts) = token_is_right t

-- whether, if a `=~` or a `!~` stands at a place, a string straight behind it is right
abbrev pub is_right_at : List Token → ℕ → Bool
is_right_at ts i = if holds_at is_match ts i then first_is_right (drop (i + 1) ts) else true

-- every string behind a `=~` or a `!~` is right
unfoldable pub are_right : List Token → Bool
are_right [] = true
are_right (t ∷ ts) = (if is_match t then first_is_right ts else true) && are_right ts
