-- The tokens of a query text. A character is its code point.
use Rattle.std.specs.Prelude.{◌≡◌, ℕ, ◌+◌, Bool, true, false, not, ◌&&◌, ◌||◌, List, [], ◌∷◌, ◌++◌, take, drop, Option, Some, None, option_map, nat_lt, ◌==◌, if◌then◌else◌, slice_get, slice_index, bytes_eq, codes}
use Rattle.std.specs.Char.{is_ascii_alphabetic, is_ascii_digit}
use Rattle.std.specs.List.{prefix_len}
use Rattle.dw_jexl.specs.declared.query.Op.TheVariants.{Eq, Ne, Lt, Le, Gt, Ge}
use Rattle.dw_jexl.specs.declared.token.Token.{Token}
use Rattle.dw_jexl.specs.declared.token.Token.TheVariants.{Open, Close, Conjoin, Disjoin, Negate, Compare, Match, Assign, Name, Number, Quoted}

-- space, tab, CR and LF
unfoldable pub is_blank : ℕ → Bool
is_blank c = c == 32 || c == 9 || c == 13 || c == 10

-- an ASCII letter or `_`
unfoldable pub starts_word : ℕ → Bool
starts_word c = is_ascii_alphabetic c || c == 95

-- an ASCII letter, a digit or `_`
unfoldable pub in_word : ℕ → Bool
in_word c = starts_word c || is_ascii_digit c

abbrev pub first_starts : List ℕ → Bool
first_starts [] = false
first_starts (c ∷ cs) = starts_word c

abbrev pub all_in_word : List ℕ → Bool
all_in_word [] = true
all_in_word (c ∷ cs) = in_word c && all_in_word cs

-- a letter or `_`, and then letters, digits and `_`
unfoldable pub is_word : List ℕ → Bool
is_word w = first_starts w && all_in_word w

-- a digit or `-`
unfoldable pub starts_number : ℕ → Bool
starts_number c = is_ascii_digit c || c == 45

-- `'` or `"`
unfoldable pub is_quote : ℕ → Bool
is_quote c = c == 39 || c == 34

-- a word is another spelling of an operator, or else a name
unfoldable pub word_token : List ℕ → Token
word_token w =
    if bytes_eq w (codes "and") then Conjoin
    else (if bytes_eq w (codes "or") then Disjoin
    else (if bytes_eq w (codes "not") then Negate
    else (if bytes_eq w (codes "eq") then Compare Eq
    else (if bytes_eq w (codes "ne") then Compare Ne
    else (if bytes_eq w (codes "lt") then Compare Lt
    else (if bytes_eq w (codes "le") then Compare Le
    else (if bytes_eq w (codes "gt") then Compare Gt
    else (if bytes_eq w (codes "ge") then Compare Ge
    else Name w))))))))

abbrev pub is_plain : Token → Bool
is_plain (Name word) = true
is_plain _ = false

-- a word that spells an operator
unfoldable pub is_operator : List ℕ → Bool
is_operator w = not (is_plain (word_token w))

-- how many characters the sign of a number takes
unfoldable pub sign_len : List ℕ → ℕ
sign_len cs = if slice_index cs 0 == 45 then 1 else 0

-- how many digits stand from a place on
unfoldable pub digits_from : List ℕ → ℕ → ℕ
digits_from cs at = prefix_len is_ascii_digit (drop at cs)

-- the end of the digits behind the point, where a point and digits stand at that place, and else the place
unfoldable pub fraction_end : List ℕ → ℕ → ℕ
fraction_end cs at = if slice_index cs at == 46 && nat_lt 0 (digits_from cs (at + 1)) then at + 1 + digits_from cs (at + 1) else at

-- The longest number at the front: perhaps `-`, digits, perhaps `.` and digits, not followed by a letter, a digit or `_`.
unfoldable pub number_len : List ℕ → Option ℕ
number_len cs =
    let whole = digits_from cs (sign_len cs) in
    let end = sign_len cs + whole in
    if whole == 0 then None
    else (if not (in_word (slice_index cs (fraction_end cs end))) then Some (fraction_end cs end)
    else (if not (in_word (slice_index cs end)) then Some end
    else None))

unfoldable pub number_token : List ℕ → Option (Token × ℕ)
number_token cs = option_map (λ n. (Number (take n cs), n)) (number_len cs)

-- What a character adds to a string: `\` before the quote or before `\` stands for that character, before another for both.
unfoldable pub piece : ℕ → Bool → ℕ → List ℕ
piece quote false c = if c == 92 then [] else c ∷ []
piece quote true c = if c == quote || c == 92 then c ∷ [] else 92 ∷ c ∷ []

-- more characters before what is left of a string
abbrev pub before : List ℕ → Option (List ℕ × ℕ) → Option (List ℕ × ℕ)
before front None = None
before front (Some p) = Some (front ++ p.0, p.1 + 1)

-- The characters that a string stands for, read behind its opening quote, and how many characters it takes up to
-- its closing quote and with it. `escaped` says that an open `\` stands before.
unfoldable pub quoted : ℕ → Bool → List ℕ → Option (List ℕ × ℕ)
quoted quote escaped [] = None
quoted quote escaped (c ∷ cs) =
    if not escaped && c == quote then Some ([], 1)
    else before (piece quote escaped c) (quoted quote (not escaped && c == 92) cs)

unfoldable pub string_token : ℕ → List ℕ → Option (Token × ℕ)
string_token quote cs = option_map (λ p. (Quoted p.0, p.1 + 1)) (quoted quote false cs)

-- the longest sign that a character and the next begin
unfoldable pub sign_token : ℕ → ℕ → Option (Token × ℕ)
sign_token c next =
    if c == 40 then Some (Open, 1)
    else (if c == 41 then Some (Close, 1)
    else (if c == 38 then (if next == 38 then Some (Conjoin, 2) else None)
    else (if c == 124 then (if next == 124 then Some (Disjoin, 2) else None)
    else (if c == 33 then (if next == 61 then Some (Compare Ne, 2) else (if next == 126 then Some (Match true, 2) else Some (Negate, 1)))
    else (if c == 61 then (if next == 61 then Some (Compare Eq, 2) else (if next == 126 then Some (Match false, 2) else Some (Assign, 1)))
    else (if c == 60 then (if next == 61 then Some (Compare Le, 2) else Some (Compare Lt, 1))
    else (if c == 62 then (if next == 61 then Some (Compare Ge, 2) else Some (Compare Gt, 1))
    else None)))))))

-- the longest token that begins with the first character, and how many characters it takes, where one can be read
unfoldable pub first_token : List ℕ → Option (Token × ℕ)
first_token [] = None
first_token (c ∷ cs) =
    if starts_word c then Some (word_token (take (prefix_len in_word (c ∷ cs)) (c ∷ cs)), prefix_len in_word (c ∷ cs))
    else (if starts_number c then number_token (c ∷ cs)
    else (if is_quote c then string_token c cs
    else sign_token c (slice_index cs 0)))

-- the characters behind the white space at their front
abbrev pub past_blanks : List ℕ → List ℕ
past_blanks cs = drop (prefix_len is_blank cs) cs

-- the same for characters that begin with no white space
abbrev pub AreReadAt : List ℕ → List Token → List ℕ → Type 0
AreReadAt cs [] rest = (cs ≡ rest) × (first_token cs ≡ None)
AreReadAt cs (t ∷ ts) rest = (used : ℕ) × (first_token cs ≡ Some (t, used)) × AreReadAt (past_blanks (drop used cs)) ts rest

-- The characters are read into these tokens, each the longest, up to `rest`, where no token can be read.
abbrev pub AreRead : List ℕ → List Token → List ℕ → Type 0
AreRead cs ts rest = AreReadAt (past_blanks cs) ts rest

abbrev pub is_open : Token → Bool
is_open Open = true
is_open _ = false

abbrev pub is_close : Token → Bool
is_close Close = true
is_close _ = false

abbrev pub is_conjoin : Token → Bool
is_conjoin Conjoin = true
is_conjoin _ = false

abbrev pub is_disjoin : Token → Bool
is_disjoin Disjoin = true
is_disjoin _ = false

abbrev pub is_negate : Token → Bool
is_negate Negate = true
is_negate _ = false

abbrev pub is_assign : Token → Bool
is_assign Assign = true
is_assign _ = false

abbrev pub is_match : Token → Bool
is_match (Match negated) = true
is_match _ = false

abbrev pub is_name : List ℕ → Token → Bool
is_name w (Name word) = bytes_eq word w
is_name w _ = false

-- whether a token that passes stands at a place
abbrev pub holds : (Token → Bool) → Option Token → Bool
holds p None = false
holds p (Some t) = p t

abbrev pub holds_at : (Token → Bool) → List Token → ℕ → Bool
holds_at p ts i = holds p (slice_get ts i)
