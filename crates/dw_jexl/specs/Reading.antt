-- Reading a query from tokens, from the left.
use Rattle.std.specs.Prelude.{◌≡◌, ℕ, zero, suc, Bool, ◌&&◌, ◌||◌, List, [], ◌∷◌, ◌==◌, length, drop, Option, Some, None, option_map, option_and_then, Result, Ok, Err, if◌then◌else◌, codes, slice_get}
use Rattle.std.specs.List.{prefix_len}
use Rattle.dw_jexl.specs.declared.error.QueryError.{QueryError}
use Rattle.dw_jexl.specs.declared.error.QueryError.TheVariants as error
use Rattle.dw_jexl.specs.declared.error.QueryRule.TheVariants as rule
use Rattle.dw_jexl.specs.declared.query.Op.{Op}
use Rattle.dw_jexl.specs.declared.query.Query.{Query}
use Rattle.dw_jexl.specs.declared.query.Query.TheVariants as query
use Rattle.dw_jexl.specs.declared.token.Token.{Token}
use Rattle.dw_jexl.specs.declared.token.Token.TheVariants.{Compare, Match, Name, Number, Quoted}
use Rattle.dw_jexl.specs.Tokens.{is_open, is_close, is_conjoin, is_disjoin, is_negate, is_assign, is_name, holds_at}
use Rattle.dw_jexl.specs.Grammar.{folded, is_field, bounded_by, pattern_of, joined}

infixl 10 ◌>>=◌
abbrev pub ◌>>=◌ : {A B : Type 0} → Option A → (A → Option B) → Option B
o >>= f = option_and_then f o

-- What a function returned, seen by view, is what reading gives, unless memory ran out; no rule but Syntax is broken here.
abbrev pub Fails : {Y : Type 0} → QueryError → Option Y → Type 0
Fails error.OutOfMemory read = Unit {0}
Fails (error.Rule rule.Syntax) read = read ≡ None
Fails (error.Rule _) read = ⊥

abbrev pub Gives : {X Y : Type 0} → (X → Y) → Result X QueryError → Option Y → Type 0
Gives view (Ok x) read = read ≡ Some (view x)
Gives view (Err e) read = Fails e read

-- what a token holds
abbrev pub name_in : Token → Option (List ℕ)
name_in (Name word) = Some word
name_in _ = None

abbrev pub op_in : Token → Option Op
op_in (Compare op) = Some op
op_in _ = None

abbrev pub text_in : Token → Option (List ℕ)
text_in (Number word) = Some word
text_in (Quoted word) = Some word
text_in _ = None

abbrev pub quoted_in : Token → Option (List ℕ)
quoted_in (Quoted word) = Some word
quoted_in _ = None

abbrev pub name_at : List Token → ℕ → Option (List ℕ)
name_at ts i = slice_get ts i >>= name_in

abbrev pub if_field : List ℕ → Option (List ℕ)
if_field w = if is_field w then Some w else None

unfoldable pub field_at : List Token → ℕ → Option (List ℕ)
field_at ts i = name_at ts i >>= if_field

unfoldable pub op_at : List Token → ℕ → Option Op
op_at ts i = slice_get ts i >>= op_in

unfoldable pub text_at : List Token → ℕ → Option (List ℕ)
text_at ts i = slice_get ts i >>= text_in

unfoldable pub quoted_at : List Token → ℕ → Option (List ℕ)
quoted_at ts i = slice_get ts i >>= quoted_in

abbrev pub Parse : Type 0
Parse = List Token → Option (Query × List Token)

-- a leaf from its operator on
abbrev pub leaf_by : List ℕ → List Token → Option Token → Option (Query × List Token)
leaf_by f ts (Some (Compare op)) = option_map (λ l. (query.Cmp (folded f) op l, drop 3 ts)) (text_at ts 2)
leaf_by f ts (Some (Match negated)) = option_map (λ raw. (pattern_of f negated raw, drop 3 ts)) (quoted_at ts 2)
leaf_by f ts _ = None

unfoldable pub leaf : Parse
leaf ts = field_at ts 0 >>= (λ f. leaf_by f ts (slice_get ts 1))

-- ((_Bounded_
unfoldable pub begins_bounded : List Token → Bool
begins_bounded ts = holds_at is_open ts 0 && holds_at is_open ts 1 && holds_at (is_name (codes "_Bounded_")) ts 2

-- = true) && ( .. && .. ))
unfoldable pub frames_bounded : List Token → Bool
frames_bounded ts =
    holds_at is_assign ts 3 && holds_at (is_name (codes "true")) ts 4 && holds_at is_close ts 5 && holds_at is_conjoin ts 6
    && holds_at is_open ts 7 && holds_at is_conjoin ts 11 && holds_at is_close ts 15 && holds_at is_close ts 16

unfoldable pub bounded_at : List Token → Option Query
bounded_at ts = do
  f ← field_at ts 8
  op ← op_at ts 9
  l ← text_at ts 10
  g ← field_at ts 12
  or ← op_at ts 13
  m ← text_at ts 14
  bounded_by f op l g or m

unfoldable pub range : Parse
range ts = if frames_bounded ts then option_map (λ q. (q, drop 17 ts)) (bounded_at ts) else None

-- a query under so many negations
abbrev pub negated : ℕ → Query → Query
negated zero q = q
negated (suc n) q = query.Not (negated n q)

abbrev pub behind_group : Query × List Token → Option (Query × List Token)
behind_group p = if holds_at is_close p.1 0 then Some (p.0, drop 1 p.1) else None

unfoldable pub group : Parse → Parse
group inner ts = if holds_at is_open ts 0 then inner (drop 1 ts) >>= behind_group else None

unfoldable pub base : Parse → Parse
base inner ts = if begins_bounded ts then range ts else group inner ts

abbrev pub parse_map : {A B : Type 0} → (A → B) → Option (A × List Token) → Option (B × List Token)
parse_map f r = option_map (λ p. (f p.0, p.1)) r

unfoldable pub operand : Parse → Parse
operand inner ts = parse_map (negated (prefix_len is_negate ts)) (base inner (drop (prefix_len is_negate ts) ts))

unfoldable pub unary : Parse → Parse
unary inner ts = if holds_at is_negate ts 0 || holds_at is_open ts 0 then operand inner ts else leaf ts

-- items with a separator between any two, at most n of them
unfoldable pub separated : (item : Parse) (splits : Token → Bool) → ℕ → List Token → Option (List Query × List Token)
separated item splits zero ts = None
separated item splits (suc n) ts =
    item ts >>= (λ p. if holds_at splits p.1 0 then parse_map (λ qs. p.0 ∷ qs) (separated item splits n (drop 1 p.1)) else Some (p.0 ∷ [], p.1))

unfoldable pub conjunction : Parse → Parse
conjunction inner ts = parse_map (joined query.And) (separated (unary inner) is_conjoin (length ts) ts)

unfoldable pub disjunction : Parse → Parse
disjunction inner ts = parse_map (joined query.Or) (separated (conjunction inner) is_disjoin (length ts) ts)

-- a query whose groups stand at most so deep
unfoldable pub query_at : ℕ → Parse
query_at zero ts = None
query_at (suc n) ts = disjunction (query_at n) ts

abbrev pub if_ended : Query × List Token → Option Query
if_ended p = if length p.1 == 0 then Some p.0 else None

-- the query that all of the tokens spell, where its groups stand less than that many levels deep
unfoldable pub whole : ℕ → List Token → Option Query
whole levels ts = query_at levels ts >>= if_ended
