-- Reading a query from tokens, from the left.
use Rattle.std.specs.Prelude.{ℕ, zero, suc, Bool, false, List, [], ◌∷◌, ◌==◌, length, drop, Option, Some, None, option_map, if◌then◌else◌, slice_get}
use Rattle.std.specs.List.{prefix_len}
use Rattle.dw_jexl.specs.declared.query.Op.TheVariants.{Eq}
use Rattle.dw_jexl.specs.declared.query.Query.{Query}
use Rattle.dw_jexl.specs.declared.query.Query.TheVariants as query
use Rattle.dw_jexl.specs.Grammar.{folded, names_field, joined}
use Rattle.dw_jexl.specs.Patterns.{text_of}
use Rattle.dw_jexl.specs.Reading.{◌>>=◌, negated}
use Rattle.dw_lucene.specs.declared.end.End.{End}
use Rattle.dw_lucene.specs.declared.token.Token.{Token}
use Rattle.dw_lucene.specs.declared.token.Token.TheVariants.{Field, Bare, Quoted, Low, High}
use Rattle.dw_lucene.specs.Tokens.{is_open, is_close, is_conjoin, is_disjoin, is_negate, is_to, holds_at}
use Rattle.dw_lucene.specs.Grammar.{is_star, bare_leaf, ranged}

-- what a token holds
abbrev pub field_in : Token → Option (List ℕ)
field_in (Field w) = if names_field w then Some w else None
field_in _ = None

abbrev pub end_in : Token → Option End
end_in (Bare ps) = Some (record { text = text_of ps; is_open = is_star ps })
end_in (Quoted s) = Some (record { text = s; is_open = false })
end_in _ = None

abbrev pub high_in : Token → Option Bool
high_in (High high_open) = Some high_open
high_in _ = None

unfoldable pub field_at : List Token → ℕ → Option (List ℕ)
field_at ts i = slice_get ts i >>= field_in

unfoldable pub end_at : List Token → ℕ → Option End
end_at ts i = slice_get ts i >>= end_in

unfoldable pub high_at : List Token → ℕ → Option Bool
high_at ts i = slice_get ts i >>= high_in

abbrev pub Parse : Type 0
Parse = List Token → Option (Query × List Token)

-- a range, whose field and first bracket are known
unfoldable pub range_at : List ℕ → Bool → List Token → Option Query
range_at f low_open ts = do
  a ← end_at ts 2
  b ← end_at ts 4
  high_open ← high_at ts 5
  if holds_at is_to ts 3 then ranged f low_open a b high_open else None

-- a clause behind its field
abbrev pub clause_by : List ℕ → List Token → Option Token → Option (Query × List Token)
clause_by f ts (Some (Bare ps)) = Some (bare_leaf f ps, drop 2 ts)
clause_by f ts (Some (Quoted s)) = Some (query.Cmp (folded f) Eq s, drop 2 ts)
clause_by f ts (Some (Low low_open)) = option_map (λ q. (q, drop 6 ts)) (range_at f low_open ts)
clause_by f ts _ = None

unfoldable pub clause : Parse
clause ts = field_at ts 0 >>= (λ f. clause_by f ts (slice_get ts 1))

abbrev pub behind_group : Query × List Token → Option (Query × List Token)
behind_group p = if holds_at is_close p.1 0 then Some (p.0, drop 1 p.1) else None

-- `(`, a query and `)`, or a clause
unfoldable pub base : Parse → Parse
base inner ts = if holds_at is_open ts 0 then inner (drop 1 ts) >>= behind_group else clause ts

abbrev pub parse_map : {A B : Type 0} → (A → B) → Option (A × List Token) → Option (B × List Token)
parse_map f r = option_map (λ p. (f p.0, p.1)) r

unfoldable pub unary : Parse → Parse
unary inner ts = parse_map (negated (prefix_len is_negate ts)) (base inner (drop (prefix_len is_negate ts) ts))

-- items with a separator between any two, at most n of them
unfoldable pub separated : (item : Parse) (splits : Token → Bool) → ℕ → List Token → Option (List Query × List Token)
separated item splits zero ts = None
separated item splits (suc n) ts =
    item ts >>= (λ p. if holds_at splits p.1 0 then parse_map (λ qs. p.0 ∷ qs) (separated item splits n (drop 1 p.1)) else Some (p.0 ∷ [], p.1))

unfoldable pub conjunction : Parse → Parse
conjunction inner ts = parse_map (joined query.And) (separated (unary inner) is_conjoin (length ts) ts)

unfoldable pub disjunction : Parse → Parse
disjunction inner ts = parse_map (joined query.Or) (separated (conjunction inner) is_disjoin (length ts) ts)

-- a query whose groups stand at most so deep
unfoldable pub query_at : ℕ → Parse
query_at zero ts = None
query_at (suc n) ts = disjunction (query_at n) ts

abbrev pub if_ended : Query × List Token → Option Query
if_ended p = if length p.1 == 0 then Some p.0 else None

-- the query that all of the tokens spell, where its groups stand less than that many levels deep
unfoldable pub whole : ℕ → List Token → Option Query
whole levels ts = query_at levels ts >>= if_ended
