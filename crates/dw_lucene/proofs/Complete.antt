-- What the grammar spells is read.
use Rattle.std.proofs.Common.{◌≡◌, ℕ, zero, suc, ◌+◌, ◌<◌, ◌≤◌, Bool, true, false, cond, List, [], ◌∷◌, length, drop, Option, Some, None, refl, ap, ◌∙◌, arith}
use Rattle.std.specs.Prelude.{max, option_map, option_and_then}
use Rattle.std.specs.List.{prefix_len}
use Rattle.dw_jexl.specs.declared.query.Query.{Query}
use Rattle.dw_jexl.specs.declared.query.Query.TheVariants as query
use Rattle.dw_jexl.specs.Grammar.{names_field, joined}
use Rattle.dw_jexl.specs.Reading.{negated}
use Rattle.dw_lucene.specs.declared.token.Token.{Token}
use Rattle.dw_lucene.specs.declared.token.Token.TheVariants.{Open, Close, Conjoin, Disjoin, Negate, Field, Bare, Quoted, Low}
use Rattle.dw_lucene.specs.Tokens.{is_open, is_conjoin, is_disjoin, is_negate, holds_at}
use Rattle.dw_lucene.specs.Grammar.{Term, bare, quoted, token_of, end_of, leaf_of, ranged, Disjunction, one, more, Conjunction, alone, joins, Unary, negation, group, clause, range, range_before, disjunction_before, conjunction_before, unary_before, disjuncts, conjuncts, unary_query, query_of}
use Rattle.dw_lucene.specs.Reading as reading
use Rattle.dw_lucene.specs.Reading.{end_in, high_in, field_at, end_at, high_at, range_at, clause_by, Parse, behind_group, base, parse_map, unary, separated, query_at, if_ended, whole}

-- how deep groups stand in one another
abbrev mutual
  pub nest : Disjunction → ℕ
  nest (one c) = nest_conjunction c
  nest (more c d) = max (nest_conjunction c) (nest d)

  pub nest_conjunction : Conjunction → ℕ
  nest_conjunction (alone u) = nest_unary u
  nest_conjunction (joins u c) = max (nest_unary u) (nest_conjunction c)

  pub nest_unary : Unary → ℕ
  nest_unary (negation u) = nest_unary u
  nest_unary (group d) = suc (nest d)
  nest_unary (clause f ok t) = 0
  nest_unary (range f ok low_open a b high_open q e) = 0

-- a sentence has more tokens than levels
mutual
  room : (d : Disjunction) (rest : List Token) → nest d + length rest < length (disjunction_before d rest)
  room (one c) rest = room_conjunction c rest
  room (more c d) rest =
      let a = room_conjunction c (Disjoin ∷ disjunction_before d rest) in
      let b = room d rest in
      omega (arith, a, b)

  room_conjunction : (c : Conjunction) (rest : List Token) → nest_conjunction c + length rest < length (conjunction_before c rest)
  room_conjunction (alone u) rest = room_unary u rest
  room_conjunction (joins u c) rest =
      let a = room_unary u (Conjoin ∷ conjunction_before c rest) in
      let b = room_conjunction c rest in
      omega (arith, a, b)

  room_unary : (u : Unary) (rest : List Token) → nest_unary u + length rest < length (unary_before u rest)
  room_unary (negation u) rest = let a = room_unary u rest in omega (arith, a)
  room_unary (group d) rest = let a = room d (Close ∷ rest) in omega (arith, a)
  room_unary (clause f ok t) rest = omega arith
  room_unary (range f ok low_open a b high_open q e) rest = omega arith

clause_read : (f : List ℕ) (t : Term) (rest : List Token) → names_field f ≡ true → reading.clause (Field f ∷ token_of t ∷ rest) ≡ Some (leaf_of f t, rest)
unfolding reading.clause field_at
clause_read f (bare ps) rest ok =
    ap (λ b. option_and_then (λ g. clause_by g (Field f ∷ Bare ps ∷ rest) (Some (Bare ps))) (cond b (Some f) None)) ok
clause_read f (quoted s) rest ok =
    ap (λ b. option_and_then (λ g. clause_by g (Field f ∷ Quoted s ∷ rest) (Some (Quoted s))) (cond b (Some f) None)) ok

end_read : (t : Term) → option_and_then end_in (Some (token_of t)) ≡ Some (end_of t)
end_read (bare ps) = refl
end_read (quoted s) = refl

range_in : (f : List ℕ) (low_open : Bool) (a b : Term) (high_open : Bool) (rest : List Token) → range_at f low_open (range_before f low_open a b high_open rest) ≡ ranged f low_open (end_of a) (end_of b) high_open
unfolding range_at end_at high_at
range_in f low_open a b high_open rest =
    ap (option_and_then (λ x. option_and_then (λ y. ranged f low_open x y high_open) (option_and_then end_in (Some (token_of b))))) (end_read a)
    ∙ ap (option_and_then (λ y. ranged f low_open (end_of a) y high_open)) (end_read b)

range_read : (f : List ℕ) (low_open : Bool) (a b : Term) (high_open : Bool) (q : Query) (rest : List Token) → names_field f ≡ true → ranged f low_open (end_of a) (end_of b) high_open ≡ Some q → reading.clause (range_before f low_open a b high_open rest) ≡ Some (q, rest)
unfolding reading.clause field_at
range_read f low_open a b high_open q rest ok e =
    let ts = range_before f low_open a b high_open rest in
    ap (λ t. option_and_then (λ g. clause_by g ts (Some (Low low_open))) (cond t (Some f) None)) ok
    ∙ ap (option_map (λ r. (r, rest))) (range_in f low_open a b high_open rest ∙ e)

same_parse : (r : Option (Query × List Token)) → parse_map (negated 0) r ≡ r
same_parse None = refl
same_parse (Some p) = refl

-- without NOT at the front
at_base : (inner : Parse) (t : Token) (ts : List Token) → is_negate t ≡ false → unary inner (t ∷ ts) ≡ base inner (t ∷ ts)
unfolding unary
at_base inner t ts e =
    ap (λ b. parse_map (negated (cond b (1 + prefix_len is_negate ts) 0)) (base inner (drop (cond b (1 + prefix_len is_negate ts) 0) (t ∷ ts)))) e
    ∙ same_parse (base inner (t ∷ ts))

at_negate : (inner : Parse) (ts : List Token) (q : Query) (rest : List Token) → unary inner ts ≡ Some (q, rest) → unary inner (Negate ∷ ts) ≡ Some (query.Not q, rest)
unfolding unary
at_negate inner ts q rest h =
    let n = prefix_len is_negate ts in
    let e : 1 + n ≡ suc n = omega arith in
    ap (λ k. parse_map (negated k) (base inner (drop k (Negate ∷ ts)))) e
    ∙ again (negated n) (base inner (drop n ts))
    ∙ ap (parse_map query.Not) h
  where
    again : (f : Query → Query) (r : Option (Query × List Token)) → parse_map (λ p. query.Not (f p)) r ≡ parse_map query.Not (parse_map f r)
    again f None = refl
    again f (Some p) = refl

group_read : (inner : Parse) (d : Disjunction) (rest : List Token) → inner (disjunction_before d (Close ∷ rest)) ≡ Some (query_of d, Close ∷ rest) → base inner (Open ∷ disjunction_before d (Close ∷ rest)) ≡ Some (query_of d, rest)
unfolding base
group_read inner d rest h = ap (option_and_then behind_group) h

at_clause : (inner : Parse) (t : Token) (ts : List Token) → is_open t ≡ false → base inner (t ∷ ts) ≡ reading.clause (t ∷ ts)
unfolding base
at_clause inner t ts e = ap (λ b. cond b (option_and_then behind_group (inner ts)) (reading.clause (t ∷ ts))) e

-- how many conjuncts and disjuncts
abbrev conjunct_count : Conjunction → ℕ
conjunct_count (alone u) = 1
conjunct_count (joins u c) = suc (conjunct_count c)

abbrev disjunct_count : Disjunction → ℕ
disjunct_count (one c) = 1
disjunct_count (more c d) = suc (disjunct_count d)

conjunct_room : (c : Conjunction) (rest : List Token) → conjunct_count c + length rest ≤ length (conjunction_before c rest)
conjunct_room (alone u) rest = let a = room_unary u rest in omega (arith, a)
conjunct_room (joins u c) rest =
    let a = room_unary u (Conjoin ∷ conjunction_before c rest) in
    let b = conjunct_room c rest in
    omega (arith, a, b)

disjunct_room : (d : Disjunction) (rest : List Token) → disjunct_count d + length rest ≤ length (disjunction_before d rest)
disjunct_room (one c) rest = let a = room_conjunction c rest in omega (arith, a)
disjunct_room (more c d) rest =
    let a = room_conjunction c (Disjoin ∷ disjunction_before d rest) in
    let b = disjunct_room d rest in
    omega (arith, a, b)

-- one item of several
split_read : (item : Parse) (splits : Token → Bool) (n : ℕ) (ts rest : List Token) (q : Query) → item ts ≡ Some (q, rest) → separated item splits (suc n) ts ≡ cond (holds_at splits rest 0) (parse_map (λ qs. q ∷ qs) (separated item splits n (drop 1 rest))) (Some (q ∷ [], rest))
unfolding separated
split_read item splits n ts rest q e = ap (option_and_then (λ p. cond (holds_at splits p.1 0) (parse_map (λ qs. p.0 ∷ qs) (separated item splits n (drop 1 p.1))) (Some (p.0 ∷ [], p.1)))) e

last_read : (item : Parse) (splits : Token → Bool) (n : ℕ) (ts rest : List Token) (q : Query) → item ts ≡ Some (q, rest) → holds_at splits rest 0 ≡ false → separated item splits (suc n) ts ≡ Some (q ∷ [], rest)
last_read item splits n ts rest q e ends =
    split_read item splits n ts rest q e ∙ ap (λ b. cond b (parse_map (λ qs. q ∷ qs) (separated item splits n (drop 1 rest))) (Some (q ∷ [], rest))) ends

-- conjuncts and disjuncts make one query
conjunction_from : (c : Conjunction) (inner : Parse) (rest : List Token) → separated (unary inner) is_conjoin (length (conjunction_before c rest)) (conjunction_before c rest) ≡ Some (conjuncts c, rest) → reading.conjunction inner (conjunction_before c rest) ≡ Some (joined query.And (conjuncts c), rest)
unfolding reading.conjunction
conjunction_from c inner rest h = ap (parse_map (joined query.And)) h

disjunction_from : (d : Disjunction) (n : ℕ) (rest : List Token) → separated (reading.conjunction (query_at n)) is_disjoin (length (disjunction_before d rest)) (disjunction_before d rest) ≡ Some (disjuncts d, rest) → query_at (suc n) (disjunction_before d rest) ≡ Some (query_of d, rest)
unfolding query_at reading.disjunction
disjunction_from d n rest h = ap (parse_map (joined query.Or)) h

mutual
  disjuncts_read : (d : Disjunction) (n k : ℕ) (rest : List Token) → nest d ≤ n → disjunct_count d ≤ k → holds_at is_conjoin rest 0 ≡ false → holds_at is_disjoin rest 0 ≡ false → separated (reading.conjunction (query_at n)) is_disjoin k (disjunction_before d rest) ≡ Some (disjuncts d, rest)
  disjuncts_read (one c) n zero rest h few x y = absurd (omega arith)
  disjuncts_read (one c) n (suc k) rest h few x y =
      last_read (reading.conjunction (query_at n)) is_disjoin k (conjunction_before c rest) rest (joined query.And (conjuncts c))
      (conjunction_from c (query_at n) rest (conjuncts_read c n (length (conjunction_before c rest)) rest h (omega (arith, conjunct_room c rest)) x)) y
  disjuncts_read (more c d) n zero rest h few x y = absurd (omega arith)
  disjuncts_read (more c d) n (suc k) rest h few x y =
      let left = disjunction_before d rest in
      split_read (reading.conjunction (query_at n)) is_disjoin k (conjunction_before c (Disjoin ∷ left)) (Disjoin ∷ left) (joined query.And (conjuncts c))
      (conjunction_from c (query_at n) (Disjoin ∷ left) (conjuncts_read c n (length (conjunction_before c (Disjoin ∷ left))) (Disjoin ∷ left) (omega arith) (omega (arith, conjunct_room c (Disjoin ∷ left))) refl))
      ∙ ap (parse_map (λ qs. joined query.And (conjuncts c) ∷ qs)) (disjuncts_read d n k rest (omega arith) (omega arith) x y)

  conjuncts_read : (c : Conjunction) (n k : ℕ) (rest : List Token) → nest_conjunction c ≤ n → conjunct_count c ≤ k → holds_at is_conjoin rest 0 ≡ false → separated (unary (query_at n)) is_conjoin k (conjunction_before c rest) ≡ Some (conjuncts c, rest)
  conjuncts_read (alone u) n zero rest h few x = absurd (omega arith)
  conjuncts_read (alone u) n (suc k) rest h few x =
      last_read (unary (query_at n)) is_conjoin k (unary_before u rest) rest (unary_query u) (unary_read u n rest h) x
  conjuncts_read (joins u c) n zero rest h few x = absurd (omega arith)
  conjuncts_read (joins u c) n (suc k) rest h few x =
      let left = conjunction_before c rest in
      split_read (unary (query_at n)) is_conjoin k (unary_before u (Conjoin ∷ left)) (Conjoin ∷ left) (unary_query u) (unary_read u n (Conjoin ∷ left) (omega arith))
      ∙ ap (parse_map (λ qs. unary_query u ∷ qs)) (conjuncts_read c n k rest (omega arith) (omega arith) x)

  unary_read : (u : Unary) (n : ℕ) (rest : List Token) → nest_unary u ≤ n → unary (query_at n) (unary_before u rest) ≡ Some (unary_query u, rest)
  unary_read (negation u) n rest h = at_negate (query_at n) (unary_before u rest) (unary_query u) rest (unary_read u n rest h)
  unary_read (group d) zero rest h = absurd (omega arith)
  unary_read (group d) (suc n) rest h =
      at_base (query_at (suc n)) Open (disjunction_before d (Close ∷ rest)) refl
      ∙ group_read (query_at (suc n)) d rest (disjunction_from d n (Close ∷ rest) (disjuncts_read d n (length (disjunction_before d (Close ∷ rest))) (Close ∷ rest) (omega arith) (omega (arith, disjunct_room d (Close ∷ rest))) refl refl))
  unary_read (clause f ok t) n rest h =
      at_base (query_at n) (Field f) (token_of t ∷ rest) refl ∙ at_clause (query_at n) (Field f) (token_of t ∷ rest) refl ∙ clause_read f t rest ok
  unary_read (range f ok low_open a b high_open q e) n rest h =
      at_base (query_at n) (Field f) _ refl ∙ at_clause (query_at n) (Field f) _ refl ∙ range_read f low_open a b high_open q rest ok e

disjunction_read : (d : Disjunction) (n : ℕ) (rest : List Token) → nest d ≤ n → holds_at is_conjoin rest 0 ≡ false → holds_at is_disjoin rest 0 ≡ false → query_at (suc n) (disjunction_before d rest) ≡ Some (query_of d, rest)
disjunction_read d n rest h x y =
    disjunction_from d n rest (disjuncts_read d n (length (disjunction_before d rest)) rest h (omega (arith, disjunct_room d rest)) x y)

-- each sentence of the grammar is read as the query that it stands for, where its groups stand less deep
pub whole_read : (levels : ℕ) (ts : List Token) (d : Disjunction) → nest d < levels → ts ≡ disjunction_before d [] → whole levels ts ≡ Some (query_of d)
unfolding whole
whole_read zero ts d n e = absurd (omega arith)
whole_read (suc levels) ts d n e =
    ap (λ us. option_and_then if_ended (query_at (suc levels) us)) e
    ∙ ap (option_and_then if_ended) (disjunction_read d levels [] (omega arith) refl refl)
