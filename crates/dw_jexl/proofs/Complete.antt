-- What the grammar spells is read.
use Rattle.std.proofs.Common.{◌≡◌, ℕ, zero, suc, ◌+◌, ◌<◌, ◌≤◌, Bool, true, false, cond, List, [], ◌∷◌, length, drop, Option, Some, None, refl, ap, ◌∙◌, arith}
use Rattle.std.specs.Prelude.{not, ◌&&◌, ◌||◌, max, option_map, option_and_then, nat_le, bytes_eq, codes}
use Rattle.std.specs.List.{prefix_len}
use Rattle.std.proofs.lemmas.Bool.{and_parts}
use Rattle.dw_jexl.specs.declared.query.Op.{Op}
use Rattle.dw_jexl.specs.declared.query.Query.{Query}
use Rattle.dw_jexl.specs.declared.query.Query.TheVariants as query
use Rattle.dw_jexl.specs.declared.token.Token.{Token}
use Rattle.dw_jexl.specs.declared.token.Token.TheVariants.{Open, Close, Conjoin, Disjoin, Negate, Compare, Match, Name, Number, Quoted}
use Rattle.dw_jexl.specs.Tokens.{is_open, is_conjoin, is_disjoin, is_negate, is_name, holds_at}
use Rattle.dw_jexl.specs.Grammar.{folded, is_reserved, is_field, Literal, number, string, literal_token, literal_text, End, bounded_by, pattern_of, joined, Disjunction, one, more, Conjunction, alone, joins, Unary, operand, comparison, matching, Operand, negation, group, bounded, bounded_before, disjunction_before, conjunction_before, unary_before, operand_before, disjuncts, conjuncts, unary_query, operand_query, query_of}
use Rattle.dw_jexl.specs.Reading as reading
use Rattle.dw_jexl.specs.Reading.{if_field, field_at, op_at, text_at, quoted_at, Parse, leaf_by, leaf, begins_bounded, frames_bounded, bounded_at, range, negated, behind_group, base, parse_map, unary, separated, query_at, if_ended, whole}

-- how deep groups stand in one another
abbrev mutual
  pub nest : Disjunction → ℕ
  nest (one c) = nest_conjunction c
  nest (more c d) = max (nest_conjunction c) (nest d)

  pub nest_conjunction : Conjunction → ℕ
  nest_conjunction (alone u) = nest_unary u
  nest_conjunction (joins u c) = max (nest_unary u) (nest_conjunction c)

  pub nest_unary : Unary → ℕ
  nest_unary (operand o) = nest_operand o
  nest_unary (comparison f ok op l) = 0
  nest_unary (matching f ok n raw) = 0

  pub nest_operand : Operand → ℕ
  nest_operand (negation o) = nest_operand o
  nest_operand (group d) = suc (nest d)
  nest_operand (bounded a b fa fb q e) = 0

-- a sentence has more tokens than levels
mutual
  room : (d : Disjunction) (rest : List Token) → nest d + length rest < length (disjunction_before d rest)
  room (one c) rest = room_conjunction c rest
  room (more c d) rest =
      let a = room_conjunction c (Disjoin ∷ disjunction_before d rest) in
      let b = room d rest in
      omega (arith, a, b)

  room_conjunction : (c : Conjunction) (rest : List Token) → nest_conjunction c + length rest < length (conjunction_before c rest)
  room_conjunction (alone u) rest = room_unary u rest
  room_conjunction (joins u c) rest =
      let a = room_unary u (Conjoin ∷ conjunction_before c rest) in
      let b = room_conjunction c rest in
      omega (arith, a, b)

  room_unary : (u : Unary) (rest : List Token) → nest_unary u + length rest < length (unary_before u rest)
  room_unary (operand o) rest = room_operand o rest
  room_unary (comparison f ok op l) rest = omega arith
  room_unary (matching f ok n raw) rest = omega arith

  room_operand : (o : Operand) (rest : List Token) → nest_operand o + length rest < length (operand_before o rest)
  room_operand (negation o) rest = let a = room_operand o rest in omega (arith, a)
  room_operand (group d) rest = let a = room d (Close ∷ rest) in omega (arith, a)
  room_operand (bounded a b fa fb q e) rest = omega arith

bounded_is_no_field : (f : List ℕ) → is_field f ≡ true → bytes_eq f (codes "_Bounded_") ≡ false
unfolding is_field is_reserved
bounded_is_no_field f h = last (bytes_eq f (codes "true") || bytes_eq f (codes "false") || bytes_eq f (codes "null")) (bytes_eq f (codes "_Bounded_")) (and_parts (nat_le (length f) 64) (not (is_reserved f)) h).1
  where
    last : (a b : Bool) → not (a || b) ≡ true → b ≡ false
    last true b e = cc
    last false true e = cc
    last false false e = refl

-- no sentence begins with the word _Bounded_
mutual
  first : (d : Disjunction) (rest : List Token) → holds_at (is_name (codes "_Bounded_")) (disjunction_before d rest) 0 ≡ false
  first (one c) rest = first_conjunction c rest
  first (more c d) rest = first_conjunction c (Disjoin ∷ disjunction_before d rest)

  first_conjunction : (c : Conjunction) (rest : List Token) → holds_at (is_name (codes "_Bounded_")) (conjunction_before c rest) 0 ≡ false
  first_conjunction (alone u) rest = first_unary u rest
  first_conjunction (joins u c) rest = first_unary u (Conjoin ∷ conjunction_before c rest)

  first_unary : (u : Unary) (rest : List Token) → holds_at (is_name (codes "_Bounded_")) (unary_before u rest) 0 ≡ false
  first_unary (operand o) rest = first_operand o rest
  first_unary (comparison f ok op l) rest = bounded_is_no_field f ok
  first_unary (matching f ok n raw) rest = bounded_is_no_field f ok

  first_operand : (o : Operand) (rest : List Token) → holds_at (is_name (codes "_Bounded_")) (operand_before o rest) 0 ≡ false
  first_operand (negation o) rest = refl
  first_operand (group d) rest = refl
  first_operand (bounded a b fa fb q e) rest = refl

-- `(_Bounded_` begins no sentence
abbrev is_marked : List Token → Bool
is_marked ts = holds_at is_open ts 0 && holds_at (is_name (codes "_Bounded_")) ts 1

mutual
  unmarked : (d : Disjunction) (rest : List Token) → is_marked (disjunction_before d rest) ≡ false
  unmarked (one c) rest = unmarked_conjunction c rest
  unmarked (more c d) rest = unmarked_conjunction c (Disjoin ∷ disjunction_before d rest)

  unmarked_conjunction : (c : Conjunction) (rest : List Token) → is_marked (conjunction_before c rest) ≡ false
  unmarked_conjunction (alone u) rest = unmarked_unary u rest
  unmarked_conjunction (joins u c) rest = unmarked_unary u (Conjoin ∷ conjunction_before c rest)

  unmarked_unary : (u : Unary) (rest : List Token) → is_marked (unary_before u rest) ≡ false
  unmarked_unary (operand o) rest = unmarked_operand o rest
  unmarked_unary (comparison f ok op l) rest = refl
  unmarked_unary (matching f ok n raw) rest = refl

  unmarked_operand : (o : Operand) (rest : List Token) → is_marked (operand_before o rest) ≡ false
  unmarked_operand (negation o) rest = refl
  unmarked_operand (group d) rest = first d (Close ∷ rest)
  unmarked_operand (bounded a b fa fb q e) rest = refl

comparison_read : (f : List ℕ) (op : Op) (l : Literal) (rest : List Token) → is_field f ≡ true → leaf (Name f ∷ Compare op ∷ literal_token l ∷ rest) ≡ Some (query.Cmp (folded f) op (literal_text l), rest)
unfolding leaf field_at text_at
comparison_read f op (number n) rest ok =
    ap (λ b. option_and_then (λ g. leaf_by g (Name f ∷ Compare op ∷ Number n ∷ rest) (Some (Compare op))) (cond b (Some f) None)) ok
comparison_read f op (string s) rest ok =
    ap (λ b. option_and_then (λ g. leaf_by g (Name f ∷ Compare op ∷ Quoted s ∷ rest) (Some (Compare op))) (cond b (Some f) None)) ok

matching_read : (f : List ℕ) (n : Bool) (raw : List ℕ) (rest : List Token) → is_field f ≡ true → leaf (Name f ∷ Match n ∷ Quoted raw ∷ rest) ≡ Some (pattern_of f n raw, rest)
unfolding leaf field_at quoted_at
matching_read f n raw rest ok =
    ap (λ b. option_and_then (λ g. leaf_by g (Name f ∷ Match n ∷ Quoted raw ∷ rest) (Some (Match n))) (cond b (Some f) None)) ok

literal_read : (l : Literal) → option_and_then reading.text_in (Some (literal_token l)) ≡ Some (literal_text l)
literal_read (number n) = refl
literal_read (string s) = refl

ends_read : (a b : End) (rest : List Token) (q : Query) → is_field a.field ≡ true → is_field b.field ≡ true → bounded_by a.field a.op (literal_text a.literal) b.field b.op (literal_text b.literal) ≡ Some q → bounded_at (bounded_before a b rest) ≡ Some q
unfolding bounded_at field_at op_at text_at
ends_read a b rest q fa fb e =
    ap (λ t. option_and_then (λ f. option_and_then (λ l. option_and_then (λ g. option_and_then (λ m. bounded_by f a.op l g b.op m) (option_and_then reading.text_in (Some (literal_token b.literal)))) (cond (is_field b.field) (Some b.field) None)) (option_and_then reading.text_in (Some (literal_token a.literal)))) (cond t (Some a.field) None)) fa
    ∙ ap (option_and_then (λ l. option_and_then (λ g. option_and_then (λ m. bounded_by a.field a.op l g b.op m) (option_and_then reading.text_in (Some (literal_token b.literal)))) (cond (is_field b.field) (Some b.field) None))) (literal_read a.literal)
    ∙ ap (λ t. option_and_then (λ g. option_and_then (λ m. bounded_by a.field a.op (literal_text a.literal) g b.op m) (option_and_then reading.text_in (Some (literal_token b.literal)))) (cond t (Some b.field) None)) fb
    ∙ ap (option_and_then (λ m. bounded_by a.field a.op (literal_text a.literal) b.field b.op m)) (literal_read b.literal)
    ∙ e

bounded_read : (inner : Parse) (a b : End) (rest : List Token) (q : Query) → is_field a.field ≡ true → is_field b.field ≡ true → bounded_by a.field a.op (literal_text a.literal) b.field b.op (literal_text b.literal) ≡ Some q → base inner (bounded_before a b rest) ≡ Some (q, rest)
unfolding base range begins_bounded frames_bounded
bounded_read inner a b rest q fa fb e = ap (option_map (λ r. (r, rest))) (ends_read a b rest q fa fb e)

same_parse : (r : Option (Query × List Token)) → parse_map (negated 0) r ≡ r
same_parse None = refl
same_parse (Some p) = refl

-- without `!` at the front
at_open : (inner : Parse) (ts : List Token) → reading.operand inner (Open ∷ ts) ≡ base inner (Open ∷ ts)
unfolding reading.operand
at_open inner ts = same_parse (base inner (Open ∷ ts))

at_negate : (inner : Parse) (ts : List Token) (q : Query) (rest : List Token) → reading.operand inner ts ≡ Some (q, rest) → reading.operand inner (Negate ∷ ts) ≡ Some (query.Not q, rest)
unfolding reading.operand
at_negate inner ts q rest h =
    let n = prefix_len is_negate ts in
    let e : 1 + n ≡ suc n = omega arith in
    ap (λ k. parse_map (negated k) (base inner (drop k (Negate ∷ ts)))) e
    ∙ again (negated n) (base inner (drop n ts))
    ∙ ap (parse_map query.Not) h
  where
    again : (f : Query → Query) (r : Option (Query × List Token)) → parse_map (λ p. query.Not (f p)) r ≡ parse_map query.Not (parse_map f r)
    again f None = refl
    again f (Some p) = refl

group_read : (inner : Parse) (d : Disjunction) (rest : List Token) → inner (disjunction_before d (Close ∷ rest)) ≡ Some (query_of d, Close ∷ rest) → base inner (Open ∷ disjunction_before d (Close ∷ rest)) ≡ Some (query_of d, rest)
unfolding base begins_bounded reading.group
group_read inner d rest h =
    let ts = disjunction_before d (Close ∷ rest) in
    ap (λ b. cond b (range (Open ∷ ts)) (option_and_then behind_group (inner ts))) (unmarked d (Close ∷ rest))
    ∙ ap (option_and_then behind_group) h

at_leaf : (inner : Parse) (t : Token) (ts : List Token) → (is_negate t || is_open t) ≡ false → unary inner (t ∷ ts) ≡ leaf (t ∷ ts)
unfolding unary
at_leaf inner t ts e = ap (λ b. cond b (reading.operand inner (t ∷ ts)) (leaf (t ∷ ts))) e

-- how many conjuncts and disjuncts
abbrev conjunct_count : Conjunction → ℕ
conjunct_count (alone u) = 1
conjunct_count (joins u c) = suc (conjunct_count c)

abbrev disjunct_count : Disjunction → ℕ
disjunct_count (one c) = 1
disjunct_count (more c d) = suc (disjunct_count d)

conjunct_room : (c : Conjunction) (rest : List Token) → conjunct_count c + length rest ≤ length (conjunction_before c rest)
conjunct_room (alone u) rest = let a = room_unary u rest in omega (arith, a)
conjunct_room (joins u c) rest =
    let a = room_unary u (Conjoin ∷ conjunction_before c rest) in
    let b = conjunct_room c rest in
    omega (arith, a, b)

disjunct_room : (d : Disjunction) (rest : List Token) → disjunct_count d + length rest ≤ length (disjunction_before d rest)
disjunct_room (one c) rest = let a = room_conjunction c rest in omega (arith, a)
disjunct_room (more c d) rest =
    let a = room_conjunction c (Disjoin ∷ disjunction_before d rest) in
    let b = disjunct_room d rest in
    omega (arith, a, b)

-- one item of several
split_read : (item : Parse) (splits : Token → Bool) (n : ℕ) (ts rest : List Token) (q : Query) → item ts ≡ Some (q, rest) → separated item splits (suc n) ts ≡ cond (holds_at splits rest 0) (parse_map (λ qs. q ∷ qs) (separated item splits n (drop 1 rest))) (Some (q ∷ [], rest))
unfolding separated
split_read item splits n ts rest q e = ap (option_and_then (λ p. cond (holds_at splits p.1 0) (parse_map (λ qs. p.0 ∷ qs) (separated item splits n (drop 1 p.1))) (Some (p.0 ∷ [], p.1)))) e

last_read : (item : Parse) (splits : Token → Bool) (n : ℕ) (ts rest : List Token) (q : Query) → item ts ≡ Some (q, rest) → holds_at splits rest 0 ≡ false → separated item splits (suc n) ts ≡ Some (q ∷ [], rest)
last_read item splits n ts rest q e ends =
    split_read item splits n ts rest q e ∙ ap (λ b. cond b (parse_map (λ qs. q ∷ qs) (separated item splits n (drop 1 rest))) (Some (q ∷ [], rest))) ends

-- conjuncts and disjuncts make one query
conjunction_from : (c : Conjunction) (inner : Parse) (rest : List Token) → separated (unary inner) is_conjoin (length (conjunction_before c rest)) (conjunction_before c rest) ≡ Some (conjuncts c, rest) → reading.conjunction inner (conjunction_before c rest) ≡ Some (joined query.And (conjuncts c), rest)
unfolding reading.conjunction
conjunction_from c inner rest h = ap (parse_map (joined query.And)) h

disjunction_from : (d : Disjunction) (n : ℕ) (rest : List Token) → separated (reading.conjunction (query_at n)) is_disjoin (length (disjunction_before d rest)) (disjunction_before d rest) ≡ Some (disjuncts d, rest) → query_at (suc n) (disjunction_before d rest) ≡ Some (query_of d, rest)
unfolding query_at reading.disjunction
disjunction_from d n rest h = ap (parse_map (joined query.Or)) h

-- what begins with `!` or `(` is an operand
at_operand : (o : Operand) (inner : Parse) (rest : List Token) → unary inner (operand_before o rest) ≡ reading.operand inner (operand_before o rest)
unfolding unary
at_operand (negation o) inner rest = refl
at_operand (group d) inner rest = refl
at_operand (bounded a b fa fb q e) inner rest = refl

mutual
  disjuncts_read : (d : Disjunction) (n k : ℕ) (rest : List Token) → nest d ≤ n → disjunct_count d ≤ k → holds_at is_conjoin rest 0 ≡ false → holds_at is_disjoin rest 0 ≡ false → separated (reading.conjunction (query_at n)) is_disjoin k (disjunction_before d rest) ≡ Some (disjuncts d, rest)
  disjuncts_read (one c) n zero rest h few x y = absurd (omega arith)
  disjuncts_read (one c) n (suc k) rest h few x y =
      last_read (reading.conjunction (query_at n)) is_disjoin k (conjunction_before c rest) rest (joined query.And (conjuncts c))
      (conjunction_from c (query_at n) rest (conjuncts_read c n (length (conjunction_before c rest)) rest h (omega (arith, conjunct_room c rest)) x)) y
  disjuncts_read (more c d) n zero rest h few x y = absurd (omega arith)
  disjuncts_read (more c d) n (suc k) rest h few x y =
      let left = disjunction_before d rest in
      split_read (reading.conjunction (query_at n)) is_disjoin k (conjunction_before c (Disjoin ∷ left)) (Disjoin ∷ left) (joined query.And (conjuncts c))
      (conjunction_from c (query_at n) (Disjoin ∷ left) (conjuncts_read c n (length (conjunction_before c (Disjoin ∷ left))) (Disjoin ∷ left) (omega arith) (omega (arith, conjunct_room c (Disjoin ∷ left))) refl))
      ∙ ap (parse_map (λ qs. joined query.And (conjuncts c) ∷ qs)) (disjuncts_read d n k rest (omega arith) (omega arith) x y)

  conjuncts_read : (c : Conjunction) (n k : ℕ) (rest : List Token) → nest_conjunction c ≤ n → conjunct_count c ≤ k → holds_at is_conjoin rest 0 ≡ false → separated (unary (query_at n)) is_conjoin k (conjunction_before c rest) ≡ Some (conjuncts c, rest)
  conjuncts_read (alone u) n zero rest h few x = absurd (omega arith)
  conjuncts_read (alone u) n (suc k) rest h few x =
      last_read (unary (query_at n)) is_conjoin k (unary_before u rest) rest (unary_query u) (unary_read u n rest h) x
  conjuncts_read (joins u c) n zero rest h few x = absurd (omega arith)
  conjuncts_read (joins u c) n (suc k) rest h few x =
      let left = conjunction_before c rest in
      split_read (unary (query_at n)) is_conjoin k (unary_before u (Conjoin ∷ left)) (Conjoin ∷ left) (unary_query u) (unary_read u n (Conjoin ∷ left) (omega arith))
      ∙ ap (parse_map (λ qs. unary_query u ∷ qs)) (conjuncts_read c n k rest (omega arith) (omega arith) x)

  unary_read : (u : Unary) (n : ℕ) (rest : List Token) → nest_unary u ≤ n → unary (query_at n) (unary_before u rest) ≡ Some (unary_query u, rest)
  unary_read (operand o) n rest h = at_operand o (query_at n) rest ∙ operand_read o n rest h
  unary_read (comparison f ok op l) n rest h = at_leaf (query_at n) (Name f) _ refl ∙ comparison_read f op l rest ok
  unary_read (matching f ok m raw) n rest h = at_leaf (query_at n) (Name f) _ refl ∙ matching_read f m raw rest ok

  operand_read : (o : Operand) (n : ℕ) (rest : List Token) → nest_operand o ≤ n → reading.operand (query_at n) (operand_before o rest) ≡ Some (operand_query o, rest)
  operand_read (negation o) n rest h = at_negate (query_at n) (operand_before o rest) (operand_query o) rest (operand_read o n rest h)
  operand_read (group d) zero rest h = absurd (omega arith)
  operand_read (group d) (suc n) rest h =
      at_open (query_at (suc n)) (disjunction_before d (Close ∷ rest))
      ∙ group_read (query_at (suc n)) d rest (disjunction_from d n (Close ∷ rest) (disjuncts_read d n (length (disjunction_before d (Close ∷ rest))) (Close ∷ rest) (omega arith) (omega (arith, disjunct_room d (Close ∷ rest))) refl refl))
  operand_read (bounded a b fa fb q e) n rest h = at_open (query_at n) _ ∙ bounded_read (query_at n) a b rest q fa fb e

disjunction_read : (d : Disjunction) (n : ℕ) (rest : List Token) → nest d ≤ n → holds_at is_conjoin rest 0 ≡ false → holds_at is_disjoin rest 0 ≡ false → query_at (suc n) (disjunction_before d rest) ≡ Some (query_of d, rest)
disjunction_read d n rest h x y =
    disjunction_from d n rest (disjuncts_read d n (length (disjunction_before d rest)) rest h (omega (arith, disjunct_room d rest)) x y)

-- each sentence of the grammar is read as the query that it stands for, where its groups stand less deep
pub whole_read : (levels : ℕ) (ts : List Token) (d : Disjunction) → nest d < levels → ts ≡ disjunction_before d [] → whole levels ts ≡ Some (query_of d)
unfolding whole
whole_read zero ts d n e = absurd (omega arith)
whole_read (suc levels) ts d n e =
    ap (λ us. option_and_then if_ended (query_at (suc levels) us)) e
    ∙ ap (option_and_then if_ended) (disjunction_read d levels [] (omega arith) refl refl)
