-- What is read is spelt by the grammar.
use Rattle.std.proofs.Common.{◌≡◌, ℕ, zero, suc, ◌+◌, Bool, true, false, cond, List, [], ◌∷◌, length, drop, Option, Some, None, refl, sym, ap, ◌∙◌, subst, arith}
use Rattle.std.specs.Prelude.{◌==◌, option_map, option_and_then, unwrap_or, slice_get}
use Rattle.std.specs.List.{prefix_len}
use Rattle.std.proofs.lemmas.Bool.Decides.{Decides-eqb}
use Rattle.std.proofs.lemmas.Option.{some_pair_parts}
use Rattle.std.proofs.lemmas.List.{nil_from_length}
use Rattle.dw_jexl.specs.declared.query.Op.TheVariants.{Eq}
use Rattle.dw_jexl.specs.declared.query.Query.{Query}
use Rattle.dw_jexl.specs.declared.query.Query.TheVariants as query
use Rattle.dw_jexl.specs.Grammar.{folded, names_field, joined}
use Rattle.dw_jexl.specs.Reading.{negated}
use Rattle.dw_lucene.specs.declared.end.End.{End}
use Rattle.dw_lucene.specs.declared.token.Token.{Token}
use Rattle.dw_lucene.specs.declared.token.Token.TheVariants.{Open, Close, Conjoin, Disjoin, Negate, To, Field, Bare, Quoted, Low, High}
use Rattle.dw_lucene.specs.Tokens.{is_open, is_close, is_conjoin, is_disjoin, is_negate, is_to, holds, holds_at}
use Rattle.dw_lucene.specs.Grammar.{Term, bare, quoted, token_of, end_of, bare_leaf, ranged, Disjunction, one, more, Conjunction, alone, joins, Unary, negation, group, clause, range, range_before, disjunction_before, conjunction_before, unary_before, disjuncts, conjuncts, unary_query, query_of}
use Rattle.dw_lucene.specs.Reading as reading
use Rattle.dw_lucene.specs.Reading.{field_in, end_in, high_in, field_at, end_at, high_at, range_at, clause_by, Parse, behind_group, base, parse_map, unary, separated, query_at, if_ended, whole}

-- a value that two steps give: the first step's, and what the second makes of it
pub and_then_parts : {A B : Type 0} (o : Option A) (f : A → Option B) (y : B) → option_and_then f o ≡ Some y → (x : A) × (o ≡ Some x) × (f x ≡ Some y)
and_then_parts None f y h = cc
and_then_parts (Some x) f y h = (x, refl, h)

pub map_parts : {A B : Type 0} (o : Option A) (f : A → B) (y : B) → option_map f o ≡ Some y → (x : A) × (o ≡ Some x) × (f x ≡ y)
map_parts None f y h = cc
map_parts (Some x) f y h = (x, refl, ap (λ o. unwrap_or o y) h)

pub guard_parts : {A : Type 0} (b : Bool) (o : Option A) (y : A) → cond b o None ≡ Some y → (b ≡ true) × (o ≡ Some y)
guard_parts true o y h = (refl, h)
guard_parts false o y h = cc

-- what stands at a place
cell : (ts : List Token) (i : ℕ) (t : Token) → slice_get ts i ≡ Some t → drop i ts ≡ t ∷ drop (suc i) ts
cell [] i t h = cc
cell (u ∷ ts) zero t h = ap (λ o. unwrap_or o t ∷ ts) h
cell (u ∷ ts) (suc i) t h = cell ts i t h

open_parts : (o : Option Token) → holds is_open o ≡ true → o ≡ Some Open
open_parts (Some Open) h = refl
open_parts _ h = cc

close_parts : (o : Option Token) → holds is_close o ≡ true → o ≡ Some Close
close_parts (Some Close) h = refl
close_parts _ h = cc

conjoin_parts : (o : Option Token) → holds is_conjoin o ≡ true → o ≡ Some Conjoin
conjoin_parts (Some Conjoin) h = refl
conjoin_parts _ h = cc

disjoin_parts : (o : Option Token) → holds is_disjoin o ≡ true → o ≡ Some Disjoin
disjoin_parts (Some Disjoin) h = refl
disjoin_parts _ h = cc

field_parts : (ts : List Token) (i : ℕ) (w : List ℕ) → field_at ts i ≡ Some w → (slice_get ts i ≡ Some (Field w)) × (names_field w ≡ true)
unfolding field_at
field_parts ts i w h = from (slice_get ts i) h
  where
    from : (o : Option Token) → option_and_then field_in o ≡ Some w → (o ≡ Some (Field w)) × (names_field w ≡ true)
    from (Some (Field v)) e =
        let g = guard_parts (names_field v) (Some v) w e in
        let is : v ≡ w = ap (λ o. unwrap_or o w) g.1 in
        (ap (λ u. Some (Field u)) is, subst (λ u. names_field u ≡ true) is g.0)
    from _ e = cc

end_parts : (ts : List Token) (i : ℕ) (x : End) → end_at ts i ≡ Some x → (t : Term) × (slice_get ts i ≡ Some (token_of t)) × (end_of t ≡ x)
unfolding end_at
end_parts ts i x h = from (slice_get ts i) h
  where
    from : (o : Option Token) → option_and_then end_in o ≡ Some x → (t : Term) × (o ≡ Some (token_of t)) × (end_of t ≡ x)
    from (Some (Bare ps)) e = (bare ps, refl, ap (λ o. unwrap_or o x) e)
    from (Some (Quoted s)) e = (quoted s, refl, ap (λ o. unwrap_or o x) e)
    from _ e = cc

high_parts : (ts : List Token) (i : ℕ) (b : Bool) → high_at ts i ≡ Some b → slice_get ts i ≡ Some (High b)
unfolding high_at
high_parts ts i b h = from (slice_get ts i) h
  where
    from : (o : Option Token) → option_and_then high_in o ≡ Some b → o ≡ Some (High b)
    from (Some (High v)) e = ap (λ o. Some (High (unwrap_or o b))) e
    from _ e = cc

to_parts : (o : Option Token) → holds is_to o ≡ true → o ≡ Some To
to_parts (Some To) h = refl
to_parts _ h = cc

-- a field and a range behind it
range_parts : (ts : List Token) (f : List ℕ) (low_open : Bool) (q : Query) → slice_get ts 0 ≡ Some (Field f) → names_field f ≡ true → slice_get ts 1 ≡ Some (Low low_open) → range_at f low_open ts ≡ Some q → (u : Unary) × (ts ≡ unary_before u (drop 6 ts)) × (q ≡ unary_query u)
unfolding range_at
range_parts ts f low_open q hf ok hl h =
    let p2 = and_then_parts (end_at ts 2) _ q h in
    let p4 = and_then_parts (end_at ts 4) _ q p2.2 in
    let p5 = and_then_parts (high_at ts 5) _ q p4.2 in
    let g = guard_parts (holds_at is_to ts 3) (ranged f low_open p2.0 p4.0 p5.0) q p5.2 in
    let a = end_parts ts 2 p2.0 p2.1 in
    let b = end_parts ts 4 p4.0 p4.1 in
    let by : ranged f low_open (end_of a.0) (end_of b.0) p5.0 ≡ Some q =
    ap (λ x. ranged f low_open x (end_of b.0) p5.0) a.2 ∙ ap (λ x. ranged f low_open p2.0 x p5.0) b.2 ∙ g.1 in
    let spelt : ts ≡ range_before f low_open a.0 b.0 p5.0 (drop 6 ts) =
    cell ts 0 (Field f) hf ∙ ap (λ us. Field f ∷ us) (cell ts 1 (Low low_open) hl ∙ ap (λ us. Low low_open ∷ us)
    (cell ts 2 (token_of a.0) a.1 ∙ ap (λ us. token_of a.0 ∷ us) (cell ts 3 To (to_parts _ g.0) ∙ ap (λ us. To ∷ us)
    (cell ts 4 (token_of b.0) b.1 ∙ ap (λ us. token_of b.0 ∷ us) (cell ts 5 (High p5.0) (high_parts ts 5 p5.0 p5.1)))))) in
    (range f ok low_open a.0 b.0 p5.0 q by, spelt, refl)

clause_sound : (ts : List Token) (q : Query) (rest : List Token) → reading.clause ts ≡ Some (q, rest) → (u : Unary) × (ts ≡ unary_before u rest) × (q ≡ unary_query u)
unfolding reading.clause
clause_sound ts q rest h =
    let p = and_then_parts (field_at ts 0) (λ f. clause_by f ts (slice_get ts 1)) (q, rest) h in
    let f = field_parts ts 0 p.0 p.1 in
    from p.0 f.0 f.1 (slice_get ts 1) refl p.2
  where
    two : (f : List ℕ) (t : Token) → slice_get ts 0 ≡ Some (Field f) → slice_get ts 1 ≡ Some t → ts ≡ Field f ∷ t ∷ drop 2 ts
    two f t hf ht = cell ts 0 (Field f) hf ∙ ap (λ us. Field f ∷ us) (cell ts 1 t ht)

    from : (f : List ℕ) → slice_get ts 0 ≡ Some (Field f) → names_field f ≡ true → (o : Option Token) → slice_get ts 1 ≡ o → clause_by f ts o ≡ Some (q, rest) → (u : Unary) × (ts ≡ unary_before u rest) × (q ≡ unary_query u)
    from f hf ok (Some (Bare ps)) ho e =
        let same = some_pair_parts (bare_leaf f ps) q (drop 2 ts) rest e in
        (clause f ok (bare ps), two f (Bare ps) hf ho ∙ ap (λ us. Field f ∷ Bare ps ∷ us) same.1, sym same.0)
    from f hf ok (Some (Quoted s)) ho e =
        let same = some_pair_parts (query.Cmp (folded f) Eq s) q (drop 2 ts) rest e in
        (clause f ok (quoted s), two f (Quoted s) hf ho ∙ ap (λ us. Field f ∷ Quoted s ∷ us) same.1, sym same.0)
    from f hf ok (Some (Low low_open)) ho e =
        let m = map_parts (range_at f low_open ts) (λ r. (r, drop 6 ts)) (q, rest) e in
        let r = range_parts ts f low_open m.0 hf ok ho m.1 in
        (r.0, r.1 ∙ ap (unary_before r.0) (ap (λ p. p.1) m.2), sym (ap (λ p. p.0) m.2) ∙ r.2)
    from f hf ok _ ho e = cc

negate_is : (u : Token) → is_negate u ≡ true → u ≡ Negate
negate_is Negate i = refl
negate_is _ i = cc

-- what is read inside parentheses is spelt
pub record Sound (inner : Parse) : Type 0 where
  pub spelt : (ts : List Token) (q : Query) (rest : List Token) → inner ts ≡ Some (q, rest) → (d : Disjunction) × (ts ≡ disjunction_before d rest) × (q ≡ query_of d)

module _ (inner : Parse) (inside : Sound inner) where
  base_sound : (ts : List Token) (q : Query) (rest : List Token) → base inner ts ≡ Some (q, rest) → (u : Unary) × (ts ≡ unary_before u rest) × (q ≡ unary_query u)
  unfolding base
  base_sound ts q rest h = from (holds_at is_open ts 0) refl h
    where
      from : (b : Bool) → holds_at is_open ts 0 ≡ b → cond b (option_and_then behind_group (inner (drop 1 ts))) (reading.clause ts) ≡ Some (q, rest) → (u : Unary) × (ts ≡ unary_before u rest) × (q ≡ unary_query u)
      from true e k =
          let p = and_then_parts (inner (drop 1 ts)) behind_group (q, rest) k in
          let s = guard_parts (holds_at is_close p.0.1 0) (Some (p.0.0, drop 1 p.0.1)) (q, rest) p.2 in
          let d = inside.spelt (drop 1 ts) p.0.0 p.0.1 p.1 in
          let same = some_pair_parts p.0.0 q (drop 1 p.0.1) rest s.1 in
          let closing : p.0.1 ≡ Close ∷ rest = cell p.0.1 0 Close (close_parts _ s.0) ∙ ap (λ us. Close ∷ us) same.1 in
          (group d.0, cell ts 0 Open (open_parts _ e) ∙ ap (λ us. Open ∷ us) (d.1 ∙ ap (disjunction_before d.0) closing), sym same.0 ∙ d.2)
      from false e k = clause_sound ts q rest k

  negated_step : (n : ℕ) (t : Token) (ts : List Token) (q : Query) (rest : List Token) → ((r : Query) → prefix_len is_negate ts ≡ n → parse_map (negated n) (base inner (drop n ts)) ≡ Some (r, rest) → (u : Unary) × (ts ≡ unary_before u rest) × (r ≡ unary_query u)) → (b : Bool) → is_negate t ≡ b → cond b (1 + prefix_len is_negate ts) 0 ≡ suc n → parse_map (negated (suc n)) (base inner (drop n ts)) ≡ Some (q, rest) → (u : Unary) × (t ∷ ts ≡ unary_before u rest) × (q ≡ unary_query u)
  negated_step n t ts q rest ih false k l h = absurd (omega arith)
  negated_step n t ts q rest ih true k l h =
      let m = map_parts (base inner (drop n ts)) (λ p. (negated (suc n) p.0, p.1)) (q, rest) h in
      let o = ih (negated n m.0.0) (omega arith) (ap (parse_map (negated n)) m.1 ∙ ap (λ r. Some (negated n m.0.0, r.1)) m.2) in
      (negation o.0, ap (λ u. u ∷ ts) (negate_is t k) ∙ ap (λ us. Negate ∷ us) o.1, sym (ap (λ r. r.0) m.2) ∙ ap query.Not o.2)

  negated_sound : (n : ℕ) (ts : List Token) (q : Query) (rest : List Token) → prefix_len is_negate ts ≡ n → parse_map (negated n) (base inner (drop n ts)) ≡ Some (q, rest) → (u : Unary) × (ts ≡ unary_before u rest) × (q ≡ unary_query u)
  negated_sound zero ts q rest e h =
      let m = map_parts (base inner ts) (λ p. (negated 0 p.0, p.1)) (q, rest) h in
      base_sound ts q rest (m.1 ∙ ap Some m.2)
  negated_sound (suc n) [] q rest e h = absurd (omega arith)
  negated_sound (suc n) (t ∷ ts) q rest e h = negated_step n t ts q rest (λ r k l. negated_sound n ts r rest k l) (is_negate t) refl e h

  unary_sound : (ts : List Token) (q : Query) (rest : List Token) → unary inner ts ≡ Some (q, rest) → (u : Unary) × (ts ≡ unary_before u rest) × (q ≡ unary_query u)
  unfolding unary
  unary_sound ts q rest h = negated_sound (prefix_len is_negate ts) ts q rest refl h

  conjuncts_step : (n : ℕ) (ts : List Token) (qs : List Query) (rest : List Token) → ((us : List Token) (rs : List Query) (left : List Token) → separated (unary inner) is_conjoin n us ≡ Some (rs, left) → (c : Conjunction) × (us ≡ conjunction_before c left) × (rs ≡ conjuncts c)) → (q : Query) (left : List Token) (u : Unary) → ts ≡ unary_before u left → q ≡ unary_query u → (b : Bool) → holds_at is_conjoin left 0 ≡ b → cond b (parse_map (λ rs. q ∷ rs) (separated (unary inner) is_conjoin n (drop 1 left))) (Some (q ∷ [], left)) ≡ Some (qs, rest) → (c : Conjunction) × (ts ≡ conjunction_before c rest) × (qs ≡ conjuncts c)
  conjuncts_step n ts qs rest ih q left u spelt is false e k =
      let same = some_pair_parts (q ∷ []) qs left rest k in
      (alone u, spelt ∙ ap (unary_before u) same.1, sym same.0 ∙ ap (λ r. r ∷ []) is)
  conjuncts_step n ts qs rest ih q left u spelt is true e k =
      let m = map_parts (separated (unary inner) is_conjoin n (drop 1 left)) (λ r. (q ∷ r.0, r.1)) (qs, rest) k in
      let c = ih (drop 1 left) m.0.0 m.0.1 m.1 in
      let follows : left ≡ Conjoin ∷ conjunction_before c.0 rest =
      cell left 0 Conjoin (conjoin_parts _ e) ∙ ap (λ us. Conjoin ∷ us) (c.1 ∙ ap (conjunction_before c.0) (ap (λ r. r.1) m.2)) in
      (joins u c.0, spelt ∙ ap (unary_before u) follows, sym (ap (λ r. r.0) m.2) ∙ ap (λ r. r ∷ m.0.0) is ∙ ap (λ rs. unary_query u ∷ rs) c.2)

  conjuncts_sound : (n : ℕ) (ts : List Token) (qs : List Query) (rest : List Token) → separated (unary inner) is_conjoin n ts ≡ Some (qs, rest) → (c : Conjunction) × (ts ≡ conjunction_before c rest) × (qs ≡ conjuncts c)
  unfolding separated
  conjuncts_sound zero ts qs rest h = cc
  conjuncts_sound (suc n) ts qs rest h =
      let p = and_then_parts (unary inner ts) (λ r. cond (holds_at is_conjoin r.1 0) (parse_map (λ rs. r.0 ∷ rs) (separated (unary inner) is_conjoin n (drop 1 r.1))) (Some (r.0 ∷ [], r.1))) (qs, rest) h in
      let u = unary_sound ts p.0.0 p.0.1 p.1 in
      conjuncts_step n ts qs rest (λ us rs left e. conjuncts_sound n us rs left e) p.0.0 p.0.1 u.0 u.1 u.2 (holds_at is_conjoin p.0.1 0) refl p.2

  conjunction_sound : (ts : List Token) (q : Query) (rest : List Token) → reading.conjunction inner ts ≡ Some (q, rest) → (c : Conjunction) × (ts ≡ conjunction_before c rest) × (q ≡ joined query.And (conjuncts c))
  unfolding reading.conjunction
  conjunction_sound ts q rest h =
      let m = map_parts (separated (unary inner) is_conjoin (length ts) ts) (λ r. (joined query.And r.0, r.1)) (q, rest) h in
      let c = conjuncts_sound (length ts) ts m.0.0 m.0.1 m.1 in
      (c.0, c.1 ∙ ap (conjunction_before c.0) (ap (λ r. r.1) m.2), sym (ap (λ r. r.0) m.2) ∙ ap (joined query.And) c.2)

  disjuncts_step : (n : ℕ) (ts : List Token) (qs : List Query) (rest : List Token) → ((us : List Token) (rs : List Query) (left : List Token) → separated (reading.conjunction inner) is_disjoin n us ≡ Some (rs, left) → (c : Disjunction) × (us ≡ disjunction_before c left) × (rs ≡ disjuncts c)) → (q : Query) (left : List Token) (u : Conjunction) → ts ≡ conjunction_before u left → q ≡ joined query.And (conjuncts u) → (b : Bool) → holds_at is_disjoin left 0 ≡ b → cond b (parse_map (λ rs. q ∷ rs) (separated (reading.conjunction inner) is_disjoin n (drop 1 left))) (Some (q ∷ [], left)) ≡ Some (qs, rest) → (c : Disjunction) × (ts ≡ disjunction_before c rest) × (qs ≡ disjuncts c)
  disjuncts_step n ts qs rest ih q left u spelt is false e k =
      let same = some_pair_parts (q ∷ []) qs left rest k in
      (one u, spelt ∙ ap (conjunction_before u) same.1, sym same.0 ∙ ap (λ r. r ∷ []) is)
  disjuncts_step n ts qs rest ih q left u spelt is true e k =
      let m = map_parts (separated (reading.conjunction inner) is_disjoin n (drop 1 left)) (λ r. (q ∷ r.0, r.1)) (qs, rest) k in
      let c = ih (drop 1 left) m.0.0 m.0.1 m.1 in
      let follows : left ≡ Disjoin ∷ disjunction_before c.0 rest =
      cell left 0 Disjoin (disjoin_parts _ e) ∙ ap (λ us. Disjoin ∷ us) (c.1 ∙ ap (disjunction_before c.0) (ap (λ r. r.1) m.2)) in
      (more u c.0, spelt ∙ ap (conjunction_before u) follows, sym (ap (λ r. r.0) m.2) ∙ ap (λ r. r ∷ m.0.0) is ∙ ap (λ rs. joined query.And (conjuncts u) ∷ rs) c.2)

  disjuncts_sound : (n : ℕ) (ts : List Token) (qs : List Query) (rest : List Token) → separated (reading.conjunction inner) is_disjoin n ts ≡ Some (qs, rest) → (c : Disjunction) × (ts ≡ disjunction_before c rest) × (qs ≡ disjuncts c)
  unfolding separated
  disjuncts_sound zero ts qs rest h = cc
  disjuncts_sound (suc n) ts qs rest h =
      let p = and_then_parts (reading.conjunction inner ts) (λ r. cond (holds_at is_disjoin r.1 0) (parse_map (λ rs. r.0 ∷ rs) (separated (reading.conjunction inner) is_disjoin n (drop 1 r.1))) (Some (r.0 ∷ [], r.1))) (qs, rest) h in
      let u = conjunction_sound ts p.0.0 p.0.1 p.1 in
      disjuncts_step n ts qs rest (λ us rs left e. disjuncts_sound n us rs left e) p.0.0 p.0.1 u.0 u.1 u.2 (holds_at is_disjoin p.0.1 0) refl p.2

  pub disjunction_sound : Sound (reading.disjunction inner)
  unfolding reading.disjunction
  disjunction_sound = record {
    spelt = λ ts q rest h.
        let m = map_parts (separated (reading.conjunction inner) is_disjoin (length ts) ts) (λ r. (joined query.Or r.0, r.1)) (q, rest) h in
        let d = disjuncts_sound (length ts) ts m.0.0 m.0.1 m.1 in
        (d.0, d.1 ∙ ap (disjunction_before d.0) (ap (λ r. r.1) m.2), sym (ap (λ r. r.0) m.2) ∙ ap (joined query.Or) d.2);
  }

pub query_sound : (n : ℕ) → Sound (query_at n)
unfolding query_at
query_sound zero = record { spelt = λ ts q rest h. let no_query : None ≡ Some (q, rest) = h in cc }
query_sound (suc n) = record { spelt = λ ts q rest h. (disjunction_sound (query_at n) (query_sound n)).spelt ts q rest h }

-- all of the tokens, as they are read, are a sentence
pub whole_sound : (levels : ℕ) (ts : List Token) (q : Query) → whole levels ts ≡ Some q → (d : Disjunction) × (ts ≡ disjunction_before d []) × (q ≡ query_of d)
unfolding whole
whole_sound levels ts q h =
    let p = and_then_parts (query_at levels ts) if_ended q h in
    let g = guard_parts (length p.0.1 == 0) (Some p.0.0) q p.2 in
    let d = (query_sound levels).spelt ts p.0.0 p.0.1 p.1 in
    let none_left : p.0.1 ≡ [] = nil_from_length p.0.1 ((Decides-eqb (length p.0.1) 0).0 g.0) in
    (d.0, d.1 ∙ ap (disjunction_before d.0) none_left, sym (ap (λ o. unwrap_or o q) g.1) ∙ d.2)
