-- What is read is spelt by the grammar.
use Rattle.std.proofs.Common.{◌≡◌, ℕ, zero, suc, ◌+◌, Bool, true, false, cond, List, [], ◌∷◌, length, drop, Option, Some, None, refl, sym, ap, ◌∙◌, subst, arith}
use Rattle.std.specs.Prelude.{◌||◌, ◌==◌, option_map, option_and_then, unwrap_or, slice_get, codes}
use Rattle.std.specs.List.{prefix_len}
use Rattle.std.proofs.lemmas.Bool.{and_parts}
use Rattle.std.proofs.lemmas.Bool.Decides.{Decides-eqb}
use Rattle.std.proofs.lemmas.Slice.Eq.{bytes_eq-Decides}
use Rattle.std.proofs.lemmas.Option.{some_pair_parts}
use Rattle.std.proofs.lemmas.List.{nil_from_length}
use Rattle.dw_jexl.specs.declared.query.Op.{Op}
use Rattle.dw_jexl.specs.declared.query.Query.{Query}
use Rattle.dw_jexl.specs.declared.query.Query.TheVariants as query
use Rattle.dw_jexl.specs.declared.token.Token.{Token}
use Rattle.dw_jexl.specs.declared.token.Token.TheVariants.{Open, Close, Conjoin, Disjoin, Negate, Compare, Match, Assign, Name, Number, Quoted}
use Rattle.dw_jexl.specs.Tokens.{is_open, is_close, is_conjoin, is_disjoin, is_negate, is_assign, is_name, holds, holds_at}
use Rattle.dw_jexl.specs.Grammar.{folded, is_field, Literal, number, string, literal_token, literal_text, End, bounded_by, pattern_of, joined, Disjunction, one, more, Conjunction, alone, joins, Unary, operand, comparison, matching, Operand, negation, group, bounded, bounded_before, disjunction_before, conjunction_before, unary_before, operand_before, disjuncts, conjuncts, unary_query, operand_query, query_of}
use Rattle.dw_jexl.specs.Reading as reading
use Rattle.dw_jexl.specs.Reading.{name_in, op_in, text_in, quoted_in, name_at, if_field, field_at, op_at, text_at, quoted_at, Parse, leaf_by, leaf, begins_bounded, frames_bounded, bounded_at, range, negated, behind_group, base, parse_map, unary, separated, query_at, if_ended, whole}

-- a value that two steps give: the first step's, and what the second makes of it
pub and_then_parts : {A B : Type 0} (o : Option A) (f : A → Option B) (y : B) → option_and_then f o ≡ Some y → (x : A) × (o ≡ Some x) × (f x ≡ Some y)
and_then_parts None f y h = cc
and_then_parts (Some x) f y h = (x, refl, h)

pub map_parts : {A B : Type 0} (o : Option A) (f : A → B) (y : B) → option_map f o ≡ Some y → (x : A) × (o ≡ Some x) × (f x ≡ y)
map_parts None f y h = cc
map_parts (Some x) f y h = (x, refl, ap (λ o. unwrap_or o y) h)

pub guard_parts : {A : Type 0} (b : Bool) (o : Option A) (y : A) → cond b o None ≡ Some y → (b ≡ true) × (o ≡ Some y)
guard_parts true o y h = (refl, h)
guard_parts false o y h = cc

-- what stands at a place
cell : (ts : List Token) (i : ℕ) (t : Token) → slice_get ts i ≡ Some t → drop i ts ≡ t ∷ drop (suc i) ts
cell [] i t h = cc
cell (u ∷ ts) zero t h = ap (λ o. unwrap_or o t ∷ ts) h
cell (u ∷ ts) (suc i) t h = cell ts i t h

name_parts : (o : Option Token) (w : List ℕ) → option_and_then name_in o ≡ Some w → o ≡ Some (Name w)
name_parts (Some (Name v)) w h = ap (λ o. Some (Name (unwrap_or o w))) h
name_parts _ w h = cc

field_parts : (ts : List Token) (i : ℕ) (w : List ℕ) → field_at ts i ≡ Some w → (slice_get ts i ≡ Some (Name w)) × (is_field w ≡ true)
unfolding field_at
field_parts ts i w h =
    let p = and_then_parts (name_at ts i) if_field w h in
    let g = guard_parts (is_field p.0) (Some p.0) w p.2 in
    let e : p.0 ≡ w = ap (λ o. unwrap_or o w) g.1 in
    (name_parts (slice_get ts i) w (p.1 ∙ g.1), subst (λ v. is_field v ≡ true) e g.0)

op_parts : (ts : List Token) (i : ℕ) (op : Op) → op_at ts i ≡ Some op → slice_get ts i ≡ Some (Compare op)
unfolding op_at
op_parts ts i op h = from (slice_get ts i) h
  where
    from : (o : Option Token) → option_and_then op_in o ≡ Some op → o ≡ Some (Compare op)
    from (Some (Compare p)) e = ap (λ o. Some (Compare (unwrap_or o op))) e
    from _ e = cc

text_parts : (ts : List Token) (i : ℕ) (w : List ℕ) → text_at ts i ≡ Some w → (l : Literal) × (slice_get ts i ≡ Some (literal_token l)) × (literal_text l ≡ w)
unfolding text_at
text_parts ts i w h = from (slice_get ts i) h
  where
    from : (o : Option Token) → option_and_then text_in o ≡ Some w → (l : Literal) × (o ≡ Some (literal_token l)) × (literal_text l ≡ w)
    from (Some (Number v)) e = (number v, refl, ap (λ o. unwrap_or o w) e)
    from (Some (Quoted v)) e = (string v, refl, ap (λ o. unwrap_or o w) e)
    from _ e = cc

quoted_parts : (ts : List Token) (i : ℕ) (w : List ℕ) → quoted_at ts i ≡ Some w → slice_get ts i ≡ Some (Quoted w)
unfolding quoted_at
quoted_parts ts i w h = from (slice_get ts i) h
  where
    from : (o : Option Token) → option_and_then quoted_in o ≡ Some w → o ≡ Some (Quoted w)
    from (Some (Quoted v)) e = ap (λ o. Some (Quoted (unwrap_or o w))) e
    from _ e = cc

open_parts : (o : Option Token) → holds is_open o ≡ true → o ≡ Some Open
open_parts (Some Open) h = refl
open_parts _ h = cc

close_parts : (o : Option Token) → holds is_close o ≡ true → o ≡ Some Close
close_parts (Some Close) h = refl
close_parts _ h = cc

conjoin_parts : (o : Option Token) → holds is_conjoin o ≡ true → o ≡ Some Conjoin
conjoin_parts (Some Conjoin) h = refl
conjoin_parts _ h = cc

disjoin_parts : (o : Option Token) → holds is_disjoin o ≡ true → o ≡ Some Disjoin
disjoin_parts (Some Disjoin) h = refl
disjoin_parts _ h = cc

assign_parts : (o : Option Token) → holds is_assign o ≡ true → o ≡ Some Assign
assign_parts (Some Assign) h = refl
assign_parts _ h = cc

is_name_parts : (w : List ℕ) (o : Option Token) → holds (is_name w) o ≡ true → o ≡ Some (Name w)
is_name_parts w (Some (Name v)) h = ap (λ u. Some (Name u)) ((bytes_eq-Decides v w).0 h)
is_name_parts w _ h = cc

-- three tokens at the front
three : (ts : List Token) (a b c : Token) → slice_get ts 0 ≡ Some a → slice_get ts 1 ≡ Some b → slice_get ts 2 ≡ Some c → ts ≡ a ∷ b ∷ c ∷ drop 3 ts
three ts a b c ha hb hc = cell ts 0 a ha ∙ ap (λ us. a ∷ us) (cell ts 1 b hb ∙ ap (λ us. b ∷ us) (cell ts 2 c hc))

leaf_sound : (ts : List Token) (q : Query) (rest : List Token) → leaf ts ≡ Some (q, rest) → (u : Unary) × (ts ≡ unary_before u rest) × (q ≡ unary_query u)
unfolding leaf
leaf_sound ts q rest h =
    let p = and_then_parts (field_at ts 0) (λ f. leaf_by f ts (slice_get ts 1)) (q, rest) h in
    let f = field_parts ts 0 p.0 p.1 in
    from p.0 f.0 f.1 (slice_get ts 1) refl p.2
  where
    from : (f : List ℕ) → slice_get ts 0 ≡ Some (Name f) → is_field f ≡ true → (o : Option Token) → slice_get ts 1 ≡ o → leaf_by f ts o ≡ Some (q, rest) → (u : Unary) × (ts ≡ unary_before u rest) × (q ≡ unary_query u)
    from f hf ok (Some (Compare op)) ho e =
        let m = map_parts (text_at ts 2) (λ l. (query.Cmp (folded f) op l, drop 3 ts)) (q, rest) e in
        let l = text_parts ts 2 m.0 m.1 in
        (comparison f ok op l.0, three ts (Name f) (Compare op) (literal_token l.0) hf ho l.1 ∙ ap (λ us. Name f ∷ Compare op ∷ literal_token l.0 ∷ us) (ap (λ r. r.1) m.2), sym (ap (λ r. r.0) m.2) ∙ ap (query.Cmp (folded f) op) (sym l.2))
    from f hf ok (Some (Match n)) ho e =
        let m = map_parts (quoted_at ts 2) (λ raw. (pattern_of f n raw, drop 3 ts)) (q, rest) e in
        (matching f ok n m.0, three ts (Name f) (Match n) (Quoted m.0) hf ho (quoted_parts ts 2 m.0 m.1) ∙ ap (λ us. Name f ∷ Match n ∷ Quoted m.0 ∷ us) (ap (λ r. r.1) m.2), sym (ap (λ r. r.0) m.2))
    from f hf ok _ ho e = cc

-- the frame of a bounded round its two ends
record Frame (ts : List Token) : Type 0 where
  first : ts ≡ drop 0 ts
  all : (a b : End) → slice_get ts 8 ≡ Some (Name a.field) → slice_get ts 9 ≡ Some (Compare a.op) → slice_get ts 10 ≡ Some (literal_token a.literal) → slice_get ts 12 ≡ Some (Name b.field) → slice_get ts 13 ≡ Some (Compare b.op) → slice_get ts 14 ≡ Some (literal_token b.literal) → ts ≡ bounded_before a b (drop 17 ts)

frame : (ts : List Token) → begins_bounded ts ≡ true → frames_bounded ts ≡ true → Frame ts
unfolding begins_bounded frames_bounded
frame ts hb hf =
    let b01 = and_parts _ _ hb in
    let b0 = and_parts _ _ b01.0 in
    let f16 = and_parts _ _ hf in
    let f15 = and_parts _ _ f16.0 in
    let f11 = and_parts _ _ f15.0 in
    let f7 = and_parts _ _ f11.0 in
    let f6 = and_parts _ _ f7.0 in
    let f5 = and_parts _ _ f6.0 in
    let f4 = and_parts _ _ f5.0 in
    let t0 = cell ts 0 Open (open_parts _ b0.0) in
    let t1 = cell ts 1 Open (open_parts _ b0.1) in
    let t2 = cell ts 2 (Name (codes "_Bounded_")) (is_name_parts (codes "_Bounded_") _ b01.1) in
    let t3 = cell ts 3 Assign (assign_parts _ f4.0) in
    let t4 = cell ts 4 (Name (codes "true")) (is_name_parts (codes "true") _ f4.1) in
    let t5 = cell ts 5 Close (close_parts _ f5.1) in
    let t6 = cell ts 6 Conjoin (conjoin_parts _ f6.1) in
    let t7 = cell ts 7 Open (open_parts _ f7.1) in
    let t11 = cell ts 11 Conjoin (conjoin_parts _ f11.1) in
    let t15 = cell ts 15 Close (close_parts _ f15.1) in
    let t16 = cell ts 16 Close (close_parts _ f16.1) in
    record {
      first = refl;
      all = λ a b e8 e9 e10 e12 e13 e14.
          t0 ∙ ap (λ us. Open ∷ us) (t1 ∙ ap (λ us. Open ∷ us) (t2 ∙ ap (λ us. Name (codes "_Bounded_") ∷ us) (t3 ∙ ap (λ us. Assign ∷ us)
          (t4 ∙ ap (λ us. Name (codes "true") ∷ us) (t5 ∙ ap (λ us. Close ∷ us) (t6 ∙ ap (λ us. Conjoin ∷ us) (t7 ∙ ap (λ us. Open ∷ us)
          (cell ts 8 (Name a.field) e8 ∙ ap (λ us. Name a.field ∷ us) (cell ts 9 (Compare a.op) e9 ∙ ap (λ us. Compare a.op ∷ us) (cell ts 10 (literal_token a.literal) e10 ∙ ap (λ us. literal_token a.literal ∷ us)
          (t11 ∙ ap (λ us. Conjoin ∷ us) (cell ts 12 (Name b.field) e12 ∙ ap (λ us. Name b.field ∷ us) (cell ts 13 (Compare b.op) e13 ∙ ap (λ us. Compare b.op ∷ us) (cell ts 14 (literal_token b.literal) e14 ∙ ap (λ us. literal_token b.literal ∷ us)
          (t15 ∙ ap (λ us. Close ∷ us) t16)))))))))))))));
    }

range_sound : (ts : List Token) (q : Query) (rest : List Token) → begins_bounded ts ≡ true → range ts ≡ Some (q, rest) → (o : Operand) × (ts ≡ operand_before o rest) × (q ≡ operand_query o)
unfolding range bounded_at
range_sound ts q rest hb h =
    let g = guard_parts (frames_bounded ts) (option_map (λ r. (r, drop 17 ts)) (bounded_at ts)) (q, rest) h in
    let m = map_parts (bounded_at ts) (λ r. (r, drop 17 ts)) (q, rest) g.1 in
    let p8 = and_then_parts (field_at ts 8) _ m.0 m.1 in
    let p9 = and_then_parts (op_at ts 9) _ m.0 p8.2 in
    let p10 = and_then_parts (text_at ts 10) _ m.0 p9.2 in
    let p12 = and_then_parts (field_at ts 12) _ m.0 p10.2 in
    let p13 = and_then_parts (op_at ts 13) _ m.0 p12.2 in
    let p14 = and_then_parts (text_at ts 14) _ m.0 p13.2 in
    let f = field_parts ts 8 p8.0 p8.1 in
    let k = field_parts ts 12 p12.0 p12.1 in
    let l = text_parts ts 10 p10.0 p10.1 in
    let n = text_parts ts 14 p14.0 p14.1 in
    let a : End = record { field = p8.0; op = p9.0; literal = l.0 } in
    let b : End = record { field = p12.0; op = p13.0; literal = n.0 } in
    let by : bounded_by a.field a.op (literal_text a.literal) b.field b.op (literal_text b.literal) ≡ Some m.0 =
    ap (λ v. bounded_by p8.0 p9.0 v p12.0 p13.0 (literal_text n.0)) l.2 ∙ ap (bounded_by p8.0 p9.0 p10.0 p12.0 p13.0) n.2 ∙ p14.2 in
    let spelt = (frame ts hb g.0).all a b f.0 (op_parts ts 9 p9.0 p9.1) l.1 k.0 (op_parts ts 13 p13.0 p13.1) n.1 in
    (bounded a b f.1 k.1 m.0 by, spelt ∙ ap (bounded_before a b) (ap (λ r. r.1) m.2), sym (ap (λ r. r.0) m.2))

negate_is : (u : Token) → is_negate u ≡ true → u ≡ Negate
negate_is Negate i = refl
negate_is _ i = cc

-- what is read inside parentheses is spelt
pub record Sound (inner : Parse) : Type 0 where
  pub spelt : (ts : List Token) (q : Query) (rest : List Token) → inner ts ≡ Some (q, rest) → (d : Disjunction) × (ts ≡ disjunction_before d rest) × (q ≡ query_of d)

module _ (inner : Parse) (inside : Sound inner) where
  base_sound : (ts : List Token) (q : Query) (rest : List Token) → base inner ts ≡ Some (q, rest) → (o : Operand) × (ts ≡ operand_before o rest) × (q ≡ operand_query o)
  unfolding base reading.group
  base_sound ts q rest h = from (begins_bounded ts) refl h
    where
      from : (b : Bool) → begins_bounded ts ≡ b → cond b (range ts) (cond (holds_at is_open ts 0) (option_and_then behind_group (inner (drop 1 ts))) None) ≡ Some (q, rest) → (o : Operand) × (ts ≡ operand_before o rest) × (q ≡ operand_query o)
      from true e k = range_sound ts q rest e k
      from false e k =
          let g = guard_parts (holds_at is_open ts 0) (option_and_then behind_group (inner (drop 1 ts))) (q, rest) k in
          let p = and_then_parts (inner (drop 1 ts)) behind_group (q, rest) g.1 in
          let s = guard_parts (holds_at is_close p.0.1 0) (Some (p.0.0, drop 1 p.0.1)) (q, rest) p.2 in
          let d = inside.spelt (drop 1 ts) p.0.0 p.0.1 p.1 in
          let same = some_pair_parts p.0.0 q (drop 1 p.0.1) rest s.1 in
          let closing : p.0.1 ≡ Close ∷ rest = cell p.0.1 0 Close (close_parts _ s.0) ∙ ap (λ us. Close ∷ us) same.1 in
          (group d.0, cell ts 0 Open (open_parts _ g.0) ∙ ap (λ us. Open ∷ us) (d.1 ∙ ap (disjunction_before d.0) closing), sym same.0 ∙ d.2)

  negated_step : (n : ℕ) (t : Token) (ts : List Token) (q : Query) (rest : List Token) → ((r : Query) → prefix_len is_negate ts ≡ n → parse_map (negated n) (base inner (drop n ts)) ≡ Some (r, rest) → (o : Operand) × (ts ≡ operand_before o rest) × (r ≡ operand_query o)) → (b : Bool) → is_negate t ≡ b → cond b (1 + prefix_len is_negate ts) 0 ≡ suc n → parse_map (negated (suc n)) (base inner (drop n ts)) ≡ Some (q, rest) → (o : Operand) × (t ∷ ts ≡ operand_before o rest) × (q ≡ operand_query o)
  negated_step n t ts q rest ih false k l h = absurd (omega arith)
  negated_step n t ts q rest ih true k l h =
      let m = map_parts (base inner (drop n ts)) (λ p. (negated (suc n) p.0, p.1)) (q, rest) h in
      let o = ih (negated n m.0.0) (omega arith) (ap (parse_map (negated n)) m.1 ∙ ap (λ r. Some (negated n m.0.0, r.1)) m.2) in
      (negation o.0, ap (λ u. u ∷ ts) (negate_is t k) ∙ ap (λ us. Negate ∷ us) o.1, sym (ap (λ r. r.0) m.2) ∙ ap query.Not o.2)

  negated_sound : (n : ℕ) (ts : List Token) (q : Query) (rest : List Token) → prefix_len is_negate ts ≡ n → parse_map (negated n) (base inner (drop n ts)) ≡ Some (q, rest) → (o : Operand) × (ts ≡ operand_before o rest) × (q ≡ operand_query o)
  negated_sound zero ts q rest e h =
      let m = map_parts (base inner ts) (λ p. (negated 0 p.0, p.1)) (q, rest) h in
      base_sound ts q rest (m.1 ∙ ap Some m.2)
  negated_sound (suc n) [] q rest e h = absurd (omega arith)
  negated_sound (suc n) (t ∷ ts) q rest e h = negated_step n t ts q rest (λ r k l. negated_sound n ts r rest k l) (is_negate t) refl e h

  unary_sound : (ts : List Token) (q : Query) (rest : List Token) → unary inner ts ≡ Some (q, rest) → (u : Unary) × (ts ≡ unary_before u rest) × (q ≡ unary_query u)
  unfolding unary reading.operand
  unary_sound ts q rest h = from (holds_at is_negate ts 0 || holds_at is_open ts 0) h
    where
      from : (b : Bool) → cond b (parse_map (negated (prefix_len is_negate ts)) (base inner (drop (prefix_len is_negate ts) ts))) (leaf ts) ≡ Some (q, rest) → (u : Unary) × (ts ≡ unary_before u rest) × (q ≡ unary_query u)
      from true k = let o = negated_sound (prefix_len is_negate ts) ts q rest refl k in (operand o.0, o.1, o.2)
      from false k = leaf_sound ts q rest k

  conjuncts_step : (n : ℕ) (ts : List Token) (qs : List Query) (rest : List Token) → ((us : List Token) (rs : List Query) (left : List Token) → separated (unary inner) is_conjoin n us ≡ Some (rs, left) → (c : Conjunction) × (us ≡ conjunction_before c left) × (rs ≡ conjuncts c)) → (q : Query) (left : List Token) (u : Unary) → ts ≡ unary_before u left → q ≡ unary_query u → (b : Bool) → holds_at is_conjoin left 0 ≡ b → cond b (parse_map (λ rs. q ∷ rs) (separated (unary inner) is_conjoin n (drop 1 left))) (Some (q ∷ [], left)) ≡ Some (qs, rest) → (c : Conjunction) × (ts ≡ conjunction_before c rest) × (qs ≡ conjuncts c)
  conjuncts_step n ts qs rest ih q left u spelt is false e k =
      let same = some_pair_parts (q ∷ []) qs left rest k in
      (alone u, spelt ∙ ap (unary_before u) same.1, sym same.0 ∙ ap (λ r. r ∷ []) is)
  conjuncts_step n ts qs rest ih q left u spelt is true e k =
      let m = map_parts (separated (unary inner) is_conjoin n (drop 1 left)) (λ r. (q ∷ r.0, r.1)) (qs, rest) k in
      let c = ih (drop 1 left) m.0.0 m.0.1 m.1 in
      let follows : left ≡ Conjoin ∷ conjunction_before c.0 rest =
      cell left 0 Conjoin (conjoin_parts _ e) ∙ ap (λ us. Conjoin ∷ us) (c.1 ∙ ap (conjunction_before c.0) (ap (λ r. r.1) m.2)) in
      (joins u c.0, spelt ∙ ap (unary_before u) follows, sym (ap (λ r. r.0) m.2) ∙ ap (λ r. r ∷ m.0.0) is ∙ ap (λ rs. unary_query u ∷ rs) c.2)

  conjuncts_sound : (n : ℕ) (ts : List Token) (qs : List Query) (rest : List Token) → separated (unary inner) is_conjoin n ts ≡ Some (qs, rest) → (c : Conjunction) × (ts ≡ conjunction_before c rest) × (qs ≡ conjuncts c)
  unfolding separated
  conjuncts_sound zero ts qs rest h = cc
  conjuncts_sound (suc n) ts qs rest h =
      let p = and_then_parts (unary inner ts) (λ r. cond (holds_at is_conjoin r.1 0) (parse_map (λ rs. r.0 ∷ rs) (separated (unary inner) is_conjoin n (drop 1 r.1))) (Some (r.0 ∷ [], r.1))) (qs, rest) h in
      let u = unary_sound ts p.0.0 p.0.1 p.1 in
      conjuncts_step n ts qs rest (λ us rs left e. conjuncts_sound n us rs left e) p.0.0 p.0.1 u.0 u.1 u.2 (holds_at is_conjoin p.0.1 0) refl p.2

  conjunction_sound : (ts : List Token) (q : Query) (rest : List Token) → reading.conjunction inner ts ≡ Some (q, rest) → (c : Conjunction) × (ts ≡ conjunction_before c rest) × (q ≡ joined query.And (conjuncts c))
  unfolding reading.conjunction
  conjunction_sound ts q rest h =
      let m = map_parts (separated (unary inner) is_conjoin (length ts) ts) (λ r. (joined query.And r.0, r.1)) (q, rest) h in
      let c = conjuncts_sound (length ts) ts m.0.0 m.0.1 m.1 in
      (c.0, c.1 ∙ ap (conjunction_before c.0) (ap (λ r. r.1) m.2), sym (ap (λ r. r.0) m.2) ∙ ap (joined query.And) c.2)

  disjuncts_step : (n : ℕ) (ts : List Token) (qs : List Query) (rest : List Token) → ((us : List Token) (rs : List Query) (left : List Token) → separated (reading.conjunction inner) is_disjoin n us ≡ Some (rs, left) → (c : Disjunction) × (us ≡ disjunction_before c left) × (rs ≡ disjuncts c)) → (q : Query) (left : List Token) (u : Conjunction) → ts ≡ conjunction_before u left → q ≡ joined query.And (conjuncts u) → (b : Bool) → holds_at is_disjoin left 0 ≡ b → cond b (parse_map (λ rs. q ∷ rs) (separated (reading.conjunction inner) is_disjoin n (drop 1 left))) (Some (q ∷ [], left)) ≡ Some (qs, rest) → (c : Disjunction) × (ts ≡ disjunction_before c rest) × (qs ≡ disjuncts c)
  disjuncts_step n ts qs rest ih q left u spelt is false e k =
      let same = some_pair_parts (q ∷ []) qs left rest k in
      (one u, spelt ∙ ap (conjunction_before u) same.1, sym same.0 ∙ ap (λ r. r ∷ []) is)
  disjuncts_step n ts qs rest ih q left u spelt is true e k =
      let m = map_parts (separated (reading.conjunction inner) is_disjoin n (drop 1 left)) (λ r. (q ∷ r.0, r.1)) (qs, rest) k in
      let c = ih (drop 1 left) m.0.0 m.0.1 m.1 in
      let follows : left ≡ Disjoin ∷ disjunction_before c.0 rest =
      cell left 0 Disjoin (disjoin_parts _ e) ∙ ap (λ us. Disjoin ∷ us) (c.1 ∙ ap (disjunction_before c.0) (ap (λ r. r.1) m.2)) in
      (more u c.0, spelt ∙ ap (conjunction_before u) follows, sym (ap (λ r. r.0) m.2) ∙ ap (λ r. r ∷ m.0.0) is ∙ ap (λ rs. joined query.And (conjuncts u) ∷ rs) c.2)

  disjuncts_sound : (n : ℕ) (ts : List Token) (qs : List Query) (rest : List Token) → separated (reading.conjunction inner) is_disjoin n ts ≡ Some (qs, rest) → (c : Disjunction) × (ts ≡ disjunction_before c rest) × (qs ≡ disjuncts c)
  unfolding separated
  disjuncts_sound zero ts qs rest h = cc
  disjuncts_sound (suc n) ts qs rest h =
      let p = and_then_parts (reading.conjunction inner ts) (λ r. cond (holds_at is_disjoin r.1 0) (parse_map (λ rs. r.0 ∷ rs) (separated (reading.conjunction inner) is_disjoin n (drop 1 r.1))) (Some (r.0 ∷ [], r.1))) (qs, rest) h in
      let u = conjunction_sound ts p.0.0 p.0.1 p.1 in
      disjuncts_step n ts qs rest (λ us rs left e. disjuncts_sound n us rs left e) p.0.0 p.0.1 u.0 u.1 u.2 (holds_at is_disjoin p.0.1 0) refl p.2

  pub disjunction_sound : Sound (reading.disjunction inner)
  unfolding reading.disjunction
  disjunction_sound = record {
    spelt = λ ts q rest h.
        let m = map_parts (separated (reading.conjunction inner) is_disjoin (length ts) ts) (λ r. (joined query.Or r.0, r.1)) (q, rest) h in
        let d = disjuncts_sound (length ts) ts m.0.0 m.0.1 m.1 in
        (d.0, d.1 ∙ ap (disjunction_before d.0) (ap (λ r. r.1) m.2), sym (ap (λ r. r.0) m.2) ∙ ap (joined query.Or) d.2);
  }

pub query_sound : (n : ℕ) → Sound (query_at n)
unfolding query_at
query_sound zero = record { spelt = λ ts q rest h. let no_query : None ≡ Some (q, rest) = h in cc }
query_sound (suc n) = record { spelt = λ ts q rest h. (disjunction_sound (query_at n) (query_sound n)).spelt ts q rest h }

-- all of the tokens, as they are read, are a sentence
pub whole_sound : (levels : ℕ) (ts : List Token) (q : Query) → whole levels ts ≡ Some q → (d : Disjunction) × (ts ≡ disjunction_before d []) × (q ≡ query_of d)
unfolding whole
whole_sound levels ts q h =
    let p = and_then_parts (query_at levels ts) if_ended q h in
    let g = guard_parts (length p.0.1 == 0) (Some p.0.0) q p.2 in
    let d = (query_sound levels).spelt ts p.0.0 p.0.1 p.1 in
    let none_left : p.0.1 ≡ [] = nil_from_length p.0.1 ((Decides-eqb (length p.0.1) 0).0 g.0) in
    (d.0, d.1 ∙ ap (disjunction_before d.0) none_left, sym (ap (λ o. unwrap_or o q) g.1) ∙ d.2)
