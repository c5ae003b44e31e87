-- Reading step by step.
use Rattle.std.proofs.Common.{◌≡◌, ℕ, zero, suc, ◌+◌, ◌-◌, ◌<◌, ◌≤◌, Bool, true, false, cond, List, [], ◌∷◌, ◌++◌, length, take, drop, Option, Some, None, refl, sym, ap, ◌∙◌, arith, append_assoc, length-append}
use Rattle.std.specs.Prelude.{option_and_then}
use Rattle.std.specs.List.{prefix_len}
use Rattle.std.proofs.lemmas.List.{drop-drop, take_rest, length-drop}
use Rattle.dw_jexl.specs.declared.error.QueryError.{QueryError}
use Rattle.dw_jexl.specs.declared.error.QueryError.TheVariants as error
use Rattle.dw_jexl.specs.declared.error.QueryRule.TheVariants as rule
use Rattle.dw_jexl.specs.declared.query.Query.{Query}
use Rattle.dw_jexl.specs.declared.query.Query.TheVariants as query
use Rattle.dw_jexl.specs.Grammar.{joined}
use Rattle.dw_jexl.specs.Reading.{Fails, negated}
use Rattle.dw_lucene.specs.declared.token.Token.{Token}
use Rattle.dw_lucene.specs.Tokens.{is_open, is_close, is_conjoin, is_disjoin, is_negate, holds_at}
use Rattle.dw_lucene.specs.Reading.{Parse, parse_map, behind_group, base, unary, clause, separated, conjunction, disjunction, query_at}

-- one reading fails as another that it needs
pub fails_on : {X Y : Type 0} (e : QueryError) (r : Option X) (s : Option Y) → (r ≡ None → s ≡ None) → Fails e r → Fails e s
fails_on error.OutOfMemory r s f h = tt
fails_on (error.Rule rule.TooLong) r s f h = h
fails_on (error.Rule rule.TooDeep) r s f h = h
fails_on (error.Rule rule.Syntax) r s f h = f h
fails_on (error.Rule rule.TooMany) r s f h = h
fails_on (error.Rule rule.Pattern) r s f h = h

pub holds-drop : (p : Token → Bool) (ts : List Token) (i : ℕ) → holds_at p (drop i ts) 0 ≡ holds_at p ts i
holds-drop p [] zero = refl
holds-drop p [] (suc i) = refl
holds-drop p (t ∷ ts) zero = refl
holds-drop p (t ∷ ts) (suc i) = holds-drop p ts i

pub holds_within : (p : Token → Bool) (us : List Token) (i : ℕ) → holds_at p us i ≡ true → i < length us
holds_within p [] i h = cc
holds_within p (u ∷ us) zero h = omega arith
holds_within p (u ∷ us) (suc i) h = let m = holds_within p us i h in omega (arith, m)

pub base_clause : (inner : Parse) (ts : List Token) → holds_at is_open ts 0 ≡ false → base inner ts ≡ clause ts
unfolding base
base_clause inner ts o = ap (λ b. cond b (option_and_then behind_group (inner (drop 1 ts))) (clause ts)) o

opened : (inner : Parse) (ts : List Token) → holds_at is_open ts 0 ≡ true → base inner ts ≡ option_and_then behind_group (inner (drop 1 ts))
unfolding base
opened inner ts o = ap (λ b. cond b (option_and_then behind_group (inner (drop 1 ts))) (clause ts)) o

pub base_inner_fails : (inner : Parse) (ts : List Token) → holds_at is_open ts 0 ≡ true → inner (drop 1 ts) ≡ None → base inner ts ≡ None
base_inner_fails inner ts o f = opened inner ts o ∙ ap (option_and_then behind_group) f

close_at : (ts : List Token) (used : ℕ) → holds_at is_close (drop used (drop 1 ts)) 0 ≡ holds_at is_close ts (used + 1)
close_at ts used =
    let e : 1 + used ≡ used + 1 = omega arith in
    ap (λ us. holds_at is_close us 0) (drop-drop used 1 ts) ∙ holds-drop is_close ts (1 + used) ∙ ap (holds_at is_close ts) e

pub base_not_closed : (inner : Parse) (ts : List Token) (q : Query) (used : ℕ) → holds_at is_open ts 0 ≡ true → inner (drop 1 ts) ≡ Some (q, drop used (drop 1 ts)) → holds_at is_close ts (used + 1) ≡ false → base inner ts ≡ None
base_not_closed inner ts q used o i c =
    opened inner ts o ∙ ap (option_and_then behind_group) i
    ∙ ap (λ b. cond b (Some (q, drop 1 (drop used (drop 1 ts)))) None) (close_at ts used ∙ c)

pub base_closed : (inner : Parse) (ts : List Token) (q : Query) (used : ℕ) → holds_at is_open ts 0 ≡ true → inner (drop 1 ts) ≡ Some (q, drop used (drop 1 ts)) → holds_at is_close ts (used + 1) ≡ true → base inner ts ≡ Some (q, drop (used + 2) ts)
base_closed inner ts q used o i c =
    let n : 1 + used + 1 ≡ used + 2 = omega arith in
    opened inner ts o ∙ ap (option_and_then behind_group) i
    ∙ ap (λ b. cond b (Some (q, drop 1 (drop used (drop 1 ts)))) None) (close_at ts used ∙ c)
    ∙ ap (λ us. Some (q, us)) (ap (drop 1) (drop-drop used 1 ts) ∙ drop-drop 1 (1 + used) ts ∙ ap (λ k. drop k ts) n)

unary_is : (inner : Parse) (ts : List Token) (count : ℕ) → count ≡ prefix_len is_negate ts → unary inner ts ≡ parse_map (negated count) (base inner (drop count ts))
unfolding unary
unary_is inner ts count n = ap (λ k. parse_map (negated k) (base inner (drop k ts))) (sym n)

pub unary_fails : (inner : Parse) (ts : List Token) (count : ℕ) → count ≡ prefix_len is_negate ts → base inner (drop count ts) ≡ None → unary inner ts ≡ None
unary_fails inner ts count n f = unary_is inner ts count n ∙ ap (parse_map (negated count)) f

pub unary_reads : (inner : Parse) (ts : List Token) (count used : ℕ) (q : Query) → count ≡ prefix_len is_negate ts → base inner (drop count ts) ≡ Some (q, drop used (drop count ts)) → unary inner ts ≡ Some (negated count q, drop (count + used) ts)
unary_reads inner ts count used q n f =
    unary_is inner ts count n ∙ ap (parse_map (negated count)) f ∙ ap (λ us. Some (negated count q, us)) (drop-drop used count ts)

pub at_rest : (ts : List Token) (at used : ℕ) (q : Query) (item : Parse) → item (take (length ts - at) (drop at ts)) ≡ Some (q, drop used (take (length ts - at) (drop at ts))) → item (drop at ts) ≡ Some (q, drop used (drop at ts))
at_rest ts at used q item e = ap item (sym (take_rest ts at)) ∙ e ∙ ap (λ us. Some (q, drop used us)) (take_rest ts at)

pub rest_within : (ts : List Token) (at used : ℕ) → at ≤ length ts → used ≤ length (take (length ts - at) (drop at ts)) → at + used ≤ length ts
rest_within ts at used h w =
    let e = ap length (take_rest ts at) in
    omega (arith, e, length-drop at ts)

-- the queries so far, before those that are left
abbrev pub after : List Query → Option (List Query × List Token) → Option (List Query × List Token)
after qs r = parse_map (λ rs. qs ++ rs) r

-- What a loop over items keeps: the items so far and those read from the rest are those read from all.
pub record Reads (item : Parse) (splits : Token → Bool) (ts : List Token) (qs : List Query) (at : ℕ) : Type 0 where
  pub within : at ≤ length ts
  pub few : length qs ≤ at
  pub so_far : after qs (separated item splits (length ts - length qs) (drop at ts)) ≡ separated item splits (length ts) ts

after-nil : (r : Option (List Query × List Token)) → after [] r ≡ r
after-nil None = refl
after-nil (Some p) = refl

pub reads_none : (item : Parse) (splits : Token → Bool) (ts : List Token) → Reads item splits ts [] 0
reads_none item splits ts =
    let e : length ts - 0 ≡ length ts = omega arith in
    record {
      within = omega arith;
      few = omega arith;
      so_far = ap (λ n. after [] (separated item splits n ts)) e ∙ after-nil (separated item splits (length ts) ts);
    }

-- no item where none is read
separated_fails : (item : Parse) (splits : Token → Bool) (n : ℕ) (ts : List Token) → item ts ≡ None → separated item splits n ts ≡ None
unfolding separated
separated_fails item splits zero ts e = refl
separated_fails item splits (suc n) ts e = ap (option_and_then (λ p. cond (holds_at splits p.1 0) (parse_map (λ qs. p.0 ∷ qs) (separated item splits n (drop 1 p.1))) (Some (p.0 ∷ [], p.1)))) e

separated_reads : (item : Parse) (splits : Token → Bool) (n : ℕ) (ts rest : List Token) (q : Query) → item ts ≡ Some (q, rest) → separated item splits (suc n) ts ≡ cond (holds_at splits rest 0) (parse_map (λ qs. q ∷ qs) (separated item splits n (drop 1 rest))) (Some (q ∷ [], rest))
unfolding separated
separated_reads item splits n ts rest q e = ap (option_and_then (λ p. cond (holds_at splits p.1 0) (parse_map (λ qs. p.0 ∷ qs) (separated item splits n (drop 1 p.1))) (Some (p.0 ∷ [], p.1)))) e

pub reads_fails : (item : Parse) (splits : Token → Bool) (ts : List Token) (qs : List Query) (at : ℕ) → Reads item splits ts qs at → item (drop at ts) ≡ None → separated item splits (length ts) ts ≡ None
reads_fails item splits ts qs at r e =
    sym r.so_far ∙ ap (after qs) (separated_fails item splits (length ts - length qs) (drop at ts) e)

module _ (item : Parse) (splits : Token → Bool) (ts : List Token) (qs : List Query) (at used : ℕ) (q : Query) (r : Reads item splits ts qs at) (e : item (drop at ts) ≡ Some (q, drop used (drop at ts))) (some : 0 < used) (within : at + used ≤ length ts) where
  turn : after qs (cond (holds_at splits ts (at + used)) (parse_map (λ rs. q ∷ rs) (separated item splits (length ts - length qs - 1) (drop 1 (drop (at + used) ts)))) (Some (q ∷ [], drop (at + used) ts))) ≡ separated item splits (length ts) ts
  turn =
      let few : length qs ≤ at = r.few in
      let n : length ts - length qs ≡ suc (length ts - length qs - 1) = omega arith in
      let left : drop used (drop at ts) ≡ drop (at + used) ts = drop-drop used at ts in
      let k = length ts - length qs - 1 in
      sym (ap (λ us. after qs (cond (holds_at splits us 0) (parse_map (λ rs. q ∷ rs) (separated item splits k (drop 1 us))) (Some (q ∷ [], us)))) left
      ∙ ap (λ b. after qs (cond b (parse_map (λ rs. q ∷ rs) (separated item splits k (drop 1 (drop (at + used) ts)))) (Some (q ∷ [], drop (at + used) ts)))) (holds-drop splits ts (at + used)))
      ∙ sym (ap (after qs) (ap (λ m. separated item splits m (drop at ts)) n ∙ separated_reads item splits k (drop at ts) (drop used (drop at ts)) q e))
      ∙ r.so_far

  pub reads_last : holds_at splits ts (at + used) ≡ false → separated item splits (length ts) ts ≡ Some (qs ++ q ∷ [], drop (at + used) ts)
  reads_last ends =
      sym (sym (ap (λ b. after qs (cond b (parse_map (λ rs. q ∷ rs) (separated item splits (length ts - length qs - 1) (drop 1 (drop (at + used) ts)))) (Some (q ∷ [], drop (at + used) ts)))) ends)
      ∙ turn)

  pub reads_more : holds_at splits ts (at + used) ≡ true → Reads item splits ts (qs ++ q ∷ []) (at + used + 1)
  reads_more goes =
      let few : length qs ≤ at = r.few in
      let l : length (qs ++ q ∷ []) ≡ length qs + 1 = length-append qs (q ∷ []) in
      let n : length ts - length (qs ++ q ∷ []) ≡ length ts - length qs - 1 = omega arith in
      record {
        within = omega (arith, holds_within splits ts (at + used) goes);
        few = omega arith;
        so_far =
            ap (λ m. after (qs ++ q ∷ []) (separated item splits m (drop (at + used + 1) ts))) n
            ∙ after-more (separated item splits (length ts - length qs - 1) (drop (at + used + 1) ts))
            ∙ ap (λ us. after qs (parse_map (λ rs. q ∷ rs) (separated item splits (length ts - length qs - 1) us))) (sym (drop-drop 1 (at + used) ts))
            ∙ sym (ap (λ b. after qs (cond b (parse_map (λ rs. q ∷ rs) (separated item splits (length ts - length qs - 1) (drop 1 (drop (at + used) ts)))) (Some (q ∷ [], drop (at + used) ts)))) goes)
            ∙ turn;
      }
    where
      after-more : (x : Option (List Query × List Token)) → after (qs ++ q ∷ []) x ≡ after qs (parse_map (λ rs. q ∷ rs) x)
      after-more None = refl
      after-more (Some p) = ap (λ rs. Some (rs, p.1)) (append_assoc qs (q ∷ []) p.0)

module _ (inner : Parse) (ts : List Token) (qs : List Query) (at : ℕ) (r : Reads (unary inner) is_conjoin ts qs at) where
  pub conjunction_fails : unary inner (take (length ts - at) (drop at ts)) ≡ None → conjunction inner ts ≡ None
  unfolding conjunction
  conjunction_fails e =
      ap (parse_map (joined query.And)) (reads_fails (unary inner) is_conjoin ts qs at r (ap (unary inner) (sym (take_rest ts at)) ∙ e))

  pub conjunction_ends : (q : Query) (used : ℕ) → unary inner (take (length ts - at) (drop at ts)) ≡ Some (q, drop used (take (length ts - at) (drop at ts))) → (0 < used) × (used ≤ length (take (length ts - at) (drop at ts))) → holds_at is_conjoin ts (at + used) ≡ false → conjunction inner ts ≡ Some (joined query.And (qs ++ q ∷ []), drop (at + used) ts)
  unfolding conjunction
  conjunction_ends q used e w no_more =
      ap (parse_map (joined query.And)) (reads_last (unary inner) is_conjoin ts qs at used q r (at_rest ts at used q (unary inner) e) w.0 (rest_within ts at used r.within w.1) no_more)

  pub conjunction_more : (q : Query) (used : ℕ) → unary inner (take (length ts - at) (drop at ts)) ≡ Some (q, drop used (take (length ts - at) (drop at ts))) → (0 < used) × (used ≤ length (take (length ts - at) (drop at ts))) → holds_at is_conjoin ts (at + used) ≡ true → Reads (unary inner) is_conjoin ts (qs ++ q ∷ []) (at + used + 1)
  conjunction_more q used e w goes =
      reads_more (unary inner) is_conjoin ts qs at used q r (at_rest ts at used q (unary inner) e) w.0 (rest_within ts at used r.within w.1) goes

query_step : (n : ℕ) (ts : List Token) → 0 < n → query_at n ts ≡ disjunction (query_at (n - 1)) ts
unfolding query_at
query_step zero ts h = absurd (omega arith)
query_step (suc n) ts h = let e : suc n - 1 ≡ n = omega arith in ap (λ k. disjunction (query_at k) ts) (sym e)

pub no_query : (n : ℕ) (ts : List Token) → n ≡ 0 → query_at n ts ≡ None
unfolding query_at
no_query zero ts h = refl
no_query (suc n) ts h = absurd (omega arith)

module _ (n : ℕ) (some_levels : 0 < n) (ts : List Token) (qs : List Query) (at : ℕ) (r : Reads (conjunction (query_at (n - 1))) is_disjoin ts qs at) where
  pub disjunction_fails : conjunction (query_at (n - 1)) (take (length ts - at) (drop at ts)) ≡ None → query_at n ts ≡ None
  unfolding disjunction
  disjunction_fails e =
      query_step n ts some_levels ∙ ap (parse_map (joined query.Or)) (reads_fails (conjunction (query_at (n - 1))) is_disjoin ts qs at r (ap (conjunction (query_at (n - 1))) (sym (take_rest ts at)) ∙ e))

  pub disjunction_ends : (q : Query) (used : ℕ) → conjunction (query_at (n - 1)) (take (length ts - at) (drop at ts)) ≡ Some (q, drop used (take (length ts - at) (drop at ts))) → (0 < used) × (used ≤ length (take (length ts - at) (drop at ts))) → holds_at is_disjoin ts (at + used) ≡ false → query_at n ts ≡ Some (joined query.Or (qs ++ q ∷ []), drop (at + used) ts)
  unfolding disjunction
  disjunction_ends q used e w no_more =
      query_step n ts some_levels ∙ ap (parse_map (joined query.Or)) (reads_last (conjunction (query_at (n - 1))) is_disjoin ts qs at used q r (at_rest ts at used q (conjunction (query_at (n - 1))) e) w.0 (rest_within ts at used r.within w.1) no_more)

  pub disjunction_more : (q : Query) (used : ℕ) → conjunction (query_at (n - 1)) (take (length ts - at) (drop at ts)) ≡ Some (q, drop used (take (length ts - at) (drop at ts))) → (0 < used) × (used ≤ length (take (length ts - at) (drop at ts))) → holds_at is_disjoin ts (at + used) ≡ true → Reads (conjunction (query_at (n - 1))) is_disjoin ts (qs ++ q ∷ []) (at + used + 1)
  disjunction_more q used e w goes =
      reads_more (conjunction (query_at (n - 1))) is_disjoin ts qs at used q r (at_rest ts at used q (conjunction (query_at (n - 1))) e) w.0 (rest_within ts at used r.within w.1) goes
