-- The walk over a sentence allows no more than 64 groups in one another.
use Rattle.std.proofs.Common.{◌≡◌, ℕ, ◌+◌, ◌≤◌, Bool, true, false, cond, List, [], ◌∷◌, ◌++◌, map, Option, Some, None, refl, subst, arith}
use Rattle.std.specs.Prelude.{nat_lt, unwrap_or}
use Rattle.std.proofs.lemmas.Bool.{ltb-false}
use Rattle.dw_jexl.specs.Depth.{Place, Next, Goes, Ends, run_ended, next, is_deep_then, is_deep_from}
use Rattle.dw_lucene.specs.declared.token.Token.{Token}
use Rattle.dw_lucene.specs.declared.token.Token.TheVariants.{Open, Close, Conjoin, Disjoin, Negate, To, Field, Low, High}
use Rattle.dw_lucene.specs.Levels.{level_of, is_deep}
use Rattle.dw_lucene.specs.Grammar.{Term, bare, quoted, token_of, Disjunction, one, more, Conjunction, alone, joins, Unary, negation, group, clause, range, disjunction_before, conjunction_before, unary_before}
use Rattle.dw_lucene.proofs.Complete.{nest, nest_conjunction, nest_unary}

-- the walk over tokens of this language, from a place
abbrev deep_from : Place → List Token → Bool
deep_from w ts = is_deep_from w (map level_of ts)

-- where some tokens lead the walk
abbrev led_then : Next → (Place → Option Place) → Option Place
led_then Ends follows = None
led_then (Goes w) follows = follows w

abbrev led : Place → List Token → Option Place
led w [] = Some w
led w (t ∷ ts) = led_then (next w (level_of t)) (λ v. led v ts)

not_over : (over deep : Bool) → cond over true deep ≡ false → (over ≡ false) × (deep ≡ false)
not_over true deep h = cc
not_over false deep h = (refl, h)

led_from : (n : Next) (ts rest : List Token) (v : Place) → ((u : Place) → led u ts ≡ Some v → deep_from u (ts ++ rest) ≡ false → deep_from v rest ≡ false) → led_then n (λ u. led u ts) ≡ Some v → is_deep_then n (λ u. deep_from u (ts ++ rest)) ≡ false → deep_from v rest ≡ false
led_from Ends ts rest v step e h = cc
led_from (Goes u) ts rest v step e h = step u e (not_over (nat_lt 64 (u.open_levels + u.run)) (deep_from u (ts ++ rest)) h).1

-- a walk that is allowed is allowed behind some of its tokens
led_on : (ts rest : List Token) (w v : Place) → led w ts ≡ Some v → deep_from w (ts ++ rest) ≡ false → deep_from v rest ≡ false
unfolding is_deep_from
led_on [] rest w v e h = subst (λ o. deep_from (unwrap_or o w) rest ≡ false) e h
led_on (t ∷ ts) rest w v e h = led_from (next w (level_of t)) ts rest v (λ u f g. led_on ts rest u v f g) e h

-- the levels behind a `(`
opened : (w : Place) (ts : List Token) → deep_from w (Open ∷ ts) ≡ false → w.open_levels + w.run + 1 ≤ 64
unfolding is_deep_from next
opened w ts h =
    let p = not_over (nat_lt 64 (w.open_levels + w.run + 1 + 0)) (deep_from (record { outside = w.open_levels ∷ w.outside; open_levels = w.open_levels + w.run + 1; run = 0 }) ts) h in
    let l = ltb-false 64 (w.open_levels + w.run + 1 + 0) p.0 in
    omega (arith, l)

clause_led : (w : Place) (f : List ℕ) (t : Term) → led w (Field f ∷ token_of t ∷ []) ≡ Some (run_ended w)
unfolding next
clause_led w f (bare ps) = refl
clause_led w f (quoted s) = refl

range_led : (w : Place) (f : List ℕ) (low_open high_open : Bool) (a b : Term) → led w (Field f ∷ Low low_open ∷ token_of a ∷ To ∷ token_of b ∷ High high_open ∷ []) ≡ Some (run_ended w)
unfolding next
range_led w f low_open high_open (bare ps) (bare rs) = refl
range_led w f low_open high_open (bare ps) (quoted s) = refl
range_led w f low_open high_open (quoted s) (bare ps) = refl
range_led w f low_open high_open (quoted s) (quoted r) = refl

conjoin_led : (w : Place) → led w (Conjoin ∷ []) ≡ Some (run_ended w)
unfolding next
conjoin_led w = refl

disjoin_led : (w : Place) → led w (Disjoin ∷ []) ≡ Some (run_ended w)
unfolding next
disjoin_led w = refl

negate_led : (w : Place) → led w (Negate ∷ []) ≡ Some (record { outside = w.outside; open_levels = w.open_levels; run = w.run + 1 })
unfolding next
negate_led w = refl

-- a place inside a group that begins at a place
abbrev inside : Place → Place
inside w = record { outside = w.open_levels ∷ w.outside; open_levels = w.open_levels + w.run + 1; run = 0 }

open_led : (w : Place) → led w (Open ∷ []) ≡ Some (inside w)
unfolding next
open_led w = refl

close_led : (w : Place) → led (run_ended (inside w)) (Close ∷ []) ≡ Some (run_ended w)
unfolding next
close_led w = refl

-- what an allowed walk over a part of a sentence tells, and where it goes on
record Walked (w : Place) (groups : ℕ) (rest : List Token) : Type 0 where
  within : groups + w.open_levels ≤ 64
  shallow : deep_from (run_ended w) rest ≡ false

mutual
  disjunction_walked : (d : Disjunction) (w : Place) (rest : List Token) → w.open_levels ≤ 64 → deep_from w (disjunction_before d rest) ≡ false → Walked w (nest d) rest
  disjunction_walked (one c) w rest n h = conjunction_walked c w rest n h
  disjunction_walked (more c d) w rest n h =
      let a = conjunction_walked c w (Disjoin ∷ disjunction_before d rest) n h in
      let b = disjunction_walked d (run_ended w) rest n (led_on (Disjoin ∷ []) (disjunction_before d rest) (run_ended w) (run_ended w) (disjoin_led (run_ended w)) a.shallow) in
      record { within = omega (arith, a.within, b.within); shallow = b.shallow }

  conjunction_walked : (c : Conjunction) (w : Place) (rest : List Token) → w.open_levels ≤ 64 → deep_from w (conjunction_before c rest) ≡ false → Walked w (nest_conjunction c) rest
  conjunction_walked (alone u) w rest n h = unary_walked u w rest n h
  conjunction_walked (joins u c) w rest n h =
      let a = unary_walked u w (Conjoin ∷ conjunction_before c rest) n h in
      let b = conjunction_walked c (run_ended w) rest n (led_on (Conjoin ∷ []) (conjunction_before c rest) (run_ended w) (run_ended w) (conjoin_led (run_ended w)) a.shallow) in
      record { within = omega (arith, a.within, b.within); shallow = b.shallow }

  unary_walked : (u : Unary) (w : Place) (rest : List Token) → w.open_levels ≤ 64 → deep_from w (unary_before u rest) ≡ false → Walked w (nest_unary u) rest
  unary_walked (negation u) w rest n h =
      let longer : Place = record { outside = w.outside; open_levels = w.open_levels; run = w.run + 1 } in
      let a = unary_walked u longer rest n (led_on (Negate ∷ []) (unary_before u rest) w longer (negate_led w) h) in
      record { within = a.within; shallow = a.shallow }
  unary_walked (group d) w rest n h =
      let some = opened w (disjunction_before d (Close ∷ rest)) h in
      let a = disjunction_walked d (inside w) (Close ∷ rest) some (led_on (Open ∷ []) (disjunction_before d (Close ∷ rest)) w (inside w) (open_led w) h) in
      record { within = omega (arith, a.within); shallow = led_on (Close ∷ []) rest (run_ended (inside w)) (run_ended w) (close_led w) a.shallow }
  unary_walked (clause f ok t) w rest n h =
      record { within = omega (arith, n); shallow = led_on (Field f ∷ token_of t ∷ []) rest w (run_ended w) (clause_led w f t) h }
  unary_walked (range f ok low_open a b high_open q e) w rest n h =
      record {
        within = omega (arith, n);
        shallow = led_on (Field f ∷ Low low_open ∷ token_of a ∷ To ∷ token_of b ∷ High high_open ∷ []) rest w (run_ended w) (range_led w f low_open high_open a b) h;
      }

-- a sentence that the walk allows has no more than 64 groups in one another
pub shallow_nest : (d : Disjunction) → is_deep (disjunction_before d []) ≡ false → nest d ≤ 64
shallow_nest d h = let a = disjunction_walked d (record { outside = []; open_levels = 0; run = 0 }) [] (omega arith) h in omega (arith, a.within)
