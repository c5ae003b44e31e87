-- Where a reader stands, seen as a place of the walk that finds the depth.
use Rattle.std.proofs.Common.{◌≡◌, ℕ, ◌+◌, ◌-◌, ◌<◌, Bool, true, false, cond, nat_lt, ◌==◌, List, [], ◌∷◌, ◌++◌, length, refl, sym, ap, ◌∙◌, arith, subst}
use Rattle.std.specs.Prelude.{Option}
use Rattle.std.proofs.lemmas.Bool.Decides.{Decides-eqb, Decides-ltb}
use Rattle.std.proofs.lemmas.Grind.{common_steps}
use Rattle.dw_vis.specs.declared.reading.Sign.TheVariants.{All, Any}
use Rattle.dw_vis.specs.declared.depth.Walk.{Walk}
use Rattle.dw_vis.specs.declared.depth.Quotes.{Quotes}
use Rattle.dw_vis.specs.declared.depth.Quotes.TheVariants.{Outside, Inside, Escaped}
use Rattle.dw_vis.specs.declared.depth.Step.{Step}
use Rattle.dw_vis.specs.declared.depth.Step.TheVariants.{Deep, Ended}
use Rattle.dw_vis.specs.Grammar.{is_bare, needs_escape}
use Rattle.dw_vis.specs.Depth.{next_outside, next_inside, next, next_by, walk_on, is_deep_then}
use Rattle.dw_vis.specs.Reading.{Meaning, Level, Before, start, joined, Place, at_one, in_bare, in_quotes, in_escape, behind, State, Next, goes, fails, goes_to, one_step, behind_step, bare_step, end_quotes, quotes_step, escape_step, close_level, term_level, step_at, step}

abbrev pub quotes_of : {V : Type 0} → Place V → Quotes
quotes_of (at_one before) = Outside
quotes_of (in_bare before name) = Outside
quotes_of (in_quotes before name) = Inside
quotes_of (in_escape before name) = Escaped
quotes_of (behind l) = Outside

abbrev pub walk_of : {V : Type 0} → State V → Walk
walk_of st = record { quotes = quotes_of st.place; levels = length st.outside }

-- where a byte leads a reader, it leads the walk, if that is not deep there
abbrev pub Follows : {V : Type 0} → Next V → Step → Type 0
Follows (goes st) s = (follows : Walk → Bool) → is_deep_then s follows ≡ false → follows (walk_of st) ≡ false
Follows fails s = Unit {0}

pub byte_is : (b n : ℕ) → (b == n) ≡ true → b ≡ n
byte_is b n h = (Decides-eqb b n).0 h

-- a byte that is one is not another
not_both : (b n k : ℕ) → (n == k) ≡ false → (b == n) ≡ true → (b == k) ≡ false
not_both b n k other h = ap (λ c. c == k) (byte_is b n h) ∙ other

-- a byte of a bare term is none that is no such byte
pub bare_not : (b n : ℕ) → is_bare n ≡ false → is_bare b ≡ true → (b == n) ≡ false
bare_not b n other h = by_test (b == n) refl
  where
    by_test : (p : Bool) → (b == n) ≡ p → p ≡ false
    by_test true e = let impossible : true ≡ false = sym h ∙ ap is_bare (byte_is b n e) ∙ other in cc
    by_test false e = refl

pub not_bare : (b n : ℕ) → is_bare n ≡ false → (b == n) ≡ true → is_bare b ≡ false
not_bare b n other h = ap is_bare (byte_is b n h) ∙ other

stays : (n b : ℕ) → (b == 34) ≡ false → (b == 40) ≡ false → (b == 41) ≡ false → next_outside n b ≡ walk_on Outside n
unfolding next_outside
stays n b e f g =
    ap (λ p. cond p (walk_on Inside n) (cond (b == 40) (cond (nat_lt n 32) (walk_on Outside (n + 1)) Deep) (cond (b == 41) (cond (n == 0) Ended (walk_on Outside (n - 1))) (walk_on Outside n)))) e
    ∙ ap (λ p. cond p (cond (nat_lt n 32) (walk_on Outside (n + 1)) Deep) (cond (b == 41) (cond (n == 0) Ended (walk_on Outside (n - 1))) (walk_on Outside n))) f
    ∙ ap (λ p. cond p (cond (n == 0) Ended (walk_on Outside (n - 1))) (walk_on Outside n)) g

closes : (n b : ℕ) → (b == 41) ≡ true → next_outside n b ≡ cond (n == 0) Ended (walk_on Outside (n - 1))
unfolding next_outside
closes n b h = ap (next_outside n) (byte_is b 41 h)

opens : (n b : ℕ) → (b == 40) ≡ true → next_outside n b ≡ cond (nat_lt n 32) (walk_on Outside (n + 1)) Deep
unfolding next_outside
opens n b h = ap (next_outside n) (byte_is b 40 h)

quotes : (n b : ℕ) → (b == 34) ≡ true → next_outside n b ≡ walk_on Inside n
unfolding next_outside
quotes n b h = ap (next_outside n) (byte_is b 34 h)

module _ {V : Type 0} (m : Meaning V) (outside : List (Before V)) where
  one_follows : (before : Before V) (b : ℕ) → Follows (one_step outside before b) (next_outside (length outside) b)
  unfolding one_step is_bare
  one_follows before b = at_open (b == 40) refl
    where
      at_bare : (p : Bool) → is_bare b ≡ p → Follows (cond p (goes_to outside (in_bare before (b ∷ []))) fails) (next_outside (length outside) b)
      at_bare true e = subst (λ s. Follows (goes_to outside (in_bare before (b ∷ []))) s) (sym (stays (length outside) b (bare_not b 34 refl e) (bare_not b 40 refl e) (bare_not b 41 refl e))) (λ f h. h)
      at_bare false e = tt

      at_quote : (p : Bool) → (b == 34) ≡ p → Follows (cond p (goes_to outside (in_quotes before [])) (cond (is_bare b) (goes_to outside (in_bare before (b ∷ []))) fails)) (next_outside (length outside) b)
      at_quote true e = subst (λ s. Follows (goes_to outside (in_quotes before [])) s) (sym (quotes (length outside) b e)) (λ f h. h)
      at_quote false e = at_bare (is_bare b) refl

      deeper : (p : Bool) → Follows (goes_to (before ∷ outside) (at_one start)) (cond p (walk_on Outside (length outside + 1)) Deep)
      deeper true = λ f h. let e : length outside + 1 ≡ length (before ∷ outside) = omega arith in subst (λ n. f (record { quotes = Outside; levels = n }) ≡ false) e h
      deeper false = λ f h. absurd (let impossible : true ≡ false = h in cc)

      at_open : (p : Bool) → (b == 40) ≡ p → Follows (cond p (goes_to (before ∷ outside) (at_one start)) (cond (b == 34) (goes_to outside (in_quotes before [])) (cond (is_bare b) (goes_to outside (in_bare before (b ∷ []))) fails))) (next_outside (length outside) b)
      at_open true e = subst (λ s. Follows (goes_to (before ∷ outside) (at_one start)) s) (sym (opens (length outside) b e)) (deeper (nat_lt (length outside) 32))
      at_open false e = at_quote (b == 34) refl

closed_follows : {V : Type 0} (m : Meaning V) (outside : List (Before V)) (w : Option V) → Follows (close_level m outside w) (cond (length outside == 0) Ended (walk_on Outside (length outside - 1)))
closed_follows m [] w = tt
closed_follows m (before ∷ outside) w =
    let some : (length (before ∷ outside) == 0) ≡ false = grind (arith, common_steps) in
    let e : length (before ∷ outside) - 1 ≡ length outside = omega arith in
    subst (λ p. Follows (close_level m (before ∷ outside) w) (cond p Ended (walk_on Outside (length (before ∷ outside) - 1)))) (sym some)
    (λ f h. subst (λ n. f (record { quotes = Outside; levels = n }) ≡ false) e h)

module _ {V : Type 0} (m : Meaning V) (outside : List (Before V)) where
  behind_follows : (l : Level V) (b : ℕ) → Follows (behind_step m outside l b) (next_outside (length outside) b)
  behind_follows l b = at_all (b == 38) refl
    where
      at_close : (p : Bool) → (b == 41) ≡ p → Follows (cond p (close_level m outside l.worth) fails) (next_outside (length outside) b)
      at_close true e = subst (λ s. Follows (close_level m outside l.worth) s) (sym (closes (length outside) b e)) (closed_follows m outside l.worth)
      at_close false e = tt

      at_any : (p : Bool) → (b == 124) ≡ p → Follows (cond p (goes_to outside (at_one (joined l Any))) (cond (b == 41) (close_level m outside l.worth) fails)) (next_outside (length outside) b)
      at_any true e = subst (λ s. Follows (goes_to outside (at_one (joined l Any))) s) (sym (stays (length outside) b (not_both b 124 34 refl e) (not_both b 124 40 refl e) (not_both b 124 41 refl e))) (λ f h. h)
      at_any false e = at_close (b == 41) refl

      at_all : (p : Bool) → (b == 38) ≡ p → Follows (cond p (goes_to outside (at_one (joined l All))) (cond (b == 124) (goes_to outside (at_one (joined l Any))) (cond (b == 41) (close_level m outside l.worth) fails))) (next_outside (length outside) b)
      at_all true e = subst (λ s. Follows (goes_to outside (at_one (joined l All))) s) (sym (stays (length outside) b (not_both b 38 34 refl e) (not_both b 38 40 refl e) (not_both b 38 41 refl e))) (λ f h. h)
      at_all false e = at_any (b == 124) refl

  bare_follows : (before : Before V) (name : List ℕ) (b : ℕ) → Follows (bare_step m outside before name b) (next_outside (length outside) b)
  unfolding bare_step is_bare
  bare_follows before name b = at_bare (is_bare b) refl
    where
      at_bare : (p : Bool) → is_bare b ≡ p → Follows (cond p (goes_to outside (in_bare before (name ++ b ∷ []))) (behind_step m outside (term_level m before name) b)) (next_outside (length outside) b)
      at_bare true e = subst (λ s. Follows (goes_to outside (in_bare before (name ++ b ∷ []))) s) (sym (stays (length outside) b (bare_not b 34 refl e) (bare_not b 40 refl e) (bare_not b 41 refl e))) (λ f h. h)
      at_bare false e = behind_follows (term_level m before name) b

  end_follows : (before : Before V) (name : List ℕ) → Follows (end_quotes m outside before name) (walk_on Outside (length outside))
  end_follows before [] = tt
  end_follows before (c ∷ cs) = λ f h. h

  quotes_follows : (before : Before V) (name : List ℕ) (b : ℕ) → Follows (quotes_step m outside before name b) (next_inside (length outside) b)
  unfolding quotes_step next_inside
  quotes_follows before name b = by_tests (b == 34) (b == 92)
    where
      by_tests : (p q : Bool) → Follows (cond p (end_quotes m outside before name) (cond q (goes_to outside (in_escape before name)) (goes_to outside (in_quotes before (name ++ b ∷ []))))) (cond p (walk_on Outside (length outside)) (cond q (walk_on Escaped (length outside)) (walk_on Inside (length outside))))
      by_tests true q = end_follows before name
      by_tests false true = λ f h. h
      by_tests false false = λ f h. h

  escape_follows : (before : Before V) (name : List ℕ) (b : ℕ) → Follows (escape_step outside before name b) (walk_on Inside (length outside))
  unfolding escape_step
  escape_follows before name b = by_test (needs_escape b)
    where
      by_test : (p : Bool) → Follows (cond p (goes_to outside (in_quotes before (name ++ b ∷ []))) fails) (walk_on Inside (length outside))
      by_test true = λ f h. h
      by_test false = tt

  place_follows : (place : Place V) (b : ℕ) → Follows (step_at m outside place b) (next_by (quotes_of place) (length outside) b)
  place_follows (at_one before) b = one_follows m outside before b
  place_follows (in_bare before name) b = bare_follows before name b
  place_follows (in_quotes before name) b = quotes_follows before name b
  place_follows (in_escape before name) b = escape_follows before name b
  place_follows (behind l) b = behind_follows l b

-- a reader that goes on is at a place of the walk
pub step_follows : {V : Type 0} (m : Meaning V) (st : State V) (b : ℕ) → Follows (step m st b) (next (walk_of st) b)
step_follows m st b = place_follows m st.outside st.place b

-- where the walk is not deep behind a `(`, fewer than 32 are open before it
pub open_room : (n b : ℕ) (follows : Walk → Bool) → b ≡ 40 → is_deep_then (next_outside n b) follows ≡ false → n < 32
unfolding next_outside
open_room n b follows e h = by_test (nat_lt n 32) refl
  where
    at_open : is_deep_then (cond (nat_lt n 32) (walk_on Outside (n + 1)) Deep) follows ≡ false
    at_open = sym (ap (λ c. is_deep_then (next_outside n c) follows) e) ∙ h

    by_test : (p : Bool) → nat_lt n 32 ≡ p → n < 32
    by_test true f = (Decides-ltb n 32).0 f
    by_test false f = absurd (let impossible : true ≡ false = sym (ap (λ p. is_deep_then (cond p (walk_on Outside (n + 1)) Deep) follows) f) ∙ at_open in cc)
