-- What is read is spelt: each state of a reader is that of a sentence up to some place.
use Rattle.std.proofs.Common.{◌≡◌, ℕ, Bool, true, false, cond, ◌==◌, List, [], ◌∷◌, ◌++◌, map, Option, Some, None, refl, sym, ap, ◌∙◌, subst, append_assoc}
use Rattle.std.specs.Prelude.{◌&&◌, ◌||◌}
use Rattle.std.specs.List.{list_all}
use Rattle.dw_vis.specs.declared.reading.Sign.{Sign}
use Rattle.dw_vis.specs.declared.reading.Sign.TheVariants.{All, Any}
use Rattle.dw_vis.specs.Grammar.{is_bare, needs_escape, escaped_before, bare, quoted, is_bare_name, sign_byte}
use Rattle.dw_vis.specs.Mixing.{Mix, mix_alone, mix_joined, mix_before, MixOne, mix_term, mix_group, mix_one_before}
use Rattle.dw_vis.specs.Reading.{Meaning, Level, Before, start, joined, Place, at_one, in_bare, in_quotes, in_escape, behind, State, Next, goes, fails, goes_to, Outcome, refused, mixes, reads, outcome_of, outcome_then, one_step, behind_step, bare_step, end_quotes, quotes_step, escape_step, close_level, level_with, term_level, step, read_from, first_state, ended}
use Rattle.dw_vis.proofs.Places.{byte_is}
use Rattle.dw_vis.proofs.Levels.{mix_level, mix_one_worth}

-- what stands before a one at its level
data Left : Type 0 where
  at_start : Left
  behind_sign : Mix → Sign → Left

-- where a reader stands
data Spot : Type 0 where
  one_due : Left → Spot
  bare_so_far : Left → (name : List ℕ) → is_bare_name name ≡ true → Spot
  quotes_so_far : Left → List ℕ → Spot
  escape_so_far : Left → List ℕ → Spot
  done : Mix → Spot

-- the text up to there, before the text that follows it
abbrev left_text : Left → List ℕ → List ℕ
left_text at_start rest = rest
left_text (behind_sign x s) rest = mix_before x (sign_byte s ∷ rest)

abbrev spot_text : Spot → List ℕ → List ℕ
spot_text (one_due l) rest = left_text l rest
spot_text (bare_so_far l name ok) rest = left_text l (name ++ rest)
spot_text (quotes_so_far l name) rest = left_text l (34 ∷ escaped_before name rest)
spot_text (escape_so_far l name) rest = left_text l (34 ∷ escaped_before name (92 ∷ rest))
spot_text (done x) rest = mix_before x rest

abbrev outside_text : List Left → List ℕ → List ℕ
outside_text [] rest = rest
outside_text (l ∷ ls) rest = outside_text ls (left_text l (40 ∷ rest))

abbrev text_to : List Left → Spot → List ℕ → List ℕ
text_to outside spot rest = outside_text outside (spot_text spot rest)

-- one more behind what stands before it
abbrev mix_with : Left → MixOne → Mix
mix_with at_start o = mix_alone o
mix_with (behind_sign x s) o = mix_joined x s o

with-text : (l : Left) (o : MixOne) (rest : List ℕ) → left_text l (mix_one_before o rest) ≡ mix_before (mix_with l o) rest
with-text at_start o rest = refl
with-text (behind_sign x s) o rest = refl

-- a name with one more byte
escaped-more : (name : List ℕ) (b : ℕ) (rest : List ℕ) → escaped_before (name ++ b ∷ []) rest ≡ escaped_before name (escaped_before (b ∷ []) rest)
escaped-more [] b rest = refl
escaped-more (c ∷ cs) b rest = ap (λ more. cond (needs_escape c) (92 ∷ c ∷ more) (c ∷ more)) (escaped-more cs b rest)

all_more : (name : List ℕ) (b : ℕ) → list_all is_bare name ≡ true → is_bare b ≡ true → list_all is_bare (name ++ b ∷ []) ≡ true
all_more [] b h e = ap (λ p. p && true) e
all_more (c ∷ cs) b h e = parts (is_bare c) (list_all is_bare cs) h (all_more cs b)
  where
    parts : (p q : Bool) → (p && q) ≡ true → (q ≡ true → is_bare b ≡ true → list_all is_bare (cs ++ b ∷ []) ≡ true) → (p && list_all is_bare (cs ++ b ∷ [])) ≡ true
    parts true q g more = more g e
    parts false q g more = cc

bare_more : (name : List ℕ) (b : ℕ) → is_bare_name name ≡ true → is_bare b ≡ true → is_bare_name (name ++ b ∷ []) ≡ true
bare_more [] b h e = cc
bare_more (c ∷ cs) b h e = all_more (c ∷ cs) b h e

module _ {V : Type 0} (m : Meaning V) where
  abbrev before_left : Left → Before V
  before_left at_start = start
  before_left (behind_sign x s) = joined (mix_level m x) s

  abbrev place_at : Spot → Place V
  place_at (one_due l) = at_one (before_left l)
  place_at (bare_so_far l name ok) = in_bare (before_left l) name
  place_at (quotes_so_far l name) = in_quotes (before_left l) name
  place_at (escape_so_far l name) = in_escape (before_left l) name
  place_at (done x) = behind (mix_level m x)

  abbrev state_to : List Left → Spot → State V
  state_to outside spot = record { outside = map before_left outside; place = place_at spot }

  level-with : (l : Left) (o : MixOne) → level_with m (before_left l) (mix_one_worth m o) ≡ mix_level m (mix_with l o)
  level-with at_start o = refl
  level-with (behind_sign x s) o = refl

  -- a byte leads to the state behind it
  abbrev Grown : List Left → Spot → ℕ → Next V → Type 0
  Grown outside spot b (goes st) = (ls : List Left) × (to : Spot) × (state_to ls to ≡ st) × ((rest : List ℕ) → text_to outside spot (b ∷ rest) ≡ text_to ls to rest)
  Grown outside spot b fails = Unit {0}

  one_grown : (outside : List Left) (l : Left) (b : ℕ) → Grown outside (one_due l) b (one_step (map before_left outside) (before_left l) b)
  unfolding one_step
  one_grown outside l b = at_open (b == 40) refl
    where
      at_bare : (p : Bool) → is_bare b ≡ p → Grown outside (one_due l) b (cond p (goes_to (map before_left outside) (in_bare (before_left l) (b ∷ []))) fails)
      at_bare true e = (outside, bare_so_far l (b ∷ []) (ap (λ q. q && true) e), refl, λ rest. refl)
      at_bare false e = tt

      at_quote : (p : Bool) → (b == 34) ≡ p → Grown outside (one_due l) b (cond p (goes_to (map before_left outside) (in_quotes (before_left l) [])) (cond (is_bare b) (goes_to (map before_left outside) (in_bare (before_left l) (b ∷ []))) fails))
      at_quote true e = (outside, quotes_so_far l [], refl, λ rest. ap (λ c. outside_text outside (left_text l (c ∷ rest))) (byte_is b 34 e))
      at_quote false e = at_bare (is_bare b) refl

      at_open : (p : Bool) → (b == 40) ≡ p → Grown outside (one_due l) b (cond p (goes_to (before_left l ∷ map before_left outside) (at_one start)) (cond (b == 34) (goes_to (map before_left outside) (in_quotes (before_left l) [])) (cond (is_bare b) (goes_to (map before_left outside) (in_bare (before_left l) (b ∷ []))) fails)))
      at_open true e = (l ∷ outside, one_due at_start, refl, λ rest. ap (λ c. outside_text outside (left_text l (c ∷ rest))) (byte_is b 40 e))
      at_open false e = at_quote (b == 34) refl

  closed_grown : (outside : List Left) (x : Mix) (b : ℕ) → b ≡ 41 → Grown outside (done x) b (close_level m (map before_left outside) (mix_level m x).worth)
  closed_grown [] x b e = tt
  closed_grown (l ∷ ls) x b e = (
    ls,
    done (mix_with l (mix_group x)),
    ap (λ k. record { outside = map before_left ls; place = behind k }) (sym (level-with l (mix_group x))),
    λ rest. ap (λ c. outside_text ls (left_text l (40 ∷ mix_before x (c ∷ rest)))) e ∙ ap (outside_text ls) (with-text l (mix_group x) rest),
  )

  behind_grown : (outside : List Left) (x : Mix) (b : ℕ) → Grown outside (done x) b (behind_step m (map before_left outside) (mix_level m x) b)
  behind_grown outside x b = at_all (b == 38) refl
    where
      k : Level V
      k = mix_level m x

      at_close : (p : Bool) → (b == 41) ≡ p → Grown outside (done x) b (cond p (close_level m (map before_left outside) k.worth) fails)
      at_close true e = closed_grown outside x b (byte_is b 41 e)
      at_close false e = tt

      at_any : (p : Bool) → (b == 124) ≡ p → Grown outside (done x) b (cond p (goes_to (map before_left outside) (at_one (joined k Any))) (cond (b == 41) (close_level m (map before_left outside) k.worth) fails))
      at_any true e = (outside, one_due (behind_sign x Any), refl, λ rest. ap (λ c. outside_text outside (mix_before x (c ∷ rest))) (byte_is b 124 e))
      at_any false e = at_close (b == 41) refl

      at_all : (p : Bool) → (b == 38) ≡ p → Grown outside (done x) b (cond p (goes_to (map before_left outside) (at_one (joined k All))) (cond (b == 124) (goes_to (map before_left outside) (at_one (joined k Any))) (cond (b == 41) (close_level m (map before_left outside) k.worth) fails)))
      at_all true e = (outside, one_due (behind_sign x All), refl, λ rest. ap (λ c. outside_text outside (mix_before x (c ∷ rest))) (byte_is b 38 e))
      at_all false e = at_any (b == 124) refl

  -- what grows from a spot grows from another of the same text
  grown_from : (outside : List Left) (spot from : Spot) (b : ℕ) (n : Next V) → ((rest : List ℕ) → spot_text spot rest ≡ spot_text from rest) → Grown outside from b n → Grown outside spot b n
  grown_from outside spot from b (goes st) same g = (g.0, g.1, g.2, λ rest. ap (outside_text outside) (same (b ∷ rest)) ∙ g.3 rest)
  grown_from outside spot from b fails same g = tt

  bare_grown : (outside : List Left) (l : Left) (name : List ℕ) (ok : is_bare_name name ≡ true) (b : ℕ) → Grown outside (bare_so_far l name ok) b (bare_step m (map before_left outside) (before_left l) name b)
  unfolding bare_step
  bare_grown outside l name ok b = by_test (is_bare b) refl
    where
      x : Mix
      x = mix_with l (mix_term (bare name ok))

      by_test : (p : Bool) → is_bare b ≡ p → Grown outside (bare_so_far l name ok) b (cond p (goes_to (map before_left outside) (in_bare (before_left l) (name ++ b ∷ []))) (behind_step m (map before_left outside) (term_level m (before_left l) name) b))
      by_test true e = (
        outside,
        bare_so_far l (name ++ b ∷ []) (bare_more name b ok e),
        refl,
        λ rest. ap (λ t. outside_text outside (left_text l t)) (sym (append_assoc name (b ∷ []) rest)),
      )
      by_test false e =
          grown_from outside (bare_so_far l name ok) (done x) b (behind_step m (map before_left outside) (term_level m (before_left l) name) b) (λ rest. with-text l (mix_term (bare name ok)) rest)
          (subst (λ k. Grown outside (done x) b (behind_step m (map before_left outside) k b)) (sym (level-with l (mix_term (bare name ok)))) (behind_grown outside x b))

  ended_quotes : (outside : List Left) (l : Left) (name : List ℕ) (b : ℕ) → b ≡ 34 → Grown outside (quotes_so_far l name) b (end_quotes m (map before_left outside) (before_left l) name)
  ended_quotes outside l [] b e = tt
  ended_quotes outside l (c ∷ cs) b e = (
    outside,
    done (mix_with l (mix_term (quoted c cs))),
    ap (λ k. record { outside = map before_left outside; place = behind k }) (sym (level-with l (mix_term (quoted c cs)))),
    λ rest. ap (λ d. outside_text outside (left_text l (34 ∷ escaped_before (c ∷ cs) (d ∷ rest)))) e ∙ ap (outside_text outside) (with-text l (mix_term (quoted c cs)) rest),
  )

  quotes_grown : (outside : List Left) (l : Left) (name : List ℕ) (b : ℕ) → Grown outside (quotes_so_far l name) b (quotes_step m (map before_left outside) (before_left l) name b)
  unfolding quotes_step needs_escape
  quotes_grown outside l name b = at_end (b == 34) refl
    where
      plain : (b == 34) ≡ false → (b == 92) ≡ false → (rest : List ℕ) → escaped_before (b ∷ []) rest ≡ b ∷ rest
      plain e f rest =
          ap (λ p. cond (p || b == 92) (92 ∷ b ∷ rest) (b ∷ rest)) e ∙ ap (λ p. cond p (92 ∷ b ∷ rest) (b ∷ rest)) f

      at_escape : (b == 34) ≡ false → (p : Bool) → (b == 92) ≡ p → Grown outside (quotes_so_far l name) b (cond p (goes_to (map before_left outside) (in_escape (before_left l) name)) (goes_to (map before_left outside) (in_quotes (before_left l) (name ++ b ∷ []))))
      at_escape no_end true e = (outside, escape_so_far l name, refl, λ rest. ap (λ c. outside_text outside (left_text l (34 ∷ escaped_before name (c ∷ rest)))) (byte_is b 92 e))
      at_escape no_end false e = (
        outside,
        quotes_so_far l (name ++ b ∷ []),
        refl,
        λ rest. ap (λ t. outside_text outside (left_text l (34 ∷ t))) (sym (escaped-more name b rest ∙ ap (escaped_before name) (plain no_end e rest))),
      )

      at_end : (p : Bool) → (b == 34) ≡ p → Grown outside (quotes_so_far l name) b (cond p (end_quotes m (map before_left outside) (before_left l) name) (cond (b == 92) (goes_to (map before_left outside) (in_escape (before_left l) name)) (goes_to (map before_left outside) (in_quotes (before_left l) (name ++ b ∷ [])))))
      at_end true e = ended_quotes outside l name b (byte_is b 34 e)
      at_end false e = at_escape e (b == 92) refl

  escape_grown : (outside : List Left) (l : Left) (name : List ℕ) (b : ℕ) → Grown outside (escape_so_far l name) b (escape_step (map before_left outside) (before_left l) name b)
  unfolding escape_step
  escape_grown outside l name b = by_test (needs_escape b) refl
    where
      by_test : (p : Bool) → needs_escape b ≡ p → Grown outside (escape_so_far l name) b (cond p (goes_to (map before_left outside) (in_quotes (before_left l) (name ++ b ∷ []))) fails)
      by_test true e = (
        outside,
        quotes_so_far l (name ++ b ∷ []),
        refl,
        λ rest. ap (λ t. outside_text outside (left_text l (34 ∷ t))) (sym (escaped-more name b rest ∙ ap (λ p. escaped_before name (cond p (92 ∷ b ∷ rest) (b ∷ rest))) e)),
      )
      by_test false e = tt

  spot_grown : (outside : List Left) (spot : Spot) (b : ℕ) → Grown outside spot b (step m (state_to outside spot) b)
  spot_grown outside (one_due l) b = one_grown outside l b
  spot_grown outside (bare_so_far l name ok) b = bare_grown outside l name ok b
  spot_grown outside (quotes_so_far l name) b = quotes_grown outside l name b
  spot_grown outside (escape_so_far l name) b = escape_grown outside l name b
  spot_grown outside (done x) b = behind_grown outside x b

  same_worth : (v w : Option V) → outcome_of v ≡ outcome_of w → v ≡ w
  same_worth None None h = refl
  same_worth None (Some b) h = absurd (let e : mixes ≡ reads b = h in cc)
  same_worth (Some a) None h = absurd (let e : reads a ≡ mixes = h in cc)
  same_worth (Some a) (Some b) h = ap (read_or (Some a)) h
    where
      read_or : Option V → Outcome V → Option V
      read_or d refused = d
      read_or d mixes = d
      read_or d (reads v) = Some v

  not_refused : (w : Option V) → refused ≡ outcome_of w → ⊥
  not_refused None h = cc
  not_refused (Some v) h = cc

  -- a sentence with mixed signs that the text spells, and what it is read as
  abbrev Spelling : List ℕ → Option V → Type 0
  Spelling text w = (x : Mix) × (text ≡ mix_before x []) × ((mix_level m x).worth ≡ w)

  end_spelt : (outside : List Left) (spot : Spot) (w : Option V) → ended m (state_to outside spot) ≡ outcome_of w → Spelling (text_to outside spot []) w
  end_spelt (l ∷ ls) spot w h = absurd (not_refused w h)
  end_spelt [] (one_due l) w h = absurd (not_refused w h)
  end_spelt [] (bare_so_far l name ok) w h =
      let o = mix_term (bare name ok) in
      (mix_with l o, with-text l o [], sym (ap (λ k. k.worth) (level-with l o)) ∙ same_worth (level_with m (before_left l) (mix_one_worth m o)).worth w h)
  end_spelt [] (quotes_so_far l name) w h = absurd (not_refused w h)
  end_spelt [] (escape_so_far l name) w h = absurd (not_refused w h)
  end_spelt [] (done x) w h = (x, refl, same_worth (mix_level m x).worth w h)

  step_spelt : (outside : List Left) (spot : Spot) (b : ℕ) (bs : List ℕ) (w : Option V) (n : Next V) → Grown outside spot b n → ((ls : List Left) (to : Spot) → read_from m (state_to ls to) bs ≡ outcome_of w → Spelling (text_to ls to bs) w) → outcome_then n (λ st. read_from m st bs) ≡ outcome_of w → Spelling (text_to outside spot (b ∷ bs)) w
  step_spelt outside spot b bs w (goes st) g follows h =
      let s = follows g.0 g.1 (ap (λ t. read_from m t bs) g.2 ∙ h) in
      (s.0, g.3 bs ∙ s.1, s.2)
  step_spelt outside spot b bs w fails g follows h = absurd (not_refused w h)

  rest_spelt : (rest : List ℕ) (outside : List Left) (spot : Spot) (w : Option V) → read_from m (state_to outside spot) rest ≡ outcome_of w → Spelling (text_to outside spot rest) w
  unfolding read_from
  rest_spelt [] outside spot w h = end_spelt outside spot w h
  rest_spelt (b ∷ bs) outside spot w h =
      step_spelt outside spot b bs w (step m (state_to outside spot) b) (spot_grown outside spot b) (λ ls to e. rest_spelt bs ls to w e) h

  -- what is read, but for the empty text, is the text of a sentence with mixed signs
  pub read_spelt : (text : List ℕ) (w : Option V) → read_from m first_state text ≡ outcome_of w → (x : Mix) × (text ≡ mix_before x []) × ((mix_level m x).worth ≡ w)
  read_spelt text w h = rest_spelt text [] (one_due at_start) w h
