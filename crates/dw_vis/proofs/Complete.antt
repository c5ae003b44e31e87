-- What is spelt is read.
use Rattle.std.proofs.Common.{◌≡◌, ℕ, Bool, true, false, cond, ◌==◌, List, [], ◌∷◌, ◌++◌, Option, Some, None, refl, sym, ap, ◌∙◌, append_assoc, append-nil}
use Rattle.std.specs.Prelude.{◌&&◌, ◌||◌}
use Rattle.std.specs.List.{list_all}
use Rattle.dw_vis.specs.declared.reading.Sign.{Sign}
use Rattle.dw_vis.specs.declared.reading.Sign.TheVariants.{All, Any}
use Rattle.dw_vis.specs.Grammar.{is_bare, needs_escape, escaped_before, Spelt, bare, quoted, name_of, spelt_before, sign_byte}
use Rattle.dw_vis.specs.Mixing.{Mix, mix_alone, mix_joined, mix_before, MixOne, mix_term, mix_group, mix_one_before}
use Rattle.dw_vis.specs.Reading.{Meaning, Level, Before, start, joined, Place, at_one, in_bare, in_quotes, in_escape, behind, fails, goes_to, Outcome, refused, mixes, reads, outcome_of, outcome_then, one_step, behind_step, bare_step, end_quotes, quotes_step, escape_step, level_with, term_level, step, read_from, first_state, read}
use Rattle.dw_vis.proofs.Places.{bare_not}
use Rattle.dw_vis.proofs.Levels.{mix_level, mix_one_worth}

-- the text does not go on with a byte of a bare term
abbrev Stops : List ℕ → Type 0
Stops [] = Unit {0}
Stops (b ∷ bs) = is_bare b ≡ false

and_parts : (a b : Bool) → (a && b) ≡ true → (a ≡ true) × (b ≡ true)
and_parts true b h = (refl, h)
and_parts false b h = (h, cc)

or_parts : (a b : Bool) → (a || b) ≡ false → (a ≡ false) × (b ≡ false)
or_parts true b h = (h, cc)
or_parts false b h = (refl, h)

module _ {V : Type 0} (m : Meaning V) where
  abbrev from : List (Before V) → Place V → List ℕ → Outcome V
  from outside place rest = read_from m (record { outside = outside; place = place }) rest

  -- a step that goes on
  went : (outside to : List (Before V)) (place next : Place V) (b : ℕ) (rest : List ℕ) → step m (record { outside = outside; place = place }) b ≡ goes_to to next → from outside place (b ∷ rest) ≡ from to next rest
  unfolding read_from
  went outside to place next b rest e = ap (λ n. outcome_then n (λ st. read_from m st rest)) e

  at_bare : (outside : List (Before V)) (before : Before V) (b : ℕ) → is_bare b ≡ true → one_step outside before b ≡ goes_to outside (in_bare before (b ∷ []))
  unfolding one_step is_bare
  at_bare outside before b h =
      ap (λ p. cond p (goes_to (before ∷ outside) (at_one start)) (cond (b == 34) (goes_to outside (in_quotes before [])) (cond (is_bare b) (goes_to outside (in_bare before (b ∷ []))) fails))) (bare_not b 40 refl h)
      ∙ ap (λ p. cond p (goes_to outside (in_quotes before [])) (cond (is_bare b) (goes_to outside (in_bare before (b ∷ []))) fails)) (bare_not b 34 refl h)
      ∙ ap (λ p. cond p (goes_to outside (in_bare before (b ∷ []))) fails) h

  more_bare : (outside : List (Before V)) (before : Before V) (name : List ℕ) (b : ℕ) → is_bare b ≡ true → bare_step m outside before name b ≡ goes_to outside (in_bare before (name ++ b ∷ []))
  unfolding bare_step
  more_bare outside before name b h = ap (λ p. cond p (goes_to outside (in_bare before (name ++ b ∷ []))) (behind_step m outside (term_level m before name) b)) h

  behind_bare : (outside : List (Before V)) (before : Before V) (name : List ℕ) (b : ℕ) → is_bare b ≡ false → bare_step m outside before name b ≡ behind_step m outside (term_level m before name) b
  unfolding bare_step
  behind_bare outside before name b h = ap (λ p. cond p (goes_to outside (in_bare before (name ++ b ∷ []))) (behind_step m outside (term_level m before name) b)) h

  bare_read : (outside : List (Before V)) (before : Before V) (name bs rest : List ℕ) → list_all is_bare bs ≡ true → from outside (in_bare before name) (bs ++ rest) ≡ from outside (in_bare before (name ++ bs)) rest
  bare_read outside before name [] rest h = ap (λ n. from outside (in_bare before n) rest) (sym (append-nil name))
  bare_read outside before name (b ∷ bs) rest h =
      let p = and_parts (is_bare b) (list_all is_bare bs) h in
      went outside outside (in_bare before name) (in_bare before (name ++ b ∷ [])) b (bs ++ rest) (more_bare outside before name b p.0)
      ∙ bare_read outside before (name ++ b ∷ []) bs rest p.1
      ∙ ap (λ n. from outside (in_bare before n) rest) (append_assoc name (b ∷ []) bs)

  -- a bare term ends where it does not go on
  bare_ends : (outside : List (Before V)) (before : Before V) (name rest : List ℕ) → Stops rest → from outside (in_bare before name) rest ≡ from outside (behind (term_level m before name)) rest
  unfolding read_from
  bare_ends [] before name [] h = refl
  bare_ends (other ∷ outside) before name [] h = refl
  bare_ends outside before name (b ∷ bs) h = ap (λ n. outcome_then n (λ st. read_from m st bs)) (behind_bare outside before name b h)

  in_quotes_on : (outside : List (Before V)) (before : Before V) (name : List ℕ) (b : ℕ) → needs_escape b ≡ false → quotes_step m outside before name b ≡ goes_to outside (in_quotes before (name ++ b ∷ []))
  unfolding quotes_step needs_escape
  in_quotes_on outside before name b h =
      let p = or_parts (b == 34) (b == 92) h in
      ap (λ q. cond q (end_quotes m outside before name) (cond (b == 92) (goes_to outside (in_escape before name)) (goes_to outside (in_quotes before (name ++ b ∷ []))))) p.0
      ∙ ap (λ q. cond q (goes_to outside (in_escape before name)) (goes_to outside (in_quotes before (name ++ b ∷ [])))) p.1

  escape_opens : (outside : List (Before V)) (before : Before V) (name : List ℕ) → quotes_step m outside before name 92 ≡ goes_to outside (in_escape before name)
  unfolding quotes_step
  escape_opens outside before name = refl

  escape_on : (outside : List (Before V)) (before : Before V) (name : List ℕ) (b : ℕ) → needs_escape b ≡ true → escape_step outside before name b ≡ goes_to outside (in_quotes before (name ++ b ∷ []))
  unfolding escape_step
  escape_on outside before name b h = ap (λ q. cond q (goes_to outside (in_quotes before (name ++ b ∷ []))) fails) h

  byte_read : (outside : List (Before V)) (before : Before V) (name : List ℕ) (b : ℕ) (rest : List ℕ) (p : Bool) → needs_escape b ≡ p → from outside (in_quotes before name) (cond p (92 ∷ b ∷ rest) (b ∷ rest)) ≡ from outside (in_quotes before (name ++ b ∷ [])) rest
  byte_read outside before name b rest true h =
      went outside outside (in_quotes before name) (in_escape before name) 92 (b ∷ rest) (escape_opens outside before name)
      ∙ went outside outside (in_escape before name) (in_quotes before (name ++ b ∷ [])) b rest (escape_on outside before name b h)
  byte_read outside before name b rest false h =
      went outside outside (in_quotes before name) (in_quotes before (name ++ b ∷ [])) b rest (in_quotes_on outside before name b h)

  quoted_read : (outside : List (Before V)) (before : Before V) (name bs rest : List ℕ) → from outside (in_quotes before name) (escaped_before bs (34 ∷ rest)) ≡ from outside (in_quotes before (name ++ bs)) (34 ∷ rest)
  quoted_read outside before name [] rest = ap (λ n. from outside (in_quotes before n) (34 ∷ rest)) (sym (append-nil name))
  quoted_read outside before name (b ∷ bs) rest =
      byte_read outside before name b (escaped_before bs (34 ∷ rest)) (needs_escape b) refl
      ∙ quoted_read outside before (name ++ b ∷ []) bs rest
      ∙ ap (λ n. from outside (in_quotes before n) (34 ∷ rest)) (append_assoc name (b ∷ []) bs)

  quote_opens : (outside : List (Before V)) (before : Before V) → one_step outside before 34 ≡ goes_to outside (in_quotes before [])
  unfolding one_step
  quote_opens outside before = refl

  quote_closes : (outside : List (Before V)) (before : Before V) (b : ℕ) (bs : List ℕ) → quotes_step m outside before (b ∷ bs) 34 ≡ goes_to outside (behind (term_level m before (b ∷ bs)))
  unfolding quotes_step
  quote_closes outside before b bs = refl

  spelt_read : (t : Spelt) (outside : List (Before V)) (before : Before V) (rest : List ℕ) → Stops rest → from outside (at_one before) (spelt_before t rest) ≡ from outside (behind (term_level m before (name_of t))) rest
  spelt_read (bare [] ok) outside before rest h = cc
  spelt_read (bare (b ∷ bs) ok) outside before rest h =
      let p = and_parts (is_bare b) (list_all is_bare bs) ok in
      went outside outside (at_one before) (in_bare before (b ∷ [])) b (bs ++ rest) (at_bare outside before b p.0)
      ∙ bare_read outside before (b ∷ []) bs rest p.1
      ∙ bare_ends outside before (b ∷ bs) rest h
  spelt_read (quoted b bs) outside before rest h =
      went outside outside (at_one before) (in_quotes before []) 34 (escaped_before (b ∷ bs) (34 ∷ rest)) (quote_opens outside before)
      ∙ quoted_read outside before [] (b ∷ bs) rest
      ∙ went outside outside (in_quotes before (b ∷ bs)) (behind (term_level m before (b ∷ bs))) 34 rest (quote_closes outside before b bs)

  group_opens : (outside : List (Before V)) (before : Before V) → one_step outside before 40 ≡ goes_to (before ∷ outside) (at_one start)
  unfolding one_step
  group_opens outside before = refl

  sign_read : (outside : List (Before V)) (l : Level V) (s : Sign) → behind_step m outside l (sign_byte s) ≡ goes_to outside (at_one (joined l s))
  sign_read outside l All = refl
  sign_read outside l Any = refl

  closing_stops : (rest : List ℕ) → Stops (41 ∷ rest)
  unfolding is_bare
  closing_stops rest = refl

  sign_stops : (s : Sign) (rest : List ℕ) → Stops (sign_byte s ∷ rest)
  unfolding is_bare
  sign_stops All rest = refl
  sign_stops Any rest = refl

  mutual
    mix_read : (x : Mix) (outside : List (Before V)) (rest : List ℕ) → Stops rest → from outside (at_one start) (mix_before x rest) ≡ from outside (behind (mix_level m x)) rest
    mix_read (mix_alone o) outside rest h = one_read o outside start rest h
    mix_read (mix_joined x s o) outside rest h =
        mix_read x outside (sign_byte s ∷ mix_one_before o rest) (sign_stops s (mix_one_before o rest))
        ∙ went outside outside (behind (mix_level m x)) (at_one (joined (mix_level m x) s)) (sign_byte s) (mix_one_before o rest) (sign_read outside (mix_level m x) s)
        ∙ one_read o outside (joined (mix_level m x) s) rest h

    one_read : (o : MixOne) (outside : List (Before V)) (before : Before V) (rest : List ℕ) → Stops rest → from outside (at_one before) (mix_one_before o rest) ≡ from outside (behind (level_with m before (mix_one_worth m o))) rest
    one_read (mix_term t) outside before rest h = spelt_read t outside before rest h
    one_read (mix_group x) outside before rest h =
        went outside (before ∷ outside) (at_one before) (at_one start) 40 (mix_before x (41 ∷ rest)) (group_opens outside before)
        ∙ mix_read x (before ∷ outside) (41 ∷ rest) (closing_stops rest)
        ∙ went (before ∷ outside) outside (behind (mix_level m x)) (behind (level_with m before (mix_level m x).worth)) 41 rest refl

  -- what a text that is read as something is read as as a whole
  whole_read : (text : List ℕ) (w : Option V) → read_from m first_state text ≡ outcome_of w → read m text ≡ outcome_of w
  unfolding read_from
  whole_read [] None h = absurd (let e : refused ≡ mixes = h in cc)
  whole_read [] (Some v) h = absurd (let e : refused ≡ reads v = h in cc)
  whole_read (b ∷ bs) w h = h

  mix_ended : (x : Mix) → from [] (behind (mix_level m x)) [] ≡ outcome_of (mix_level m x).worth
  unfolding read_from
  mix_ended x = refl

  -- each sentence with mixed signs is read by its structure
  pub sentence_read : (text : List ℕ) (x : Mix) → text ≡ mix_before x [] → read m text ≡ outcome_of (mix_level m x).worth
  sentence_read text x e =
      whole_read text (mix_level m x).worth (ap (read_from m first_state) e ∙ mix_read x [] [] tt ∙ mix_ended x)
