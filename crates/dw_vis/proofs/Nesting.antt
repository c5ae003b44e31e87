-- How deep the walk over a sentence of the grammar goes.
use Rattle.std.proofs.Common.{◌≡◌, ℕ, ◌+◌, ◌-◌, ◌<◌, ◌≤◌, Bool, true, false, cond, List, [], ◌∷◌, ◌++◌, nat_lt, nat_eq, max, refl, sym, ap, ◌∙◌, zero-add, arith, ◌⊎◌, inl, inr}
use Rattle.std.specs.Prelude.{◌||◌}
use Rattle.std.specs.List.{list_all}
use Rattle.std.proofs.lemmas.Bool.{lt-ltb, le-ltb, and_parts, cases_lt}
use Rattle.dw_vis.proofs.Places.{bare_not}
use Rattle.std.proofs.lemmas.Bool.Decides.{nat_tests}
use Rattle.dw_vis.specs.declared.depth.Walk.{Walk}
use Rattle.dw_vis.specs.declared.depth.Quotes.TheVariants.{Outside, Inside}
use Rattle.dw_vis.specs.declared.reading.Sign.{Sign}
use Rattle.dw_vis.specs.declared.reading.Sign.TheVariants.{All, Any}
use Rattle.dw_vis.specs.Depth.{next_outside, next_inside, is_deep_from}
use Rattle.dw_vis.specs.Grammar.{is_bare, needs_escape, escaped_before, Spelt, bare, quoted, spelt_before, sign_byte}
use Rattle.dw_vis.specs.Mixing.{Mix, mix_alone, mix_joined, MixOne, mix_term, mix_group, mix_nothing, mix_an, mix_before, mix_one_before}
use Rattle.dw_vis.specs.Laws.{mix_nesting, one_nesting, DepthIsNesting}

or_parts : (a b : Bool) → (a || b) ≡ false → (a ≡ false) × (b ≡ false)
or_parts true b h = absurd (cc)
or_parts false b h = (refl, h)

no_quote : is_bare 34 ≡ false
unfolding is_bare
no_quote = refl

no_opening : is_bare 40 ≡ false
unfolding is_bare
no_opening = refl

no_closing : is_bare 41 ≡ false
unfolding is_bare
no_closing = refl

outside : ℕ → Walk
outside n = record { quotes = Outside; levels = n }

inside : ℕ → Walk
inside n = record { quotes = Inside; levels = n }

-- a byte that is no quote and no parenthesis changes nothing outside quotes
past_plain : (n b : ℕ) (bs : List ℕ) → nat_eq b 34 ≡ false → nat_eq b 40 ≡ false → nat_eq b 41 ≡ false → is_deep_from (outside n) (b ∷ bs) ≡ is_deep_from (outside n) bs
unfolding is_deep_from next_outside outside
past_plain n b bs q o c = rw (q, o, c) refl

-- nor does any byte between quotes but a quote and a backslash
past_other : (n b : ℕ) (bs : List ℕ) → needs_escape b ≡ false → is_deep_from (inside n) (b ∷ bs) ≡ is_deep_from (inside n) bs
unfolding is_deep_from next_inside inside needs_escape
past_other n b bs e =
    let parts = or_parts (nat_eq b 34) (nat_eq b 92) e in
    rw (parts.0, parts.1) refl

into_quotes : (n : ℕ) (bs : List ℕ) → is_deep_from (outside n) (34 ∷ bs) ≡ is_deep_from (inside n) bs
unfolding is_deep_from next_outside inside outside
into_quotes n bs = refl

open_at : (n : ℕ) (bs : List ℕ) → n < 32 → is_deep_from (outside n) (40 ∷ bs) ≡ is_deep_from (outside (n + 1)) bs
unfolding is_deep_from next_outside outside
open_at n bs h = rw (lt-ltb n 32 h) refl

deep_at : (n : ℕ) (bs : List ℕ) → 32 ≤ n → is_deep_from (outside n) (40 ∷ bs) ≡ true
unfolding is_deep_from next_outside outside
deep_at n bs h = rw (le-ltb n 32 h) refl

close_at : (n : ℕ) (bs : List ℕ) → is_deep_from (outside (n + 1)) (41 ∷ bs) ≡ is_deep_from (outside n) bs
unfolding is_deep_from next_outside outside
close_at n bs =
    let opened : nat_eq (n + 1) 0 ≡ false = grind (arith, nat_tests) in
    let less : n + 1 - 1 ≡ n = omega arith in
    rw (opened, less) refl

past_bare : (n : ℕ) (name rest : List ℕ) → list_all is_bare name ≡ true → is_deep_from (outside n) (name ++ rest) ≡ is_deep_from (outside n) rest
past_bare n [] rest h = refl
past_bare n (b ∷ bs) rest h =
    let parts = and_parts (is_bare b) (list_all is_bare bs) h in
    past_plain n b (bs ++ rest) (bare_not b 34 no_quote parts.0) (bare_not b 40 no_opening parts.0) (bare_not b 41 no_closing parts.0)
    ∙ past_bare n bs rest parts.1

past_quotes : (n : ℕ) (bs rest : List ℕ) → is_deep_from (inside n) (escaped_before bs (34 ∷ rest)) ≡ is_deep_from (outside n) rest
unfolding is_deep_from next_inside inside outside
past_quotes n [] rest = refl
past_quotes n (b ∷ bs) rest = by_escape (needs_escape b) refl (past_quotes n bs rest)
  where
    by_escape : (e : Bool) → needs_escape b ≡ e → is_deep_from (inside n) (escaped_before bs (34 ∷ rest)) ≡ is_deep_from (outside n) rest
        → is_deep_from (inside n) (cond e (92 ∷ b ∷ escaped_before bs (34 ∷ rest)) (b ∷ escaped_before bs (34 ∷ rest))) ≡ is_deep_from (outside n) rest
    by_escape true e ih = ih
    by_escape false e ih = past_other n b (escaped_before bs (34 ∷ rest)) e ∙ ih

past_spelt : (t : Spelt) (n : ℕ) (rest : List ℕ) → is_deep_from (outside n) (spelt_before t rest) ≡ is_deep_from (outside n) rest
past_spelt (bare [] ok) n rest = refl
past_spelt (bare (b ∷ bs) ok) n rest = past_bare n (b ∷ bs) rest ok
past_spelt (quoted b bs) n rest = into_quotes n (escaped_before (b ∷ bs) (34 ∷ rest)) ∙ past_quotes n (b ∷ bs) rest

past_sign : (s : Sign) (n : ℕ) (rest : List ℕ) → is_deep_from (outside n) (sign_byte s ∷ rest) ≡ is_deep_from (outside n) rest
past_sign All n rest = past_plain n 38 rest refl refl refl
past_sign Any n rest = past_plain n 124 rest refl refl refl

or_grouped : (a b c : Bool) → (a || (b || c)) ≡ ((a || b) || c)
or_grouped true b c = refl
or_grouped false b c = refl

or_false : (a : Bool) → (a || false) ≡ a
or_false true = refl
or_false false = refl

-- of two nestings the deeper one decides
deeper : (n a b : ℕ) → (nat_lt 32 (n + a) || nat_lt 32 (n + b)) ≡ nat_lt 32 (n + max a b)
deeper n a b = grind (arith, nat_tests)

mutual
  past_mix : (m : Mix) (n : ℕ) (rest : List ℕ) → n ≤ 32 → is_deep_from (outside n) (mix_before m rest) ≡ (nat_lt 32 (n + mix_nesting m) || is_deep_from (outside n) rest)
  past_mix (mix_alone o) n rest h = past_one o n rest h
  past_mix (mix_joined m s o) n rest h =
      past_mix m n (sign_byte s ∷ mix_one_before o rest) h
      ∙ ap (λ b. nat_lt 32 (n + mix_nesting m) || b) (past_sign s n (mix_one_before o rest) ∙ past_one o n rest h)
      ∙ or_grouped (nat_lt 32 (n + mix_nesting m)) (nat_lt 32 (n + one_nesting o)) (is_deep_from (outside n) rest)
      ∙ ap (λ b. b || is_deep_from (outside n) rest) (deeper n (mix_nesting m) (one_nesting o))

  past_one : (o : MixOne) (n : ℕ) (rest : List ℕ) → n ≤ 32 → is_deep_from (outside n) (mix_one_before o rest) ≡ (nat_lt 32 (n + one_nesting o) || is_deep_from (outside n) rest)
  past_one (mix_term t) n rest h =
      past_spelt t n rest ∙ ap (λ b. b || is_deep_from (outside n) rest) (sym (le-ltb 32 (n + 0) (omega arith)))
  past_one (mix_group m) n rest h = by_room (cases_lt n 32) (λ room. past_mix m (n + 1) (41 ∷ rest) (omega (arith, room)))
    where
      by_room : (n < 32) ⊎ (32 ≤ n) → (n < 32 → is_deep_from (outside (n + 1)) (mix_before m (41 ∷ rest)) ≡ (nat_lt 32 (n + 1 + mix_nesting m) || is_deep_from (outside (n + 1)) (41 ∷ rest)))
          → is_deep_from (outside n) (40 ∷ mix_before m (41 ∷ rest)) ≡ (nat_lt 32 (n + (mix_nesting m + 1)) || is_deep_from (outside n) rest)
      by_room (inl room) ih =
          let same : n + 1 + mix_nesting m ≡ n + (mix_nesting m + 1) = omega arith in
          open_at n (mix_before m (41 ∷ rest)) room ∙ ih room
          ∙ ap (λ b. nat_lt 32 (n + 1 + mix_nesting m) || b) (close_at n rest)
          ∙ ap (λ k. nat_lt 32 k || is_deep_from (outside n) rest) same
      by_room (inr full) ih =
          deep_at n (mix_before m (41 ∷ rest)) full
          ∙ ap (λ b. b || is_deep_from (outside n) rest) (sym (lt-ltb 32 (n + (mix_nesting m + 1)) (omega (arith, full))))

pub depth_is_nesting : DepthIsNesting
unfolding is_deep_from outside
depth_is_nesting mix_nothing = refl
depth_is_nesting (mix_an m) = past_mix m 0 [] (omega arith) ∙ or_false (nat_lt 32 (0 + mix_nesting m)) ∙ ap (nat_lt 32) (zero-add (mix_nesting m))
