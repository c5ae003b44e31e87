-- How deep the parentheses and negations of a text stand.
use Rattle.std.specs.Prelude.{ℕ, ◌+◌, Bool, true, false, List, [], ◌∷◌, nat_lt, if◌then◌else◌}
use Rattle.dw_jexl.specs.declared.token.Token.{Token}
use Rattle.dw_jexl.specs.declared.token.Token.TheVariants.{Open, Close, Negate}

-- what a walk over the tokens knows: the levels outside each open `(`, the last first, the levels that are open, and the
-- tokens of the present run of `!`
pub record Place : Type 0 where
  pub outside : List ℕ
  pub open_levels : ℕ
  pub run : ℕ

-- where a token leads the walk
pub data Next : Type 0 where
  Goes : Place → Next
  -- a `)` where none is open
  Ends : Next

-- another token ends the run
abbrev pub run_ended : Place → Place
run_ended w = record { outside = w.outside; open_levels = w.open_levels; run = 0 }

-- the `)` closes the levels that its `(` opened
abbrev pub closed : List ℕ → Next
closed [] = Ends
closed (before ∷ outside) = Goes (record { outside = outside; open_levels = before; run = 0 })

-- `!` prolongs the run, and `(` opens one level more than the run straight before it has tokens
unfoldable pub next : Place → Token → Next
next w Negate = Goes (record { outside = w.outside; open_levels = w.open_levels; run = w.run + 1 })
next w Open = Goes (record { outside = w.open_levels ∷ w.outside; open_levels = w.open_levels + w.run + 1; run = 0 })
next w Close = closed w.outside
next w _ = Goes (run_ended w)

-- whether more than 64 levels are open at a place or one behind it, by what follows there
abbrev pub is_deep_then : Next → (Place → Bool) → Bool
is_deep_then Ends follows = false
is_deep_then (Goes w) follows = if nat_lt 64 (w.open_levels + w.run) then true else follows w

unfoldable pub is_deep_from : Place → List Token → Bool
is_deep_from w [] = false
is_deep_from w (t ∷ ts) = is_deep_then (next w t) (λ v. is_deep_from v ts)

-- more than 64 levels are open at some place of a walk over the tokens, which ends at a `)` where none is open
abbrev pub is_deep : List Token → Bool
is_deep ts = is_deep_from (record { outside = []; open_levels = 0; run = 0 }) ts
