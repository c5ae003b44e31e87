-- How deep the parentheses of a text stand.
use Rattle.std.specs.Prelude.{ℕ, ◌+◌, ◌-◌, Bool, true, false, List, [], ◌∷◌, ◌==◌, nat_lt, if◌then◌else◌}
use Rattle.dw_vis.specs.declared.depth.Walk.{Walk}
use Rattle.dw_vis.specs.declared.depth.Quotes.{Quotes}
use Rattle.dw_vis.specs.declared.depth.Quotes.TheVariants.{Outside, Inside, Escaped}
use Rattle.dw_vis.specs.declared.depth.Step.{Step}
use Rattle.dw_vis.specs.declared.depth.Step.TheVariants.{On, Deep, Ended}

abbrev pub walk_on : Quotes → ℕ → Step
walk_on quotes levels = On (record { quotes = quotes; levels = levels })

-- outside quotes: a 33rd open parenthesis is too deep, and the walk ends at a closing one where none is open
unfoldable pub next_outside : ℕ → ℕ → Step
next_outside levels b =
    if b == 34 then walk_on Inside levels
    else (if b == 40 then (if nat_lt levels 32 then walk_on Outside (levels + 1) else Deep)
    else (if b == 41 then (if levels == 0 then Ended else walk_on Outside (levels - 1))
    else walk_on Outside levels))

-- inside quotes: a `\` takes the next byte with it
unfoldable pub next_inside : ℕ → ℕ → Step
next_inside levels b =
    if b == 34 then walk_on Outside levels
    else (if b == 92 then walk_on Escaped levels
    else walk_on Inside levels)

-- where a byte leads the walk
abbrev pub next_by : Quotes → ℕ → ℕ → Step
next_by Outside levels b = next_outside levels b
next_by Inside levels b = next_inside levels b
next_by Escaped levels b = walk_on Inside levels

abbrev pub next : Walk → ℕ → Step
next w b = next_by w.quotes w.levels b

-- whether it is too deep there or behind, by what follows
abbrev pub is_deep_then : Step → (Walk → Bool) → Bool
is_deep_then (On w) follows = follows w
is_deep_then Deep follows = true
is_deep_then Ended follows = false

unfoldable pub is_deep_from : Walk → List ℕ → Bool
is_deep_from w [] = false
is_deep_from w (b ∷ bs) = is_deep_then (next w b) (λ v. is_deep_from v bs)

-- more than 32 parentheses are open at some place of a walk over the text, which ends at a closing one where none is open
abbrev pub is_deep : List ℕ → Bool
is_deep text = is_deep_from (record { quotes = Outside; levels = 0 }) text
