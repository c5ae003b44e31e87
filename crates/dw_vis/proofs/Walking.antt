-- The walk over a text, one byte after another.
use Rattle.std.proofs.Common.{◌≡◌, ℕ, ◌+◌, ◌<◌, ◌≤◌, false, List, length, drop, get_or, sym, ap, ◌∙◌}
use Rattle.std.proofs.lemmas.List.{drop_more, drop_all}
use Rattle.dw_vis.specs.declared.depth.Walk.{Walk}
use Rattle.dw_vis.specs.declared.depth.Step.{Step}
use Rattle.dw_vis.specs.Depth.{next, is_deep_then, is_deep_from}

-- where a byte leads, all that follows is read from there
pub walk_at : (w : Walk) (text : List ℕ) (i b : ℕ) (step : Step) → i < length text → b ≡ get_or text i 0 → step ≡ next w b → is_deep_from w (drop i text) ≡ is_deep_then step (λ v. is_deep_from v (drop (i + 1) text))
unfolding is_deep_from
walk_at w text i b step l e s =
    ap (is_deep_from w) (drop_more text i 0 l)
    ∙ ap (λ c. is_deep_then (next w c) (λ v. is_deep_from v (drop (i + 1) text))) (sym e)
    ∙ ap (λ t. is_deep_then t (λ v. is_deep_from v (drop (i + 1) text))) (sym s)

pub walk_at_end : (w : Walk) (text : List ℕ) (i : ℕ) → length text ≤ i → is_deep_from w (drop i text) ≡ false
unfolding is_deep_from
walk_at_end w text i h = ap (is_deep_from w) (drop_all i text h)
