use Rattle.std.proofs.Common.{◌≡◌, ◌≢◌, ◌==◌, ◌+◌, ◌++◌, ◌∷◌, [], true, false, cond, sym, ap, ◌∙◌, arith, ℕ}
use Rattle.std.proofs.lemmas.Bool.Decides.{nat_tests}
use Rattle.dw_plan.specs.Spans.{past}
use Rattle.dw_plan.proofs.Past.{past_push}
use Rattle.dw_plan.proofs.spans.past.Goals as goal

below : (b : ℕ) → b ≢ 255 → (b == 255) ≡ false
below b h = grind (arith, nat_tests)

at_last : (b : ℕ) → b ≡ 255 → (b == 255) ≡ true
at_last b h = grind (arith, nat_tests)

pub returns-then-last : goal.returns-then-last
returns-then-last c =
    let b = c.in-Some.last in
    let xs = c.pop.new.self.items in
    c.in_ok-push.ensures.items ∙ sym (ap (λ t. cond t (past xs) (xs ++ (b + 1) ∷ [])) (below b c.if-last.true))
    ∙ sym (past_push xs b) ∙ ap past (sym c.in-Some.ensures.items) ∙ c.loop-last.invariant

pub loop-last-preserved : goal.loop-last-preserved
loop-last-preserved c =
    let b = c.in-Some.last in
    let xs = c.pop.new.self.items in
    sym (ap (λ t. cond t (past xs) (xs ++ (b + 1) ∷ [])) (at_last b c.if-last.false))
    ∙ sym (past_push xs b) ∙ ap past (sym c.in-Some.ensures.items) ∙ c.loop-last.invariant
