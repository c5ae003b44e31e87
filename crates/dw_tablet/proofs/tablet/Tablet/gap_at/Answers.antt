use Rattle.std.proofs.Common.{sym, ap, ◌∙◌, rules}
use Rattle.dw_tablet.specs.Places.{gap, below}
use Rattle.dw_tablet.proofs.Gap.{gap_found, covers_to_end}
use Rattle.dw_tablet.proofs.tablet.Tablet.gap_at.Goals as goal

pub returns-then-is_below-clause-some : goal.returns-then-is_below-clause-some
returns-then-is_below-clause-some c =
    gap_found c.args.self.now.spans c.self.inside.spans.items c.args.place.now c.first_gap-first.result.now
    (sym (ap (λ t. t.spans) c.self.view_is)) c.self.invariant.2.apart (c.first_gap-first.ensures ∙ ap (λ s. gap s c.args.place.now) c.as_slice.ensures.value)

pub returns-clause-none : goal.returns-clause-none
returns-clause-none c =
    covers_to_end c.args.self.now.spans c.self.inside.spans.items c.args.place.now c.first_gap-first.result.now _
    (sym (ap (λ t. t.spans) c.self.view_is)) c.self.invariant.2.apart (c.first_gap-first.ensures ∙ ap (λ s. gap s c.args.place.now) c.as_slice.ensures.value)
    (search rules)
