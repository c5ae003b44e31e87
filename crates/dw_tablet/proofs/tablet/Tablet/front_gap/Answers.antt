use Rattle.std.proofs.Common.{◌∙◌, rules}
use Rattle.dw_tablet.proofs.Gap.{gap_found}
use Rattle.dw_tablet.proofs.tablet.Tablet.front_gap.Goals as goal

pub returns-then-starts_with-clause-first : goal.returns-then-starts_with-clause-first
returns-then-starts_with-clause-first c =
    let t = c.args.self.now in
    gap_found t.spans t.spans c.args.front.now c.first_gap-gap.result.now (λ _. t.spans) c.spans.ensures.apart (search rules)
