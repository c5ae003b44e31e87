use Rattle.std.proofs.Common.{◌≡◌, ◌∙◌, None, rules}
use Rattle.dw_tablet.specs.Fronts.{with_front, values_front, front_gap}
use Rattle.dw_tablet.proofs.Begun.{begun_same, none_out}
use Rattle.dw_tablet.proofs.tablet.Tablet.field_values.Goals as goal

pub returns-clause-lent : goal.returns-clause-lent
returns-clause-lent c =
    let t = c.args.self.now in
    let front = values_front t.shard c.args.field.now c.args.text.now in
    let same : c.keys_with_front.result.now ≡ with_front front t.keys = search rules in
    let whole : front_gap t front ≡ None = search rules in
    λ content agrees. same ∙ begun_same t front c.spans-spans.ensures.apart (none_out t front whole) content agrees
