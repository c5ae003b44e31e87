use Rattle.std.proofs.Common.{ap}
use Rattle.dw_tablet.specs.Walks.{place_at, end_at, gap_shown}
use Rattle.dw_iter.proofs.Lacking.{some_lacked}
use Rattle.dw_iter.proofs.equal.EqualLeaf.gap_is_lacked.Goals as goal

pub returns : goal.returns
returns c =
    let s = c.args.self.now in
    some_lacked s.tablet.now s.field.now s.value.now s.bound (place_at s.cursor) (end_at s.cursor) s.cursor.tablet.now.spans (gap_shown s.cursor) (ap (λ t. t.spans) s.tablet_is) s.place s.end c.gap_is_first.ensures
