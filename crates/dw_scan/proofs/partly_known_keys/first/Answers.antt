use Rattle.std.proofs.Common.{sym}
use Rattle.dw_nest.specs.Leaves.{spot_meets}
use Rattle.dw_nest.proofs.Finds.{find_here, find_later, find_none}
use Rattle.dw_scan.proofs.partly_known_keys.first.Goals as goal

pub loop-spot-preserved : goal.loop-spot-preserved
loop-spot-preserved c = find_later (spot_meets c.args.bound.now) c.args.spots.now c.loop-spot.spot-index c.spot-item.result c.loop-spot-test.true c.loop-spot.invariant c.spot-item.is (sym c.if-is_met_by.ensures)

pub returns-then-is_met_by : goal.returns-then-is_met_by
returns-then-is_met_by c = sym (find_here (spot_meets c.args.bound.now) c.args.spots.now c.loop-spot.spot-index c.spot-item.result c.loop-spot-test.true c.loop-spot.invariant c.spot-item.is (sym c.if-is_met_by.ensures))

pub returns : goal.returns
returns c = sym (find_none (spot_meets c.args.bound.now) c.args.spots.now c.loop-spot.spot-index c.loop-spot-test.false c.loop-spot.invariant)
