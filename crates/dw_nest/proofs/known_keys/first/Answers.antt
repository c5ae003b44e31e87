use Rattle.std.proofs.Common.{sym}
use Rattle.dw_nest.specs.Bounds.{meets}
use Rattle.dw_nest.proofs.Finds.{find_here, find_later, find_none}
use Rattle.dw_nest.proofs.known_keys.first.Goals as goal

pub loop-key-preserved : goal.loop-key-preserved
loop-key-preserved c = find_later (meets c.args.bound.now) c.args.keys.now c.loop-key.key-index c.key-item.result c.loop-key-test.true c.loop-key.invariant c.key-item.is (sym c.if-is_met_by.ensures)

pub returns-then-is_met_by : goal.returns-then-is_met_by
returns-then-is_met_by c = sym (find_here (meets c.args.bound.now) c.args.keys.now c.loop-key.key-index c.key-item.result c.loop-key-test.true c.loop-key.invariant c.key-item.is (sym c.if-is_met_by.ensures))

pub returns : goal.returns
returns c = sym (find_none (meets c.args.bound.now) c.args.keys.now c.loop-key.key-index c.loop-key-test.false c.loop-key.invariant)
