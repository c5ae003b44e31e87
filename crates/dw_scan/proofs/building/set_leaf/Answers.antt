use Rattle.dw_scan.specs.Parts.{set_part}
use Rattle.dw_scan.proofs.LeafTrees.{set_of}
use Rattle.dw_scan.proofs.building.set_leaf.Goals as goal

pub returns-clause-ok : goal.returns-clause-ok
returns-clause-ok c = set_of c.args.tablet.now c.args.ask.now c.in_ok-set.set (set_part c.args.tablet.now.shard c.args.query.now) c.in_ok-set.ensures.stands
