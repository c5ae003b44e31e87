use Rattle.dw_scan.proofs.LeafTrees.{equal_of}
use Rattle.dw_scan.proofs.building.equal_leaf.Goals as goal

pub returns : goal.returns
returns c =
    let e = c.new.ensures in
    equal_of c.args.tablet.now c.args.ask.now c.new.result c.args.field.now c.args.value.now e.tablet e.field e.value e.types e.auths e.snapshot
