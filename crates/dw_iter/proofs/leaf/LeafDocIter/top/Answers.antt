use Rattle.dw_iter.specs.declared.leaf.Leaf.TheVariants.{Equal}
use Rattle.dw_iter.proofs.Parts.{key_moved}
use Rattle.dw_iter.proofs.leaf.LeafDocIter.top.Goals as goal

pub returns-in-Equal-clause-key : goal.returns-in-Equal-clause-key
returns-in-Equal-clause-key c = key_moved c.top.result c.args.self.now (Equal c.in-Equal.leaf) c.in-Equal.is c.top.ensures.key
