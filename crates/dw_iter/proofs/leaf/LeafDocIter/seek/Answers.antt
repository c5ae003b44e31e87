use Rattle.dw_iter.specs.declared.leaf.Leaf.TheVariants.{Equal}
use Rattle.dw_iter.proofs.Parts.{stands_moved}
use Rattle.dw_iter.proofs.leaf.LeafDocIter.seek.Goals as goal

pub returns-in-Equal-clause-same : goal.returns-in-Equal-clause-same
returns-in-Equal-clause-same c = stands_moved _ c.args.self.now (Equal c.in-Equal.leaf) c.in-Equal.is c.seek.ensures.same
