use Rattle.dw_nest.specs.Shapes.{shape}
use Rattle.dw_nest.proofs.Alike.{stays_itself}
use Rattle.dw_nest.proofs.search.other_passes.Goals as goal

pub returns-then-enumerable_at-clause-stays : goal.returns-then-enumerable_at-clause-stays
returns-then-enumerable_at-clause-stays g c = stays_itself g.L.DocIter.stands g.L.DocIter.keys g.L.DocIter.made (shape c.args.child.now)
