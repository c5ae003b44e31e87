use Rattle.dw_nest.specs.Shapes.{shape}
use Rattle.dw_nest.proofs.Alike.{leaves_made}
use Rattle.dw_nest.proofs.tree.Tree.truth_at.Goals as goal

pub returns-clause-made : goal.returns-clause-made
returns-clause-made g c = leaves_made g.L.DocIter.stands g.L.DocIter.keys g.L.DocIter.made (shape c.args.self.now) (shape c.value_at.new.self) c.value_at.ensures.stays
