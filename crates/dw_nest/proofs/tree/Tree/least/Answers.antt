use Rattle.dw_nest.specs.Shapes.{shape}
use Rattle.dw_nest.proofs.Alike.{leaves_made}
use Rattle.dw_nest.proofs.Nodes.{met_of, candidate_of, least_of_found, none_of}
use Rattle.dw_nest.proofs.tree.Tree.least.Goals as goal

pub returns-clause-bound : goal.returns-clause-bound
returns-clause-bound g c = met_of g.L.DocIter.stands g.L.DocIter.keys (shape c.args.self.now) c.args.bound.now c.least_at.result c.least_at.ensures.found

pub returns-clause-candidate : goal.returns-clause-candidate
returns-clause-candidate g c = candidate_of g.L.DocIter.stands g.L.DocIter.keys (shape c.args.self.now) c.args.bound.now c.least_at.result c.least_at.ensures.found

pub returns-clause-least : goal.returns-clause-least
returns-clause-least g c = least_of_found g.L.DocIter.stands g.L.DocIter.keys (shape c.args.self.now) c.args.bound.now c.least_at.result c.least_at.ensures.found

pub returns-clause-end : goal.returns-clause-end
returns-clause-end g c = none_of g.L.DocIter.stands g.L.DocIter.keys (shape c.args.self.now) c.args.bound.now c.least_at.result c.least_at.ensures.found

pub returns-clause-made : goal.returns-clause-made
returns-clause-made g c = leaves_made g.L.DocIter.stands g.L.DocIter.keys g.L.DocIter.made (shape c.args.self.now) (shape c.least_at.new.self) c.least_at.ensures.stays
