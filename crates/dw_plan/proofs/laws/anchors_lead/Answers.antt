use Rattle.dw_plan.proofs.Leading.{anchors_lead}
use Rattle.dw_plan.proofs.laws.anchors_lead.Goals as goal

pub returns : goal.returns
returns c = anchors_lead
