use Rattle.dw_tablet.proofs.Gap.{same_between}
use Rattle.dw_tablet.proofs.laws.same_between.Goals as goal

pub returns : goal.returns
returns c = λ t content a b agrees all. same_between a b t.spans t.keys content agrees.same all
