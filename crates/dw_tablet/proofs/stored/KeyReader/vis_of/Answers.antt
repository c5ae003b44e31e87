use Rattle.std.proofs.Common.{rules}
use Rattle.dw_tablet.proofs.Reading.{a_vis}
use Rattle.dw_tablet.proofs.stored.KeyReader.vis_of.Goals as goal

pub returns-then-eq : goal.returns-then-eq
returns-then-eq c = a_vis c.args.text.now c.in_ok-copy.field-0 c.visibilities_are_tested.ensures (search rules) (search rules)
