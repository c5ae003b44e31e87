use Rattle.dw_wire.proofs.QueryLaws.{queries_spelt}
use Rattle.dw_wire.proofs.laws.queries_are_spelt.Goals as goal

pub returns : goal.returns
returns c = queries_spelt
