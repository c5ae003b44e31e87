-- What a canonical text is read as.
use Rattle.std.proofs.Common.{ap}
use Rattle.dw_jexl.proofs.Again.{read_again}
use Rattle.dw_jexl.proofs.Verdict.{spells_one}
use Rattle.dw_eval.specs.Bound.{bound}
use Rattle.dw_eval.specs.Laws.{ReadingsAreBoundAlike}

pub bound_alike : ReadingsAreBoundAlike
bound_alike dict source text q r s c k again = ap (bound dict) (spells_one text r q again (read_again source q s text c k))
