use Rattle.dw_base.proofs.Search.{ascending_none}
use Rattle.dw_base.proofs.sorted.Sorted.new.Goals as goal

pub invariant_of-result : goal.invariant_of-result
invariant_of-result g c = rw c.new.ensures.items (ascending_none g.T.Ord.cmp)
