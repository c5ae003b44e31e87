use Rattle.dw_base.proofs.Members.{found_member}
use Rattle.dw_base.proofs.sorted.Sorted.has.Goals as goal

pub returns : goal.returns
returns g c =
    rw (c.is_ok.ensures.value, ← c.self.view_is, ← c.deref.ensures.value)
    (found_member g.met.T.Ord.total g.met.T.Exact.exact c.deref.result.now c.args.item.now c.binary_search.result (rw c.deref.ensures.value c.self.invariant) c.binary_search.ensures.bound c.binary_search.ensures.position)
