use Rattle.std.proofs.Common.{◌≡◌}
use Rattle.dw_base.specs.Ascending.{with_item}
use Rattle.dw_base.proofs.Search.{ascending_with}
use Rattle.dw_base.proofs.Members.{members_with}
use Rattle.dw_base.proofs.sorted.Sorted.put.Goals as goal

pub invariant_of-self : goal.invariant_of-self
invariant_of-self g c =
    rw (c.in_ok-insert.ensures.items, ← c.deref.ensures.value, ← c.in-Some.ensures.placed)
    (ascending_with g.met.T.Ord.total c.deref.result.now c.args.item (rw c.deref.ensures.value c.self.invariant))

pub returns-in_ok-insert-clause-members : goal.returns-in_ok-insert-clause-members
returns-in_ok-insert-clause-members g c x =
    let same = c.deref.ensures.value in
    rw (c.in_ok-insert.ensures.items, ← same, ← c.in-Some.ensures.placed, same, c.self.view_is)
    (members_with g.met.T.Ord.total g.met.T.Exact.exact c.args.self.now c.args.item x)

pub returns-in_default-clause-members : goal.returns-in_default-clause-members
returns-in_default-clause-members g c x =
    let still : with_item g.T.Ord.cmp c.args.self.now c.args.item ≡ c.args.self.now =
    rw (← c.self.view_is, ← c.deref.ensures.value) (c.in_default.ensures) in
    rw still at (members_with g.met.T.Ord.total g.met.T.Exact.exact c.args.self.now c.args.item x)
