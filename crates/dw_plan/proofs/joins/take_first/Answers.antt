use Rattle.std.proofs.Common.{sym, ◌∙◌}
use Rattle.dw_plan.proofs.Joining.{left_first}
use Rattle.dw_plan.proofs.joins.take_first.Goals as goal

pub returns-in-Less-clause-taken : goal.returns-in-Less-clause-taken
returns-in-Less-clause-taken c =
    left_first c.args.left.now.items c.args.right.now.items c.pop_front.new.self.items c.pop_front.result (sym c.first_order.ensures ∙ c.in-Less.is) (c.pop_front.ensures.items, c.pop_front.ensures.rest)
