use Rattle.std.proofs.Common.{◌≡◌, length}
use Rattle.dw_plan.specs.Spans.{past}
use Rattle.dw_plan.proofs.spans.past.Given as goal

abbrev pub invariant-loop-last : goal.invariant-loop-last
invariant-loop-last l = past l.end.items ≡ past l.fn.bytes.items

abbrev pub decreases-loop-last : goal.decreases-loop-last
decreases-loop-last l = length l.end.items
