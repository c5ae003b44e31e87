use Rattle.std.proofs.Common.{◌≡◌, ◌++◌}
use Rattle.dw_page.proofs.slot.append.Given as goal

abbrev pub invariant-loop-event : goal.invariant-loop-event
invariant-loop-event l = l.found ≡ l.fn.found ++ l.yielded
