use Rattle.std.proofs.Common.{◌≡◌, ◌++◌, drop}
use Rattle.dw_tablet.specs.Places.{with_span, with_open}
use Rattle.dw_tablet.proofs.span.with_span.Given as goal

abbrev pub invariant-loop-old : goal.invariant-loop-old
invariant-loop-old l = l.all.items ++ with_open l.left (drop l.old-index l.spans) ≡ with_span l.fn.spans l.fn.span
